-- The law: printed tokens read back.
use Rattle.reading_back.specs.ReadsBack.{ReadsBack}
use Rattle.reading_back.proofs.Scripts.{scripts_read_back}
use Rattle.reading_back.proofs.StatementForms.{elements_read}

pub reads_back : ReadsBack
reads_back = scripts_read_back elements_read
