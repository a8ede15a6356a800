-- The laws of the grammar at the names that the reader uses.
use Rattle.std.proofs.Common.{false, refl}
use Rattle.js_grammar.specs.Laws.{Unrolls}
use Rattle.js_grammar.specs.Functions as F
use Rattle.js_grammar.specs.Blocks as B
use Rattle.js_grammar.specs.Statements as S
use Rattle.js_grammar.specs.Marks
use Rattle.js_grammar.specs.Reading.{grammar}
use Rattle.js_grammar.proofs.Alike.{Setting, Alike, looks}
use Rattle.js_grammar.proofs.AlikeParts.{ends_too, sees_too}
use Rattle.js_grammar.proofs.Unrolled as U
use Rattle.token_reader.specs.declared.statements.Closer.{Closer}
use Rattle.token_reader.specs.declared.statements.Closer.TheVariants as closer
use Rattle.token_reader.specs.Reader.{closed_by}

closed_alike : (c : Closer) (w : Setting) → Alike w false 0 (closed_by c) (closed_by c)
closed_alike closer.End w = ends_too w
closed_alike closer.Brace w = sees_too w Marks.right_brace
closed_alike closer.Case w = looks w (λ r. S.starts_with_case_end grammar r.tokens) (λ r. refl)

pub elements_unroll : (c : Closer) → Unrolls (F.more_elements grammar (closed_by c))
elements_unroll c = U.elements_unroll (closed_alike c)

pub statements_unroll : (c : Closer) → Unrolls (B.more_statements grammar (closed_by c))
statements_unroll c = U.statements_unroll (closed_alike c)
