use Rattle.prepack_core.proofs.report.tell.Goals as goal

pub returns-in-Unsupported : goal.returns-in-Unsupported
returns-in-Unsupported g c = rw (c.in-Unsupported.is, ← c.feature_name-name.ensures) c.tell_place.ensures

pub returns-in-TooLarge : goal.returns-in-TooLarge
returns-in-TooLarge g c = rw c.in-TooLarge.is c.write_text-in-TooLarge.ensures.appended

pub returns-in-ReadFault : goal.returns-in-ReadFault
returns-in-ReadFault g c = rw c.in-ReadFault.is c.write_text-in-ReadFault.ensures.appended

pub returns-in-WriteFault : goal.returns-in-WriteFault
returns-in-WriteFault g c = rw c.in-WriteFault.is c.write_text-in-WriteFault.ensures.appended

pub returns-in-NoMemory : goal.returns-in-NoMemory
returns-in-NoMemory g c = rw c.in-NoMemory.is c.write_text-in-NoMemory.ensures.appended
