-- The number of a status, and the line that says why a run ended otherwise than well.
use Rattle.std.specs.Prelude.{ℕ, List, ◌++◌, codes, decimal}
use Rattle.js_value.specs.declared.place.Place.{Place}
use Rattle.js_value.specs.declared.why.Why.{Why}
use Rattle.js_value.specs.declared.why.Why.TheVariants as why
use Rattle.js_tree.specs.declared.refusal.Feature.{Feature}
use Rattle.js_tree.specs.declared.refusal.Feature.TheVariants as feature
use Rattle.prepack_core.specs.declared.report.Status.{Status}
use Rattle.prepack_core.specs.declared.report.Status.TheVariants as status
use Rattle.prepack_core.specs.declared.report.Report.{Report}
use Rattle.prepack_core.specs.declared.report.Report.TheVariants as report

abbrev pub number_of : Status → ℕ
number_of status.Done = 0
number_of status.Differs = 1
number_of status.Usage = 2
number_of status.Syntax = 3
number_of status.Unsupported = 4
number_of status.Stuck = 5
number_of status.StepsSpent = 6
number_of status.TooLarge = 7
number_of status.ReadFault = 8
number_of status.WriteFault = 9
number_of status.HostFault = 10
number_of status.NoMemory = 11
number_of status.Nested = 12

abbrev pub status_of : Report → Status
status_of report.Usage = status.Usage
status_of (report.Syntax at) = status.Syntax
status_of (report.Unsupported at feature) = status.Unsupported
status_of (report.Nested at) = status.Nested
status_of (report.Stuck at why) = status.Stuck
status_of report.TooLarge = status.TooLarge
status_of report.ReadFault = status.ReadFault
status_of report.WriteFault = status.WriteFault
status_of report.NoMemory = status.NoMemory

abbrev pub feature_name : Feature → List ℕ
feature_name feature.With = codes "with"
feature_name feature.Debugger = codes "debugger"
feature_name feature.Label = codes "label"
feature_name feature.RegularExpression = codes "regular expression"
feature_name feature.Eval = codes "eval"
feature_name feature.Arguments = codes "arguments"
feature_name feature.OctalLiteral = codes "octal literal"
feature_name feature.OctalEscape = codes "octal escape"
feature_name feature.NumberLiteral = codes "number"
feature_name feature.IdentifierEscape = codes "identifier escape"
feature_name feature.FunctionInBlock = codes "function in block"
feature_name feature.ForInInitialiser = codes "for-in initialiser"
feature_name feature.DeleteName = codes "delete of a name"
feature_name feature.StrictCode = codes "strict code"
feature_name feature.ProtoName = codes "__proto__"
feature_name feature.AbstractForm = codes "abstract form"
feature_name feature.ResidualForm = codes "residual form"
feature_name feature.AbstractType = codes "abstract type"
feature_name feature.OwnName = codes "own name"
feature_name feature.NotBuilt = codes "not built"

abbrev pub why_name : Why → List ℕ
why_name why.Fraction = codes "fraction"
why_name why.Unsafe = codes "unsafe"
why_name why.NotANumber = codes "not-a-number"
why_name why.Infinite = codes "infinite"
why_name why.MinusZero = codes "minus-zero"
why_name why.NumberSpelling = codes "number-spelling"
why_name why.TextLength = codes "text-length"
why_name why.ObjectToPrimitive = codes "object-to-primitive"
why_name why.PrimitiveThis = codes "primitive-this"
why_name why.PrimitiveProperty = codes "primitive-property"
why_name why.ProtoKey = codes "proto-key"
why_name why.AbsentBuiltin = codes "absent-builtin"
why_name why.ClosedBuiltin = codes "closed-builtin"
why_name why.BuiltinArgument = codes "builtin-argument"
why_name why.HostArgument = codes "host-argument"
why_name why.NoAnswer = codes "no-answer"
why_name why.AnswerKind = codes "answer-kind"
why_name why.NoInput = codes "no-input"
why_name why.InputKind = codes "input-kind"
why_name why.Depth = codes "depth"

-- a line that names a place and something there
abbrev pub place_line : List ℕ → Place → List ℕ → List ℕ → List ℕ → List ℕ
place_line front at middle name end = (front ++ decimal at.0) ++ ((middle ++ name) ++ end)

-- a line that names a place alone
abbrev pub bare_line : List ℕ → Place → List ℕ
bare_line front at = (front ++ decimal at.0) ++ codes "\n"

abbrev pub line_of : Report → List ℕ
line_of report.Usage = codes "usage: prepack [--steps N] eval | run ITEM.. | drill N\n"
line_of (report.Syntax at) = bare_line (codes "syntax at ") at
line_of (report.Nested at) = bare_line (codes "nested at ") at
line_of (report.Unsupported at feature) = place_line (codes "unsupported at ") at (codes ": ") (feature_name feature) (codes "\n")
line_of (report.Stuck at why) = place_line (codes "stuck at ") at (codes ": leaves ") (why_name why) (codes " []\n")
line_of report.TooLarge = codes "source over 1048576 bytes\n"
line_of report.ReadFault = codes "read fault\n"
line_of report.WriteFault = codes "write fault\n"
line_of report.NoMemory = codes "out of memory\n"
