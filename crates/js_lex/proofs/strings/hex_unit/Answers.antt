use Rattle.std.proofs.Common.{arith}
use Rattle.js_lex.proofs.Scanning.{hex_unit_is}
use Rattle.js_lex.proofs.strings.hex_unit.Goals as goal

pub overflow_cast-result : goal.overflow_cast-result
overflow_cast-result c = omega (arith, (hex_unit_is c.args.n c.args.z.now c.hex_digits_len.result c.value.result c.requires c.if-z-n.false c.hex_digits_len.ensures.value c.if-hex_digits_len-n.false c.value.ensures).0)

pub returns-clause-value : goal.returns-clause-value
returns-clause-value c = (hex_unit_is c.args.n c.args.z.now c.hex_digits_len.result c.value.result c.requires c.if-z-n.false c.hex_digits_len.ensures.value c.if-hex_digits_len-n.false c.value.ensures).1
