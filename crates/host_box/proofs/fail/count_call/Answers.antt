use Rattle.std.proofs.Common.{◌+◌, ◌<◌, ◌^◌, ℕ, get_or, arith}
use Rattle.host_box.proofs.Numbers.{fails_from_number, number_from_fails, number_below, next_numbers}
use Rattle.host_box.proofs.fail.count_call.Goals as goal

pub returns-clause-fails : goal.returns-clause-fails
returns-clause-fails c =
    let all : (i : ℕ) → get_or c.args.fail.now i 0 < 2 ^ 64 = λ i. omega (arith, c.type_inv.fail i) in
    let told = c.fails_next.ensures.fails in (
      λ t. fails_from_number c.args.calls.now c.args.fail.now (told.0 t).1,
      λ h. let number = number_from_fails c.args.calls.now c.args.fail.now h in told.1 (number_below c.args.fail.now (c.args.calls.now + 1) all number, number),
    )

pub returns-clause-later : goal.returns-clause-later
returns-clause-later c =
    next_numbers c.args.calls.now c.fails_next.new.calls c.args.fail.now (omega arith) c.fails_next.ensures.calls (λ i. omega (arith, c.type_inv.fail i))
