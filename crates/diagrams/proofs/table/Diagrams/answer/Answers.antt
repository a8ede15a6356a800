use Rattle.std.proofs.Common.{◌≡◌, length, drop, refl, sym, ap, subst, ◌∙◌, arith}
use Rattle.std.proofs.lemmas.List.{nil_from_length, length-drop}
use Rattle.diagrams.specs.Search.{Chain}
use Rattle.diagrams.proofs.Chains.{resumes, goes_on, last_answer}
use Rattle.diagrams.proofs.Growing.{unchanged, then_extends}
use Rattle.diagrams.proofs.table.Diagrams.answer.Goals as goal

pub loop-first-init : goal.loop-first-init
loop-first-init c = record {
  kept = unchanged c.args.self.now;
  pending = c.in_ok-found.ensures.goes c.args.case (subst (λ l. Chain c.args.self.now c.args.case l c.args.case) (sym c.new-waiting.ensures.items) refl);
}

pub resume-requires : goal.resume-requires
resume-requires c = resumes c.loop-first.self c.args.case c.loop-first.waiting.items c.pop_front.new.self.items c.in-Some.first c.loop-first.found c.in-Some.ensures.items c.loop-first.invariant.pending

pub returns-in_err-found-2-clause-kept : goal.returns-in_err-found-2-clause-kept
returns-in_err-found-2-clause-kept c = then_extends c.loop-first.invariant.kept c.resume.ensures.kept

pub loop-first-preserved : goal.loop-first-preserved
loop-first-preserved c = record {
  kept = then_extends c.loop-first.invariant.kept c.resume.ensures.kept;
  pending = goes_on c.loop-first.self c.resume.new.self c.resume.ensures.kept c.args.case c.loop-first.waiting.items c.pop_front.new.self.items c.resume.new.waiting.items c.in-Some.first c.loop-first.found c.in_ok-found-2.found
      c.in-Some.ensures.items c.loop-first.invariant.pending c.in_ok-found-2.ensures.goes;
}

pub returns-clause-answered : goal.returns-clause-answered
returns-clause-answered c =
    let waiting = c.loop-first.waiting.items in
    let long : length waiting ≡ length (drop 1 waiting) = ap length (c.in_default.ensures.items ∙ c.in_default.ensures.rest) in
    last_answer c.loop-first.self c.args.case waiting c.loop-first.found (nil_from_length waiting (omega (arith, long, length-drop 1 waiting))) c.loop-first.invariant.pending
