use Rattle.std.proofs.Common.{◌∙◌, ap, arith, option_map, sym}
use Rattle.inc_inputs.proofs.WrittenBaselineLemmas.{find_here, find_later}
use Rattle.inc_inputs.proofs.written_baselines.first_unnameable.Goals as goal

pub returns-in-Some : goal.returns-in-Some
returns-in-Some c =
    let o = option_map (λ p. p.now) c.unnameable_at.result in
    sym (find_here c.args.project.now c.loop-place.place (omega arith) o c.in-Some.path.now c.unnameable_at.ensures (ap (option_map (λ p. p.now)) c.in-Some.is)) ∙ c.loop-place.invariant

pub loop-place-preserved : goal.loop-place-preserved
loop-place-preserved c =
    let o = option_map (λ p. p.now) c.unnameable_at.result in
    sym (find_later c.args.project.now c.loop-place.place (omega arith) o c.unnameable_at.ensures (ap (option_map (λ p. p.now)) c.in_default.is)) ∙ c.loop-place.invariant
