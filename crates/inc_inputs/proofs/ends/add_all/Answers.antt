use Rattle.std.proofs.Common.{rules, ◌<◌, ◌∙◌, length, map}
use Rattle.inc_inputs.proofs.EndLemmas.{fits_next}
use Rattle.inc_inputs.proofs.ends.add_all.Goals as goal

pub loop-place-preserved : goal.loop-place-preserved
loop-place-preserved c =
    let low : c.loop-place.place < length c.args.project.now.paths = search rules in
    record {
      added = fits_next c.args.project.now c.loop-place.glob c.args.glob.now (map (λ p. p.now) c.args.paths.now.items) (map (λ p. p.now) c.loop-place.paths.items) _
          c.loop-place.place low c.loop-place.invariant.same c.loop-place.invariant.added c.in_ok-add_fit.ensures.added;
      same = c.in_ok-add_fit.ensures.same ∙ c.loop-place.invariant.same;
    }
