use Rattle.std.proofs.Common.{◌∙◌, sym}
use Rattle.inc_inputs.proofs.GroupWords.{first_at, none_more}
use Rattle.inc_inputs.proofs.ends.first_named.Goals as goal

pub returns-in-Some : goal.returns-in-Some
returns-in-Some c =
    sym (first_at (λ p. p.now) c.args.project.now c.args.paths.now c.loop-path.path-index _ c.in-Some.file c.loop-path-test.true c.loop-path.invariant (sym c.in_ok-file.ensures.file ∙ c.in-Some.is))

pub loop-path-preserved : goal.loop-path-preserved
loop-path-preserved c =
    none_more (λ p. p.now) c.args.project.now c.args.paths.now c.loop-path.path-index _ c.loop-path-test.true c.loop-path.invariant (sym c.in_ok-file.ensures.file ∙ c.in_default.is)
