use Rattle.std.proofs.Common.{◌∙◌, sym}
use Rattle.std.proofs.lemmas.Bool.{OnTrue_at, OnTrue_from}
use Rattle.inc_cut.proofs.PhaseLemmas.{way_path}
use Rattle.inc_cut.proofs.searches.headed.arrives.Goals as goal

pub returns : goal.returns
returns g c = OnTrue_from c.is_header.result _ (λ goes.
    way_path c.args.graph.now (g.T.StepTest.passes c.args.test.now) c.args.levels.now c.follow.new.way.steps.items c.follow.new.way.file
    (OnTrue_at c.if-not-branch.false c.in_ok-follow.ensures) (sym c.is_header.ensures ∙ goes))
