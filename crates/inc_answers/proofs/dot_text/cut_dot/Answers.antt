use Rattle.std.proofs.Common.{◌++◌, None, Some, []}
use Rattle.std.specs.Prelude.{flat_map}
use Rattle.inc_graph.specs.Cuts.{Counted}
use Rattle.inc_answers.proofs.DotLemmas.{drawn_as, flags_empty}
use Rattle.inc_answers.proofs.dot_text.cut_dot.Goals as goal

pub returns : goal.returns
returns c =
    drawn_as c.dot_text.result c.args.subject.project.now c.args.subject.graph.now c.deref.result.now c.deref-2.result.now (c.args.cut.now ++ flat_map (λ (x : Counted). x.chain) c.args.chains.now) c.args.cut.now (Some c.args.fixed.now)
    (rw c.deref.ensures.value c.in_ok-edges.ensures) (rw c.deref-2.ensures.value c.in_ok-removed.ensures) c.dot_text.ensures
