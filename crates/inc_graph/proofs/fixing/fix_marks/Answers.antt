use Rattle.std.proofs.Common.{◌∙◌, take}
use Rattle.std.specs.Prelude.{if◌then◌else◌}
use Rattle.std.specs.List.{list_any}
use Rattle.inc_graph.specs.IncludeGraph.{Edge}
use Rattle.inc_graph.specs.Marks.{Mark}
use Rattle.inc_graph.specs.MarkedEdges.{names_edge}
use Rattle.inc_graph.proofs.AmountLists.{marks_step, marks_whole}
use Rattle.inc_graph.proofs.fixing.fix_marks.Goals as goal

pub loop-index-preserved : goal.loop-index-preserved
loop-index-preserved c =
    let marks = c.args.marks.now in
    record {
      near = c.fix_mark.ensures.near;
      long = c.fix_mark.ensures.long ∙ c.loop-index.invariant.long;
      are = λ f start.
          marks_step c.args.project.now f marks c.loop-index.index c.index-marks-index.result c.args.graph.now.edges c.fix_mark.new.amounts.items c.loop-index-test.true c.index-marks-index.is
          (rw c.lent-mark.ensures at (c.fix_mark.ensures.amounts (λ (e : Edge). if list_any (λ (m : Mark). names_edge c.args.project.now m e) (take c.loop-index.index marks) then 0 else f e) (c.loop-index.invariant.are f start)));
      within = λ start. c.fix_mark.ensures.within (c.loop-index.invariant.within start);
    }

pub returns-clause-amounts : goal.returns-clause-amounts
returns-clause-amounts c = λ f start.
    marks_whole c.args.project.now f c.args.marks.now c.loop-index.index c.args.graph.now.edges c.loop-index.amounts.items c.loop-index-test.false (c.loop-index.invariant.are f start)
