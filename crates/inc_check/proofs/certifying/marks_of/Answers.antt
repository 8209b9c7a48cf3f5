use Rattle.std.proofs.Common.{◌++◌, ◌∷◌, [], List, ap, sym, ◌∙◌}
use Rattle.inc_graph.specs.Marks.{Mark}
use Rattle.inc_check.specs.Texts.{is_short_mark, are_short_marks}
use Rattle.inc_check.proofs.MarkLemmas.{marks_of-more}
use Rattle.inc_check.proofs.MarksFormats.{all_push}
use Rattle.inc_check.proofs.certifying.marks_of.Goals as goal

pub loop-edge-preserved : goal.loop-edge-preserved
loop-edge-preserved c =
    let so_far = c.loop-edge.invariant in
    let one = c.edge_mark.ensures in
    record {
      marks = c.in_ok-push.ensures.items ∙ ap (λ (ms : List Mark). ms ++ c.edge_mark.result ∷ []) so_far.marks
          ∙ sym (marks_of-more c.args.project.now c.args.graph.now c.args.edges.now c.loop-edge.edge-index
          c.edge-item.result c.edge_mark.result c.loop-edge-test.true c.edge-item.is one.mark);
      short = ap are_short_marks c.in_ok-push.ensures.items
          ∙ all_push is_short_mark c.loop-edge.marks.items c.edge_mark.result so_far.short one.short;
    }
