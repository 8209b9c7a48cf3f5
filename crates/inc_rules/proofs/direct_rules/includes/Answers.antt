use Rattle.std.proofs.Common.{◌∙◌, ap, false, slice_index_or}
use Rattle.std.specs.List.{list_any}
use Rattle.inc_graph.specs.declared.graphs.Edge.{Edge}
use Rattle.inc_rules.proofs.JudgeLemmas.{includes_is}
use Rattle.inc_rules.proofs.direct_rules.includes.Goals as goal

pub returns : goal.returns
returns c layout r are =
    c.lead_to_flag.ensures ∙ ap (list_any (λ (e : Edge). slice_index_or c.args.right.now e.to false)) c.leaving.ensures
    ∙ includes_is c.args.graph.now c.args.file c.files-files.ensures.sound layout r c.args.right.now are
