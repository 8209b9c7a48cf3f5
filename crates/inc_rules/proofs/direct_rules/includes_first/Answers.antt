use Rattle.std.proofs.Common.{◌&&◌, ◌≤◌, ◌∙◌, List, ℕ, ap, false, not, subst}
use Rattle.std.specs.Prelude.{nat_lt, slice_get, slice_index, slice_index_or, IfSome}
use Rattle.std.specs.Option.{option_map_or}
use Rattle.inc_graph.specs.Indexes.{edges_leaving}
use Rattle.inc_graph.specs.declared.graphs.Edge.{Edge}
use Rattle.inc_rules.proofs.JudgeLemmas.{first_is}
use Rattle.inc_rules.proofs.direct_rules.includes_first.Goals as goal

pub returns : goal.returns
returns c layout r are =
    let short = subst (λ (es : List Edge). IfSome (slice_get es 0) (λ (e : Edge). e.line ≤ 4_294_967_295)) c.leaving.ensures c.first_leads_to_flag.ensures.short in
    (rw c.leaving.ensures at c.first_leads_to_flag.ensures.leads)
    ∙ ap (λ (n : ℕ). option_map_or (λ (e : Edge). slice_index_or c.args.right.now e.to false && not (nat_lt (slice_index c.args.opens.now n) e.line))
    (slice_get (edges_leaving c.args.graph.now.edges c.args.file) 0) false) c.index.ensures
    ∙ first_is c.args.graph.now c.args.file c.files-files.ensures.sound layout r c.args.right.now are c.args.opens.now c.requires.opens c.requires.file short
