use Rattle.std.proofs.Common.{◌∙◌, ◌==◌, ◌&&◌, Bool, List, ℕ, ap, false, filter, not, slice_index_or, subst, sym}
use Rattle.std.specs.List.{list_any, range_with_len}
use Rattle.std.proofs.lemmas.Result.{IfOk-weaker}
use Rattle.inc_graph.specs.FileSets.{AreFlags}
use Rattle.inc_graph.specs.declared.graphs.Blocker.{Blocker}
use Rattle.inc_answers.proofs.CostGroupLemmas.{flagged_open}
use Rattle.inc_answers.proofs.cost_groups.open_files.Goals as goal

pub returns : goal.returns
returns c =
    let g = c.args.graph.now in
    let headers = c.args.headers.now in
    let among = c.deref.result.now in
    let flags = c.deref-2.result.now in
    let are = subst (λ (bs : List Bool). AreFlags headers bs) (sym c.deref.ensures.value) c.in_ok-among.ensures.flags in
    let whole = flagged_open g headers among flags are
    (λ f. ap (λ (bs : List Bool). slice_index_or bs f false) c.deref-2.ensures.value ∙ c.in_ok-flags.ensures.flags f
    ∙ ap (λ (bs : List Blocker). list_any (λ (b : Blocker). b.file == f) bs && not (slice_index_or among f false)) c.blockers.ensures.blockers) in
    record {
      files = IfOk-weaker c.flagged_files.result _ _
          (λ files is. is ∙ ap (λ (n : ℕ). filter (λ f. slice_index_or flags f false) (range_with_len 0 n)) (sym c.requires.files) ∙ whole) c.flagged_files.ensures;
    }
