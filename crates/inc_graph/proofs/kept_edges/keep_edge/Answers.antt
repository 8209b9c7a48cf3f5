use Rattle.std.proofs.Common.{◌∙◌, ℕ, ap, arith, false, refl, slice_index_or, sym}
use Rattle.inc_graph.specs.declared.graphs.Edge.{Edge}
use Rattle.inc_graph.proofs.AmountLists.{amounts_set}
use Rattle.inc_graph.proofs.KeptLemmas.{pass_other, put_kept}
use Rattle.inc_graph.proofs.kept_edges.keep_edge.Goals as goal

pub returns-then-has_flag-clause-amounts : goal.returns-then-has_flag-clause-amounts
returns-then-has_flag-clause-amounts c = λ f es all are.
    put_kept c.args.kept.now f es c.args.edges.now c.args.index c.index-edges-index.result _ c.args.amounts.now.items _ c.requires.edge c.index-edges-index.is
    (ap (λ (x : Edge). slice_index_or c.args.kept.now x.from false) c.index-edges-index.is ∙ ap (λ (n : ℕ). slice_index_or c.args.kept.now n false) (sym c.index.ensures) ∙ sym c.has_flag.ensures ∙ c.if-has_flag.true) refl all are

pub returns-then-has_flag-clause-within : goal.returns-then-has_flag-clause-within
returns-then-has_flag-clause-within c = amounts_set c.args.amounts.now.items _ c.args.index 0 (omega arith) refl

pub returns-else-has_flag-clause-amounts : goal.returns-else-has_flag-clause-amounts
returns-else-has_flag-clause-amounts c = λ f es all are.
    pass_other c.args.kept.now f es c.args.edges.now c.args.index c.index-edges-index.result _ c.args.amounts.now.items c.requires.edge c.index-edges-index.is
    (ap (λ (x : Edge). slice_index_or c.args.kept.now x.from false) c.index-edges-index.is ∙ ap (λ (n : ℕ). slice_index_or c.args.kept.now n false) (sym c.index.ensures) ∙ sym c.has_flag.ensures ∙ c.if-has_flag.false) all are
