use Rattle.std.proofs.Common.{◌≡◌, ◌∙◌, List, ℕ, [], ap, length, refl, subst}
use Rattle.inc_cost.specs.Costs.{IsTotal}
use Rattle.inc_cost.specs.declared.branches.Branch.{Branch}
use Rattle.inc_answers.specs.FileSizes.{kept_sizes}
use Rattle.inc_answers.specs.JsonAnswers.{about_subject}
use Rattle.inc_report.specs.NamedText.{tree_answer}
use Rattle.inc_answers.specs.TreeText.{tree_branches}
use Rattle.inc_report.proofs.NamedLemmas.{printed_same}
use Rattle.inc_report.proofs.named_costs.tell_trees.Goals as goal

pub returns : goal.returns
returns c =
    let graph = c.args.subject.graph.now in
    let total = c.in_ok-total.total in
    let weights = kept_sizes c.args.subject.files.now (length c.args.subject.project.now.paths) in
    let sizes : c.in_ok-sizes.sizes.items ≡ weights = c.in_ok-sizes.ensures in
    let branches : c.deref-3.result.now ≡ tree_branches weights graph =
    c.deref-3.ensures.value ∙ c.in_ok-branches.ensures.branches ∙ ap (λ (w : List ℕ). tree_branches w graph) (c.deref-2.ensures.value ∙ sizes) in (
      total,
      subst (λ (w : List ℕ). IsTotal graph w [] graph.sources total) (c.deref.ensures.value ∙ sizes) c.in_ok-total.ensures,
      printed_same _ _ _ _ _ _ (c.in_ok-tree_text.ensures ∙ ap (λ (bs : List Branch). tree_answer c.args.form.format (about_subject c.args.subject) total bs) branches) c.in_ok-notes.ensures refl,
    )
