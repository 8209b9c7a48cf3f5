use Rattle.std.proofs.Common.{rules, ◌≡◌, ℕ, suc, ◌+◌, ◌<◌, List, [], ◌∷◌, ◌++◌, get_or, take, length, ap, sym, ◌∙◌, arith}
use Rattle.std.proofs.Math.Seq.{take-suc}
use Rattle.std.proofs.lemmas.List.Elements.{filter_map-append}
use Rattle.inc_lookup.specs.declared.projects.DirectiveId.{DirectiveId}
use Rattle.inc_lookup.specs.Projects.{Layout}
use Rattle.inc_graph.specs.Marks.{Mark}
use Rattle.inc_answers.specs.Terms.{named_directive, named_directives}
use Rattle.inc_answers.proofs.questions.directives_named.Goals as goal

named_more : (layout : Layout) (ids done : List DirectiveId) (marks : List Mark) (i : ℕ) (m : Mark) → get_or marks i m ≡ m → i < length marks
    → done ≡ named_directives layout (take i marks) → ids ≡ done ++ named_directives layout (m ∷ []) → ids ≡ named_directives layout (take (i + 1) marks)
named_more layout ids done marks i m at low before now =
    let next : i + 1 ≡ suc i = omega arith in
    let taken : take (i + 1) marks ≡ take i marks ++ (m ∷ []) =
    ap (λ k. take k marks) next ∙ take-suc marks i m low ∙ ap (λ x. take i marks ++ (x ∷ [])) at in
    now ∙ ap (λ xs. xs ++ named_directives layout (m ∷ [])) before
    ∙ sym (filter_map-append (named_directive layout) (take i marks) (m ∷ [])) ∙ ap (named_directives layout) (sym taken)

pub loop-mark-preserved : goal.loop-mark-preserved
loop-mark-preserved c =
    named_more c.args.project.now c.add_named.new.ids.items c.loop-mark.ids.items c.args.marks.now c.loop-mark.mark-index c.mark-item.result (search rules) (search rules)
    c.loop-mark.invariant (c.in_ok-add_named.ensures)
