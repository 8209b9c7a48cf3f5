use Rattle.std.proofs.Common.{◌≡◌, ◌≢◌, ◌∙◌, ℕ, List, [], ◌∷◌, Option, ap, ap₂, refl}
use Rattle.inc_lookup.specs.Projects.{Layout}
use Rattle.inc_graph.specs.declared.graphs.Blocker.{Blocker}
use Rattle.inc_lookup.specs.declared.projects.DirectiveId.{DirectiveId}
use Rattle.inc_answers.specs.CutText.{Unhindered, blocked, marks_refusal}
use Rattle.inc_answers.specs.Printed.{Printed}
use Rattle.inc_answers.specs.Refusals.{Refusal}
use Rattle.inc_answers.proofs.MarkReasonLemmas.{by_reason, reasoned_is, refused_memory}
use Rattle.inc_answers.proofs.WritingLemmas.{prints_all, prints_one}
use Rattle.inc_answers.proofs.limits.refuse_hindrance.Goals as goal

by_blockers : (layout : Layout) (ds : List DirectiveId) (bs : List Blocker) (fault : Option (List ℕ × Refusal)) (Then : Printed → Type 0) (p : Printed) → bs ≢ [] → p ≡ blocked layout ds bs → Unhindered layout ds bs fault Then p
by_blockers layout ds [] fault Then p some is = absurd (some refl)
by_blockers layout ds (b ∷ bs) fault Then p some is = is

pub returns-in-Blocked-clause-sent : goal.returns-in-Blocked-clause-sent
returns-in-Blocked-clause-sent g c =
    let some = (rw c.in-Blocked.is at c.requires.hindered) (λ e. cc) in
    prints_all _ _ _ _ c.refuse_blocked.result
    (λ p is. by_blockers c.args.project.now c.args.graph.now.definitions c.args.graph.now.blockers _ _ p some (is ∙ ap₂ (λ (ds : List DirectiveId) (bs : List Blocker). blocked c.args.project.now ds bs) c.definitions.ensures.definitions c.blockers.ensures.blockers))
    c.refuse_blocked.ensures.sent

pub returns-in_ok-reason-in-Some-clause-sent : goal.returns-in_ok-reason-in-Some-clause-sent
returns-in_ok-reason-in-Some-clause-sent g c =
    let l = c.args.limits.now in
    let layout = c.args.project.now in
    let graph = c.args.graph.now in
    let hindered = (rw c.in-Marks.is at c.requires.hindered) (refused_memory l.fixed l.costs c.in-Marks.fault _ c.in-Some.ensures) in
    prints_one _ _ _ _ _
    (by_reason layout graph.definitions graph.blockers (marks_refusal layout graph l.fixed l.costs) (λ p. ⊥) _ _ hindered.0
    (reasoned_is layout graph l.fixed l.costs c.in-Marks.fault _ _ hindered.1 c.in-Some.ensures c.in_ok-reason-in-Some.ensures))
    c.refuse_for.ensures
