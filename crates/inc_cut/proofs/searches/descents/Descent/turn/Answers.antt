use Rattle.std.proofs.Common.{◌++◌, ◌∷◌, [], true, Bool, List, refl, sym, ap, ◌∙◌}
use Rattle.std.specs.Prelude.{slice_set}
use Rattle.std.proofs.lemmas.Bool.{OnTrue_from, OnTrue_at, OnFalse_from, OnFalse_at}
use Rattle.inc_cut.specs.declared.flows.Step.{Step}
use Rattle.inc_cut.proofs.DescentLemmas.{descent_on, descent_back, descent_end, descent_as, between_as}
use Rattle.inc_cut.proofs.searches.descents.Descent.turn.Goals as goal

pub returns-in_ok-go_on-in-Some-clause-descent : goal.returns-in_ok-go_on-in-Some-clause-descent
returns-in_ok-go_on-in-Some-clause-descent g c =
    let graph = c.args.graph.now in
    let passes = g.T.StepTest.passes c.args.test.now in
    let was = c.args.self.now in
    let look = c.in-Some.ensures in
    let on = c.in_ok-go_on-in-Some.ensures in
    let next = c.in-Some.next in
    let now = c.go_on.new.self in
    descent_as graph passes _ now.reached.items _ now.looked.items _ now.steps.items _ now.file
    (on.reached ∙ ap (λ (l : List Bool). slice_set l next.to true) look.reached) on.looked
    (on.steps ∙ ap (λ (l : List Step). l ++ next.step ∷ []) look.steps) on.file
    (descent_on graph passes was.reached.items was.looked.items c.look.new.self.looked.items was.steps.items was.file next c.requires.descent c.requires.apart look.look)

pub returns-in-None-clause-descent : goal.returns-in-None-clause-descent
returns-in-None-clause-descent g c = OnTrue_from c.go_back.result _ (λ goes.
    let graph = c.args.graph.now in
    let passes = g.T.StepTest.passes c.args.test.now in
    let was = c.args.self.now in
    let look = c.in-None.ensures in
    let back = OnTrue_at goes c.go_back.ensures.back in
    let now = c.go_back.new.self in
    descent_as graph passes was.reached.items now.reached.items c.look.new.self.looked.items now.looked.items now.steps.items now.steps.items _ now.file
    (c.go_back.ensures.reached ∙ look.reached) c.go_back.ensures.looked refl back.2
    (descent_back graph passes was.reached.items was.looked.items c.look.new.self.looked.items was.steps.items now.steps.items was.file back.0 c.requires.descent c.requires.apart look.look
    (sym look.steps ∙ back.1)))

pub returns-in-None-clause-end : goal.returns-in-None-clause-end
returns-in-None-clause-end g c = OnFalse_from c.go_back.result _ (λ stays.
    let graph = c.args.graph.now in
    let passes = g.T.StepTest.passes c.args.test.now in
    let was = c.args.self.now in
    let look = c.in-None.ensures in
    let none = OnFalse_at stays c.go_back.ensures.none in
    let now = c.go_back.new.self in
    between_as graph passes was.reached.items now.reached.items c.look.new.self.looked.items now.looked.items (c.go_back.ensures.reached ∙ look.reached) c.go_back.ensures.looked
    (descent_end graph passes was.reached.items was.looked.items c.look.new.self.looked.items was.steps.items was.file c.requires.descent c.requires.apart look.look (sym look.steps ∙ none)))
