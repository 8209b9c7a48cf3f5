use Rattle.std.proofs.Common.{◌≡◌, ◌++◌, ◌∷◌, [], rules, ap, sym, ◌∙◌}
use Rattle.inc_pp.specs.StateViews.{among}
use Rattle.inc_pp.proofs.PoisonSteps.{among-again, among-more}
use Rattle.inc_pp.proofs.states.State.note_poisoned.Goals as goal

pub returns-then-contains-clause-done : goal.returns-then-contains-clause-done
returns-then-contains-clause-done c = λ other.
    among-again c.args.self.now.poisoned c.args.name.now other (sym c.contains.ensures ∙ c.if-contains.true)

pub returns-clause-done : goal.returns-clause-done
returns-clause-done c = λ other.
    let is : c.add.new.self ≡ c.args.self.now.poisoned ++ c.args.name.now ∷ [] = search rules in
    ap (λ names. among names other) is ∙ among-more c.args.self.now.poisoned c.args.name.now other
