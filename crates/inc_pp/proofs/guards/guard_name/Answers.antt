use Rattle.std.proofs.Common.{option_map, ap, sym, ◌∙◌, rules}
use Rattle.inc_token.specs.Views.{seen}
use Rattle.inc_pp.proofs.GuardSteps.{has_guard}
use Rattle.inc_pp.proofs.guards.guard_name.Goals as goal

pub returns-in_ok-name-in-Some-token : goal.returns-in_ok-name-in-Some-token
returns-in_ok-name-in-Some-token c =
    has_guard c.args.lines.now c.in-Some.guard (seen c.in-Some-token.name) c.in_ok-name-in-Some-token.name.items c.in-Some.ensures
    (λ l at. ap (option_map seen) (sym c.in-Some-token.is) ∙ c.token.ensures l at) (search rules) c.in_ok-name-in-Some-token.ensures.items
