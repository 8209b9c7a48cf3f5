use Rattle.std.proofs.Common.{◌∷◌, ap, ◌∙◌, drop}
use Rattle.inc_cond.specs.SymbolViews.{seen_symbol}
use Rattle.inc_cond.proofs.Turns.{first-at, none-at, turn-behind_constant, turn-behind_stray, turn-end}
use Rattle.inc_cond.proofs.parser.read.Goals as goal

pub returns-in-Some-Constant : goal.returns-in-Some-Constant
returns-in-Some-Constant c rest none =
    turn-behind_constant _ _ _ _ _ _ (first-at _ _ rest (c.in-Some-Constant.ensures.some ∙ ap (λ s. seen_symbol s ∷ drop 1 c.args.left.now) c.in-Some-Constant.field-0-is))

pub returns-in-Some-Stray : goal.returns-in-Some-Stray
returns-in-Some-Stray c rest none =
    turn-behind_stray _ _ _ _ _ (first-at _ _ rest (c.in-Some-Stray.ensures.some ∙ ap (λ s. seen_symbol s ∷ drop 1 c.args.left.now) c.in-Some-Stray.field-0-is))

pub returns-in-None : goal.returns-in-None
returns-in-None c rest none = turn-end _ _ _ _ (none-at _ rest c.in-None.ensures.none none)
