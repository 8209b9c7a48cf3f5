use Rattle.std.proofs.Common.{◌∷◌, ap, ◌∙◌, drop}
use Rattle.inc_cond.specs.SymbolViews.{seen_symbol}
use Rattle.inc_cond.proofs.Turns.{passed, first-at, none-at, turn-constant, turn-stray, turn-empty}
use Rattle.inc_cond.proofs.parser.wanted.Goals as goal

pub returns-in-Some-Constant : goal.returns-in-Some-Constant
returns-in-Some-Constant c rest none =
    turn-constant _ _ _ _ _ _ (passed _ _ _ rest (c.in-Some-Constant.ensures.some ∙ ap (λ s. seen_symbol s ∷ drop 1 c.args.left.now) c.in-Some-Constant.field-0-is) c.pass.ensures)
    c.literal-known.ensures

pub returns-in-Some-Stray : goal.returns-in-Some-Stray
returns-in-Some-Stray c rest none =
    turn-stray _ _ _ _ (first-at _ _ rest (c.in-Some-Stray.ensures.some ∙ ap (λ s. seen_symbol s ∷ drop 1 c.args.left.now) c.in-Some-Stray.field-0-is))

pub returns-in-None : goal.returns-in-None
returns-in-None c rest none = turn-empty _ _ _ (none-at _ rest c.in-None.ensures.none none)
