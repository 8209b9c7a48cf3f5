use Rattle.std.proofs.Common.{◌≡◌, List, [], ◌∷◌, ℕ, ◌≤◌, length, drop, refl, sym, arith, length-drop}
use Rattle.inc_token.specs.Scanning.{header_name_len}
use Rattle.inc_token.proofs.pieces.literals.header_len.Goals as goal

none_short : (text : List ℕ) → length text ≤ 1 → header_name_len text ≡ 0
none_short [] le = refl
none_short (a ∷ []) le = refl
none_short (a ∷ b ∷ bs) le = absurd (omega arith)

pub returns-then-at-text : goal.returns-then-at-text
returns-then-at-text c =
    sym (none_short (drop c.args.at c.args.text.now) (omega (arith, length-drop c.args.at c.args.text.now)))
