-- What a walk over a text remembers of quotes that begin no literal.
use Rattle.std.specs.Prelude.{◌≡◌, ℕ, zero, suc, ◌-◌, false, List, [], ◌∷◌, drop}
use Rattle.inc_text.specs.Ascii.{apostrophe, quotation_mark}
use Rattle.inc_token.specs.declared.pieces.literals.Unmatched.{Unmatched}
use Rattle.inc_token.specs.Scanning.{closed_at}

-- of the next k bytes none begins a literal of this quote that closes on its line
abbrev pub NoneCloses : (quote k : ℕ) → List ℕ → Type 0
NoneCloses quote zero text = Unit {0}
NoneCloses quote (suc k) [] = Unit {0}
NoneCloses quote (suc k) (b ∷ bs) = (b ≡ quote → closed_at quote false 1 bs ≡ 0) × NoneCloses quote k bs

-- neither a character constant nor a string literal closes on its line that begins at a place or after it, and before where this says
abbrev pub AreUnmatched : Unmatched → (at : ℕ) → List ℕ → Type 0
AreUnmatched l at text = NoneCloses apostrophe (l.single - at) (drop at text) × NoneCloses quotation_mark (l.double - at) (drop at text)

-- that nothing is known
abbrev pub nothing_known : Unmatched
nothing_known = record { single = 0; double = 0 }
