-- Expanded tokens that are taken one by one, of whose text the length alone is kept.
use Rattle.std.specs.Prelude.{◌≡◌, ℕ, ◌+◌, Bool, List, ◌∷◌, Result, Ok, length}
use Rattle.inc_macro.specs.Results.{◌>>=◌}
use Rattle.inc_expand.specs.Expansion.{Item, Meter}
use Rattle.inc_pp.specs.declared.causes.Cause.{Cause}
use Rattle.inc_pp.specs.declared.measures.Measure.{Measure}
use Rattle.inc_pp.specs.Operators.{outcome}
use Rattle.inc_pp.specs.Pragmas.{Laid}
use Rattle.inc_pp.specs.Printed.{printed}

-- how many bytes the text of tokens has that are put out after so many bytes
abbrev pub length_after : (bytes : ℕ) → Result Laid Cause → Result ℕ Cause
length_after bytes r = r >>= λ l. Ok (bytes + length (printed l.tokens))

-- how many bytes the text has of what expanded tokens put out
abbrev pub text_length : Result (Laid × Meter) Cause → Result ℕ Cause
text_length r = r >>= λ x. Ok (length (printed x.0.tokens))

-- how many bytes the text of all has, once these have come
abbrev pub measured : Measure → List Item → Result ℕ Cause
measured m is = length_after m.bytes (outcome m.operators is)

-- one more token is taken
abbrev pub takes_measured : Measure → Bool → Item → Measure → Type 0
takes_measured old first i new = (is : List Item) → measured new is ≡ measured old (i ∷ is)
