use Rattle.std.proofs.Common.{◌≡◌, Bool, true, false, List, ℕ, refl}
use Rattle.std.specs.Str.{IsUtf8, is_utf8}
use Rattle.std.proofs.lemmas.Str.{IsUtf8-from_is_utf8, is_utf8-from_IsUtf8}
use Rattle.inc_inputs.proofs.build_projects.text_of.Goals as goal

-- bytes that are not UTF-8 do not pass the test
none_passes : (bytes : List ℕ) (b : Bool) → is_utf8 bytes ≡ b → (IsUtf8 bytes → ⊥) → is_utf8 bytes ≡ false
none_passes bytes true is never = absurd (never (IsUtf8-from_is_utf8 bytes is))
none_passes bytes false is never = is

pub returns-in-Ok-clause-is : goal.returns-in-Ok-clause-is
returns-in-Ok-clause-is c = is_utf8-from_IsUtf8 c.args.word.now c.in-Ok.ensures.cases.1

pub returns-in-Err-clause-fault : goal.returns-in-Err-clause-fault
returns-in-Err-clause-fault c = (refl, none_passes c.args.word.now _ refl c.in-Err.ensures.cases.0)
