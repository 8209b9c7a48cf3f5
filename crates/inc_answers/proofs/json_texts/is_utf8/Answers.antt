use Rattle.std.proofs.Common.{◌≡◌, Bool, true, false, List, ℕ, refl, sym}
use Rattle.std.specs.Str.{IsUtf8, is_utf8}
use Rattle.std.proofs.lemmas.Str.{IsUtf8-from_is_utf8, is_utf8-from_IsUtf8}
use Rattle.inc_answers.proofs.json_texts.is_utf8.Goals as goal

-- bytes that are not UTF-8 do not pass the test
none_passes : (bytes : List ℕ) (b : Bool) → is_utf8 bytes ≡ b → (IsUtf8 bytes → ⊥) → false ≡ is_utf8 bytes
none_passes bytes true is never = absurd (never (IsUtf8-from_is_utf8 bytes is))
none_passes bytes false is never = sym is

pub returns-in-Ok : goal.returns-in-Ok
returns-in-Ok c = sym (is_utf8-from_IsUtf8 c.args.bytes.now c.in-Ok.ensures.cases.1)

pub returns-in-Err : goal.returns-in-Err
returns-in-Err c = none_passes c.args.bytes.now _ refl c.in-Err.ensures.cases.0
