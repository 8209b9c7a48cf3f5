-- Bodies without `#` and `##`: what stands for a place is a token of the body, or those of an expanded argument.
use Rattle.std.specs.Prelude.{◌≡◌, ℕ, Bool, true, false, List, [], ◌∷◌, ◌++◌, map, Some, slice_get}
use Rattle.inc_expand.specs.declared.carried.Carried.{Carried}
use Rattle.inc_expand.specs.declared.rules.Rule.{Rule}
use Rattle.inc_expand.specs.Sets.{Sets, size, holds, Keeps}
use Rattle.inc_expand.specs.Elements.{Element, Word, Expanded}
use Rattle.inc_expand.specs.Expansion.{Argument, Carrier, argument_at, of_body, spaced}
use Rattle.inc_expand.specs.Carriers.{carriers, AreKnown}
use Rattle.inc_expand.specs.Puts.{moved}

abbrev pub is_plain_at : Element → Bool
is_plain_at (Word b) = true
is_plain_at (Expanded space n) = true
is_plain_at _ = false

-- each place of a body is such a one
abbrev pub ArePlain : List Element → Type 0
ArePlain es = (i : ℕ) (e : Element) → slice_get es i ≡ Some e → is_plain_at e ≡ true

-- the tokens that stand for a place
abbrev pub tokens_at : List Argument → Element → List Carrier
tokens_at args (Word b) = of_body b ∷ []
tokens_at args (Expanded space n) = spaced space (argument_at args n).expanded
tokens_at args _ = []

abbrev pub plain_tokens : List Argument → List Element → List Carrier
plain_tokens args [] = []
plain_tokens args (e ∷ es) = tokens_at args e ++ plain_tokens args es

-- tokens are before a list, on this line and with the names of this set; the table of sets has grown
pub record IsLaid (rule : Rule) (old new : Sets) (line names : ℕ) (tokens : List Carrier) (before after : List Carried) : Type 0 where
  pub keeps : Keeps old new
  pub list : carriers new after ≡ map (moved rule line (holds old names)) tokens ++ carriers old before
  pub known : AreKnown (size new) after
