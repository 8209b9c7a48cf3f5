-- Places of bodies of the program as the definitions see them.
use Rattle.std.specs.Prelude.{ℕ, zero, suc, ◌==◌, Bool, false, List, Option, Some, None, map, slice_get}
use Rattle.inc_macro.specs.declared.roles.Role.{Role}
use Rattle.inc_macro.specs.declared.roles.Role.TheVariants.{Expanded as ExpandedRole, Optional as OptionalRole}
use Rattle.inc_macro.specs.Macros.{BodyToken, Definition}
use Rattle.inc_macro.specs.Roles.{roles_of}
use Rattle.inc_expand.specs.declared.body_elements.Word.{Word as WordStruct}
use Rattle.inc_expand.specs.declared.body_elements.Element.{Element as ElementEnum}
use Rattle.inc_expand.specs.declared.body_elements.Element.TheVariants.{Word as AWord, Glue as AGlue, Silent as ASilent, StringOf as AStringOf, AsWritten as AnAsWritten, Expanded as AnExpanded, Comma as AComma, Optional as AnOptional, Kept as AKept, Empty as AnEmpty}
use Rattle.inc_expand.specs.declared.body_elements.Place.{Place as PlaceEnum}
use Rattle.inc_expand.specs.declared.body_elements.Place.TheVariants.{Own, Made as AMade}
use Rattle.inc_expand.specs.declared.body_elements.Places.{Places}
use Rattle.inc_expand.specs.declared.body_elements.Places.TheVariants.{Inside, Standing}
use Rattle.inc_expand.specs.Elements.{Element, Word, Glue, Silent, StringOf, AsWritten, Expanded, Comma, Optional, Kept, Empty, Made, hash_of}

abbrev pub word_value : WordStruct → BodyToken
word_value w = record { kind = w.kind; spelling = w.spelling.now; space = w.space }

abbrev pub element_value : ElementEnum → Element
element_value (AWord w) = Word (word_value w)
element_value AGlue = Glue
element_value ASilent = Silent
element_value (AStringOf space n) = StringOf space n
element_value (AnAsWritten space n) = AsWritten space n
element_value (AnExpanded space n) = Expanded space n
element_value (AComma w n) = Comma (word_value w) n
element_value (AnOptional hash n) = Optional hash n
element_value (AKept space n) = Kept space n
element_value AnEmpty = Empty

abbrev pub element_values : List ElementEnum → List Element
element_values es = map element_value es

abbrev pub place_value : PlaceEnum → Element
place_value (Own e) = element_value e
place_value (AMade space text) = Made space text.now

abbrev pub place_values : List PlaceEnum → List Element
place_values ps = map place_value ps

-- places that are lent
abbrev pub places_in : Places → List Element
places_in (Inside es) = element_values es.now
places_in (Standing ps) = place_values ps.now

-- a token with this role asks for the expanded argument of parameter n
abbrev pub asks_for : Role → ℕ → Bool
asks_for (ExpandedRole m) n = m == n
asks_for (OptionalRole m) n = m == n
asks_for _ n = false

-- whether white space is before the operator `#`, where a token with this role is one
abbrev pub hash_in : Option BodyToken → Option Role → Option Bool
hash_in (Some b) (Some role) = hash_of b role
hash_in _ _ = None

-- the same for the token right before a place
abbrev pub hash_at : Definition → ℕ → Option Bool
hash_at d zero = None
hash_at d (suc i) = hash_in (slice_get d.body i) (slice_get (roles_of d) i)
