-- Tables without macros that take arguments, and without `#` and `##` in a body.
use Rattle.std.specs.Prelude.{◌≡◌, ℕ, List, None, Some}
use Rattle.inc_macro.specs.Macros.{Definition, Table}
use Rattle.inc_expand.specs.Elements.{elements_of}
use Rattle.inc_expand.specs.Plain.{ArePlain}

-- each definition is one of these
abbrev pub HasPlainMacros : Table → Type 0
HasPlainMacros table = (name : List ℕ) (d : Definition) → table.find name ≡ Some d → (d.params ≡ None) × ArePlain (elements_of d)
