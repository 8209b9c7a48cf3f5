-- The places of a body that stand, as the program sees them.
use Rattle.std.specs.Prelude.{ℕ, Bool, true, false, List, ◌++◌, Option, Some, None, Result, Ok}
use Rattle.inc_macro.specs.Results.{◌>>=◌}
use Rattle.inc_macro.specs.declared.roles.Role.{Role}
use Rattle.inc_macro.specs.declared.roles.Role.TheVariants.{Optional as OptionalRole}
use Rattle.inc_expand.specs.declared.faults.ExpandFault.{ExpandFault}
use Rattle.inc_expand.specs.Elements.{Element, Optional}

abbrev pub is_optional_role : Role → Bool
is_optional_role (OptionalRole n) = true
is_optional_role _ = false

-- what `__VA_OPT__` says at a place
abbrev pub optional_of : Element → Option (Option Bool × ℕ)
optional_of (Optional hash n) = Some (hash, n)
optional_of _ = None

-- places after others
abbrev pub after_places : List Element → Result (List Element) ExpandFault → Result (List Element) ExpandFault
after_places front r = r >>= λ rest. Ok (front ++ rest)
