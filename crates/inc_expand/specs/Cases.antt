-- What happens at the front of a list of the program as the definitions see it.
use Rattle.std.specs.Prelude.{◌≡◌, ℕ, Bool, false, List, [], ◌∷◌, Option, None, Some, bytes_eq, take, drop, ⊤}
use Rattle.inc_macro.specs.Macros.{is_identifier_kind}
use Rattle.inc_expand.specs.declared.carried.Carried.{Carried}
use Rattle.inc_expand.specs.declared.cases.Surroundings.{Surroundings as SurroundingsValue}
use Rattle.inc_expand.specs.declared.cases.Case.{Case as CaseValue}
use Rattle.inc_expand.specs.declared.cases.Case.TheVariants.{Passes as Passing, IsPredefined as APredefined, IsObject as AnObject, IsCall as ACall}
use Rattle.inc_expand.specs.Expansion.{Carrier, Case, Passes, IsPredefined, IsObject, IsCall, Surroundings}
use Rattle.inc_expand.specs.Carriers.{bytes_in}
use Rattle.inc_expand.specs.Places.{content_value, surroundings}

abbrev pub surroundings_value : SurroundingsValue → Surroundings
surroundings_value s = surroundings s.macros.now s.mode s.place

-- there is a token, and it is an identifier
abbrev pub is_name_in : Option Carried → Bool
is_name_in None = false
is_name_in (Some t) = is_identifier_kind t.kind

-- there is a token with this spelling
abbrev pub is_spelled_in : List ℕ → Option Carried → Bool
is_spelled_in text None = false
is_spelled_in text (Some t) = bytes_eq (bytes_in t.text) text

-- the case of this token before these
abbrev pub case_value : CaseValue → Carrier → List Carrier → Case
case_value (Passing n) t rest = Passes (t ∷ take n rest) (drop n rest)
case_value (APredefined p) t rest = IsPredefined p.kind (content_value p.content)
case_value (AnObject d) t rest = IsObject d.now
case_value (ACall d p) t rest = IsCall d.now p.now (drop 1 rest)

-- the same of a name, which passes alone in no case
abbrev pub named_value : Option CaseValue → Carrier → List Carrier → Case
named_value None t rest = Passes (t ∷ []) rest
named_value (Some c) t rest = case_value c t rest

-- a predefined name is the token's spelling
abbrev pub HasName : Carrier → CaseValue → Type 0
HasName t (APredefined p) = p.name.now ≡ t.spelling
HasName t _ = ⊤

abbrev pub HasNameIn : Carrier → Option CaseValue → Type 0
HasNameIn t None = ⊤
HasNameIn t (Some c) = HasName t c
