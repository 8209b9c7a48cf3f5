-- The arguments of a call as the definitions see them.
use Rattle.std.specs.Prelude.{ℕ, ◌==◌, Bool, List, [], ◌∷◌, if◌then◌else◌, length, map, ⊤}
use Rattle.inc_macro.specs.Macros.{Params}
use Rattle.inc_expand.specs.declared.carried.Carried.{Carried}
use Rattle.inc_expand.specs.Expansion.{Argument, Carrier, split_at_commas}
use Rattle.inc_expand.specs.Carriers.{carriers, AreKnown}
use Rattle.inc_expand.specs.Sets.{Sets}

-- an argument on the way
pub record ArgumentValue : Type 0 where
  pub written : List Carried
  pub expanded : List Carried
  pub given : Bool

-- the argument as it is
abbrev pub argument_value : Sets → ArgumentValue → Argument
argument_value s a = record { written = carriers s a.written; expanded = carriers s a.expanded; given = a.given }

abbrev pub argument_values : Sets → List ArgumentValue → List Argument
argument_values s as' = map (argument_value s) as'

-- the arguments of a call, split at no more commas than it has parameters before `...`: where there are too many, these are too many
abbrev pub few_arguments : Params → List Carrier → List (List Carrier)
few_arguments p [] = if length p.names == 0 then [] else [] ∷ []
few_arguments p (t ∷ ts) = split_at_commas (length p.names) 0 (t ∷ ts)

-- the set of each token of the arguments is one of the first n
abbrev pub AreKnownIn : ℕ → List ArgumentValue → Type 0
AreKnownIn n [] = ⊤
AreKnownIn n (a ∷ as') = AreKnown n a.written × (AreKnown n a.expanded × AreKnownIn n as')
