-- An expansion on the way as the definitions see it.
use Rattle.std.specs.Prelude.{◌≡◌, ℕ, ◌+◌, ◌≤◌, suc, List, ◌∷◌, ◌++◌, length, Result, Ok, Err}
use Rattle.inc_macro.specs.Results.{◌>>=◌}
use Rattle.inc_macro.specs.Macros.{Definition}
use Rattle.inc_expand.specs.declared.carried.Carried.{Carried}
use Rattle.inc_expand.specs.declared.faults.ExpandFault.{ExpandFault}
use Rattle.inc_expand.specs.declared.rules.Rule.{Rule}
use Rattle.inc_expand.specs.declared.walks.Work.{Work}
use Rattle.inc_expand.specs.Sets.{size, holds, Keeps}
use Rattle.inc_expand.specs.Elements.{elements_of}
use Rattle.inc_expand.specs.Expansion.{Argument, Carrier, Case, Expander, Meter, Names, Surroundings, levels, only, replaced, replacing, substituted, treated, union}
use Rattle.inc_expand.specs.Carriers.{carrier, carriers, AreKnown}
use Rattle.inc_expand.specs.Arguments.{ArgumentValue, argument_values}

-- the replacement of a name or call by these arguments is put before the rest, with these hidden names and the macro's
abbrev pub replacement : Rule → Expander → Definition → List Argument → Carrier → Names → Meter → List Carrier → Result (List Carrier × Meter) ExpandFault
replacement rule again d args t hidden meter rest =
    substituted rule args (elements_of d) >>= λ new. replaced again meter (replacing rule t (union (only d.name) hidden) new) rest

-- the replacement was put before the rest; `hidden` is the number of a set
pub record IsPlaced (rule : Rule) (d : Definition) (args : List ArgumentValue) (token : Carried) (hidden : ℕ) (old new : Work) (rest list : List Carried) : Type 0 where
  -- the sets of before are still there
  pub keeps : Keeps old.sets new.sets
  -- the sets of the new list are in the table
  pub known : AreKnown (size new.sets) list
  -- no unit came back
  pub spends : new.meter.units ≤ old.meter.units
  -- with the units that are left there is no more to do
  pub smaller : new.meter.units + length list ≤ old.meter.units + length rest
  -- what goes on with the replacement goes on with the new list
  pub same : (again : Expander) → replacement rule again d (argument_values old.sets args) (carrier old.sets token) (holds old.sets hidden) old.meter (carriers old.sets rest)
      ≡ again new.meter (carriers new.sets list)

-- the replacement is not put for this fault
abbrev pub IsNotPlaced : Rule → Definition → List ArgumentValue → Carried → ℕ → Work → List Carried → ExpandFault → Type 0
IsNotPlaced rule d args token hidden old rest fault =
    (again : Expander) → replacement rule again d (argument_values old.sets args) (carrier old.sets token) (holds old.sets hidden) old.meter (carriers old.sets rest) ≡ Err fault

-- the token before `rest` is replaced: what is left to do is `list`, whatever goes on with it
pub record IsReplaced (rule : Rule) (deeper : Expander) (case : Case) (token : Carried) (old new : Work) (rest list : List Carried) : Type 0 where
  -- the sets of before are still there
  pub keeps : Keeps old.sets new.sets
  -- the sets of the new list are in the table
  pub known : AreKnown (size new.sets) list
  -- no unit came back
  pub spends : new.meter.units ≤ old.meter.units
  -- with the units that are left there is no more to do
  pub smaller : new.meter.units + length list ≤ old.meter.units + length rest
  -- what goes on with the token goes on with the new list
  pub same : (again : Expander) → treated rule deeper again (carrier old.sets token) old.meter (carriers old.sets rest) case
      ≡ again new.meter (carriers new.sets list)

-- the token before `rest` is not replaced for this fault
abbrev pub IsRefused : Rule → Expander → Case → Carried → Work → List Carried → ExpandFault → Type 0
IsRefused rule deeper case token old rest fault =
    (again : Expander) → treated rule deeper again (carrier old.sets token) old.meter (carriers old.sets rest) case ≡ Err fault

-- what a list gives, after tokens that passed
abbrev pub behind : List Carrier → Result (List Carrier × Meter) ExpandFault → Result (List Carrier × Meter) ExpandFault
behind front r = r >>= λ x. Ok (front ++ x.0, x.1)

-- a step of a level that has so many above it
pub record IsStep (s : Surroundings) (deeper : ℕ) (token : Carried) (old new : Work) (rest list out_before out : List Carried) : Type 0 where
  -- the sets of before are still there
  pub keeps : Keeps old.sets new.sets
  -- the sets of the new list are in the table
  pub known : AreKnown (size new.sets) list
  -- and so are those of what was given
  pub known_out : AreKnown (size new.sets) out
  -- no unit came back
  pub spends : new.meter.units ≤ old.meter.units
  -- with the units that are left there is no more to do
  pub smaller : new.meter.units + length list ≤ old.meter.units + length rest
  -- what was given and what is left make the same result
  pub same : behind (carriers old.sets out_before) (levels s (suc deeper) old.meter (carriers old.sets (token ∷ rest)))
      ≡ behind (carriers new.sets out) (levels s (suc deeper) new.meter (carriers new.sets list))
