-- An expansion of a list that goes on in later lines, on the way.
use Rattle.std.specs.Prelude.{◌≡◌, ℕ, suc, ◌+◌, ◌≤◌, List, ◌∷◌, ◌++◌, length, take, drop, Result}
use Rattle.inc_expand.specs.declared.carried.Carried.{Carried}
use Rattle.inc_expand.specs.declared.faults.ExpandFault.{ExpandFault}
use Rattle.inc_expand.specs.declared.frames.Call.{Call}
use Rattle.inc_expand.specs.declared.walks.Work.{Work}
use Rattle.inc_expand.specs.Sets.{Sets, size, Keeps}
use Rattle.inc_expand.specs.Elements.{elements_of}
use Rattle.inc_expand.specs.Expansion.{Argument, Meter, Surroundings, expanded_arguments, levels}
use Rattle.inc_expand.specs.Carriers.{carriers, AreKnown}
use Rattle.inc_expand.specs.Arguments.{argument_values}
use Rattle.inc_expand.specs.Frames.{behind_arguments, IsKnownCall, IsNoted}
use Rattle.inc_expand.specs.Openings.{given_behind, levels_above, opened}

-- what the arguments of a call give that are expanded up to parameter n
abbrev pub arguments_left : Surroundings → Call → Sets → (meter : Meter) (n : ℕ) → Result (List Argument × Meter) ExpandFault
arguments_left s c sets meter n =
    behind_arguments (take n (argument_values sets c.args))
    (expanded_arguments (levels s levels_above) (elements_of c.macro_.now) meter n (drop n (argument_values sets c.args)))

-- the arguments of a call were expanded from one parameter up to another
pub record AreExpanded (s : Surroundings) (old : Work) (before : Call) (from : ℕ) (new : Work) (after : Call) (to : ℕ) : Type 0 where
  -- the sets of before are still there
  pub keeps : Keeps old.sets new.sets
  -- only the arguments of the call changed
  pub others : after ≡ record before { args = after.args }
  -- there are as many
  pub long : length after.args ≡ length before.args
  -- the sets of the call are in the table
  pub known : IsKnownCall (size new.sets) after
  -- no unit came back
  pub spends : new.meter.units ≤ old.meter.units
  -- the result is the same
  pub same : arguments_left s before old.sets old.meter from ≡ arguments_left s after new.sets new.meter to

-- a step of a list that goes on, whose front token does not begin a call that is open
pub record IsOpenStep (s : Surroundings) (token : Carried) (old new : Work) (rest list out_before out : List Carried) : Type 0 where
  -- the sets of before are still there
  pub keeps : Keeps old.sets new.sets
  -- the sets of the new list are in the table
  pub known : AreKnown (size new.sets) list
  -- and so are those of what was given
  pub known_out : AreKnown (size new.sets) out
  -- with the units that are left there is no more to do
  pub smaller : new.meter.units + length list ≤ old.meter.units + length rest
  -- what was given and what is left make the same result
  pub same : (k : ℕ) → given_behind (carriers old.sets out_before) (opened s (levels s levels_above) (suc k) old.meter (carriers old.sets (token ∷ rest)))
      ≡ given_behind (carriers new.sets out) (opened s (levels s levels_above) k new.meter (carriers new.sets list))
