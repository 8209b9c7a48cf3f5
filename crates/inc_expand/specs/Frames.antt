-- The calls that wait for the expansion of an argument, as the definitions see them: each stands for what becomes of that argument's result.
use Rattle.std.specs.Prelude.{◌≡◌, ℕ, suc, ◌+◌, ◌<◌, ◌≤◌, false, List, [], ◌∷◌, ◌++◌, length, take, drop, get_or, Result, Ok, Err, ⊤}
use Rattle.std.proofs.Math.ListN.{set}
use Rattle.inc_macro.specs.Results.{◌>>=◌}
use Rattle.inc_macro.specs.Macros.{Definition}
use Rattle.inc_expand.specs.declared.carried.Carried.{Carried}
use Rattle.inc_expand.specs.declared.faults.ExpandFault.{ExpandFault}
use Rattle.inc_expand.specs.declared.frames.Call.{Call}
use Rattle.inc_expand.specs.declared.frames.Frame.{Frame}
use Rattle.inc_expand.specs.declared.frames.Level.{Level}
use Rattle.inc_expand.specs.declared.rules.Rule.{Rule}
use Rattle.inc_expand.specs.declared.walks.Work.{Work}
use Rattle.inc_expand.specs.Sets.{Sets, size, holds, Keeps}
use Rattle.inc_expand.specs.Elements.{elements_of}
use Rattle.inc_expand.specs.Expansion.{Argument, Carrier, Meter, Names, Surroundings, argument_at, expanded_arguments, intersection, is_expanded_in, levels, rule_in}
use Rattle.inc_expand.specs.Carriers.{carrier, carriers, AreKnown}
use Rattle.inc_expand.specs.Arguments.{ArgumentValue, argument_values, AreKnownIn}
use Rattle.inc_expand.specs.Walks.{behind, replacement}

---- what is left to do gives

-- what arguments give, after those that are expanded
abbrev pub behind_arguments : List Argument → Result (List Argument × Meter) ExpandFault → Result
    (List Argument × Meter) ExpandFault
behind_arguments front r = r >>= λ x. Ok (front ++ x.0, x.1)

-- a call in a list with so many levels above it, whose arguments are expanded up to parameter n
abbrev pub going_on : Surroundings → (deeper : ℕ) → Definition → Carrier → Names → (meter : Meter) (n : ℕ) → List Argument →
    (rest : List Carrier) → Result (List Carrier × Meter) ExpandFault
going_on s deeper d t hidden meter n args rest =
    behind_arguments (take n args) (expanded_arguments (levels s deeper) (elements_of d) meter n (drop n args)) >>= λ x.
    replacement (rule_in s) (levels s (suc deeper)) d x.0 t hidden x.1 rest

-- the names that the name of a call and its `)` hide
abbrev pub hidden_by_call : Sets → Call → Names
hidden_by_call sets c = intersection (holds sets c.name.set) (holds sets c.close.set)

-- a call that was taken from a list, with these arguments
abbrev pub call_with : Surroundings → Sets → (meter : Meter) (n : ℕ) → Call → List Argument → Level → Result
    (List Carrier × Meter) ExpandFault
call_with s sets meter n c args l =
    behind (carriers sets l.out.items)
    (going_on s l.deeper c.macro_.now (carrier sets c.name) (hidden_by_call sets c) meter n args (carriers sets l.list))

abbrev pub call_result : Surroundings → Sets → (meter : Meter) (n : ℕ) → Call → Level → Result (List Carrier × Meter) ExpandFault
call_result s sets meter n c l = call_with s sets meter n c (argument_values sets c.args) l

-- a list
abbrev pub level_result : Surroundings → Sets → Meter → Level → Result (List Carrier × Meter) ExpandFault
level_result s sets meter l = behind (carriers sets l.out.items) (levels s (suc l.deeper) meter (carriers sets l.list))

-- a call that waits, where its argument gives this
abbrev pub resumed : Surroundings → Sets → Frame → Result (List Carrier × Meter) ExpandFault → Result
    (List Carrier × Meter) ExpandFault
resumed s sets f r =
    r >>= λ e.
    call_with s sets e.1 (suc f.at) f.call
    (set (argument_values sets f.call.args) f.at (record (argument_at
    (argument_values sets f.call.args) f.at) { expanded = e.0 })) f.level

-- all calls that wait, the innermost first
abbrev pub unwound : Surroundings → Sets → List Frame → Result (List Carrier × Meter) ExpandFault → Result
    (List Carrier × Meter) ExpandFault
unwound s sets [] r = r
unwound s sets (f ∷ fs) r = unwound s sets fs (resumed s sets f r)

-- all that is left to do
abbrev pub answer : Surroundings → Sets → Meter → List Frame → Level → Result (List Carrier × Meter) ExpandFault
answer s sets meter fs l = unwound s sets fs (level_result s sets meter l)

---- how many steps are left at most

-- for these arguments
abbrev pub steps_of : List ArgumentValue → ℕ
steps_of [] = 0
steps_of (a ∷ as') = suc (length a.written + steps_of as')

-- for these calls that wait
abbrev pub steps_behind : List Frame → ℕ
steps_behind [] = 0
steps_behind (f ∷ fs) = suc (length f.level.list + steps_of (drop (suc f.at) f.call.args)) + steps_behind fs

abbrev pub steps_left : Meter → List Frame → Level → ℕ
steps_left meter fs l = (meter.units + length l.list) + steps_behind fs

---- what holds of calls and lists

-- the sets of all tokens are among the first n
pub record IsKnownCall (n : ℕ) (c : Call) : Type 0 where
  pub name : c.name.set < n
  pub close : c.close.set < n
  pub args : AreKnownIn n c.args

-- there are few arguments, and it is noted which are expanded
pub record IsNoted (c : Call) : Type 0 where
  pub few : length c.args ≤ 256
  pub wanted : (m : ℕ) → m < 256 → get_or c.wanted m false ≡ is_expanded_in (elements_of c.macro_.now) m

pub record IsKnownLevel (n : ℕ) (l : Level) : Type 0 where
  pub list : AreKnown n l.list
  pub out : AreKnown n l.out.items

pub record IsFrame (n : ℕ) (f : Frame) : Type 0 where
  -- the sets of its call are in the table
  pub known : IsKnownCall n f.call
  -- it is noted which of the call's arguments are expanded
  pub noted : IsNoted f.call
  -- the level that it was taken from is known
  pub level : IsKnownLevel n f.level
  -- the parameter at hand is one of the call's
  pub within : f.at < length f.call.args

abbrev pub AreFrames : ℕ → List Frame → Type 0
AreFrames n [] = ⊤
AreFrames n (f ∷ fs) = IsFrame n f × AreFrames n fs

---- what functions do

-- a token before a list
abbrev pub with_front : Carried → Level → Level
with_front t l = record l { list = t ∷ l.list }

-- arguments that expand to themselves are taken for expanded, from one parameter up to another
pub record ArePassedOn (s : Surroundings) (deeper : ℕ) (old : Call) (from : ℕ) (new : Call) (at : ℕ) : Type 0 where
  -- only the arguments of the call changed
  pub others : new ≡ record old { args = new.args }
  -- there are as many
  pub long : length new.args ≡ length old.args
  -- they have the sets that they had
  pub known : (n : ℕ) → AreKnownIn n old.args → AreKnownIn n new.args
  -- the result is the same from the later parameter on
  pub same : (sets : Sets) (meter : Meter) (l : Level) → l.deeper ≡ deeper → call_result s sets meter from old l
      ≡ call_result s sets meter at new l
  -- no more steps are left
  pub fewer : steps_of (drop at new.args) ≤ steps_of (drop from old.args)

-- a call whose arguments are expanded is replaced
pub record IsCallReplaced (rule : Rule) (c : Call) (old new : Work) (rest list : List Carried) : Type 0 where
  -- the sets of before are still there
  pub keeps : Keeps old.sets new.sets
  -- the sets of the new list are in the table
  pub known : AreKnown (size new.sets) list
  -- no unit came back
  pub spends : new.meter.units ≤ old.meter.units
  -- with the units that are left there is no more to do
  pub smaller : new.meter.units + length list ≤ old.meter.units + length rest
  -- what goes on with the replacement goes on with the new list
  pub same : (again : Meter → List Carrier → Result (List Carrier × Meter) ExpandFault) →
      replacement rule again c.macro_.now (argument_values old.sets c.args) (carrier old.sets c.name)
      (hidden_by_call old.sets c) old.meter (carriers old.sets rest)
      ≡ again new.meter (carriers new.sets list)

abbrev pub IsCallRefused : Rule → Call → Work → List Carried → ExpandFault → Type 0
IsCallRefused rule c old rest fault =
    (again : Meter → List Carrier → Result (List Carrier × Meter) ExpandFault) →
    replacement rule again c.macro_.now (argument_values old.sets c.args) (carrier old.sets c.name)
    (hidden_by_call old.sets c) old.meter (carriers old.sets rest)
    ≡ Err fault

-- what is left to do after a call was gone on with
pub record IsGone (s : Surroundings) (old : Work) (fs : List Frame) (c : Call) (from : ℕ) (l : Level) (new : Work)
    (gs : List Frame) (m : Level) : Type 0 where
  pub keeps : Keeps old.sets new.sets
  pub frames : AreFrames (size new.sets) gs
  pub level : IsKnownLevel (size new.sets) m
  pub same : unwound s old.sets fs (call_result s old.sets old.meter from c l) ≡ answer s new.sets new.meter gs m
  pub fewer : steps_left new.meter gs m ≤ ((old.meter.units + length l.list) + steps_of (drop from c.args)) + steps_behind fs

-- what is left to do after a step
pub record IsTurn (s : Surroundings) (old : Work) (fs : List Frame) (l : Level) (new : Work) (gs : List Frame)
    (m : Level) : Type 0 where
  pub keeps : Keeps old.sets new.sets
  pub frames : AreFrames (size new.sets) gs
  pub level : IsKnownLevel (size new.sets) m
  pub same : answer s old.sets old.meter fs l ≡ answer s new.sets new.meter gs m
  pub fewer : steps_left new.meter gs m < steps_left old.meter fs l
