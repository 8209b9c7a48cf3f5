-- An expansion whose tokens are handed on while it goes on.
use Rattle.std.specs.Prelude.{◌≡◌, ℕ, ◌≤◌, Bool, true, ◌&&◌, List, [], ◌∷◌, ◌++◌, Result, Ok, Err, length, map, ⊤}
use Rattle.inc_macro.specs.Results.{◌>>=◌}
use Rattle.inc_expand.specs.declared.carried.Carried.{Carried}
use Rattle.inc_expand.specs.declared.faults.ExpandFault.{ExpandFault}
use Rattle.inc_expand.specs.declared.frames.Frame.{Frame}
use Rattle.inc_expand.specs.declared.frames.Level.{Level}
use Rattle.inc_expand.specs.declared.walks.Work.{Work}
use Rattle.inc_expand.specs.Sets.{Sets}
use Rattle.inc_expand.specs.Carriers.{carriers}
use Rattle.inc_expand.specs.Expansion.{Carrier, Item, Meter, Passes, Surroundings, all_levels, case_of, item_of, levels}
use Rattle.inc_expand.specs.Frames.{answer, IsKnownLevel}
use Rattle.inc_expand.specs.Sinks.{Taken, carried_item, is_none}

-- this token passes alone, whatever is after it
abbrev pub PassesAlone : Surroundings → Carrier → Type 0
PassesAlone s t = (rest : List Carrier) → case_of s t rest ≡ Passes (t ∷ []) rest

abbrev pub PassAlone : Surroundings → List Carrier → Type 0
PassAlone s [] = ⊤
PassAlone s (t ∷ ts) = PassesAlone s t × PassAlone s ts

-- what a list gives, after items that were handed on
abbrev pub handed : List Item → Result (List Carrier × Meter) ExpandFault → Result (List Item × Meter) ExpandFault
handed items r = r >>= λ x. Ok (items ++ map item_of x.0, x.1)

-- some tokens were handed on
pub record AreHanded {S : Type 0} (takes : S → Bool → Item → S → Type 0) (was_first first : Bool) (old new : S) (items : List Item) : Type 0 where
  pub taken : Taken takes was_first old items new
  pub flag : first ≡ (was_first && is_none items)

-- tokens that pass alone were taken from the front of a list and handed on
pub record ArePassed {S : Type 0} (takes : S → Bool → Item → S → Type 0) (s : Surroundings) (was_first first : Bool) (old new : S) (before list : List Carried) : Type 0 where
  -- the tokens that were taken
  pub passed : List Carried
  -- they come first in the list
  pub are : before ≡ passed ++ list
  -- each of them passes alone, whatever the sets
  pub alone : (sets : Sets) → PassAlone s (carriers sets passed)
  -- they were handed on one by one
  pub handed : AreHanded takes was_first first old new (map carried_item passed)

-- of a level that no call waits for, items were handed on
pub record IsHandedOn {S : Type 0} (takes : S → Bool → Item → S → Type 0) (s : Surroundings) (was_first first : Bool) (old new : S) (fs : List Frame) (l m : Level) : Type 0 where
  -- the items
  pub items : List Item
  -- they were handed on one by one
  pub taken : AreHanded takes was_first first old new items
  -- the level is known to the sets that it was known to
  pub known : (n : ℕ) → IsKnownLevel n l → IsKnownLevel n m
  -- its list did not grow
  pub shorter : length m.list ≤ length l.list
  -- where no call waits, all that it gave was handed on
  pub cleared : fs ≡ [] → m.out.items ≡ []
  -- with these items first, what is left gives the same result
  pub same : (sets : Sets) (meter : Meter) (before : List Item) → handed before (answer s sets meter fs l) ≡ handed (before ++ items) (answer s sets meter fs m)

-- the list was expanded, and its items were handed on
pub record IsOver {S : Type 0} (takes : S → Bool → Item → S → Type 0) (s : Surroundings) (before now : Work) (all : List Carried) (old new : S) : Type 0 where
  pub items : List Item
  pub taken : Taken takes true old items new
  pub same : handed [] (levels s all_levels before.meter (carriers before.sets all)) ≡ Ok (items, now.meter)

-- the list has this fault, and some items were handed on before
pub record IsStopped {S : Type 0} (takes : S → Bool → Item → S → Type 0) (s : Surroundings) (before : Work) (all : List Carried) (old new : S) (fault : ExpandFault) : Type 0 where
  pub items : List Item
  pub taken : Taken takes true old items new
  pub same : handed [] (levels s all_levels before.meter (carriers before.sets all)) ≡ Err fault
