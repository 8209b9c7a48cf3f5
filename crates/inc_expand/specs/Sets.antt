-- What a table of sets stands for.
use Rattle.std.specs.Prelude.{◌≡◌, ℕ, suc, ◌+◌, ◌-◌, ◌*◌, ◌/◌, ◌^◌, ◌<◌, ◌≤◌, Bool, ◌&&◌, ◌||◌, if◌then◌else◌, nat_lt, nat_eq, List, [], ◌∷◌, ◌++◌, length, map, get_or, bytes_eq}
use Rattle.std.specs.Int.{bit_at}
use Rattle.std.specs.List.{All, position_or_len}
use Rattle.inc_expand.specs.declared.name_keys.Name.{Name}
use Rattle.inc_expand.specs.declared.shared_sets.Node.{Node}
use Rattle.inc_expand.specs.declared.hide_sets.Hint.{Hint}
use Rattle.inc_expand.specs.declared.hide_sets.Join.{Join}
use Rattle.inc_expand.specs.Nodes.{has, AllBelow, Gives, IsSet, IsTable}

-- the names that were seen, in the order of their numbers, and the nodes of the sets
pub record Sets : Type 0 where
  pub names : List (List ℕ)
  pub nodes : List Node

-- each set is read from here; a name of its own, since it computes to 2 ^ 32 cases where it is opened
unfoldable pub full_depth : ℕ
full_depth = 32

-- a name's number: the place where it was first seen, or past all
abbrev pub number_of : List (List ℕ) → List ℕ → ℕ
number_of names name = position_or_len (λ n. bytes_eq name n) names

-- a number is that of a name
abbrev pub IsNumber : List (List ℕ) → ℕ → List ℕ → Type 0
IsNumber names number name = (number < length names) × (number_of names name ≡ number)

-- each name has its own number
abbrev pub HaveOwn : List (List ℕ) → Type 0
HaveOwn names = (k : ℕ) → k < length names → number_of names (get_or names k []) ≡ k

-- the bytes of names
abbrev pub names_in : List Name → List (List ℕ)
names_in ns = map (λ n. n.bytes.now) ns

-- the names after one is seen
abbrev pub names_after : List (List ℕ) → List ℕ → List (List ℕ)
names_after names name = if nat_lt (number_of names name) (length names) then names else names ++ name ∷ []

-- whether a set has the name with a number: the first 32 names are bits of the set, and its bits from there on are the node of the others
abbrev pub in_set : List Node → ℕ → ℕ → Bool
in_set nodes set k = if nat_lt k 32 then nat_eq (bit_at set k) 1 else has nodes full_depth (set / 4294967296) (k - 32)

-- the set that a number stands for: whether it has a name
abbrev pub holds : Sets → ℕ → List ℕ → Bool
holds s set name = nat_lt (number_of s.names name) (length s.names) && in_set s.nodes set (number_of s.names name)

-- the numbers below it stand for sets
abbrev pub size : Sets → ℕ
size s = if nat_lt 32 (length s.names) then (length s.nodes + 2) * 4294967296 else 2 ^ length s.names

-- what came of one number more in a set
pub record IsHint (nodes : List Node) (h : Hint) : Type 0 where
  pub first : IsSet nodes full_depth h.set
  pub gives : Gives (λ k. has nodes full_depth h.set k || nat_eq k h.number) nodes full_depth h.all

-- each of so many hints is right
abbrev pub HaveHints : List Node → List Hint → Type 0
HaveHints nodes hs = (length hs ≡ 32) × All (IsHint nodes) hs

-- what came of joining two sets
pub record IsJoin (nodes : List Node) (j : Join) : Type 0 where
  pub first : IsSet nodes full_depth j.a
  pub second : IsSet nodes full_depth j.b
  pub gives : Gives (λ k. has nodes full_depth j.a k || has nodes full_depth j.b k) nodes full_depth j.all

-- what is true of each table
pub record IsSound (s : Sets) : Type 0 where
  -- the nodes are those of a table of sets
  pub table : IsTable s.nodes
  -- each number in a set is that of a name
  pub below : AllBelow (suc (length s.names - 33)) s.nodes
  -- each name has its own number
  pub own : HaveOwn s.names
  -- a number has 32 bits
  pub few : length s.names < 2 ^ 32

-- each number that was for a set stands for it still
pub record Keeps (old new : Sets) : Type 0 where
  pub more : size old ≤ size new
  pub same : (set : ℕ) → set < size old → (name : List ℕ) → holds new set name ≡ holds old set name
