-- Sets of numbers as shared nodes: number 0 is the empty set, 1 is the set of 0 alone, and the node at place i of the table has number i + 2.
use Rattle.std.specs.Prelude.{◌≡◌, ℕ, zero, suc, ◌+◌, ◌-◌, ◌^◌, ◌<◌, ◌≤◌, Bool, true, ◌&&◌, if◌then◌else◌, nat_lt, nat_eq, List, length, slice_get, Option, None, Some}
use Rattle.inc_expand.specs.declared.shared_sets.Node.{Node}

abbrev pub node_at : List Node → ℕ → Option Node
node_at nodes n = if nat_lt n 2 then None else slice_get nodes (n - 2)

abbrev pub left_of : ℕ → ℕ → Option Node → ℕ
left_of d n None = n
left_of d n (Some x) = if nat_eq x.level d then x.left else n

abbrev pub right_of : ℕ → Option Node → ℕ
right_of d None = 0
right_of d (Some x) = if nat_eq x.level d then x.right else 0

-- the numbers of a set that are below 2 ^ d, and those from there on, less 2 ^ d
abbrev pub left_half : List Node → ℕ → ℕ → ℕ
left_half nodes d n = left_of d n (node_at nodes n)

abbrev pub right_half : List Node → ℕ → ℕ → ℕ
right_half nodes d n = right_of d (node_at nodes n)

-- whether the set with number n, read to depth d, has k
abbrev pub has : List Node → ℕ → ℕ → ℕ → Bool
has nodes zero n k = nat_lt 0 n && nat_eq k 0
has nodes (suc d) n k =
    if nat_lt k (2 ^ d) then has nodes d (left_half nodes d n) k else has nodes d (right_half nodes d n) (k - 2 ^ d)

abbrev pub depth_of : Option Node → ℕ
depth_of None = 0
depth_of (Some x) = suc x.level

-- n is the number of a set whose numbers are below 2 ^ d
pub record IsSet (nodes : List Node) (d n : ℕ) : Type 0 where
  pub known : n < length nodes + 2
  pub depth : depth_of (node_at nodes n) ≤ d

pub record IsNode (nodes : List Node) (x : Node) : Type 0 where
  -- its left half is a set of numbers below its middle
  pub left : IsSet nodes x.level x.left
  -- and so is its right half, less the middle
  pub right : IsSet nodes x.level x.right
  -- the right half is not empty, else the left one would do
  pub filled : 0 < x.right
  -- a number has 32 bits
  pub shallow : x.level < 32

pub record IsTable (nodes : List Node) : Type 0 where
  pub distinct : (i j : ℕ) (x : Node) → slice_get nodes i ≡ Some x → slice_get nodes j ≡ Some x → i ≡ j
  pub each : (i : ℕ) (x : Node) → slice_get nodes i ≡ Some x → IsNode nodes x

-- each number keeps its set
pub record Grows (old new : List Node) : Type 0 where
  pub table : IsTable new
  pub more : length old ≤ length new
  pub same : (n : ℕ) → n < length old + 2 → node_at new n ≡ node_at old n

-- n is the set of the two halves
pub record IsPair (nodes : List Node) (d l r n : ℕ) : Type 0 where
  pub set : IsSet nodes (suc d) n
  pub left : left_half nodes d n ≡ l
  pub right : right_half nodes d n ≡ r

-- whether a set of the two halves has k
abbrev pub has_in : List Node → ℕ → ℕ → ℕ → ℕ → Bool
has_in nodes d l r k = if nat_lt k (2 ^ d) then has nodes d l k else has nodes d r (k - 2 ^ d)

-- the set n has the numbers that pass the test
pub record Gives (test : ℕ → Bool) (nodes : List Node) (d n : ℕ) : Type 0 where
  pub set : IsSet nodes d n
  pub members : (k : ℕ) → has nodes d n k ≡ test k

-- each set of the table has numbers below top alone
abbrev pub AllBelow : ℕ → List Node → Type 0
AllBelow top nodes = (d n k : ℕ) → IsSet nodes d n → has nodes d n k ≡ true → k < top
