-- Paths as the parts that they show: what the code keeps of a normal form while it makes one.
use Rattle.std.specs.Prelude.{◌≡◌, ℕ, ◌==◌, ◌≤◌, ◌&&◌, not, codes, bytes_eq, Bool, true, false, List, [], ◌∷◌, Option, length, drop, take, MatchOption}
use Rattle.std.specs.List.{list_all, list_any, join_with_byte}
use Rattle.inc_text.specs.Ascii.{slash}

-- a component that stays in a normal form: not empty, and without /
abbrev pub is_name : List ℕ → Bool
is_name [] = false
is_name (b ∷ bs) = not (list_any (λ x. x == slash) (b ∷ bs))

-- a component that a normal form keeps: a name that is neither . nor ..
abbrev pub is_kept : List ℕ → Bool
is_kept c = is_name c && not (bytes_eq c (codes ".")) && not (bytes_eq c (codes ".."))

-- after its first `root` bytes the text shows these parts
pub record Shows (root : ℕ) (parts : List (List ℕ)) (text : List ℕ) : Type 0 where
  pub within : root ≤ length text
  pub joined : drop root text ≡ join_with_byte slash parts
  pub names : list_all is_name parts ≡ true

-- `fits` tells whether there are parts, which the new text then shows after the same root
abbrev pub ShowsAfter : ℕ → Option (List (List ℕ)) → List ℕ → Bool → List ℕ → Type 0
ShowsAfter root parts old fits new = MatchOption parts (fits ≡ false) (λ ps. (fits ≡ true) × Shows root ps new × (take root new ≡ take root old))
