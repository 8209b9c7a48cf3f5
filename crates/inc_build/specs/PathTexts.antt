-- Paths as the parts that they show: what the code keeps while it makes a normal form.
use Rattle.std.specs.Prelude.{◌≡◌, ℕ, ◌==◌, not, Bool, true, List}
use Rattle.std.specs.List.{list_all, list_any}
use Rattle.inc_text.specs.Ascii.{slash}
use Rattle.inc_build.specs.Paths.{joined}

-- without /
abbrev pub is_part : List ℕ → Bool
is_part c = not (list_any (λ x. x == slash) c)

pub record Shows (parts : List (List ℕ)) (text : List ℕ) : Type 0 where
  pub is_joined : text ≡ joined parts
  pub are_parts : list_all is_part parts ≡ true
