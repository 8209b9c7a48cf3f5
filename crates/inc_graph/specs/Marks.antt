-- Marks, which name directives by the path of their file and their line, and what these directives cost.
use Rattle.std.specs.Prelude.{ℕ, ◌==◌, ◌&&◌, not, Bool, List, nat_lt, length}
use Rattle.std.specs.List.{list_any}
use Rattle.inc_text.specs.Ascii.{line_feed}
use Rattle.inc_graph.specs.Cuts.{most_cost}

pub record Mark : Type 0 where
  pub path : List ℕ
  pub line : ℕ

-- a mark has a path of one or more bytes other than LF, and a line from 1 on
abbrev pub is_mark : Mark → Bool
is_mark m = nat_lt 0 (length m.path) && not (list_any (λ b. b == line_feed) m.path) && nat_lt 0 m.line

-- what the directive of a mark costs
pub record Cost : Type 0 where
  pub mark : Mark
  pub amount : ℕ

-- a cost is from 1 to 1,000,000
abbrev pub is_cost_amount : ℕ → Bool
is_cost_amount n = not (n == 0) && not (nat_lt most_cost n)
