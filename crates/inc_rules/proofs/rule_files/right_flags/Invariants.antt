use Rattle.std.proofs.Common.{◌≡◌, ◌<◌, ℕ, false, length, slice_index_or}
use Rattle.inc_rules.specs.Judging.{is_right_file}
use Rattle.inc_rules.specs.Rules.{Rule}
use Rattle.inc_rules.specs.Sides.{sides_of}
use Rattle.inc_rules.proofs.rule_files.right_flags.Given as goal

-- the flags so far are those of the files before this place
abbrev pub invariant-loop-place : goal.invariant-loop-place
invariant-loop-place l = record {
  same : l.sides ≡ l.fn.sides;
  long : length l.flags.items ≡ l.place;
  each : (r : Rule) → l.fn.sides ≡ sides_of r → (file : ℕ) → file < l.place → slice_index_or l.flags.items file false ≡ is_right_file l.project r file;
}
