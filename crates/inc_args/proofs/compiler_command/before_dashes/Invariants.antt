use Rattle.std.proofs.Common.{◌≡◌, ◌+◌, map, length}
use Rattle.std.specs.List.{prefix_len}
use Rattle.std.specs.Prelude.{not}
use Rattle.std.specs.String.{string_bytes}
use Rattle.inc_args.specs.CompilerCommand.{is_dashes}
use Rattle.inc_args.proofs.compiler_command.before_dashes.Given as goal

-- those so far, and those before `--` of the words that are left, are all
abbrev pub invariant-loop-left : goal.invariant-loop-left
invariant-loop-left l = record {
  count : l.count + prefix_len (λ word. not (is_dashes word)) (map string_bytes l.left) ≡ prefix_len (λ word. not (is_dashes word)) (map string_bytes l.fn.words);
  all : l.count + length l.left ≡ length l.fn.words;
}

abbrev pub decreases-loop-left : goal.decreases-loop-left
decreases-loop-left l = length l.left
