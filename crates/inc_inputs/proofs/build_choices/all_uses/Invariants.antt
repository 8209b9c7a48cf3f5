use Rattle.std.proofs.Common.{◌≡◌, [], get_or}
use Rattle.std.specs.List.{range_with_len}
use Rattle.std.specs.Prelude.{flat_map}
use Rattle.inc_inputs.specs.Views.{ground_in}
use Rattle.inc_inputs.proofs.build_choices.all_uses.Given as goal

-- those of the sources so far
abbrev pub invariant-loop-number : goal.invariant-loop-number
invariant-loop-number l = l.uses.items ≡ flat_map (λ n. get_or (ground_in l.ground).build.uses n []) (range_with_len 0 l.number)
