use Rattle.std.proofs.Common.{◌≤◌, ◌-◌, length, map, take}
use Rattle.inc_token.specs.Views.{seen}
use Rattle.inc_expand.specs.Cases.{surroundings_value}
use Rattle.inc_expand.specs.Expansion.{of_source}
use Rattle.inc_expand.specs.Streams.{PassAlone}
use Rattle.inc_expand.proofs.cases.Surroundings.ordinary_count.Given as goal

abbrev pub invariant-loop-count : goal.invariant-loop-count
invariant-loop-count l = PassAlone (surroundings_value l.self) (map of_source (map seen (take l.count l.tokens))) × (l.count ≤ length l.tokens)

abbrev pub decreases-loop-count : goal.decreases-loop-count
decreases-loop-count l = length l.tokens - l.count
