use Rattle.std.proofs.Common.{arith, rules}
use Rattle.std.proofs.lemmas.List.FromFn.{map-range_with_len_more}
use Rattle.inc_answers.specs.CostText.{header_bytes_at}
use Rattle.inc_answers.proofs.cost.header_bytes.Goals as goal

pub loop-place-preserved : goal.loop-place-preserved
loop-place-preserved c =
    rw (map-range_with_len_more (header_bytes_at c.args.graph.now c.args.bytes.now) 0 c.loop-place.place c.loop-place.place (omega arith)) (search rules)
