use Rattle.std.proofs.Common.{◌∙◌, List, ℕ, ap, arith, length}
use Rattle.std.proofs.lemmas.List.FromFn.{length-map-range_with_len}
use Rattle.inc_answers.specs.CostText.{header_bytes_at}
use Rattle.inc_answers.proofs.cost.rank.Goals as goal

pub dearest-requires : goal.dearest-requires
dearest-requires c =
    let g = c.args.graph.now in
    let long = ap (λ (l : List ℕ). length l) (c.deref-2.ensures.value ∙ c.in_ok-bytes.ensures) in
    let files = length-map-range_with_len (header_bytes_at g c.deref.result.now) 0 g.files in
    let few = c.files-sound.ensures.sound.few in
    omega (arith, long, files, few)
