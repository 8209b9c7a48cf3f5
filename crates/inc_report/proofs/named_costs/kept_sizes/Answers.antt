use Rattle.std.proofs.Common.{List, ℕ, arith, length, rules}
use Rattle.std.specs.Option.{option_map_or}
use Rattle.std.proofs.lemmas.List.FromFn.{map-range_with_len_more}
use Rattle.inc_answers.specs.KeptFiles.{kept_at}
use Rattle.inc_report.proofs.named_costs.kept_sizes.Goals as goal

pub loop-place-preserved : goal.loop-place-preserved
loop-place-preserved c =
    rw (map-range_with_len_more (λ f. option_map_or (λ (bytes : List ℕ). length bytes) (kept_at c.args.files.now f) 0) 0 c.loop-place.place c.loop-place.place (omega arith)) (search rules)
