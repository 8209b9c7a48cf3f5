use Rattle.std.proofs.Common.{ℕ, leb, rules}
use Rattle.std.proofs.lemmas.List.Sorted.{IsPartitionPoint-from_clause, IsPartitionedBy-leb}
use Rattle.inc_text.proofs.CursorLemmas.{passed_from}
use Rattle.inc_text.proofs.origins.splices_to.Goals as goal

pub returns : goal.returns
returns c =
    let parted = IsPartitionedBy-leb (λ (s : ℕ). s) _ c.args.place c.requires in
    let point = IsPartitionPoint-from_clause (λ (s : ℕ). leb s c.args.place) _ _ c.partition_point.ensures.partitioned parted (λ a r q k. search rules) in
    passed_from (λ (s : ℕ). s) c.args.place _ _ c.partition_point.ensures.bound point
