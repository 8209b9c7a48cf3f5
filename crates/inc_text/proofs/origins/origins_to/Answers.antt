use Rattle.std.proofs.Common.{leb, rules}
use Rattle.std.proofs.lemmas.List.Sorted.{IsPartitionPoint-from_clause, IsPartitionedBy-leb}
use Rattle.inc_text.specs.declared.origins.Origin.{Origin}
use Rattle.inc_text.proofs.CursorLemmas.{passed_from}
use Rattle.inc_text.proofs.origins.origins_to.Goals as goal

pub returns : goal.returns
returns c =
    let parted = IsPartitionedBy-leb (λ (m : Origin). m.at) _ c.args.place c.requires in
    let point = IsPartitionPoint-from_clause (λ (m : Origin). leb m.at c.args.place) _ _ c.partition_point.ensures.partitioned parted (λ a r q k. search rules) in
    passed_from (λ (m : Origin). m.at) c.args.place _ _ c.partition_point.ensures.bound point
