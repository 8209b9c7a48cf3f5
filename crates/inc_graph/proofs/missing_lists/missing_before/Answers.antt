use Rattle.std.proofs.Common.{ℕ, rules}
use Rattle.std.proofs.lemmas.List.Sorted.{IsPartitionPoint-from_clause}
use Rattle.inc_graph.specs.declared.missing_lists.Missing.{Missing}
use Rattle.inc_graph.specs.IncludeGraph.{is_before}
use Rattle.inc_graph.proofs.MissingPlaces.{parted}
use Rattle.inc_graph.proofs.missing_lists.missing_before.Goals as goal

pub returns-clause-point : goal.returns-clause-point
returns-clause-point c =
    IsPartitionPoint-from_clause (λ (d : Missing ℕ). is_before d c.args.file c.args.line) _ _ c.partition_point.ensures.partitioned (parted c.args.missing.now c.args.file c.args.line c.requires) (λ a r q k. search rules)
