use Rattle.std.proofs.Common.{ltb, rules}
use Rattle.std.proofs.lemmas.Bool.{ltb-true, ltb-false}
use Rattle.std.proofs.lemmas.List.Sorted.{IsPartitionPoint-from_clause, IsPartitionedBy-ltb}
use Rattle.inc_answers.specs.declared.directive_names.NamedLine.{NamedLine}
use Rattle.inc_answers.proofs.directive_names.lines_before.Goals as goal

pub returns-clause-point : goal.returns-clause-point
returns-clause-point c =
    let parted = IsPartitionedBy-ltb (λ (n : NamedLine). n.line) _ c.args.line c.requires in
    let point = IsPartitionPoint-from_clause (λ (n : NamedLine). ltb n.line c.args.line) _ _ c.partition_point.ensures.partitioned parted (λ a r q k. search rules) in
    (λ i d low high. ltb-true _ _ (point.0 i d low high), λ i d low high. ltb-false _ _ (point.1 i d low high))
