use Rattle.std.proofs.Common.{rules, ◌∙◌, ◌≡◌, ◌-◌, ℕ, length, ap, take, drop, List}
use Rattle.std.specs.Prelude.{◌==◌, nat_lt}
use Rattle.std.specs.List.{list_any}
use Rattle.std.proofs.lemmas.List.{take_rest}
use Rattle.std.proofs.lemmas.List.Sorted.{IsPartitionPoint-from_clause}
use Rattle.inc_lookup.specs.declared.projects.DirectiveId.{DirectiveId}
use Rattle.inc_lookup.specs.DirectiveLists.{is_listed}
use Rattle.inc_lookup.proofs.SortedDirectives.{lines_listed, parted_at, parted_below}
use Rattle.inc_lookup.proofs.directive_sets.DirectiveSet.lines_in.Goals as goal

pub returns : goal.returns
returns c = λ line.
    let ids = c.self.inside.listed.now in
    let sorted = c.self.inside.sorted.items in
    let file = c.args.file in
    let from = c.partition_point-from.result in
    let count = c.partition_point-count.result in
    let h = c.self.invariant in
    let searched = IsPartitionPoint-from_clause (λ (d : DirectiveId). nat_lt d.file file) c.deref.result.now from c.partition_point-from.ensures.partitioned (rw c.deref.ensures.value (parted_below ids sorted h file)) (λ a r q k. search rules) in
    let begun = rw c.deref.ensures.value at searched in
    let low = rw c.deref.ensures.value at c.partition_point-from.ensures.bound in
    let rest = take (length c.deref-2.result.now - from) (drop from c.deref-2.result.now) in
    let are : rest ≡ drop from sorted = rw c.deref-2.ensures.value (take_rest sorted from) in
    let ended = IsPartitionPoint-from_clause (λ (d : DirectiveId). d.file == file) rest count c.partition_point-count.ensures.partitioned (parted_at ids sorted h file from count rest low begun are) (λ a r q k. search rules) in
    ap (λ (ns : List ℕ). list_any (λ k. k == line) ns) c.in_ok-lines.ensures
    ∙ lines_listed ids sorted h file from count rest low begun are ended line c.partition_point-count.ensures.bound
    ∙ ap (λ ds. is_listed ds file line) c.self.view_is
