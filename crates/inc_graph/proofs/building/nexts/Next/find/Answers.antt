use Rattle.std.proofs.Common.{List, rules, ap, sym, subst}
use Rattle.std.specs.List.Sorted.{IsPartitionedBy}
use Rattle.std.proofs.lemmas.Bool.{ltb-true, ltb-false}
use Rattle.std.proofs.lemmas.List.Sorted.{IsPartitionPoint-from_clause}
use Rattle.inc_lookup.specs.declared.projects.Found.{Found}
use Rattle.inc_graph.specs.Nexts.{Next, is_past}
use Rattle.inc_graph.proofs.HitLemmas.{hit_found, no_hit_found}
use Rattle.inc_graph.proofs.building.nexts.Next.find.Goals as goal

pub returns-in-Some-get : goal.returns-in-Some-get
returns-in-Some-get c =
    let k = c.in-Some.first in
    let hits = c.self.inside.hits.items in
    let parted = subst (λ (l : List Found). IsPartitionedBy (is_past k) l) (sym c.deref.ensures.value) (c.self.invariant k) in
    let point = IsPartitionPoint-from_clause (λ (h : Found). is_past k h) _ _ c.partition_point-past.ensures.partitioned parted (λ a r q k. search rules) in
    hit_found c.args.self.now c.args.next k c.partition_point-past.result hits c.deref.result.now c.deref-2.result.now c.in-Some.is (ap (λ (n : Next). n.hits) c.self.view_is)
    c.deref.ensures.value c.deref-2.ensures.value c.partition_point-past.ensures.bound point c.in-Some-get.hit.now (ltb-true _ _ (sym c.in-Some-get.ensures.lookup.0)) c.in-Some-get.ensures.lookup.1

pub returns-in-None : goal.returns-in-None
returns-in-None c =
    let k = c.in-Some.first in
    let hits = c.self.inside.hits.items in
    let parted = subst (λ (l : List Found). IsPartitionedBy (is_past k) l) (sym c.deref.ensures.value) (c.self.invariant k) in
    let point = IsPartitionPoint-from_clause (λ (h : Found). is_past k h) _ _ c.partition_point-past.ensures.partitioned parted (λ a r q k. search rules) in
    no_hit_found c.args.self.now c.args.next k c.partition_point-past.result hits c.deref.result.now c.deref-2.result.now c.in-Some.is (ap (λ (n : Next). n.hits) c.self.view_is)
    c.deref.ensures.value c.deref-2.ensures.value c.partition_point-past.ensures.bound point (ltb-false _ _ (sym c.in-None.ensures.lookup.0))
