use Rattle.std.proofs.Common.{rules, subst, List}
use Rattle.std.specs.List.Sorted.{IsPermutation}
use Rattle.std.specs.Ordering.{is_lt}
use Rattle.std.proofs.lemmas.Fn.{always_returns_same}
use Rattle.std.proofs.lemmas.List.Sorted.{ranks_by}
use Rattle.inc_lookup.specs.declared.projects.DirectiveId.{DirectiveId}
use Rattle.inc_lookup.specs.DirectiveLists.{place_cmp}
use Rattle.inc_lookup.proofs.SortedDirectives.{place_total}
use Rattle.inc_lookup.proofs.directive_sets.sorted.Goals as goal

pub returns : goal.returns
returns c = record {
  same = subst (λ (ids : List DirectiveId). IsPermutation ids c.sort_unstable_by.new.self.items) c.in_ok-sorted.ensures.items c.sort_unstable_by.ensures.permutation;
  rising = c.sort_unstable_by.ensures.sorted (λ a b. is_lt (place_cmp a b)) (ranks_by place_total (λ (d : DirectiveId). d)) (always_returns_same _ _ _ (λ a r g h. (search rules, search rules)));
}
