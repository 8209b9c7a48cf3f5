use Rattle.std.proofs.Common.{ap, sym, ◌∙◌}
use Rattle.std.specs.Prelude.{◌==◌}
use Rattle.std.proofs.lemmas.List.Sorted.{IsNonDecreasingBy-from_sort, list_any-IsPermutation}
use Rattle.inc_directive.specs.Removal.{is_among}
use Rattle.inc_directive.proofs.file_lines.sorted.Goals as goal

pub returns-clause-same : goal.returns-clause-same
returns-clause-same c = λ n.
    sym (list_any-IsPermutation (λ k. k == n) c.in_ok-sorted.sorted.items c.sort_unstable.new.self.items c.sort_unstable.ensures.permutation) ∙ ap (λ ns. is_among ns n) c.in_ok-sorted.ensures.items

pub returns-clause-rising : goal.returns-clause-rising
returns-clause-rising c = IsNonDecreasingBy-from_sort (λ n. n) c.sort_unstable.new.self.items c.sort_unstable.ensures.sorted
