use Rattle.std.proofs.Common.{ap, map}
use Rattle.inc_lookup.specs.Invariants.{IsNormal}
use Rattle.inc_lookup.proofs.ListingLemmas.{parts_all}
use Rattle.inc_lookup.proofs.search_dirs.IncludePath.of_forms.Goals as goal

pub invariant_of-result : goal.invariant_of-result
invariant_of-result c =
    parts_all IsNormal (λ v. v.items) _ c.args.forms.now _ _ _ _ _ c.split_at.ensures.front c.split_at.ensures.back
    (ap (map (λ v. v.items)) c.in_ok-dirs.ensures.items) c.in_ok-add_once.ensures c.in_ok-add_once-2.ensures c.requires
