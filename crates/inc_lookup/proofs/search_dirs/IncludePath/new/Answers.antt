use Rattle.std.proofs.Common.{◌≤◌, [], length, map, refl, arith}
use Rattle.std.proofs.lemmas.List.Elements.{All-nil}
use Rattle.std.proofs.lemmas.Result.{err_from_is_err_and}
use Rattle.inc_lookup.specs.Invariants.{IsNormal}
use Rattle.inc_lookup.proofs.ListingLemmas.{fault-dir, project_made}
use Rattle.inc_lookup.proofs.search_dirs.IncludePath.new.Goals as goal

pub returns-in_err-forms-clause-fault : goal.returns-in_err-forms-clause-fault
returns-in_err-forms-clause-fault c =
    let p = err_from_is_err_and c.from_residual.result c.from_residual.ensures.1 in
    rw (p.1, p.2) (λ known.
    let told = c.in_err-forms.ensures.fault known in
    rw told.1 (fault-dir [] c.args.quoted (map (λ d. d.now) c.args.dirs.now) told.0 (omega arith) refl told.2))

pub returns-clause-path : goal.returns-clause-path
returns-clause-path c =
    rw (c.in_ok-path.ensures, c.deref.ensures.value)
    (project_made [] c.args.quoted (map (λ d. d.now) c.args.dirs.now) [] _ (omega arith) (record { good = refl; are = refl; normal = All-nil IsNormal }) c.in_ok-forms.ensures.paths refl)
