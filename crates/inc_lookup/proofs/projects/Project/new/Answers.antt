use Rattle.std.proofs.Common.{◌≤◌, length, map, subst, arith}
use Rattle.std.proofs.lemmas.List.{length-map}
use Rattle.std.proofs.lemmas.Result.{err_from_is_err_and}
use Rattle.inc_lookup.specs.Invariants.{IsTabled}
use Rattle.inc_lookup.proofs.ListingLemmas.{fault-file, fault-dir, fault-same, project_made, is_kept}
use Rattle.inc_lookup.proofs.projects.Project.new.Goals as goal
use Rattle.inc_lookup.specs.declared.projects.TheConstants.{MOST_FILES}

pub returns-in_err-table-clause-fault : goal.returns-in_err-table-clause-fault
returns-in_err-table-clause-fault c =
    let few : length (map (λ p. p.now) c.args.paths.now) ≤ MOST_FILES = rw length-map (omega arith) in
    let p = err_from_is_err_and c.from_residual.result c.from_residual.ensures.1 in
    rw (p.1, p.2) (λ known.
    let told = c.in_err-table.ensures.fault known in
    rw told.1 (fault-file (map (λ p. p.now) c.args.paths.now) c.args.quoted (map (λ d. d.now) c.args.dirs.now) told.0 few told.2))

pub returns-in_err-dirs-clause-fault : goal.returns-in_err-dirs-clause-fault
returns-in_err-dirs-clause-fault c =
    let few : length (map (λ p. p.now) c.args.paths.now) ≤ MOST_FILES = rw length-map (omega arith) in
    let p = err_from_is_err_and c.from_residual-in_err-dirs.result c.from_residual-in_err-dirs.ensures.1 in
    rw (p.1, p.2) (λ known.
    let told = c.in_err-dirs.ensures.fault known in
    rw (told.1, ← length-map c.args.paths.now (λ p. p.now))
    (fault-dir (map (λ p. p.now) c.args.paths.now) c.args.quoted (map (λ d. d.now) c.args.dirs.now) told.0 few c.in_ok-table.ensures.paths.good.good told.2))

pub returns-in-Some-clause-fault : goal.returns-in-Some-clause-fault
returns-in-Some-clause-fault c = λ known.
    let few : length (map (λ p. p.now) c.args.paths.now) ≤ MOST_FILES = rw length-map (omega arith) in
    let table = c.in_ok-table.ensures.paths in
    let tabled = subst (IsTabled table.forms c.in_ok-table.table.paths) c.in-Some.is table.tabled in
    fault-same (map (λ p. p.now) c.args.paths.now) c.args.quoted (map (λ d. d.now) c.args.dirs.now) _ _ few table.good c.in_ok-dirs.ensures.paths (c.in-Some.first, c.in-Some.second) tabled

pub invariant_of-result : goal.invariant_of-result
invariant_of-result c =
    let few : length (map (λ p. p.now) c.args.paths.now) ≤ MOST_FILES = rw length-map (omega arith) in
    let table = c.in_ok-table.ensures.paths in
    let tabled = subst (IsTabled table.forms c.in_ok-table.table.paths) c.in_default.is table.tabled in
    let longest = rw tabled.0 at c.longest-longest.ensures in
    rw (tabled.0, c.in_ok-search.ensures, c.deref.ensures.value)
    (is_kept (map (λ p. p.now) c.args.paths.now) c.args.quoted (map (λ d. d.now) c.args.dirs.now) _ _ few table.good c.in_ok-dirs.ensures.paths c.longest-longest.result longest tabled.1)

pub returns-clause-project : goal.returns-clause-project
returns-clause-project c =
    let few : length (map (λ p. p.now) c.args.paths.now) ≤ MOST_FILES = rw length-map (omega arith) in
    let table = c.in_ok-table.ensures.paths in
    let tabled = subst (IsTabled table.forms c.in_ok-table.table.paths) c.in_default.is table.tabled in
    rw (tabled.0, c.in_ok-search.ensures, c.deref.ensures.value)
    (project_made (map (λ p. p.now) c.args.paths.now) c.args.quoted (map (λ d. d.now) c.args.dirs.now) _ _ few table.good c.in_ok-dirs.ensures.paths tabled.1)
