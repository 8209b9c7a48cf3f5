use Rattle.std.proofs.Common.{◌≡◌, take, refl, arith}
use Rattle.std.proofs.lemmas.List.{take_all}
use Rattle.inc_lookup.specs.Projects.{is_bad_file_path}
use Rattle.inc_lookup.proofs.ListingLemmas.{tabled_more, forms_stop}
use Rattle.inc_lookup.proofs.listings.file_paths.Goals as goal

pub loop-index-init : goal.loop-index-init
loop-index-init c = rw c.rising.ensures c.count_rising-count.ensures.tabled

pub returns-then-not-branch-clause-fault : goal.returns-then-not-branch-clause-fault
returns-then-not-branch-clause-fault c = λ known.
    let told = rw c.if-not-branch.true at c.in_ok-add_file.ensures in
    (c.loop-index.index, refl, forms_stop (λ p. p.now) is_bad_file_path c.args.paths.now c.loop-index.index _ _ c.loop-index-test.true c.loop-index.invariant.good told)

pub loop-index-preserved : goal.loop-index-preserved
loop-index-preserved c =
    let told = rw c.if-not-branch.false at c.in_ok-add_file.ensures in
    tabled_more c.args.paths.now c.loop-index.index _ c.loop-index.table.paths c.add_file.new.self.paths c.loop-index.table.same c.add_file.new.self.same told.0 c.loop-index-test.true c.loop-index.invariant told.1
    told.2

pub returns-clause-paths : goal.returns-clause-paths
returns-clause-paths c =
    let all : take c.loop-index.index c.args.paths.now ≡ c.args.paths.now = take_all c.loop-index.index c.args.paths.now (omega (arith, c.loop-index-test.false)) in
    rw all at c.loop-index.invariant
