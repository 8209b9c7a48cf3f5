use Rattle.std.proofs.Common.{ℕ, add-one, arith, sym, subst}
use Rattle.std.proofs.lemmas.Result.{err_from_is_err_and}
use Rattle.inc_graph.specs.ClosureSearch.{AreGivenSearched}
use Rattle.inc_graph.specs.ReadFiles.{read_fault_of}
use Rattle.inc_graph.proofs.GivenSearch.{given_first, given_last, if_some, search_of, search_within}
use Rattle.inc_graph.proofs.building.closures.read_closure.Goals as goal

pub loop-path-init : goal.loop-path-init
loop-path-init g c =
    given_first g.S.Sources.gives c.args.setting.now c.args.project.now c.args.from.now c.args.headers.now c.args.sources.now c.count.result c.in_ok-known.known.states c.in_ok-known.known.directs
    c.count.ensures.count c.in_ok-known.ensures.states (λ several. c.in_ok-known.ensures.directs (omega (arith, several, c.len.ensures, c.in_ok-lists.ensures.long, c.path_count.ensures)))

pub search_path-requires-clause-from : goal.search_path-requires-clause-from
search_path-requires-clause-from g c =
    search_within c.args.setting.now c.args.project.now c.args.from.now c.loop-path.path c.lookup.result c.deref.result.now
    (search_of (λ v. v.items) c.args.setting.now c.args.project.now c.args.from.now c.in_ok-lists.lists.items c.loop-path.path c.lookup.result c.index.result.now c.deref.result.now (omega (arith, c.loop-path-test.true, c.len-path-end.ensures)) (omega (arith, c.in_ok-lists.ensures.long, c.path_count.ensures)) c.lookup.ensures c.index.ensures c.deref.ensures.value (c.in_ok-lists.ensures.lists c.loop-path.path (omega (arith, c.loop-path-test.true, c.len-path-end.ensures, c.in_ok-lists.ensures.long)))) c.requires.from

pub search_path-requires-clause-before : goal.search_path-requires-clause-before
search_path-requires-clause-before g c = record {
  first = c.args.sources.now;
  layout = c.args.project.now;
  sources = c.args.from.now;
  path = c.loop-path.path;
  is = search_of (λ v. v.items) c.args.setting.now c.args.project.now c.args.from.now c.in_ok-lists.lists.items c.loop-path.path c.lookup.result c.index.result.now c.deref.result.now (omega (arith, c.loop-path-test.true, c.len-path-end.ensures)) (omega (arith, c.in_ok-lists.ensures.long, c.path_count.ensures)) c.lookup.ensures c.index.ensures c.deref.ensures.value (c.in_ok-lists.ensures.lists c.loop-path.path (omega (arith, c.loop-path-test.true, c.len-path-end.ensures, c.in_ok-lists.ensures.long)));
  searched = c.loop-path.invariant;
}

pub returns-in_err-search_path-clause-unread : goal.returns-in_err-search_path-clause-unread
returns-in_err-search_path-clause-unread g c =
    let p = err_from_is_err_and c.from_residual-in_err-search_path.result c.from_residual-in_err-search_path.ensures.1 in
    rw (p.1, p.2)
    (if_some (read_fault_of c.in_err-search_path.field-0.0) _ _ (λ x fails. fails c.args.sources.now c.args.project.now c.args.from.now c.loop-path.path
    (search_of (λ v. v.items) c.args.setting.now c.args.project.now c.args.from.now c.in_ok-lists.lists.items c.loop-path.path c.lookup.result c.index.result.now c.deref.result.now (omega (arith, c.loop-path-test.true, c.len-path-end.ensures)) (omega (arith, c.in_ok-lists.ensures.long, c.path_count.ensures)) c.lookup.ensures c.index.ensures c.deref.ensures.value (c.in_ok-lists.ensures.lists c.loop-path.path (omega (arith, c.loop-path-test.true, c.len-path-end.ensures, c.in_ok-lists.ensures.long)))) c.loop-path.invariant) c.in_err-search_path.ensures.unread)

pub loop-path-preserved : goal.loop-path-preserved
loop-path-preserved g c =
    subst (λ (n : ℕ). AreGivenSearched g.S.Sources.gives c.args.sources.now c.search_path.new.sources c.args.setting.now c.args.project.now c.args.from.now c.args.headers.now n c.search_path.new.known.states c.search_path.new.known.directs)
    (sym (add-one c.loop-path.path))
    (c.in_ok-search_path.ensures.searched c.args.sources.now c.args.project.now c.args.from.now c.loop-path.path
    (search_of (λ v. v.items) c.args.setting.now c.args.project.now c.args.from.now c.in_ok-lists.lists.items c.loop-path.path c.lookup.result c.index.result.now c.deref.result.now (omega (arith, c.loop-path-test.true, c.len-path-end.ensures)) (omega (arith, c.in_ok-lists.ensures.long, c.path_count.ensures)) c.lookup.ensures c.index.ensures c.deref.ensures.value (c.in_ok-lists.ensures.lists c.loop-path.path (omega (arith, c.loop-path-test.true, c.len-path-end.ensures, c.in_ok-lists.ensures.long)))) c.loop-path.invariant)

pub returns-clause-states : goal.returns-clause-states
returns-clause-states g c =
    given_last g.S.Sources.gives c.args.setting.now c.args.project.now c.args.from.now c.args.headers.now c.args.sources.now c.loop-path.sources c.loop-path.path c.loop-path.known.states c.loop-path.known.directs
    (λ k d low. let within = c.requires.paths k d low in omega (arith, within, c.loop-path-test.false, c.len-path-end.ensures, c.in_ok-lists.ensures.long, c.path_count.ensures)) c.loop-path.invariant
