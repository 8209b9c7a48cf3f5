use Rattle.std.proofs.Common.{List, Some, None, sym, ap, subst, ◌∙◌}
use Rattle.inc_cut.specs.declared.flows.Step.{Step}
use Rattle.inc_cut.specs.Flows.{is_path_by, IsShortestPath}
use Rattle.inc_cut.proofs.LevelSearches.{first_end, first_low, found_path, found_shortest, found_reach}
use Rattle.inc_cut.proofs.searches.answer.Goals as goal

pub path-requires : goal.path-requires
path-requires c =
    let q = c.args.search.now in
    first_low q _ c.in-Some.place (first_end c.args.graph.now q c.headers.result.now c.first_of.result (Some c.in-Some.place) c.headers.ensures.headers c.first_of.ensures c.in-Some.is)

pub returns-in_ok-path-in-Some-clause-found : goal.returns-in_ok-path-in-Some-clause-found
returns-in_ok-path-in-Some-clause-found c = λ test search.
    let q = c.args.search.now in
    let first = first_end c.args.graph.now q c.headers.result.now c.first_of.result (Some c.in-Some.place) c.headers.ensures.headers c.first_of.ensures c.in-Some.is in
    ap (λ (l : List Step). is_path_by c.args.graph.now test l) c.in_ok-path-in-Some.ensures ∙ found_path c.args.graph.now test q search c.in-Some.place first

pub returns-in_ok-path-in-Some-clause-shortest : goal.returns-in_ok-path-in-Some-clause-shortest
returns-in_ok-path-in-Some-clause-shortest c = λ test search.
    let q = c.args.search.now in
    let first = first_end c.args.graph.now q c.headers.result.now c.first_of.result (Some c.in-Some.place) c.headers.ensures.headers c.first_of.ensures c.in-Some.is in
    subst (λ (l : List Step). IsShortestPath c.args.graph.now test l) (sym c.in_ok-path-in-Some.ensures) (found_shortest c.args.graph.now test q search c.in-Some.place first)

pub returns-in_ok-reached-in-None-clause-found : goal.returns-in_ok-reached-in-None-clause-found
returns-in_ok-reached-in-None-clause-found c = λ test search.
    let q = c.args.search.now in
    let none = first_end c.args.graph.now q c.headers.result.now c.first_of.result None c.headers.ensures.headers c.first_of.ensures c.in-None.is in
    found_reach c.args.graph.now test q search _ c.in_ok-reached-in-None.ensures none
