use Rattle.std.proofs.Common.{◌≡◌, ◌<◌, ◌++◌, [], Some, None, length, drop, ap, subst, ◌∙◌, arith, rules}
use Rattle.std.proofs.lemmas.List.{append-nil, drop_all}
use Rattle.inc_graph.specs.Search.{path_to}
use Rattle.inc_graph.specs.ChainLists.{ChainList}
use Rattle.inc_graph.specs.Chains.{IsShortestOrNone}
use Rattle.inc_graph.proofs.ListedChains.{shortest_at, first_below, first_end}
use Rattle.inc_graph.proofs.chains.by_last.ShortestChains.find_shortest.Goals as goal

pub trace-self-inside-requires-clause-place : goal.trace-self-inside-requires-clause-place
trace-self-inside-requires-clause-place c = first_below c.self.inside.search _ (Some c.in-Some.place) (first_end c.self.inside.graph.now c.self.inside.search c.headers.result.now c.first_of.result (Some c.in-Some.place) c.headers.ensures.headers c.first_of.ensures c.in-Some.is)

pub trace-self-inside-requires-clause-room : goal.trace-self-inside-requires-clause-room
trace-self-inside-requires-clause-room c =
    let below : c.in-Some.place < length c.self.inside.search.visits = first_below c.self.inside.search _ (Some c.in-Some.place) (first_end c.self.inside.graph.now c.self.inside.search c.headers.result.now c.first_of.result (Some c.in-Some.place) c.headers.ensures.headers c.first_of.ensures c.in-Some.is) in
    let long = c.self.invariant.1 in
    let end : length c.self.inside.edges.items ≡ c.len-end.result = search rules in
    omega arith

pub returns-in-Some-clause-chain : goal.returns-in-Some-clause-chain
returns-in-Some-clause-chain c =
    let s = c.self.inside.search in
    let end : drop c.len-end.result c.self.inside.edges.items ≡ [] = drop_all c.len-end.result c.self.inside.edges.items (rw c.len-end.ensures (omega arith)) in
    let made : drop c.trace-self-inside.result c.trace-self-inside.new.steps.items ≡ path_to s.visits c.in-Some.place =
    c.trace-self-inside.ensures.path ∙ ap (λ l. path_to s.visits c.in-Some.place ++ l) end ∙ append-nil _ in
    rw (← c.self.view_is, made) (shortest_at c.self.inside.graph.now s c.self.invariant.0 (Some c.in-Some.place) (first_end c.self.inside.graph.now c.self.inside.search c.headers.result.now c.first_of.result (Some c.in-Some.place) c.headers.ensures.headers c.first_of.ensures c.in-Some.is))

pub returns-in-None-clause-chain : goal.returns-in-None-clause-chain
returns-in-None-clause-chain c =
    let s = c.self.inside.search in
    let at = first_end c.self.inside.graph.now s c.headers.result.now c.first_of.result None c.headers.ensures.headers c.first_of.ensures c.in-None.is in
    let none = shortest_at c.self.inside.graph.now s c.self.invariant.0 None at in
    subst (λ (v : ChainList). IsShortestOrNone v.graph None) c.self.view_is none
