use Rattle.std.proofs.Common.{◌≡◌, ◌∙◌, ◌<◌, List, ℕ, length, rules, subst, sym, true}
use Rattle.std.specs.List.{All}
use Rattle.std.specs.List.Sorted.{IsStrictlyIncreasing}
use Rattle.std.specs.Bool.{OnTrue}
use Rattle.std.specs.Prelude.{IsTrue}
use Rattle.std.proofs.lemmas.List.{nil_from_length}
use Rattle.inc_graph.specs.Between.{between}
use Rattle.inc_graph.specs.Chains.{is_chain}
use Rattle.inc_graph.specs.IncludeGraph.{Graph}
use Rattle.inc_graph.specs.declared.chains.Chain.{Chain}
use Rattle.inc_answers.specs.CostGroups.{part_to}
use Rattle.inc_answers.proofs.CostGroupLemmas.{chain_found, no_chain, none_found, open_rise, open_within, part_ends}
use Rattle.inc_answers.proofs.cost_groups.is_open.Goals as goal

pub returns-then-is_empty-clause-none : goal.returns-then-is_empty-clause-none
returns-then-is_empty-clause-none c same way =
    let g = c.args.graph.now in
    let headers = c.args.headers.now in
    let long : length c.in_ok-open.open.items ≡ 0 = search rules in
    let empty = nil_from_length c.in_ok-open.open.items long in
    no_chain g.sources (part_to g headers) way.0 (subst (λ (fs : List ℕ). is_chain (between g.sources fs (part_to g headers)) way.0 ≡ true) (sym c.in_ok-open.ensures.files ∙ empty) way.1)

pub between-requires : goal.between-requires
between-requires c =
    let g = c.args.graph.now in
    let headers = c.args.headers.now in
    let some : 0 < length c.in_ok-open.open.items = search rules in
    let within = subst (λ (fs : List ℕ). All (λ f. f < g.files) fs) (sym c.in_ok-open.ensures.files) (open_within g headers) in
    let rise = subst (λ (fs : List ℕ). IsStrictlyIncreasing fs) (sym c.in_ok-open.ensures.files) (open_rise g headers) in
    rw (c.requires.part, c.sources.ensures.sources, c.deref.ensures.value) (part_ends g c.in_ok-open.open.items c.files-sound.ensures.sound within rise some)

pub returns-clause-chain : goal.returns-clause-chain
returns-clause-chain c =
    let whole = c.in_ok-ways.ensures.graph in
    let there = rw (c.requires.part, c.sources.ensures.sources, c.deref.ensures.value, c.in_ok-open.ensures.files) at whole in
    subst (λ (h : Graph). OnTrue c.is_some.result ((chain : List ℕ) × IsTrue (is_chain h chain))) there
    (chain_found c.in_ok-ways.ways.graph c.in_ok-shortest.field-0 (λ (x : Chain). x.edges) c.is_some.result c.is_some.ensures c.in_ok-shortest.ensures)

pub returns-clause-none : goal.returns-clause-none
returns-clause-none c missed =
    let whole = c.in_ok-ways.ensures.graph in
    let there = rw (c.requires.part, c.sources.ensures.sources, c.deref.ensures.value, c.in_ok-open.ensures.files) at whole in
    subst (λ (h : Graph). ((chain : List ℕ) × IsTrue (is_chain h chain)) → ⊥) there
    (none_found c.in_ok-ways.ways.graph c.in_ok-shortest.field-0 (λ (x : Chain). x.edges) c.is_some.result c.is_some.ensures c.in_ok-shortest.ensures missed)
