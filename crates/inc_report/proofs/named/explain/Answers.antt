use Rattle.std.proofs.Common.{subst, sym}
use Rattle.inc_graph.specs.Chains.{AreChainsByLast, IsShortestOrNone}
use Rattle.inc_graph.specs.IncludeGraph.{Graph}
use Rattle.inc_answers.specs.Told.{Chains, chain_found}
use Rattle.inc_report.proofs.NamedLemmas.{printed_same}
use Rattle.inc_report.proofs.named.explain.Goals as goal

pub why_text-requires-clause-shortest : goal.why_text-requires-clause-shortest
why_text-requires-clause-shortest c =
    subst (λ (h : Graph). IsShortestOrNone h (chain_found c.find_shortest-found.result c.find_shortest-found.new.self.chain)) c.in_ok-chains.ensures.graph c.find_shortest-found.ensures.chain

pub why_text-requires-clause-chains : goal.why_text-requires-clause-chains
why_text-requires-clause-chains c =
    subst (AreChainsByLast c.args.subject.graph.now 0) (sym c.find_shortest-found.ensures.left) c.in_ok-chains.ensures.all

pub returns : goal.returns
returns c =
    let chains = c.find_shortest-found.new.self in (
      Chains (chain_found c.find_shortest-found.result chains.chain) chains.left,
      (
        subst (λ (h : Graph). IsShortestOrNone h (chain_found c.find_shortest-found.result chains.chain)) c.in_ok-chains.ensures.graph c.find_shortest-found.ensures.chain,
        subst (AreChainsByLast c.args.subject.graph.now 0) (sym c.find_shortest-found.ensures.left) c.in_ok-chains.ensures.all,
      ),
      printed_same _ _ _ _ _ _ c.in_ok-why_text.ensures (c.in_ok-notes.ensures chains.chain) (c.kind_if.ensures chains.chain),
    )
