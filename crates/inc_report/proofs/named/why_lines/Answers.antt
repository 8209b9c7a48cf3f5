use Rattle.std.proofs.Common.{Bool, Some, subst}
use Rattle.inc_graph.proofs.Walks.{chain-within}
use Rattle.inc_graph.specs.Chains.{IsShortestOrNone}
use Rattle.inc_answers.specs.Told.{chain_found}
use Rattle.inc_answers.proofs.WhyLemmas.{chains-within}
use Rattle.inc_report.proofs.named.why_lines.Goals as goal

pub reached_document-requires-clause-shortest : goal.reached_document-requires-clause-shortest
reached_document-requires-clause-shortest c =
    let shortest : IsShortestOrNone c.args.subject.graph.now (Some c.args.chains.now.chain) =
    subst (λ (b : Bool). IsShortestOrNone c.args.subject.graph.now (chain_found b c.args.chains.now.chain)) c.if-found.true c.requires.shortest in
    chain-within c.args.subject.graph.now c.args.chains.now.chain shortest.real

pub reached_document-requires-clause-chains : goal.reached_document-requires-clause-chains
reached_document-requires-clause-chains c = chains-within c.args.subject.graph.now 0 c.args.chains.now.left c.requires.chains
