use Rattle.inc_graph.proofs.Walks.{chain-within}
use Rattle.inc_answers.proofs.CutLemmas.{counted_within}
use Rattle.inc_report.proofs.named.smallest.Goals as goal

pub cut_text-requires-clause-chains : goal.cut_text-requires-clause-chains
cut_text-requires-clause-chains c =
    let answer = rw c.in-Cut.is at c.in_ok-answer.ensures.answer in
    counted_within c.args.subject.graph.now c.in-Cut.chains answer.shown.real

pub fixed_text-requires-clause-chain : goal.fixed_text-requires-clause-chain
fixed_text-requires-clause-chain c =
    let fixed = rw c.in-Fixed.is at c.in_ok-answer.ensures.answer in
    rw c.as_slice.ensures (chain-within c.args.subject.graph.now c.in-Fixed.chain.edges fixed.real)
