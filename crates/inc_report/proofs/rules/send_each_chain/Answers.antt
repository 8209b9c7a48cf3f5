use Rattle.std.proofs.Common.{◌∙◌, ◌<◌, List, [], ℕ, ap, arith, codes, length, subst, sym}
use Rattle.std.specs.List.{All}
use Rattle.std.proofs.lemmas.List.{get_or-map, length-map, take_all}
use Rattle.inc_check.specs.Certificates.{marks_of}
use Rattle.inc_answers.specs.MarkTexts.{list_text}
use Rattle.inc_answers.proofs.SendingLemmas.{sends_then}
use Rattle.inc_answers.proofs.WhyLemmas.{flat_map-more}
use Rattle.inc_report.proofs.rules.send_each_chain.Goals as goal

pub send_list-requires-clause-edges : goal.send_list-requires-clause-edges
send_list-requires-clause-edges g c =
    subst (λ (l : List ℕ). All (λ i. i < length c.args.graph.now.edges) l)
    (sym (c.deref.ensures.value ∙ ap (λ v. v.items) c.chain-item.is
    ∙ sym (get_or-map (λ v. v.items) c.args.chains.now c.loop-chain.chain-index c.chain-item.result [] c.loop-chain-test.true)))
    (c.requires.chains c.loop-chain.chain-index [] (omega (arith, c.loop-chain-test.true, length-map c.args.chains.now (λ v. v.items))))

pub loop-chain-preserved : goal.loop-chain-preserved
loop-chain-preserved g c =
    let more = flat_map-more (λ x. list_text (codes "chain") (marks_of c.args.project.now c.args.graph.now x.items)) c.args.chains.now c.loop-chain.chain-index _ c.loop-chain-test.true c.chain-item.is in
    let sent = rw c.deref.ensures.value at c.send_list.ensures.sent in
    rw more (sends_then _ _ _ _ _ c.loop-chain.invariant sent)

pub returns : goal.returns
returns g c = rw (take_all c.loop-chain.chain-index c.args.chains.now c.loop-chain-test.false) at c.loop-chain.invariant
