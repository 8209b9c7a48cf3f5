use Rattle.std.proofs.Common.{◌∙◌, ap, arith, rules, sym}
use Rattle.std.proofs.lemmas.Option.{get_or_from_slice_get}
use Rattle.inc_graph.specs.Cuts.{Counted}
use Rattle.inc_answers.specs.JsonAnswers.{about_of, counted_item, puts}
use Rattle.inc_answers.proofs.CutLemmas.{chain_at, chain_is}
use Rattle.inc_answers.proofs.JsonSteps.{item_at, list_ended}
use Rattle.inc_answers.proofs.json_parts.JsonText.put_counted.Goals as goal

pub loop-place-preserved : goal.loop-place-preserved
loop-place-preserved c =
    let chains = c.args.chains.now in
    let i = c.loop-place.place in
    let x = chain_at chains i (omega (arith, c.loop-place-test.true, c.len-place-end.ensures)) in
    let same = chain_is c.edges.result.now c.count.result x.0 (c.edges.ensures x.0 x.1) (c.count.ensures x.0 x.1) in
    item_at counted_item c.loop-place.self c.put_comma.new.self c.put_counted_chain.new.self _ i x.0 chains (omega (arith, c.loop-place-test.true, c.len-place-end.ensures))
    (sym (get_or_from_slice_get chains i x.0 x.0 x.1)) c.in_ok-put_comma.ensures
    (c.in_ok-put_counted_chain.ensures ∙ ap (λ (k : Counted). puts c.put_comma.new.self (counted_item (about_of c.put_comma.new.self) k)) same) c.loop-place.invariant

pub returns : goal.returns
returns c =
    list_ended counted_item _ c.args.self.now c.put.new.self c.loop-place.self c.put-2.new.self c.loop-place.place c.args.chains.now c.in_ok-put.ensures
    (omega (arith, c.loop-place-test.false, c.len-place-end.ensures)) c.loop-place.invariant c.put-2.ensures
