use Rattle.std.proofs.Common.{◌∙◌, List, ap, rules, subst, sym}
use Rattle.inc_graph.specs.Reaching.{Reaching}
use Rattle.inc_answers.specs.JsonAnswers.{source_item}
use Rattle.inc_answers.proofs.JsonSteps.{Makes, item_put, list_closed, with_items}
use Rattle.inc_answers.proofs.json_parts.JsonText.put_sources.Goals as goal

pub loop-self-preserved : goal.loop-self-preserved
loop-self-preserved c =
    let item = source_item c.args.all in
    subst (λ (left : List Reaching). Makes item c.put_source.new.self 1 left (with_items item c.put.new.self c.args.reaching.now.left)) (sym c.put_source.ensures.left)
    (item_put item c.loop-self.self c.put_comma.new.self c.put_source.new.self _ c.loop-self.place c.advance.new.self.at c.advance.new.self.left c.in_ok-put_comma.ensures
    c.in_ok-put_source.ensures.source
    (subst (λ (left : List Reaching). Makes item c.loop-self.self c.loop-self.place left (with_items item c.put.new.self c.args.reaching.now.left)) c.loop-self-test.ensures.source c.loop-self.invariant))

pub returns : goal.returns
returns c =
    list_closed (source_item c.args.all) _ c.args.self.now c.put.new.self c.loop-self.self c.put-2.new.self c.loop-self.place c.args.reaching.now.left c.loop-self.reaching.left c.in_ok-put.ensures
    c.loop-self-test.ensures.source c.loop-self.invariant c.put-2.ensures
