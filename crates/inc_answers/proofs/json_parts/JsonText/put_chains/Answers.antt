use Rattle.std.proofs.Common.{◌∙◌, List, ℕ, ap, rules, subst}
use Rattle.inc_answers.specs.JsonAnswers.{JsonOut, about_of, edges_text, puts}
use Rattle.inc_answers.proofs.JsonSteps.{Makes, item_put, list_closed, with_items}
use Rattle.inc_answers.proofs.json_parts.JsonText.put_chains.Goals as goal

pub loop-self-preserved : goal.loop-self-preserved
loop-self-preserved c =
    item_put edges_text c.loop-self.self c.put_comma.new.self c.put_edges.new.self _ c.loop-self.place c.advance.new.self.chain c.advance.new.self.left c.in_ok-put_comma.ensures
    (c.in_ok-put_edges.ensures ∙ ap (λ (chain : List ℕ). puts c.put_comma.new.self (edges_text (about_of c.put_comma.new.self) chain)) c.edges.ensures)
    (subst (λ (left : List (List ℕ)). Makes edges_text c.loop-self.self c.loop-self.place left (with_items edges_text c.put.new.self c.args.chains.now.left)) c.loop-self-test.ensures.chain c.loop-self.invariant)

pub returns : goal.returns
returns c =
    list_closed edges_text _ c.args.self.now c.put.new.self c.loop-self.self c.put-2.new.self c.loop-self.place c.args.chains.now.left c.loop-self.chains.left c.in_ok-put.ensures
    c.loop-self-test.ensures.chain c.loop-self.invariant c.put-2.ensures
