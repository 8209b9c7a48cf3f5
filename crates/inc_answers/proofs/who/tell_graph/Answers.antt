use Rattle.std.proofs.Common.{List, ℕ, refl, ap₂, ◌∙◌}
use Rattle.inc_answers.specs.Printed.{end_of}
use Rattle.inc_answers.specs.Terms.{is_whole}
use Rattle.inc_answers.specs.WhoText.{who_printed}
use Rattle.inc_answers.specs.declared.outcome.EndKind.{EndKind}
use Rattle.inc_answers.proofs.SendingLemmas.{sends_then}
use Rattle.inc_answers.proofs.WhoLemmas.{reaching-within}
use Rattle.inc_answers.proofs.who.tell_graph.Goals as goal

pub send_reaching-requires-clause-edges : goal.send_reaching-requires-clause-edges
send_reaching-requires-clause-edges g c = reaching-within c.args.graph.now _ _ c.in_ok-reaching.ensures.all

pub returns-clause-sent : goal.returns-clause-sent
returns-clause-sent g c = record {
  text = (
    who_printed (is_whole c.args.question.now) c.args.with_chains c.args.fails c.args.most c.args.project.now c.args.graph.now c.in_ok-reaching.reaching.left c.in_ok-chains.chains.left,
    (c.in_ok-reaching.reaching.left, c.in_ok-chains.chains.left, c.in_ok-reaching.ensures.all, c.in_ok-chains.ensures.all, refl),
    record {
      ends = c.noted.ensures ∙ ap₂ (λ (n : List ℕ) (k : EndKind). end_of n k) c.in_ok-notes.ensures c.kind_of-kind.ensures;
      sent = sends_then _ _ _ _ _ c.send_reaching.ensures c.send_ways.ensures;
    },
  );
  nothing = tt;
}
