use Rattle.inc_answers.specs.Told.{Sources}
use Rattle.inc_report.proofs.NamedLemmas.{printed_same}
use Rattle.inc_answers.proofs.WhoLemmas.{reaching-within}
use Rattle.inc_answers.proofs.WhyLemmas.{chains-within}
use Rattle.inc_report.proofs.named.tell.Goals as goal

pub who_text-requires-clause-edges : goal.who_text-requires-clause-edges
who_text-requires-clause-edges c = reaching-within c.args.subject.graph.now _ _ c.in_ok-reaching.ensures.all

pub who_text-requires-clause-chains : goal.who_text-requires-clause-chains
who_text-requires-clause-chains c = chains-within c.args.subject.graph.now 0 _ c.in_ok-chains.ensures.all

pub returns : goal.returns
returns c = (
  Sources c.in_ok-reaching.reaching.left c.in_ok-chains.chains.left,
  (c.in_ok-reaching.ensures.all, c.in_ok-chains.ensures.all),
  printed_same _ _ _ _ _ _ c.in_ok-who_text.ensures c.in_ok-notes.ensures c.kind_of-kind.ensures,
)
