use Rattle.inc_answers.proofs.SendingLemmas.{sends_then}
use Rattle.inc_answers.proofs.WhyLemmas.{chains-within}
use Rattle.inc_answers.proofs.why.send_ways.Goals as goal

pub send_chains-requires-clause-edges : goal.send_chains-requires-clause-edges
send_chains-requires-clause-edges g c = chains-within c.args.graph.now 0 _ c.requires.chains

pub returns : goal.returns
returns g c = sends_then _ _ _ _ _ c.send_chains.ensures c.send_unresolved.ensures
