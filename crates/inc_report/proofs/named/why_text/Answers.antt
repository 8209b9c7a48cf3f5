use Rattle.inc_answers.proofs.WhyLemmas.{chains-within}
use Rattle.inc_report.proofs.named.why_text.Goals as goal

pub chains_dot-requires-clause-chains : goal.chains_dot-requires-clause-chains
chains_dot-requires-clause-chains c = chains-within c.args.subject.graph.now 0 c.args.chains.now.left c.requires.chains
