use Rattle.inc_cond.proofs.GrammarReadings.{is_of_the_grammar}
use Rattle.inc_cond.proofs.GrammarTrees.{read_of_the_grammar}
use Rattle.inc_cond.proofs.laws.reads_the_grammar.Goals as goal

pub returns : goal.returns
returns c = λ ss e. (is_of_the_grammar ss e, read_of_the_grammar ss e)
