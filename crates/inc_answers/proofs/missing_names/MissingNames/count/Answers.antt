use Rattle.std.proofs.Common.{refl}
use Rattle.inc_answers.proofs.MissingNameLemmas.{counted_set, counted_within}
use Rattle.inc_answers.proofs.missing_names.MissingNames.count.Goals as goal

pub returns-clause-names : goal.returns-clause-names
returns-clause-names c = λ ms.
    counted_set ms c.args.self.now.names.items c.args.known c.index-name.result.now _ c.requires.known c.index-name.ensures refl

pub returns-clause-within : goal.returns-clause-within
returns-clause-within c = counted_within c.args.gone c.args.self.now.names.items c.args.known c.index-name.result.now c.requires.known c.index-name.ensures c.requires.fewer
