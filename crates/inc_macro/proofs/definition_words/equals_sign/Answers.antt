use Rattle.std.proofs.Common.{◌==◌}
use Rattle.inc_macro.proofs.WordSearches.{position-search}
use Rattle.inc_macro.proofs.definition_words.equals_sign.Goals as goal

pub returns : goal.returns
returns c = position-search (λ b. b == 61) c.args.word.now c.memchr.result c.memchr.ensures
