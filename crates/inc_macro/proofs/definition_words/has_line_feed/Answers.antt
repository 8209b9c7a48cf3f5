use Rattle.std.proofs.Common.{◌==◌, ◌∙◌}
use Rattle.inc_macro.proofs.WordSearches.{list_any-search}
use Rattle.inc_macro.proofs.definition_words.has_line_feed.Goals as goal

pub returns : goal.returns
returns c = c.is_some.ensures ∙ list_any-search (λ b. b == 10) c.args.word.now c.memchr.result c.memchr.ensures
