use Rattle.std.proofs.Common.{not, rules, tests}
use Rattle.std.proofs.lemmas.Iterator.Consumers.{YieldsList-at, YieldsList-from_filter, map_from_collect}
use Rattle.std.proofs.lemmas.Iterator.Search.{YieldsList-from_take_while}
use Rattle.std.proofs.lemmas.Iterator.Splits.{YieldsList-from_slice_split}
use Rattle.inc_rules.specs.Rules.{begins_comment, is_empty, is_space}
use Rattle.inc_rules.proofs.words.words_of.Goals as goal

pub returns : goal.returns
returns c =
    map_from_collect _ c.collect.ensures.ran
    (YieldsList-from_take_while _ (λ w. not (begins_comment w))
    (YieldsList-at c.take_while.ensures.source
    (YieldsList-from_filter _ (λ w. not (is_empty w))
    (YieldsList-at c.filter.ensures.source (YieldsList-from_slice_split _ is_space c.args.line.now c.split.ensures.rest c.split.ensures.done c.split.ensures.closure (λ x r q k. search (rules, tests))))
    c.filter.ensures.closure (λ x r q k. search (rules, tests))))
    c.take_while.ensures.closure c.take_while.ensures.done (λ x r q k. search (rules, tests)))
