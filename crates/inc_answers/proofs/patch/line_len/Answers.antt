use Rattle.std.proofs.Common.{arith}
use Rattle.std.proofs.lemmas.List.Sums.{prefix_len-le-length}
use Rattle.inc_answers.specs.PatchText.{goes_on}
use Rattle.inc_answers.proofs.PatchLemmas.{cut_after, cut_whole}
use Rattle.inc_answers.proofs.patch.line_len.Goals as goal

pub returns-then-end-text-clause-cut : goal.returns-then-end-text-clause-cut
returns-then-end-text-clause-cut c = cut_after c.args.text.now c.len_before_feed-end.result c.len_before_feed-end.ensures c.if-end-text.true

pub returns-else-end-text-clause-cut : goal.returns-else-end-text-clause-cut
returns-else-end-text-clause-cut c = cut_whole c.args.text.now c.len_before_feed-end.result c.len_before_feed-end.ensures c.requires (omega (arith, c.if-end-text.false))

pub returns-else-end-text-clause-within : goal.returns-else-end-text-clause-within
returns-else-end-text-clause-within c = omega (arith, c.len_before_feed-end.ensures, prefix_len-le-length goes_on c.args.text.now)
