use Rattle.std.proofs.Common.{◌≡◌, ◌+◌, ◌-◌, ◌≤◌, ◌==◌, take, drop, count_by, arith}
use Rattle.std.proofs.lemmas.List.{length-take}
use Rattle.inc_text.proofs.CursorLemmas.{plain_read}
use Rattle.inc_text.proofs.LineFeedLemmas.{count_on, count_up, count_within}
use Rattle.inc_text.proofs.cursors.level_on.Goals as goal

pub returns-clause-level : goal.returns-clause-level
returns-clause-level c = λ origins splices no_origin no_splice.
    let bytes = c.args.bytes.now in
    let at = c.args.at in
    let end = c.min-end.result in
    let len = c.line_feeds_to_end-len.result.0 in
    let found = c.line_feeds_to_end-len.ensures in
    let lines = c.args.level.line_feeds + c.line_feeds_between.result in
    let before : lines ≡ count_by (λ b. b == 10) (take at bytes) =
    count_on bytes c.args.level.to at c.args.level.line_feeds c.line_feeds_between.result c.requires.order c.requires.counted c.line_feeds_between.ensures in
    let short : at + len ≤ end = omega (arith, found.within, length-take (end - at) (drop at bytes), c.min-end.ensures, c.requires.within) in
    let all = count_up bytes at len end lines c.line_feeds_to_end-len.result.1 found.within before found.count in
    record {
      within = omega (arith, short, c.min-end.ensures);
      line_feeds = omega (arith, all);
      ahead = omega arith;
      some = λ place low high. omega arith;
      each = λ place low high. plain_read origins splices bytes place lines no_origin no_splice
          (omega (arith, high, short, c.min-end.ensures))
          (count_within bytes at place len end lines low high found.within before found.none);
    }
