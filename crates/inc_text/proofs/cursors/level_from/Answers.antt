use Rattle.std.proofs.Common.{◌+◌, ◌-◌, ◌<◌, ◌≤◌, length, take, drop, arith}
use Rattle.std.proofs.lemmas.List.{length-drop, length-take}
use Rattle.inc_text.proofs.CursorLemmas.{level_read, origin_before, origin_ranges}
use Rattle.inc_text.proofs.LineFeedLemmas.{count_up, count_within}
use Rattle.inc_text.proofs.cursors.level_from.Goals as goal
use Rattle.inc_text.proofs.cursors.level_from.Goals.{then-at-origin, else-at-origin}

pub returns-clause-level : goal.returns-clause-level
returns-clause-level c =
    let bytes = c.args.bytes.now in
    let at = c.args.at in
    let before = c.requires.before in
    let origin = c.origin_at-origin.result in
    let end = c.next_break-end.result in
    let len = c.line_feeds_to_end-len.result.0 in
    let found = c.line_feeds_to_end-len.ensures in
    let stands : origin.at ≤ at = origin_before at c.args.origins.now origin c.origin_at-origin.ensures c.requires.mapped.order.fits in
    let ranges = origin_ranges at c.args.origins.now origin c.origin_at-origin.ensures c.requires.mapped.order.fits in
    let from : (at ≤ c.if-at-origin.from) × (origin.at < c.if-at-origin.from) =
    elim c.if-at-origin.branch [
      | then-at-origin w ↦ (omega (arith, w.from-is), omega (arith, w.from-is, stands))
      | else-at-origin w ↦ (omega (arith, w.from-is), omega (arith, w.from-is, stands, w.if-at-origin.false))
    ] in
    let short : at + len ≤ end = omega (arith, found.within, length-take (end - at) (drop at bytes), c.next_break-end.ensures.after) in
    record {
      within = omega (arith, short, c.next_break-end.ensures.within);
      line_feeds = count_up bytes at len end c.args.before.line_feeds c.line_feeds_to_end-len.result.1 found.within before.line_feeds found.count;
      ahead = ranges.ahead;
      some = λ place low high. omega (arith, from.0, low, ranges.behind);
      each = λ place low high. level_read c.args.origins.now c.args.splices.now bytes at place c.args.before.origins c.args.before.splices c.args.before.line_feeds origin
          before.origins_passed
          (c.next_break-end.ensures.origins place (omega (arith, from.0, low)) (omega (arith, high, short)))
          (c.next_break-end.ensures.splices place (omega (arith, from.0, low)) (omega (arith, high, short)))
          (omega (arith, high, short, c.next_break-end.ensures.within))
          (count_within bytes at place len end c.args.before.line_feeds (omega (arith, from.0, low)) high found.within before.line_feeds found.none)
          c.origin_at-origin.ensures (omega (arith, from.1, low));
    }

pub returns-clause-after : goal.returns-clause-after
returns-clause-after c =
    let bytes = c.args.bytes.now in
    let some : 0 < length (take (c.next_break-end.result - c.args.at) (drop c.args.at bytes)) =
    omega (arith, length-take (c.next_break-end.result - c.args.at) (drop c.args.at bytes), length-drop c.args.at bytes, c.next_break-end.ensures.after, c.next_break-end.ensures.within) in
    omega (arith, c.line_feeds_to_end-len.ensures.some some)
