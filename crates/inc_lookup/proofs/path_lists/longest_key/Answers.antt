use Rattle.std.proofs.Common.{◌≡◌, ◌<◌, [], length, get_or, ◌∙◌, arith}
use Rattle.std.proofs.lemmas.List.{take_all, get_or_default}
use Rattle.inc_lookup.proofs.ListingLemmas.{longest_more}
use Rattle.inc_lookup.proofs.path_lists.longest_key.Goals as goal
use Rattle.inc_lookup.proofs.path_lists.longest_key.Goals.{then-length-longest, else-length-longest}

pub loop-index-preserved : goal.loop-index-preserved
loop-index-preserved c =
    let path = c.key_at-length.result.now in
    let low : c.loop-index.index < length c.args.table.now.keys = omega (arith, c.loop-index-test.true, c.len-index-end.ensures) in
    let is : path ≡ get_or c.args.table.now.keys c.loop-index.index path = c.key_at-length.ensures ∙ get_or_default c.args.table.now.keys c.loop-index.index [] path low in
    elim c.if-length-longest.branch [
      | then-length-longest w ↦
          longest_more c.args.table.now.keys c.loop-index.index path c.loop-index.longest _ low is c.loop-index.invariant
          (omega (arith, w.longest-is, w.if-length-longest.true)) (omega (arith, w.longest-is))
      | else-length-longest w ↦
          longest_more c.args.table.now.keys c.loop-index.index path c.loop-index.longest _ low is c.loop-index.invariant
          (omega (arith, w.longest-is)) (omega (arith, w.longest-is, w.if-length-longest.false))
    ]

pub returns : goal.returns
returns c =
    rw (← take_all c.loop-index.index c.args.table.now.keys (omega (arith, c.loop-index-test.false, c.len-index-end.ensures))) c.loop-index.invariant
