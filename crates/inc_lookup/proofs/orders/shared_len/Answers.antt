use Rattle.std.proofs.Common.{arith}
use Rattle.inc_lookup.proofs.orders.shared_len.Goals as goal

pub returns : goal.returns
returns c =
    let common = c.common_len.ensures in
    let both = c.shorter_len-both.ensures in
    let within = common.within in
    let left = both.left in
    let right = both.right in
    record {
      left = omega arith;
      right = omega arith;
      same = common.same;
      differ = λ low other. common.differ (both.shorter c.common_len.result low other);
    }
