use Rattle.std.proofs.Common.{rules, ◌≡◌, length}
use Rattle.inc_check.specs.declared.ahead.TheConstants.{PIECE_LEN}
use Rattle.inc_check.proofs.AheadLemmas.{enough}
use Rattle.inc_check.proofs.ahead.Ahead.read_on.Goals as goal

pub returns-clause-ended : goal.returns-clause-ended
returns-clause-ended g c =
    let size : length c.fill.new.bytes.items ≡ PIECE_LEN = search rules in
    let read = c.in_ok-count.ensures in
    enough _ c.args.self.now c.fill.new.bytes.items c.extend_from_slice-2.new.self.items c.in_ok-count.count size
    read.within read.ended (search rules)
