use Rattle.std.proofs.Common.{◌≡◌, ◌-◌, ◌≤◌, false, take, length}
use Rattle.std.specs.Io.KnownBytes.{Consumes}
use Rattle.inc_check.proofs.ahead.fill.Given as goal

-- the first bytes came from the source, which has not failed
abbrev pub invariant-loop-done : goal.invariant-loop-done
invariant-loop-done g l = record {
  long : length l.bytes.items ≡ length l.fn.bytes.items;
  within : l.done ≤ length l.bytes.items;
  read : Consumes (g.R.ByteSource.left l.fn.r) (g.R.ByteSource.left l.r) (take l.done l.bytes.items);
  sound : g.R.ByteSource.has_failed l.r ≡ false;
}

abbrev pub decreases-loop-done : goal.decreases-loop-done
decreases-loop-done g l = length l.fn.bytes.items - l.done
