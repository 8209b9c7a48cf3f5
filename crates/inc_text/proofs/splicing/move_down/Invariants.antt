use Rattle.std.proofs.Common.{◌≡◌, ◌+◌, ◌-◌, ◌≤◌, ◌++◌, length, take, drop}
use Rattle.inc_text.proofs.splicing.move_down.Given as goal

-- so many bytes are copied, and the source behind them is as it was
abbrev pub invariant-loop-done : goal.invariant-loop-done
invariant-loop-done l =
    record {
      within : l.done ≤ l.len;
      front : take (l.to + l.done) l.bytes ≡ take l.to l.initial.bytes ++ take l.done (drop l.from l.initial.bytes);
      back : drop (l.from + l.done) l.bytes ≡ drop (l.from + l.done) l.initial.bytes;
      size : length l.bytes ≡ length l.initial.bytes;
    }

abbrev pub decreases-loop-done : goal.decreases-loop-done
decreases-loop-done l = l.len - l.done
