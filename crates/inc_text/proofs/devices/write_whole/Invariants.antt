use Rattle.std.proofs.Common.{◌≡◌, ◌-◌, ◌≤◌, false, length, take}
use Rattle.inc_text.proofs.devices.write_whole.Given as goal
use Rattle.std.specs.Io.KnownBytes.{Appends}

-- the first bytes are written, and no write has failed
abbrev pub invariant-loop-done : goal.invariant-loop-done
invariant-loop-done g l =
    record {
      within : l.done ≤ length l.text;
      written : Appends (g.W.ByteSink.written l.initial.w) (g.W.ByteSink.written l.w) (take l.done l.text);
      sound : g.W.ByteSink.has_failed l.w ≡ false;
    }

abbrev pub decreases-loop-done : goal.decreases-loop-done
decreases-loop-done g l = length l.text - l.done
