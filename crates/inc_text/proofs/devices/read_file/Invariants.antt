use Rattle.std.proofs.Common.{◌≡◌, ◌-◌, ◌≤◌, false, take, vec_len}
use Rattle.std.specs.Io.KnownBytes.{Consumes}
use Rattle.inc_text.proofs.devices.read_file.Given as goal
use Rattle.inc_text.specs.declared.devices.TheConstants.{LONGEST_FILE}

-- the first bytes came from the source, which has not failed
abbrev pub invariant-loop-bytes : goal.invariant-loop-bytes
invariant-loop-bytes g l =
    record {
      short : l.len ≤ LONGEST_FILE;
      within : l.len ≤ vec_len l.bytes;
      taken : Consumes (g.R.ByteSource.left l.initial.r) (g.R.ByteSource.left l.r) (take l.len l.bytes.items);
      sound : g.R.ByteSource.has_failed l.r ≡ false;
    }

abbrev pub decreases-loop-bytes : goal.decreases-loop-bytes
decreases-loop-bytes g l = LONGEST_FILE - l.len
