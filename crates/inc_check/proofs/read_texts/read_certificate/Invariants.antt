use Rattle.std.proofs.Common.{◌+◌, ◌-◌, ◌≤◌, length, drop}
use Rattle.inc_check.proofs.CertificateTexts.{HasRead}
use Rattle.inc_check.proofs.read_texts.read_certificate.Given as goal

-- the lines before are read
abbrev pub invariant-loop-length : goal.invariant-loop-length
invariant-loop-length l = record {
  within : l.at ≤ length l.text;
  low : l.line ≤ l.at + 1;
  read : HasRead l.text l.reading l.line (drop l.at l.text);
}

abbrev pub decreases-loop-length : goal.decreases-loop-length
decreases-loop-length l = length l.text - l.at
