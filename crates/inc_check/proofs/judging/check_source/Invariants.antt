use Rattle.std.proofs.Common.{◌≡◌, ◌-◌, ◌^◌, ℕ, List, false}
use Rattle.std.specs.Io.KnownBytes.{Consumes}
use Rattle.inc_check.specs.Judging.{IsJudged, IsJudgeOf}
use Rattle.inc_check.specs.Reading.{State}
use Rattle.inc_check.proofs.CertificateTexts.{HasRead}
use Rattle.inc_check.proofs.judging.check_source.Given as goal

-- the lines before are read and judged
abbrev pub invariant-loop-ahead : goal.invariant-loop-ahead
invariant-loop-ahead g l = record {
  of : IsJudgeOf l.graph l.judge;
  sound : g.R.ByteSource.has_failed l.r ≡ false;
  read : (front : List ℕ) × (s : State) × Consumes (g.R.ByteSource.left l.fn.r) (g.R.ByteSource.left l.r) front
      × HasRead front s l.line l.ahead × IsJudged l.project l.graph l.fixed l.judge s;
}

abbrev pub decreases-loop-ahead : goal.decreases-loop-ahead
decreases-loop-ahead g l = 2 ^ 64 - l.line
