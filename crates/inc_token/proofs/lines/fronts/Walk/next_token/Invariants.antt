use Rattle.std.proofs.Common.{length, ◌-◌, ◌≡◌, ◌≤◌}
use Rattle.inc_token.specs.LineFronts.{Begun, IsPlaced, progress_of, ahead_of}
use Rattle.inc_token.proofs.lines.fronts.Walk.next_token.Given as goal

abbrev pub invariant-gaps : goal.invariant-gaps
invariant-gaps l = record {
  walk : IsPlaced l.self;
  same : l.self.cursor ≡ l.fn.self.cursor;
  spoken : l.self.language ≡ l.fn.self.language;
  after : l.fn.self.at ≤ l.self.at;
  ahead : (begun : Begun) → progress_of begun ≡ l.progress → ahead_of begun l.self ≡ ahead_of begun l.fn.self;
}

abbrev pub decreases-gaps : goal.decreases-gaps
decreases-gaps l = length l.self.cursor - l.self.at
