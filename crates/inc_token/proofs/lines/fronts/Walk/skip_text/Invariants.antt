use Rattle.std.proofs.Common.{◌-◌, ◌≡◌, ◌≤◌}
use Rattle.inc_token.specs.LineFronts.{IsPlaced}
use Rattle.inc_token.specs.LineWalk.{IsRun}
use Rattle.inc_token.proofs.lines.fronts.Walk.skip_text.Given as goal

-- the walk is at the line after the run so far
abbrev pub invariant-loop-run : goal.invariant-loop-run
invariant-loop-run l = record {
  walk : IsPlaced l.self;
  same : l.self.cursor ≡ l.fn.self.cursor;
  spoken : l.self.language ≡ l.fn.self.language;
  after : l.fn.self.at ≤ l.self.at;
  here : l.self.at ≡ l.run.end;
  few : l.run.lines ≤ 65_535;
  run : IsRun l.fn.self.language l.self.cursor l.fn.self.at l.run;
}

abbrev pub decreases-loop-run : goal.decreases-loop-run
decreases-loop-run l = 65_535 - l.run.lines
