use Rattle.std.proofs.Common.{length, ◌-◌, ◌≡◌, ◌≤◌, ◌<◌, false, slice_index}
use Rattle.inc_token.specs.LineFronts.{Nothing, IsPlaced, ahead_of}
use Rattle.inc_token.specs.Spellings.{is_blank}
use Rattle.inc_token.proofs.lines.fronts.Walk.front.Given as goal

abbrev pub invariant-loop-self : goal.invariant-loop-self
invariant-loop-self l = record {
  walk : IsPlaced l.self;
  same : l.self.cursor ≡ l.fn.self.cursor;
  spoken : l.self.language ≡ l.fn.self.language;
  after : l.fn.self.at ≤ l.self.at;
  bare : l.self.at < length l.self.cursor → is_blank (slice_index l.self.bytes.now l.self.at) ≡ false;
  ahead : ahead_of Nothing l.self ≡ ahead_of Nothing l.fn.self;
}

abbrev pub decreases-loop-self : goal.decreases-loop-self
decreases-loop-self l = length l.self.cursor - l.self.at
