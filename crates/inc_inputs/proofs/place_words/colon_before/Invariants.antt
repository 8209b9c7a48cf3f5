use Rattle.std.proofs.Common.{◌≡◌, ◌-◌, ◌≤◌, length, drop}
use Rattle.inc_check.specs.Reading.{colon_from}
use Rattle.inc_inputs.specs.PlaceWords.{is_end}
use Rattle.inc_inputs.proofs.place_words.colon_before.Given as goal

-- the colon is in what is left
abbrev pub invariant-loop-colon : goal.invariant-loop-colon
invariant-loop-colon l = record {
  within : l.at ≤ length l.word;
  left : colon_from (is_end l.end) 0 l.word ≡ colon_from (is_end l.end) l.at (drop l.at l.word);
}

abbrev pub decreases-loop-colon : goal.decreases-loop-colon
decreases-loop-colon l = length l.word - l.at
