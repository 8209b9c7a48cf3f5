use Rattle.inc_directive.specs.Removal.{is_among}
use Rattle.std.proofs.Common.{◌≡◌, ◌-◌, ◌≤◌, List, length}
use Rattle.inc_token.specs.TokenLines.{TokenLine}
use Rattle.inc_directive.proofs.SplitParts.{AreFound}
use Rattle.inc_directive.proofs.file_lines.split.Given as goal
use Rattle.inc_text.specs.PhaseText.{longest_text}

abbrev pub invariant-lines : goal.invariant-lines
invariant-lines l = record {
  spoken : l.walk.language ≡ l.language;
  text : l.walk.text ≡ l.text;
  short : length l.text ≤ longest_text;
  found : (ds : List TokenLine) × AreFound l.language l.text (is_among l.removed) l.walk.at l.parts.items l.inclusions.items ds;
}

abbrev pub decreases-lines : goal.decreases-lines
decreases-lines l = length l.text - l.walk.at
