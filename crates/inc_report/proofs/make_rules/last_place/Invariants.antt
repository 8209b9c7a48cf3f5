use Rattle.std.proofs.Common.{◌≡◌, ◌≤◌, length}
use Rattle.std.specs.Path.{rfind_below}
use Rattle.inc_report.proofs.make_rules.last_place.Given as goal

-- it is not behind
abbrev pub invariant-loop-end : goal.invariant-loop-end
invariant-loop-end l = record {
  same : rfind_below l.byte l.text (length l.text) ≡ rfind_below l.byte l.text l.end;
  within : l.end ≤ length l.text;
}

abbrev pub decreases-loop-end : goal.decreases-loop-end
decreases-loop-end l = l.end
