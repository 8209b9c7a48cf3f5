use Rattle.std.proofs.Common.{◌≡◌, ◌≤◌, drop, length, reverse}
use Rattle.inc_report.specs.MakeRules.{escaped, leads_to_blank}
use Rattle.inc_report.proofs.make_rules.escaped.Given as goal

-- what is behind is written, the last byte first
abbrev pub invariant-loop-end : goal.invariant-loop-end
invariant-loop-end l = record {
  text : reverse l.text.items ≡ escaped (drop l.end l.name);
  blank : l.before_blank ≡ leads_to_blank (drop l.end l.name);
  within : l.end ≤ length l.name;
}

abbrev pub decreases-loop-end : goal.decreases-loop-end
decreases-loop-end l = l.end
