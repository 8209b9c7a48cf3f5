use Rattle.std.proofs.Common.{◌≡◌, map, take}
use Rattle.inc_rules.specs.Breaking.{lacking}
use Rattle.inc_rules.specs.Views.{seen_judged, seen_rule}
use Rattle.inc_rules.proofs.breaks.lacking.Given as goal

-- what the files of the rules so far lack
abbrev pub invariant-loop-rule : goal.invariant-loop-rule
invariant-loop-rule l = map seen_judged l.lacking.items ≡ map (lacking l.project l.graph) (map seen_rule (take l.rule-index l.rules))
