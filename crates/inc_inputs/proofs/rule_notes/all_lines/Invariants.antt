use Rattle.std.proofs.Common.{◌≡◌, map, take}
use Rattle.std.specs.Prelude.{flat_map}
use Rattle.inc_inputs.specs.BuildNotes.{none, with_lines}
use Rattle.inc_inputs.specs.RuleNotes.{rule_lines}
use Rattle.inc_inputs.specs.Views.{notes_in}
use Rattle.inc_rules.specs.Views.{seen_rule}
use Rattle.inc_inputs.proofs.rule_notes.all_lines.Given as goal

-- the lines of the rules so far
abbrev pub invariant-loop-rule : goal.invariant-loop-rule
invariant-loop-rule l = notes_in l.notes ≡ with_lines none (flat_map (rule_lines l.name l.project) (map seen_rule (take l.rule-index l.rules)))
