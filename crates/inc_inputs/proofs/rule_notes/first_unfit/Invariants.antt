use Rattle.std.proofs.Common.{◌≡◌, None, map, take}
use Rattle.inc_inputs.specs.RuleNotes.{first_of, unfit_lines}
use Rattle.inc_rules.specs.Views.{seen_rule}
use Rattle.inc_inputs.proofs.rule_notes.first_unfit.Given as goal

-- the rules so far have no line
abbrev pub invariant-loop-rule : goal.invariant-loop-rule
invariant-loop-rule l = None ≡ first_of (unfit_lines l.name l.project (map seen_rule (take l.rule-index l.rules)))
