use Rattle.std.proofs.Common.{◌≡◌, ◌∙◌, Bool, true, false, ap, cond, map, sym}
use Rattle.std.specs.List.{list_any}
use Rattle.inc_rules.specs.Judging.{is_broken}
use Rattle.inc_rules.specs.Views.{seen_judged}
use Rattle.inc_answers.specs.declared.outcome.EndKind.TheVariants.{Answered, Negative}
use Rattle.inc_report.proofs.BrokenRules.{any_seen}
use Rattle.inc_report.proofs.rules.rules_kind.Goals as goal

pub returns-then-is_any_broken : goal.returns-then-is_any_broken
returns-then-is_any_broken c =
    let some : list_any is_broken (map seen_judged c.args.judged.now) ≡ true =
    sym (any_seen is_broken seen_judged c.args.judged.now) ∙ sym c.is_any_broken.ensures ∙ c.if-is_any_broken.true in
    sym (ap (λ (b : Bool). cond b Negative Answered) some)

pub returns-else-is_any_broken : goal.returns-else-is_any_broken
returns-else-is_any_broken c =
    let none : list_any is_broken (map seen_judged c.args.judged.now) ≡ false =
    sym (any_seen is_broken seen_judged c.args.judged.now) ∙ sym c.is_any_broken.ensures ∙ c.if-is_any_broken.false in
    sym (ap (λ (b : Bool). cond b Negative Answered) none)
