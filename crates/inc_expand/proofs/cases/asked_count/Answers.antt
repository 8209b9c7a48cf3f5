use Rattle.std.proofs.Common.{◌∙◌, sym}
use Rattle.inc_expand.proofs.CaseSteps.{asked-one, asked-more}
use Rattle.inc_expand.proofs.cases.asked_count.Goals as goal

pub returns-then-is_name_at : goal.returns-then-is_name_at
returns-then-is_name_at c s = asked-one s c.args.list.now (sym c.is_name_at.ensures ∙ c.if-is_name_at.true)

pub returns-then-begins_in_parentheses : goal.returns-then-begins_in_parentheses
returns-then-begins_in_parentheses c s =
    asked-more s c.args.list.now _ (sym c.is_name_at.ensures ∙ c.if-is_name_at.false) (sym c.begins_in_parentheses.ensures ∙ c.if-begins_in_parentheses.true)

pub returns-else-begins_in_parentheses : goal.returns-else-begins_in_parentheses
returns-else-begins_in_parentheses c s =
    asked-more s c.args.list.now _ (sym c.is_name_at.ensures ∙ c.if-is_name_at.false) (sym c.begins_in_parentheses.ensures ∙ c.if-begins_in_parentheses.false)
