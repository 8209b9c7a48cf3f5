use Rattle.std.proofs.Common.{◌∙◌, ◌++◌}
use Rattle.inc_answers.specs.AnswerNotes.{definition_lines}
use Rattle.inc_answers.specs.BlockedReasons.{any_name_line, blocker_reason, reason_start}
use Rattle.inc_answers.proofs.NamedReasonLemmas.{reasons_added}
use Rattle.inc_answers.proofs.blocked_reasons.blocked_reasons.Goals as goal

pub returns : goal.returns
returns c =
    let layout = c.args.project.now in
    c.of.ensures
    ∙ reasons_added (blocker_reason layout) (λ first. definition_lines reason_start layout c.args.definitions.now ++ any_name_line first) layout c.args.blockers.now c.most_of-count.result c.new-text.result.items
    c.put_blockers.new.text.items c.put_more.new.text.items c.put_undefined.new.text.items c.put_drops.new.text.items c.most_of-count.ensures.most c.new-text.ensures.items c.in_ok-put_blockers.ensures
    c.in_ok-put_more.ensures c.in_ok-put_undefined.ensures c.in_ok-put_drops.ensures
