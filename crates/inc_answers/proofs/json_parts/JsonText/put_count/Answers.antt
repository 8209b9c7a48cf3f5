use Rattle.std.proofs.Common.{None}
use Rattle.inc_lookup.specs.declared.projects.DirectiveId.{DirectiveId}
use Rattle.inc_answers.specs.JsonAnswers.{place_text}
use Rattle.inc_answers.proofs.JsonSteps.{ends_about, puts_then}
use Rattle.inc_answers.proofs.json_parts.JsonText.put_count.Goals as goal

pub returns : goal.returns
returns c =
    let old = c.args.self.now in
    let first : DirectiveId = record { file = c.args.file; line = c.args.line } in
    ends_about _ (λ a. place_text a first None) old c.put-2.new.self c.put_place.new.self _
    (puts_then old _ _ _ _ (puts_then old _ _ _ _ c.in_ok-put.ensures c.in_ok-put_number_member.ensures) c.in_ok-put-2.ensures) c.put_place.ensures
