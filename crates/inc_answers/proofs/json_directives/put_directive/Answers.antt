use Rattle.std.proofs.Common.{◌∙◌, ◌++◌, ℕ, ap, codes}
use Rattle.inc_answers.specs.JsonTexts.{number_member}
use Rattle.inc_answers.proofs.JoinedTexts.{and_then}
use Rattle.inc_answers.proofs.json_directives.put_directive.Goals as goal

pub returns : goal.returns
returns c =
    let old = c.args.text.now.items in
    let number = c.in_ok-put_number_member.ensures ∙ ap (λ (n : ℕ). c.put_form.new.text.items ++ number_member (codes "line") n) c.from.ensures in
    let form = and_then old _ _ _ _ c.in_ok-push.ensures.items c.in_ok-put_form.ensures in
    let what = and_then old _ _ _ _ (and_then old _ _ _ _ form number) c.in_ok-put_what.ensures in
    let path = and_then old _ _ _ _ (and_then old _ _ _ _ what c.in_ok-push-2.ensures.items) c.in_ok-put_bytes_member.ensures in
    and_then old _ _ _ _ (and_then old _ _ _ _ path c.in_ok-put_to.ensures) c.in_ok-push-3.ensures.items
