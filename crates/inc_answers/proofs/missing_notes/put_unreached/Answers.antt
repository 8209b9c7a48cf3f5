use Rattle.std.proofs.Common.{◌∙◌, ◌++◌, ℕ, List, ap, arith}
use Rattle.inc_answers.specs.MissingNotes.{missing_note, unreached_line}
use Rattle.inc_answers.proofs.NoteLemmas.{joined, never_is, unreached_is}
use Rattle.inc_answers.proofs.missing_notes.put_unreached.Goals as goal

pub returns-then-len-eq0 : goal.returns-then-len-eq0
returns-then-len-eq0 c =
    c.in_ok-put_never.ensures
    ∙ ap (λ (l : List ℕ). c.args.text.now.items ++ l) (never_is c.args.is_whole c.args.project.now c.args.blockers.now c.args.missing.now (omega (arith, c.if-len-eq0.true, c.len.ensures)))

pub returns : goal.returns
returns c =
    let layout = c.args.project.now in
    let ms = c.args.missing.now in
    let old = c.args.text.now.items in
    let count = c.len-2.result in
    joined old (unreached_line count) (missing_note layout ms) c.put_unreached_line.new.text.items c.put_missing.new.text.items c.in_ok-put_unreached_line.ensures c.in_ok-put_missing.ensures
    ∙ ap (λ (l : List ℕ). old ++ l) (unreached_is c.args.is_whole layout c.args.blockers.now ms count c.len-2.ensures (omega (arith, c.if-len-eq0.false, c.len.ensures, c.len-2.ensures)))
