use Rattle.std.proofs.Common.{◌∙◌, ◌++◌, ℕ, List, ap, arith}
use Rattle.inc_answers.specs.MissingNotes.{empty_line, missing_note}
use Rattle.inc_answers.proofs.NoteLemmas.{empty_is, joined, no_missing}
use Rattle.inc_answers.proofs.missing_notes.put_empty.Goals as goal

pub returns-then-len-eq0 : goal.returns-then-len-eq0
returns-then-len-eq0 c = no_missing c.args.project.now c.args.missing.now c.args.text.now.items (omega (arith, c.if-len-eq0.true, c.len.ensures))

pub returns : goal.returns
returns c =
    let layout = c.args.project.now in
    let ms = c.args.missing.now in
    let old = c.args.text.now.items in
    let count = c.len-2.result in
    joined old (empty_line count) (missing_note layout ms) c.put_empty_line.new.text.items c.put_missing.new.text.items c.in_ok-put_empty_line.ensures c.in_ok-put_missing.ensures
    ∙ ap (λ (l : List ℕ). old ++ l) (empty_is layout ms count c.len-2.ensures (omega (arith, c.if-len-eq0.false, c.len.ensures, c.len-2.ensures)))
