use Rattle.std.proofs.Common.{◌∷◌, [], ap, codes, ◌∙◌, ◌++◌}
use Rattle.inc_inputs.proofs.NoteLemmas.{note_put}
use Rattle.inc_inputs.proofs.build_texts.put_note.Goals as goal

pub returns : goal.returns
returns c =
    c.in_ok-push.ensures.items ∙ ap (λ t. t ++ 10 ∷ []) c.in_ok-extend_from_slice-2.ensures.items
    ∙ ap (λ t. (t ++ c.args.line.now) ++ 10 ∷ []) c.in_ok-extend_from_slice.ensures.items
    ∙ note_put c.args.notes.now.items (codes "incut: note: ") c.args.line.now (10 ∷ [])
