use Rattle.std.proofs.Common.{refl, rules, ◌≡◌, true, false}
use Rattle.inc_text.specs.Ascii.{minus, plus}
use Rattle.inc_answers.specs.PatchText.{is_changed, is_deleted}
use Rattle.inc_answers.proofs.PatchLemmas.{replaced}
use Rattle.inc_answers.proofs.SendingLemmas.{sends_then}
use Rattle.inc_answers.proofs.patch.send_row.Goals as goal

pub returns-then-not-is_deleted : goal.returns-then-not-is_deleted
returns-then-not-is_deleted g c =
    let changed : is_changed c.args.row.now ≡ true = search rules in
    let stays : is_deleted c.args.row.now ≡ false = search rules in
    rw (replaced c.args.row.now changed stays, ← c.row.view_is)
    (sends_then _ _ _ _ _ (c.send_marked-2.ensures minus refl) (c.send_marked-then-not-is_deleted.ensures plus refl))
