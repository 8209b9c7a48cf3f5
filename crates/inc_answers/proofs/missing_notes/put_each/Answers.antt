use Rattle.inc_answers.specs.MissingNotes.{name_note}
use Rattle.inc_answers.specs.Views.{seen_name}
use Rattle.inc_answers.proofs.NoteLemmas.{each_more}
use Rattle.inc_answers.proofs.missing_notes.put_each.Goals as goal

pub loop-name-preserved : goal.loop-name-preserved
loop-name-preserved c =
    each_more (name_note c.args.project.now) (seen_name c.args.missing.now) c.args.text.now.items c.loop-name.text.items c.put_name.new.text.items c.args.first.now c.loop-name.name-index _
    c.loop-name-test.true c.loop-name.invariant c.in_ok-put_name.ensures
