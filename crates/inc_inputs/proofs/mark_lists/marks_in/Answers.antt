use Rattle.std.proofs.Common.{◌≡◌, Ok, Err, ℕ, IfOk, IfErr, subst, sym}
use Rattle.inc_check.specs.declared.read_texts.CertFault.TheVariants as fault
use Rattle.inc_inputs.proofs.MarkListLemmas.{counted_lines, no_lines, other_lines}
use Rattle.inc_inputs.proofs.mark_lists.marks_in.Goals as goal

pub returns-in_default-clause-marks : goal.returns-in_default-clause-marks
returns-in_default-clause-marks c = rw (c.new.ensures.items) (no_lines c.args.text.now c.in_default.ensures)

pub returns-in-Some-number_behind-clause-marks : goal.returns-in-Some-number_behind-clause-marks
returns-in-Some-number_behind-clause-marks c =
    subst (λ r. IfOk c.first_marks.result (λ marks. r ≡ Ok marks.items)) (sym (counted_lines c.args.text.now c.in-Some.end c.in-Some-number_behind.count c.in-Some.ensures c.in-Some-number_behind.ensures)) c.first_marks.ensures.marks

pub returns-in-Some-number_behind-clause-fault : goal.returns-in-Some-number_behind-clause-fault
returns-in-Some-number_behind-clause-fault c =
    subst (λ r. IfErr c.first_marks.result (λ f. (line : ℕ) → f ≡ fault.Malformed line → r ≡ Err line)) (sym (counted_lines c.args.text.now c.in-Some.end c.in-Some-number_behind.count c.in-Some.ensures c.in-Some-number_behind.ensures)) c.first_marks.ensures.fault

pub returns-in-None-clause-marks : goal.returns-in-None-clause-marks
returns-in-None-clause-marks c =
    subst (λ r. IfOk c.all_marks.result (λ marks. r ≡ Ok marks.items)) (sym (other_lines c.args.text.now c.in-Some.end c.in-Some.ensures c.in-None.ensures)) c.all_marks.ensures.marks

pub returns-in-None-clause-fault : goal.returns-in-None-clause-fault
returns-in-None-clause-fault c =
    subst (λ r. IfErr c.all_marks.result (λ f. (line : ℕ) → f ≡ fault.Malformed line → r ≡ Err line)) (sym (other_lines c.args.text.now c.in-Some.end c.in-Some.ensures c.in-None.ensures)) c.all_marks.ensures.fault
