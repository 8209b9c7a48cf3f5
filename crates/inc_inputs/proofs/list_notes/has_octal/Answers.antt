use Rattle.std.proofs.Common.{rules}
use Rattle.inc_inputs.proofs.WordNotes.{octal_here, octal_later}
use Rattle.inc_inputs.proofs.list_notes.has_octal.Goals as goal

pub returns-then-begins_octal : goal.returns-then-begins_octal
returns-then-begins_octal c =
    octal_here c.args.path.now c.loop-at.at c.loop-at-test.true c.begins_octal.result c.begins_octal.ensures c.loop-at.invariant.left c.if-begins_octal.true

pub loop-at-preserved : goal.loop-at-preserved
loop-at-preserved c = record {
  within = search rules;
  left = octal_later c.args.path.now c.loop-at.at c.loop-at-test.true c.begins_octal.result c.begins_octal.ensures c.loop-at.invariant.left c.if-begins_octal.false;
}
