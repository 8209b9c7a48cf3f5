use Rattle.std.proofs.Common.{arith}
use Rattle.inc_report.proofs.RuleLemmas.{behind, none_behind}
use Rattle.inc_report.proofs.make_rules.escaped.Goals as goal

pub loop-end-init : goal.loop-end-init
loop-end-init c =
    let none = none_behind c.args.name.now in
    record { text = rw c.new-text.ensures.items none.0; blank = none.1; within = omega arith }

pub loop-end-preserved : goal.loop-end-preserved
loop-end-preserved c =
    let i = c.loop-end.invariant in
    let b = behind c.args.name.now c.loop-end.end 0 c.loop-end-test.true i.within in
    record {
      text = rw (b, ← i.blank, ← i.text) (c.in_ok-put_escaped.ensures);
      blank = rw (b, ← i.blank) c.leads_to_blank-before_blank.ensures;
      within = omega (arith, i.within);
    }
