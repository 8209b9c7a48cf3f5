use Rattle.std.proofs.Common.{◌-◌, ◌∙◌, ap, take}
use Rattle.inc_build.specs.Builds.{is_named}
use Rattle.inc_inputs.proofs.FrontLemmas.{is_known, turn_known, turn_other, turn_slash}
use Rattle.inc_inputs.proofs.build_files.add_fronts.Goals as goal
use Rattle.inc_inputs.proofs.build_files.add_fronts.Goals.{else-path-at-eq47-via-then-path-at-eq47+in_ok-insert+else-not-branch, else-path-at-eq47-via-else-path-at-eq47}

pub returns-then-not-branch : goal.returns-then-not-branch
returns-then-not-branch c closed =
    turn_known c.args.path.now c.args.fronts.now.keys c.loop-at.at c.loop-at.fronts.keys c.insert.new.names.keys c.loop-at-test.true c.loop-at.invariant closed
    (is_known (is_named (take (c.loop-at.at - 1) c.args.path.now) c.loop-at.fronts.keys) c.in_ok-insert.field-0 c.in_ok-insert.ensures.new c.if-not-branch.true)
    c.in_ok-insert.ensures.names

pub loop-at-preserved : goal.loop-at-preserved
loop-at-preserved c =
    elim c.else-path-at-eq47.branch [
      | else-path-at-eq47-via-then-path-at-eq47+in_ok-insert+else-not-branch w ↦
          turn_slash c.args.path.now c.args.fronts.now.keys c.loop-at.at c.loop-at.fronts.keys c.else-path-at-eq47.fronts.keys c.loop-at-test.true c.loop-at.invariant
          w.if-path-at-eq47.true (ap (λ s. s.keys) w.fronts-is ∙ w.in_ok-insert.ensures.names)
      | else-path-at-eq47-via-else-path-at-eq47 w ↦
          turn_other c.args.path.now c.args.fronts.now.keys c.loop-at.at c.loop-at.fronts.keys c.else-path-at-eq47.fronts.keys c.loop-at-test.true c.loop-at.invariant
          w.if-path-at-eq47.false (ap (λ s. s.keys) w.fronts-is)
    ]
