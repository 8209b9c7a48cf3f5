use Rattle.std.proofs.Common.{None}
use Rattle.inc_pp.specs.Choices.{LeadsTo}
use Rattle.inc_pp.specs.StateViews.{state_of}
use Rattle.inc_pp.specs.Stops.{IsIn}
use Rattle.inc_pp.specs.Tasks.{File}
use Rattle.std.proofs.Common.{◌∙◌}
use Rattle.inc_pp.proofs.Choosing.{role_at}
use Rattle.inc_pp.proofs.Stepping.{on_to, endif-leads, searched-in}
use Rattle.inc_pp.proofs.line_steps.read_on.Goals.{in-TextLine+in_ok-read_run-in-TextLine, in-IfGroup+in_ok-frame-in-IfGroup, in-ElifGroup, in-EndifLine}
use Rattle.inc_pp.proofs.line_steps.read_on.Goals as goal

-- src/line_steps.rt:153:1
pub returns-clause-leads : goal.returns-clause-leads
returns-clause-leads c = λ f in_file. leads f in_file
  where
    leads : (f : File) → IsIn c.args.project.now c.args.settings.now c.args.frame.now.at c.args.nests f
        → LeadsTo c.args.lines.now f c.args.frame.now.part (state_of c.args.state.now) c.args.frame.now.here None c.match-role.frame.part (state_of c.match-role.state) c.match-role.frame.here
    leads f in_file = elim c.match-role.branch [
      | in-TextLine+in_ok-read_run-in-TextLine w ↦ rw (w.frame-is, w.state-is) (w.in_ok-read_run-in-TextLine.ensures.leads f in_file.under in_file.at)
      | in-IfGroup+in_ok-frame-in-IfGroup w ↦ rw (w.frame-is, w.state-is)
          (on_to c.args.lines.now f c.args.frame.now.part w.in_ok-frame-in-IfGroup.field-0 (state_of c.args.state.now) (state_of w.choose.new.state) c.args.frame.now.here c.args.frame.now.here
          (w.in_ok-frame-in-IfGroup.ensures.next f (searched-in c.args.project.now c.args.settings.now c.args.frame.now.at c.args.nests f in_file w.new-headers.result w.new-headers.ensures)))
      | in-ElifGroup w ↦ rw (w.frame-is, w.state-is)
          (on_to c.args.lines.now f c.args.frame.now.part w.end_of-frame.result (state_of c.args.state.now) (state_of c.args.state.now) c.args.frame.now.here c.args.frame.now.here
          (w.end_of-frame.ensures.leads f (state_of c.args.state.now) c.args.frame.now.here))
      | in-EndifLine w ↦ rw (w.frame-is, w.state-is)
          (endif-leads c.args.lines.now c.args.frame.now.part c.requires.within
          (λ l at. role_at c.args.lines.now c.args.frame.now.part c.role.result c.role.ensures l at ∙ w.in-EndifLine.is) f (state_of c.args.state.now) c.args.frame.now.here)
    ]
