use Rattle.std.proofs.Common.{refl}
use Rattle.inc_pp.specs.StateViews.{state_of}
use Rattle.inc_pp.proofs.StopSteps.{if-stop}
use Rattle.inc_pp.proofs.Stepping.{control-leads, control-stop, release-stop}
use Rattle.inc_pp.proofs.line_steps.read_control.Goals as goal

pub returns-in-Ok-control-clause-leads : goal.returns-in-Ok-control-clause-leads
returns-in-Ok-control-clause-leads c =
    λ f in_file.
    control-leads c.args.lines.now c.args.frame.now.part c.requires.within c.requires.control f (state_of c.args.state.now) (state_of c.args.state.now) (state_of c.control.new.self) c.args.frame.now.here c.args.frame.now.here c.control.new.here
    c.in-Ok-control.found (λ l at. c.in-Ok.ensures.done f l at) (λ l at. c.in-Ok-control.ensures.done f l in_file at)

pub returns-in-Err-clause-stop : goal.returns-in-Err-clause-stop
returns-in-Err-clause-stop c =
    release-stop c.args.lines.now c.args.frame.now.part c.requires.within c.requires.control c.args.project.now c.args.settings.now c.args.frame.now.at c.args.nests (state_of c.args.state.now) (state_of c.args.state.now) c.args.frame.now.here
    c.in-Err.fault (if-stop c.in-Err.fault _ _ (λ line cause stops. (refl, λ f l under index at. stops f l at)) c.in-Err.ensures.stop)

pub returns-in-Err-control-clause-stop : goal.returns-in-Err-control-clause-stop
returns-in-Err-control-clause-stop c =
    control-stop c.args.lines.now c.args.frame.now.part c.requires.within c.requires.control c.args.project.now c.args.settings.now c.args.frame.now.at c.args.nests (state_of c.args.state.now) (state_of c.args.state.now) (state_of c.control.new.self) c.args.frame.now.here c.args.frame.now.here
    c.in-Err-control.fault (λ f l in_file at. c.in-Ok.ensures.done f l at) c.in-Err-control.ensures.stop
