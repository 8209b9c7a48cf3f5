use Rattle.inc_pp.specs.StateViews.{state_of}
use Rattle.inc_pp.proofs.Stepping.{run-leads, run-onward, run-stop}
use Rattle.inc_pp.proofs.line_steps.read_run.Goals as goal

pub returns-in-Ok-clause-leads : goal.returns-in-Ok-clause-leads
returns-in-Ok-clause-leads c =
    λ f under index. run-leads c.args.lines.now c.args.frame.now.part c.requires.within c.requires.text c.run_end-end.result c.run_end-end.ensures.after c.run_end-end.ensures.text c.run_end-end.ensures.end c.count-count.ensures.parts f (state_of c.args.state.now) (state_of c.put_run.new.self) c.args.frame.now.here c.put_run.new.here (c.in-Ok.ensures.done f under index)

pub returns-in-Ok-clause-onward : goal.returns-in-Ok-clause-onward
returns-in-Ok-clause-onward c = run-onward c.args.lines.now c.args.frame.now.part c.requires.within c.requires.text c.run_end-end.result c.run_end-end.ensures.after c.run_end-end.ensures.text c.run_end-end.ensures.end

pub returns-in-Err-clause-stop : goal.returns-in-Err-clause-stop
returns-in-Err-clause-stop c =
    run-stop c.args.lines.now c.args.frame.now.part c.requires.within c.requires.text c.run_end-end.result c.run_end-end.ensures.after c.run_end-end.ensures.text c.run_end-end.ensures.end c.count-count.ensures.parts c.args.settings.now c.args.frame.now.at.file (state_of c.args.state.now) (state_of c.put_run.new.self) c.args.frame.now.here c.in-Err.fault c.in-Err.ensures.stop
