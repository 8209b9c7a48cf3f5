use Rattle.std.proofs.Common.{◌<◌, ◌∙◌, length, sym, subst, arith, Some}
use Rattle.inc_lookup.specs.declared.projects.Found.{Found}
use Rattle.inc_pp.specs.StateViews.{state_of}
use Rattle.inc_pp.proofs.ReadLines.{is_begun, is_on, led, led_on, has_stopped}
use Rattle.inc_pp.proofs.held_files.HeldFile.read.Goals as goal

pub loop-frame-init : goal.loop-frame-init
loop-frame-init c = is_begun c.args.self.now c.args.project.now c.args.settings.now c.args.nests c.args.frame.now (state_of c.args.state.now)

pub read_on-requires-clause-file : goal.read_on-requires-clause-file
read_on-requires-clause-file c = subst (λ (at : Found). at.file < length c.args.project.now.paths) (sym c.loop-frame.invariant.same) c.requires.file

pub returns-in-Ok-Some-clause-leads : goal.returns-in-Ok-Some-clause-leads
returns-in-Ok-Some-clause-leads c =
    led c.args.self.now c.args.project.now c.args.settings.now c.args.nests c.args.frame.now (state_of c.args.state.now) c.loop-frame.frame (state_of c.loop-frame.state) c.loop-frame.invariant c.self.inside.lines c.self.view_is c.read_on.new.frame (state_of c.read_on.new.state) c.in-Ok-Some.field-0 (Some c.in-Ok-Some.found) c.in-Ok-Some.field-0-is c.in-Ok-Some.ensures.leads

pub returns-in-Ok-Some-clause-onward : goal.returns-in-Ok-Some-clause-onward
returns-in-Ok-Some-clause-onward c = omega (arith, c.loop-frame.invariant.onward, c.in-Ok-Some.ensures.onward)

pub returns-in-Ok-Some-clause-same : goal.returns-in-Ok-Some-clause-same
returns-in-Ok-Some-clause-same c = c.in-Ok-Some.ensures.same ∙ c.loop-frame.invariant.same

pub returns-in-Ok-Some-clause-reads : goal.returns-in-Ok-Some-clause-reads
returns-in-Ok-Some-clause-reads c = c.read_on.ensures.reads ∙ c.loop-frame.invariant.reads

pub loop-frame-preserved : goal.loop-frame-preserved
loop-frame-preserved c =
    is_on c.args.self.now c.args.project.now c.args.settings.now c.args.nests c.args.frame.now (state_of c.args.state.now) c.loop-frame.frame (state_of c.loop-frame.state) c.loop-frame.invariant c.self.inside.lines c.self.view_is c.read_on.new.frame (state_of c.read_on.new.state)
    c.in-Ok-None.field-0 c.in-Ok-None.field-0-is c.in-Ok-None.ensures.onward c.in-Ok-None.ensures.same c.read_on.ensures.reads c.in-Ok-None.ensures.leads

pub returns-in-Err-clause-reads : goal.returns-in-Err-clause-reads
returns-in-Err-clause-reads c = c.read_on.ensures.reads ∙ c.loop-frame.invariant.reads

pub returns-in-Err-clause-stop : goal.returns-in-Err-clause-stop
returns-in-Err-clause-stop c =
    has_stopped c.args.self.now c.args.project.now c.args.settings.now c.args.nests c.args.frame.now (state_of c.args.state.now) c.loop-frame.frame (state_of c.loop-frame.state) c.loop-frame.invariant c.self.inside.lines c.self.view_is c.in-Err.fault (state_of c.read_on.new.state) c.in-Err.ensures.stop

pub returns-clause-leads : goal.returns-clause-leads
returns-clause-leads c =
    led_on c.args.self.now c.args.project.now c.args.settings.now c.args.nests c.args.frame.now (state_of c.args.state.now) c.loop-frame.frame (state_of c.loop-frame.state) c.loop-frame.invariant c.self.inside.lines c.self.view_is

pub returns-clause-same : goal.returns-clause-same
returns-clause-same c = c.loop-frame.invariant.same

pub returns-clause-reads : goal.returns-clause-reads
returns-clause-reads c = c.loop-frame.invariant.reads
