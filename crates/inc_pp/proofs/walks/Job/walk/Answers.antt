use Rattle.std.proofs.Common.{rules, ◌≡◌, ◌<◌, [], length, ap, reverse, sym, subst}
use Rattle.inc_pp.specs.StateViews.{state_of}
use Rattle.inc_pp.specs.Tasks.{Entry}
use Rattle.inc_pp.specs.WalkJobs.{job_in, walk_left}
use Rattle.inc_pp.specs.WalkStates.{IsWalk, IsEntering}
use Rattle.inc_pp.proofs.WalkLemmas.{reverse-push}
use Rattle.inc_pp.proofs.Wholes.{whole-enters, whole-over}
use Rattle.inc_pp.proofs.walks.Job.walk.Goals as goal

pub returns-in-Err-clause-ends : goal.returns-in-Err-clause-ends
returns-in-Err-clause-ends g c = λ origin table earlier begins shared. c.in-Err.ensures.over origin c.args.source table earlier
    (subst (λ fs. IsEntering g.S.Sources.gives origin c.args.sources.now (job_in c.args.self.now c.args.source table earlier) c.args.files.now fs c.in_ok-at.at (state_of c.args.state.now)) (sym (ap reverse c.new-frames.ensures.items))
    (subst (λ (e : Entry). IsEntering g.S.Sources.gives origin c.args.sources.now (job_in c.args.self.now c.args.source table earlier) c.args.files.now [] e (state_of c.args.state.now)) (sym c.in_ok-at.ensures)
    (whole-enters g.S.Sources.gives origin (job_in c.args.self.now c.args.source table earlier) c.args.sources.now c.args.files.now (state_of c.args.state.now) begins c.requires.within shared)))

pub loop-frame-init : goal.loop-frame-init
loop-frame-init g c = λ origin table earlier begins shared. c.in-Ok.ensures.entered origin c.args.source table earlier
    (subst (λ fs. IsEntering g.S.Sources.gives origin c.args.sources.now (job_in c.args.self.now c.args.source table earlier) c.args.files.now fs c.in_ok-at.at (state_of c.args.state.now)) (sym (ap reverse c.new-frames.ensures.items))
    (subst (λ (e : Entry). IsEntering g.S.Sources.gives origin c.args.sources.now (job_in c.args.self.now c.args.source table earlier) c.args.files.now [] e (state_of c.args.state.now)) (sym c.in_ok-at.ensures)
    (whole-enters g.S.Sources.gives origin (job_in c.args.self.now c.args.source table earlier) c.args.sources.now c.args.files.now (state_of c.args.state.now) begins c.requires.within shared)))

pub advance-requires : goal.advance-requires
advance-requires g c =
    let shared = c.requires.shared in
    let job = job_in c.args.self.now c.args.source c.requires.begun.0 shared.1 in
    record {
      walk = (
        shared.0,
        c.args.source,
        c.requires.begun.0,
        shared.1,
        subst (λ fs. IsWalk g.S.Sources.gives shared.0 c.loop-frame.sources job c.loop-frame.files fs (state_of c.loop-frame.state))
            (reverse-push c.pop.new.self.items c.loop-frame.frames.items c.in-Some.frame c.in-Some.ensures.items)
            (c.loop-frame.invariant shared.0 c.requires.begun.0 shared.1 c.requires.begun.1 shared.2),
      );
    }

pub loop-frame-smaller : goal.loop-frame-smaller
loop-frame-smaller g c =
    subst (λ fs. walk_left c.advance.new.files (reverse c.advance.new.frames.items) (length c.advance.new.state.reads) < walk_left c.loop-frame.files fs (length c.loop-frame.state.reads))
    (sym (reverse-push c.pop.new.self.items c.loop-frame.frames.items c.in-Some.frame c.in-Some.ensures.items)) c.in-Ok-advance.ensures.less

pub loop-frame-preserved : goal.loop-frame-preserved
loop-frame-preserved g c = λ origin table earlier begins shared. c.in-Ok-advance.ensures.walk origin c.args.source table earlier
    (subst (λ fs. IsWalk g.S.Sources.gives origin c.loop-frame.sources (job_in c.args.self.now c.args.source table earlier) c.loop-frame.files fs (state_of c.loop-frame.state)) (reverse-push c.pop.new.self.items c.loop-frame.frames.items c.in-Some.frame c.in-Some.ensures.items)
    (c.loop-frame.invariant origin table earlier begins shared))

pub returns-in-Err-advance-clause-ends : goal.returns-in-Err-advance-clause-ends
returns-in-Err-advance-clause-ends g c = λ origin table earlier begins shared. c.in-Err-advance.ensures.over origin c.args.source table earlier
    (subst (λ fs. IsWalk g.S.Sources.gives origin c.loop-frame.sources (job_in c.args.self.now c.args.source table earlier) c.loop-frame.files fs (state_of c.loop-frame.state)) (reverse-push c.pop.new.self.items c.loop-frame.frames.items c.in-Some.frame c.in-Some.ensures.items)
    (c.loop-frame.invariant origin table earlier begins shared))

pub returns-clause-over : goal.returns-clause-over
returns-clause-over g c = λ origin table earlier begins shared.
    let empty : c.loop-frame.frames.items ≡ [] = search rules in
    whole-over g.S.Sources.gives origin (job_in c.args.self.now c.args.source table earlier) c.loop-frame.sources c.loop-frame.files (state_of c.loop-frame.state)
    (subst (λ fs. IsWalk g.S.Sources.gives origin c.loop-frame.sources (job_in c.args.self.now c.args.source table earlier) c.loop-frame.files (reverse fs) (state_of c.loop-frame.state)) empty
    (c.loop-frame.invariant origin table earlier begins shared))
