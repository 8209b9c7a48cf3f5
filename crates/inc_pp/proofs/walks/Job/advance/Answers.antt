use Rattle.std.proofs.Common.{rules, ◌<◌, ◌≤◌, ◌+◌, ◌∷◌, ◌∙◌, length, refl, reverse, ap, sym, subst, option_map}
use Rattle.inc_pp.specs.StateViews.{state_of}
use Rattle.inc_pp.specs.WalkJobs.{frames_left, job_in, walk_left}
use Rattle.inc_pp.specs.WalkStates.{IsWalk, IsEntering}
use Rattle.inc_pp.proofs.StopSteps.{if-stop}
use Rattle.inc_pp.proofs.WalkLemmas.{held_is, some_past, on_ok, on_ok_both, if_err, reverse-push, walk-done, walk-held, done-break, within_held, walk-within, walk-step, walk-enter, walk-break, left-enter, found_of, nests_by, one_longer, few_of, some_low}
use Rattle.inc_pp.proofs.walks.Job.advance.Goals as goal

pub returns-in_default-clause-walk : goal.returns-in_default-clause-walk
returns-in_default-clause-walk g c = λ origin source table earlier w.
    absurd (walk-held g.S.Sources.gives origin c.args.sources.now (job_in c.args.self.now source table earlier) c.args.files.now (reverse c.args.frames.now.items) c.args.frame (state_of c.args.state.now) w (sym c.get.ensures ∙ ap (option_map (λ h. h.now)) c.in_default.is))

pub returns-in-Ok-clause-walk : goal.returns-in-Ok-clause-walk
returns-in-Ok-clause-walk g c = λ origin source table earlier w.
    walk-done g.S.Sources.gives origin c.args.sources.now (job_in c.args.self.now source table earlier) c.args.files.now (reverse c.args.frames.now.items) c.args.frame (state_of c.args.state.now) w (state_of c.args.state.now) c.args.frame.here refl (some_past c.args.files.now c.args.frame.at.file c.count.result c.args.frame.part c.in-Some.held.now (held_is (λ h. h.now) c.get.result c.in-Some.held c.args.files.now c.args.frame.at.file c.get.ensures c.in-Some.is) c.count.ensures c.if-frame-count.true) (λ f under index. c.in-Ok.ensures.done f (state_of c.args.state.now))

pub returns-in-Err-clause-over : goal.returns-in-Err-clause-over
returns-in-Err-clause-over g c = λ origin source table earlier w.
    done-break g.S.Sources.gives origin c.args.sources.now (job_in c.args.self.now source table earlier) c.args.files.now (reverse c.args.frames.now.items) c.args.frame (state_of c.args.state.now) w c.in-Some.held.now (held_is (λ h. h.now) c.get.result c.in-Some.held c.args.files.now c.args.frame.at.file c.get.ensures c.in-Some.is) _ (nests_by c.len-nests.result c.args.frames.now.items (search rules)) (state_of c.args.state.now) c.in-Err.why refl
    (within_held c.count.result c.args.frame.part c.in-Some.held.now c.count.ensures c.if-frame-count.true)
    (if-stop c.in-Err.why _ _ (λ line cause stops. (refl, λ f under index. stops f (state_of c.args.state.now))) c.in-Err.ensures.stop)

pub read-requires-clause-file : goal.read-requires-clause-file
read-requires-clause-file g c =
    let w = c.requires.walk in
    walk-within g.S.Sources.gives w.0 c.args.sources.now (job_in c.args.self.now w.1 w.2 w.3) c.args.files.now (reverse c.args.frames.now.items) c.args.frame (state_of c.args.state.now) w.4

pub returns-in-Err-read-clause-over : goal.returns-in-Err-read-clause-over
returns-in-Err-read-clause-over g c = λ origin source table earlier w.
    walk-break g.S.Sources.gives origin c.args.sources.now (job_in c.args.self.now source table earlier) c.args.files.now (reverse c.args.frames.now.items) c.args.frame (state_of c.args.state.now) w c.in-Some.held.now (held_is (λ h. h.now) c.get.result c.in-Some.held c.args.files.now c.args.frame.at.file c.get.ensures c.in-Some.is) _ (nests_by c.len-nests.result c.args.frames.now.items (search rules)) (state_of c.read.new.state) c.in-Err-read.why c.read.ensures.reads c.in-Err-read.ensures.stop

pub returns-in-Some-found-clause-walk : goal.returns-in-Some-found-clause-walk
returns-in-Some-found-clause-walk g c =
    on_ok c.enter.result (λ entered origin source table earlier w. entered origin source table earlier (subst (λ fs. IsEntering g.S.Sources.gives origin c.args.sources.now (job_in c.args.self.now source table earlier) c.args.files.now fs c.in-Some-found.to (state_of c.read.new.state)) (sym (reverse-push c.args.frames.now.items c.push.new.self.items c.read.new.frame c.in_ok-push.ensures.items)) (walk-enter g.S.Sources.gives origin c.args.sources.now (job_in c.args.self.now source table earlier) c.args.files.now (reverse c.args.frames.now.items) c.args.frame (state_of c.args.state.now) w c.in-Some.held.now (held_is (λ h. h.now) c.get.result c.in-Some.held c.args.files.now c.args.frame.at.file c.get.ensures c.in-Some.is) _ (nests_by c.len-nests.result c.args.frames.now.items (search rules)) c.read.new.frame (state_of c.read.new.state) c.in-Ok-read.ensures.same c.read.ensures.reads c.in-Ok-read.found c.in-Some-found.to c.in-Some-found.is (found_of _ c.in-Ok-read.found c.in-Some-found.to c.in-Some-found.is c.in-Ok-read.ensures.found).0 (found_of _ c.in-Ok-read.found c.in-Some-found.to c.in-Some-found.is c.in-Ok-read.ensures.found).1 c.in-Ok-read.ensures.leads))) c.enter.ensures.entered

pub returns-in-Some-found-clause-less : goal.returns-in-Some-found-clause-less
returns-in-Some-found-clause-less g c =
    let front = (reverse-push c.args.frames.now.items c.push.new.self.items c.read.new.frame c.in_ok-push.ensures.items) in
    let walk = c.requires.walk in
    on_ok_both c.enter.result
    (λ reads left. subst (λ n. walk_left c.enter.new.files (reverse c.enter.new.frames.items) n < walk_left c.args.files.now (c.args.frame ∷ reverse c.args.frames.now.items) (length c.args.state.now.reads))
    (sym (one_longer c.enter.new.state.reads c.read.new.state.reads c.args.state.now.reads c.in-Some-found.to.at.file reads c.read.ensures.reads))
    (left-enter c.args.files.now c.enter.new.files (reverse c.args.frames.now.items) (reverse c.enter.new.frames.items) c.args.frame c.read.new.frame (length c.args.state.now.reads)
    c.in-Ok-read.ensures.same c.in-Ok-read.ensures.onward
    (some_low c.args.files.now c.args.frame.at.file c.count.result c.args.frame.part c.in-Some.held.now (held_is (λ h. h.now) c.get.result c.in-Some.held c.args.files.now c.args.frame.at.file c.get.ensures c.in-Some.is) c.count.ensures c.if-frame-count.false)
    (few_of c.read.new.state.reads c.args.state.now.reads c.read.ensures.reads (found_of _ c.in-Ok-read.found c.in-Some-found.to c.in-Some-found.is c.in-Ok-read.ensures.found).2)
    (subst (λ fs. frames_left c.enter.new.files (reverse c.enter.new.frames.items) ≤ frames_left c.args.files.now fs + 18_446_744_073_709_551_617) front
    (left walk.0 walk.1 walk.2 walk.3 (subst (λ fs. IsEntering g.S.Sources.gives walk.0 c.args.sources.now (job_in c.args.self.now walk.1 walk.2 walk.3) c.args.files.now fs c.in-Some-found.to (state_of c.read.new.state)) (sym (reverse-push c.args.frames.now.items c.push.new.self.items c.read.new.frame c.in_ok-push.ensures.items)) (walk-enter g.S.Sources.gives walk.0 c.args.sources.now (job_in c.args.self.now walk.1 walk.2 walk.3) c.args.files.now (reverse c.args.frames.now.items) c.args.frame (state_of c.args.state.now) walk.4 c.in-Some.held.now (held_is (λ h. h.now) c.get.result c.in-Some.held c.args.files.now c.args.frame.at.file c.get.ensures c.in-Some.is) _ (nests_by c.len-nests.result c.args.frames.now.items (search rules)) c.read.new.frame (state_of c.read.new.state) c.in-Ok-read.ensures.same c.read.ensures.reads c.in-Ok-read.found c.in-Some-found.to c.in-Some-found.is (found_of _ c.in-Ok-read.found c.in-Some-found.to c.in-Some-found.is c.in-Ok-read.ensures.found).0 (found_of _ c.in-Ok-read.found c.in-Some-found.to c.in-Some-found.is c.in-Ok-read.ensures.found).1 c.in-Ok-read.ensures.leads))))))
    c.enter.ensures.reads c.enter.ensures.left

pub returns-in-Some-found-clause-over : goal.returns-in-Some-found-clause-over
returns-in-Some-found-clause-over g c =
    if_err c.enter.result (λ end over origin source table earlier w. over origin source table earlier (subst (λ fs. IsEntering g.S.Sources.gives origin c.args.sources.now (job_in c.args.self.now source table earlier) c.args.files.now fs c.in-Some-found.to (state_of c.read.new.state)) (sym (reverse-push c.args.frames.now.items c.push.new.self.items c.read.new.frame c.in_ok-push.ensures.items)) (walk-enter g.S.Sources.gives origin c.args.sources.now (job_in c.args.self.now source table earlier) c.args.files.now (reverse c.args.frames.now.items) c.args.frame (state_of c.args.state.now) w c.in-Some.held.now (held_is (λ h. h.now) c.get.result c.in-Some.held c.args.files.now c.args.frame.at.file c.get.ensures c.in-Some.is) _ (nests_by c.len-nests.result c.args.frames.now.items (search rules)) c.read.new.frame (state_of c.read.new.state) c.in-Ok-read.ensures.same c.read.ensures.reads c.in-Ok-read.found c.in-Some-found.to c.in-Some-found.is (found_of _ c.in-Ok-read.found c.in-Some-found.to c.in-Some-found.is c.in-Ok-read.ensures.found).0 (found_of _ c.in-Ok-read.found c.in-Some-found.to c.in-Some-found.is c.in-Ok-read.ensures.found).1 c.in-Ok-read.ensures.leads))) c.enter.ensures.over

pub returns-in-None-clause-walk : goal.returns-in-None-clause-walk
returns-in-None-clause-walk g c = λ origin source table earlier w.
    subst (λ fs. IsWalk g.S.Sources.gives origin c.args.sources.now (job_in c.args.self.now source table earlier) c.args.files.now fs (state_of c.read.new.state)) (sym (reverse-push c.args.frames.now.items c.push.new.self.items c.read.new.frame c.in_ok-push.ensures.items))
    (walk-step g.S.Sources.gives origin c.args.sources.now (job_in c.args.self.now source table earlier) c.args.files.now (reverse c.args.frames.now.items) c.args.frame (state_of c.args.state.now) w c.in-Some.held.now (held_is (λ h. h.now) c.get.result c.in-Some.held c.args.files.now c.args.frame.at.file c.get.ensures c.in-Some.is) _ (nests_by c.len-nests.result c.args.frames.now.items (search rules)) c.read.new.frame (state_of c.read.new.state) c.in-Ok-read.ensures.same c.read.ensures.reads c.in-Ok-read.found c.in-None.is c.in-Ok-read.ensures.leads)
