use Rattle.std.proofs.Common.{ℕ, ◌≤◌, ◌+◌, ◌∙◌, true, false, Some, refl, reverse, subst, sym}
use Rattle.inc_pp.specs.declared.causes.Cause.TheVariants.{TooMuchRead}
use Rattle.inc_pp.specs.Tasks.{State}
use Rattle.inc_pp.specs.StateViews.{state_of}
use Rattle.inc_pp.specs.WalkJobs.{first_frame, frames_left, job_in, over_by}
use Rattle.inc_pp.specs.WalkStates.{IsOver}
use Rattle.inc_pp.proofs.WalkLemmas.{counted-faulty, counted-known, counted-much, counted-passed, counted-sound, enter-break, known-wide, left-first, left-known, left-same, much_by, reverse-push}
use Rattle.inc_pp.proofs.walks.Job.enter.Goals as goal

pub returns-in-Err-clause-over : goal.returns-in-Err-clause-over
returns-in-Err-clause-over g c = λ origin source table earlier e.
    enter-break g.S.Sources.gives origin c.args.sources.now (job_in c.args.self.now source table earlier) c.args.files.now (reverse c.args.frames.now.items) c.args.to (state_of c.args.state.now) e
    c.known_size.new.sources c.known_size.new.self (state_of c.args.state.now) c.in-Err.why c.in-Err.ensures.never c.in-Err.ensures.unread

pub returns-then-is_too_much-clause-over : goal.returns-then-is_too_much-clause-over
returns-then-is_too_much-clause-over g c = λ origin source table earlier e.
    let job = job_in c.args.self.now source table earlier in
    let frames = reverse c.args.frames.now.items in
    let s : State = state_of c.args.state.now in
    let counted = counted-known g.S.Sources.gives origin c.args.sources.now job c.args.files.now frames c.args.to s e c.known_size.new.sources c.known_size.new.self c.in-Ok.size c.language-language.result c.language-language.ensures c.in-Ok.ensures.known in
    let much = much_by job.settings.most_read s (state_of c.add_read.new.self) c.args.to.at.file c.in-Ok.size c.bytes_read.result c.is_too_much.result true c.in_ok-add_read.ensures c.bytes_read.ensures c.is_too_much.ensures c.if-is_too_much.true in (
      subst (λ (st : State). IsOver g.S.Sources.gives origin c.known_size.new.sources job c.known_size.new.self
          (over_by st (Some (record { file = c.args.to.by.file; line = c.args.to.by.line; cause = TooMuchRead })))) (sym c.in_ok-add_read.ensures)
          (counted-much g.S.Sources.gives origin c.known_size.new.sources job c.known_size.new.self frames c.args.to c.in-Ok.size s counted much),
      e.file_within.1,
    )

pub returns-then-is_skipped-clause-entered : goal.returns-then-is_skipped-clause-entered
returns-then-is_skipped-clause-entered g c = λ origin source table earlier e.
    let job = job_in c.args.self.now source table earlier in
    let frames = reverse c.args.frames.now.items in
    let s : State = state_of c.args.state.now in
    let nothing = c.is_skipped.ensures c.if-is_skipped.true in
    let counted = counted-known g.S.Sources.gives origin c.args.sources.now job c.args.files.now frames c.args.to s e c.known_size.new.sources c.known_size.new.self c.in-Ok.size c.language-language.result c.language-language.ensures c.in-Ok.ensures.known in
    let few = much_by job.settings.most_read s (state_of c.add_read.new.self) c.args.to.at.file c.in-Ok.size c.bytes_read.result c.is_too_much.result false c.in_ok-add_read.ensures c.bytes_read.ensures c.is_too_much.ensures c.if-is_too_much.false in
    counted-passed g.S.Sources.gives origin c.known_size.new.sources job c.known_size.new.self frames c.args.to c.in-Ok.size s (state_of c.add_read.new.self) counted few c.in_ok-add_read.ensures nothing.0 nothing.1 nothing.2 nothing.3

pub returns-then-is_skipped-clause-left : goal.returns-then-is_skipped-clause-left
returns-then-is_skipped-clause-left g c = λ origin source table earlier e.
    let frames = reverse c.args.frames.now.items in
    left-same c.args.files.now c.known_size.new.self frames
    (left-known g.S.Sources.gives origin c.args.sources.now (job_in c.args.self.now source table earlier) c.args.files.now frames c.args.to (state_of c.args.state.now) e
    c.known_size.new.sources c.known_size.new.self c.in-Ok.size c.language-language.result c.in-Ok.ensures.known)

pub returns-then-is_skipped-clause-wide : goal.returns-then-is_skipped-clause-wide
returns-then-is_skipped-clause-wide g c =
    known-wide g.S.Sources.gives c.language-language.result c.args.self.now.removed.now c.args.to.at.file c.args.sources.now c.known_size.new.sources c.args.files.now c.known_size.new.self c.in-Ok.size c.in-Ok.ensures.known

pub returns-in-Some-clause-over : goal.returns-in-Some-clause-over
returns-in-Some-clause-over g c = λ origin source table earlier e.
    let job = job_in c.args.self.now source table earlier in
    let frames = reverse c.args.frames.now.items in
    let s : State = state_of c.args.state.now in
    let counted = counted-known g.S.Sources.gives origin c.args.sources.now job c.args.files.now frames c.args.to s e c.known_size.new.sources c.known_size.new.self c.in-Ok.size c.language-language.result c.language-language.ensures c.in-Ok.ensures.known in
    let few = much_by job.settings.most_read s (state_of c.add_read.new.self) c.args.to.at.file c.in-Ok.size c.bytes_read.result c.is_too_much.result false c.in_ok-add_read.ensures c.bytes_read.ensures c.is_too_much.ensures c.if-is_too_much.false in (
      subst (λ (st : State). IsOver g.S.Sources.gives origin c.known_size.new.sources job c.known_size.new.self
          (over_by st (Some (record { file = c.args.to.at.file; line = c.in-Some.line; cause = c.in-Some.cause })))) (sym c.in_ok-add_read.ensures)
          (counted-faulty g.S.Sources.gives origin c.known_size.new.sources job c.known_size.new.self frames c.args.to c.in-Ok.size s counted few c.in-Some.line c.in-Some.cause (sym c.fault.ensures ∙ c.in-Some.is)),
      e.file_within.0,
    )

pub returns-clause-entered : goal.returns-clause-entered
returns-clause-entered g c = λ origin source table earlier e.
    let job = job_in c.args.self.now source table earlier in
    let frames = reverse c.args.frames.now.items in
    let s : State = state_of c.args.state.now in
    let counted = counted-known g.S.Sources.gives origin c.args.sources.now job c.args.files.now frames c.args.to s e c.known_size.new.sources c.known_size.new.self c.in-Ok.size c.language-language.result c.language-language.ensures c.in-Ok.ensures.known in
    let few = much_by job.settings.most_read s (state_of c.add_read.new.self) c.args.to.at.file c.in-Ok.size c.bytes_read.result c.is_too_much.result false c.in_ok-add_read.ensures c.bytes_read.ensures c.is_too_much.ensures c.if-is_too_much.false in
    rw (reverse-push c.args.frames.now.items c.open.new.frames.items (first_frame c.args.self.now.project.now c.args.to) c.in_ok-open.ensures, c.in_ok-add_read.ensures)
    (counted-sound g.S.Sources.gives origin c.known_size.new.sources job c.known_size.new.self frames c.args.to c.in-Ok.size s counted few (first_frame c.args.self.now.project.now c.args.to) (sym c.fault.ensures ∙ c.in_default.is) refl)

pub returns-clause-left : goal.returns-clause-left
returns-clause-left g c = λ origin source table earlier e.
    let frames = reverse c.args.frames.now.items in
    let first = first_frame c.args.self.now.project.now c.args.to in
    let before : ℕ = frames_left c.args.files.now frames in
    subst (λ fs. frames_left c.known_size.new.self fs ≤ before + 18_446_744_073_709_551_617)
    (sym (reverse-push c.args.frames.now.items c.open.new.frames.items first c.in_ok-open.ensures))
    (left-first c.args.files.now c.known_size.new.self frames first c.count_in-parts.result
    (left-known g.S.Sources.gives origin c.args.sources.now (job_in c.args.self.now source table earlier) c.args.files.now frames c.args.to (state_of c.args.state.now) e
    c.known_size.new.sources c.known_size.new.self c.in-Ok.size c.language-language.result c.in-Ok.ensures.known)
    c.count_in-parts.ensures c.count_in-parts.type_inv)

pub returns-clause-wide : goal.returns-clause-wide
returns-clause-wide g c =
    known-wide g.S.Sources.gives c.language-language.result c.args.self.now.removed.now c.args.to.at.file c.args.sources.now c.known_size.new.sources c.args.files.now c.known_size.new.self c.in-Ok.size c.in-Ok.ensures.known
