use Rattle.std.proofs.Common.{ap}
use Rattle.std.proofs.lemmas.Result.{err_from_is_err_and}
use Rattle.inc_expand.specs.declared.frames.Level.{Level}
use Rattle.inc_expand.specs.Sets.{size}
use Rattle.inc_expand.specs.Cases.{surroundings_value}
use Rattle.inc_expand.proofs.FrameSteps.{turn-closed, closed-fault, closed-noted, closed-known}
use Rattle.inc_expand.proofs.SubstitutionSteps.{no_argument}
use Rattle.inc_expand.proofs.cases.Surroundings.close.Goals as goal

pub go_on-requires-clause-call : goal.go_on-requires-clause-call
go_on-requires-clause-call c =
    closed-known (surroundings_value c.args.self.now) c.args.work.now c.args.frames.now c.args.frame c.args.level.now no_argument c.expand.new.self c.replace-out.result.out.items
    (ap (λ (l : Level). l.out.items) c.replace-out.ensures.value)
    (c.expand.ensures no_argument) c.requires.over c.requires.frames.0.within
    (size c.args.work.now.sets) c.requires.frames.0.known c.requires.level.out

pub go_on-requires-clause-noted : goal.go_on-requires-clause-noted
go_on-requires-clause-noted c =
    closed-noted (surroundings_value c.args.self.now) c.args.work.now c.args.frames.now c.args.frame c.args.level.now no_argument c.expand.new.self c.replace-out.result.out.items
    (ap (λ (l : Level). l.out.items) c.replace-out.ensures.value)
    (c.expand.ensures no_argument) c.requires.over c.requires.frames.0.within c.requires.frames.0.noted

pub returns-in_err-go_on-clause-fault : goal.returns-in_err-go_on-clause-fault
returns-in_err-go_on-clause-fault c =
    let p = err_from_is_err_and c.from_residual.result c.from_residual.ensures.1 in
    rw (p.1, p.2) (λ other.
    closed-fault (surroundings_value c.args.self.now) c.args.work.now c.args.frames.now c.args.frame c.args.level.now no_argument c.expand.new.self c.replace-out.result.out.items
    (ap (λ (l : Level). l.out.items) c.replace-out.ensures.value)
    (c.expand.ensures no_argument) c.requires.over c.requires.frames.0.within
    c.replace-out.new.dest c.replace-out.ensures.after _ (c.in_err-go_on.ensures.fault other))

pub returns-clause-turn : goal.returns-clause-turn
returns-clause-turn c =
    turn-closed (surroundings_value c.args.self.now) c.args.work.now c.args.frames.now c.args.frame c.args.level.now no_argument c.expand.new.self c.replace-out.result.out.items
    (ap (λ (l : Level). l.out.items) c.replace-out.ensures.value)
    (c.expand.ensures no_argument) c.requires.over c.requires.frames.0.within
    c.replace-out.new.dest c.replace-out.ensures.after c.go_on.new.work c.go_on.new.frames c.go_on.new.level c.in_ok-go_on.ensures.gone
