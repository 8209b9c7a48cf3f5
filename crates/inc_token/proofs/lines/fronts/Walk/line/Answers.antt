use Rattle.std.proofs.Common.{drop, ◌∙◌, ap, arith}
use Rattle.std.proofs.lemmas.List.{drop_all}
use Rattle.std.proofs.lemmas.Result.{err_from_is_err_and}
use Rattle.inc_token.specs.LineFronts.{Nothing, ahead, seen_brief}
use Rattle.inc_token.proofs.FrontPlaces.{line_missed, line_taken}
use Rattle.inc_token.proofs.FrontSteps.{ahead-nil, fault_ahead, no_line_ahead}
use Rattle.inc_token.proofs.lines.fronts.Walk.line.Goals as goal

pub returns-then-self-clause-line : goal.returns-then-self-clause-line
returns-then-self-clause-line c =
    let w = c.args.self.now in
    let h = c.requires.walk in
    let end = drop_all w.at w.cursor (omega (arith, h.len, c.if-self.true)) in
    no_line_ahead c.args.self.now.language (drop c.args.start w.cursor) (c.requires.front.ahead ∙ ap (ahead c.args.self.now.language Nothing) end ∙ ahead-nil c.args.self.now.language Nothing)

pub returns-in_err-sketch-clause-fault : goal.returns-in_err-sketch-clause-fault
returns-in_err-sketch-clause-fault c =
    let w = c.args.self.now in
    let p = err_from_is_err_and c.from_residual.result c.from_residual.ensures.1 in
    rw (p.1, p.2) (fault_ahead c.args.self.now.language (drop c.args.start w.cursor) _ (c.requires.front.ahead ∙ c.in_err-sketch.ensures.fault))

pub returns-in_err-end_line-clause-fault : goal.returns-in_err-end_line-clause-fault
returns-in_err-end_line-clause-fault c =
    let w = c.args.self.now in
    let p = err_from_is_err_and c.from_residual-in_err-end_line.result c.from_residual-in_err-end_line.ensures.1 in
    rw (p.1, p.2)
    (fault_ahead c.args.self.now.language (drop c.args.start w.cursor) _
    (c.requires.front.ahead ∙ c.in_ok-sketch.ensures.ahead ∙ c.in_err-end_line.ensures.fault (seen_brief w.cursor c.in_ok-sketch.sketch)))

pub returns-then-not-branch-clause-line : goal.returns-then-not-branch-clause-line
returns-then-not-branch-clause-line c =
    let w = c.args.self.now in
    line_missed w c.sketch.new.self c.end_line.new.self c.args.start (seen_brief w.cursor c.in_ok-sketch.sketch) (c.requires.front.ahead ∙ c.in_ok-sketch.ensures.ahead)
    c.in_ok-end_line.field-0 c.if-not-branch.true c.in_ok-end_line.ensures.ends

pub returns-clause-line : goal.returns-clause-line
returns-clause-line c =
    let w = c.args.self.now in
    let line = c.in_ok-sketch.ensures in
    line_taken w c.sketch.new.self c.end_line.new.self c.args.start c.in_ok-sketch.sketch c.requires.front line.ahead c.in_ok-end_line.field-0
    c.if-not-branch.false line.start line.brief line.places c.sketch.ensures.moved c.end_line.ensures.moved c.in_ok-end_line.ensures.ends
