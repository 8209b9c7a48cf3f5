use Rattle.std.proofs.Common.{true, ap, sym, ◌∙◌, arith}
use Rattle.std.proofs.lemmas.List.{drop_all}
use Rattle.inc_token.specs.LineFronts.{Nothing, Known, line_brief, ahead}
use Rattle.inc_token.proofs.FrontSteps.{ahead-nil}
use Rattle.inc_token.proofs.lines.fronts.Walk.front.Goals as goal

pub returns-clause-front : goal.returns-clause-front
returns-clause-front c =
    let w = c.loop-self.self in
    let h = c.loop-self.invariant in
    let end = drop_all w.at w.cursor (omega (arith, h.walk.len, c.loop-self-test.false)) in
    sym h.ahead ∙ ap (ahead w.language Nothing) end ∙ ahead-nil w.language Nothing
    ∙ sym (ap (ahead w.language (Known (line_brief true))) end ∙ ahead-nil w.language (Known (line_brief true)))
