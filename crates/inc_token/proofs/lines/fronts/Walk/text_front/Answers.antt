use Rattle.std.proofs.Common.{◌<◌, length, arith, sym, ◌∙◌}
use Rattle.inc_token.specs.LineFronts.{Nothing}
use Rattle.inc_token.proofs.BegunText.{text_begun}
use Rattle.inc_token.proofs.FrontSteps.{ahead-known, line_feed_piece}
use Rattle.inc_token.proofs.lines.fronts.Walk.text_front.Goals as goal

pub returns-then-begins_text-clause-front : goal.returns-then-begins_text-clause-front
returns-then-begins_text-clause-front c =
    let w = c.skip_blanks.new.self in
    let h = c.skip_blanks.ensures.moved.walk in
    let left : w.at < length w.cursor = omega (arith, h.len, c.if-self.false) in
    sym (c.skip_blanks.ensures.ahead Nothing)
    ∙ text_begun w h left (c.skip_blanks.ensures.bare left) (sym c.begins_text.ensures ∙ c.if-begins_text.true)

pub returns-then-first-eq10-clause-front : goal.returns-then-first-eq10-clause-front
returns-then-first-eq10-clause-front c =
    let w = c.skip_blanks.new.self in
    let h = c.skip_blanks.ensures.moved.walk in
    let left : w.at < length w.bytes.now = omega (arith, c.if-self.false) in
    sym (c.skip_blanks.ensures.ahead Nothing)
    ∙ ahead-known w.language w.bytes.now w.cursor w.at Nothing h.bytes (line_feed_piece w.language w.bytes.now w.at left c.if-first-eq10.true)
