use Rattle.std.proofs.Common.{arith, refl}
use Rattle.inc_token.proofs.FrontPlaces.{placed_at}
use Rattle.inc_token.proofs.SkippedLines.{end_within, line_over, text_over, comment_within, known-open}
use Rattle.inc_token.proofs.lines.fronts.Walk.end_line.Goals as goal

pub place_of-line-requires : goal.place_of-line-requires
place_of-line-requires c =
    let w = c.args.self.now in
    let h = c.requires in
    omega (arith, h.len, comment_within c.args.self.now.language w.bytes.now w.cursor h.bytes w.at c.in-ToOpenComment.stop c.in-ToOpenComment.ensures)

pub returns-then-stop-self-clause-ends : goal.returns-then-stop-self-clause-ends
returns-then-stop-self-clause-ends c =
    let w = c.args.self.now in
    let h = c.requires in
    let stop = c.in-ToLineEnd.stop in
    let to = end_within c.args.self.now.language w.bytes.now w.cursor h.bytes w.at stop c.in-ToLineEnd.ensures (omega (arith, h.len, h.within)) in (
      omega (arith, to.0),
      λ b. line_over c.args.self.now.language w.bytes.now w.cursor h.bytes w.at stop c.in-ToLineEnd.ensures b (omega (arith, h.len, c.if-stop-self.true)),
    )

pub returns-else-stop-self-clause-ends : goal.returns-else-stop-self-clause-ends
returns-else-stop-self-clause-ends c =
    let w = c.args.self.now in
    let h = c.requires in
    let stop = c.in-ToLineEnd.stop in
    let to = end_within c.args.self.now.language w.bytes.now w.cursor h.bytes w.at stop c.in-ToLineEnd.ensures (omega (arith, h.len, h.within)) in (
      omega (arith, h.len, to.1, c.if-stop-self.false),
      λ b. text_over c.args.self.now.language w.bytes.now w.cursor h.bytes w.at stop c.in-ToLineEnd.ensures b (omega (arith, h.len, c.if-stop-self.false)),
    )

pub returns-in-ToOpenComment-clause-fault : goal.returns-in-ToOpenComment-clause-fault
returns-in-ToOpenComment-clause-fault c = λ p.
    let w = c.args.self.now in
    let h = c.requires in
    let stop = c.in-ToOpenComment.stop in
    let place = c.place_of-line.result in
    known-open c.args.self.now.language w.bytes.now w.cursor h.bytes w.at stop c.in-ToOpenComment.ensures p place.first place.last place.line
    (omega (arith, h.len, comment_within c.args.self.now.language w.bytes.now w.cursor h.bytes w.at stop c.in-ToOpenComment.ensures)) c.place_of-line.ensures.place

pub returns-else-stop-self-clause-moved : goal.returns-else-stop-self-clause-moved
returns-else-stop-self-clause-moved c =
    let w = c.args.self.now in
    let h = c.requires in
    let to = end_within c.args.self.now.language w.bytes.now w.cursor h.bytes w.at c.in-ToLineEnd.stop c.in-ToLineEnd.ensures (omega (arith, h.len, h.within)) in
    record {
      walk = placed_at w c.in-ToLineEnd.stop h (omega (arith, to.0)) (omega (arith, h.len, to.1));
      same = refl;
      spoken = refl;
      after = omega (arith, to.0);
    }
