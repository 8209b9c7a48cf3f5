use Rattle.std.proofs.Common.{[], ◌≡◌, ◌+◌, length, take, drop, ap, sym, ◌∙◌, arith}
use Rattle.inc_token.specs.LineFronts.{Known, brief_by, begun_with, ahead}
use Rattle.inc_token.specs.Prefixes.{Operand}
use Rattle.inc_token.specs.Views.{seen_operand}
use Rattle.inc_token.specs.TokenLines.{piece_at}
use Rattle.inc_token.specs.declared.pieces.Piece.TheVariants.{Blank, Lexeme, Unclosed}
use Rattle.inc_token.proofs.FrontPlaces.{placed_at, piece_left}
use Rattle.inc_token.proofs.FrontSteps.{ahead-blank, ahead-known, ahead-open, token_ahead}
use Rattle.inc_token.proofs.lines.fronts.Walk.next_token.Goals as goal

pub overflow_add-self : goal.overflow_add-self
overflow_add-self c =
    let w = c.piece.new.self in
    let h = c.piece.ensures.moved.walk in
    let fits = piece_left w.language w.bytes.now w.at c.args.progress (Blank c.in-Blank.len) c.in-Blank.ensures.piece (λ other. cc) in
    omega (arith, fits.2, h.len, h.short)

pub gaps-preserved : goal.gaps-preserved
gaps-preserved c =
    let w = c.piece.new.self in
    let h = c.piece.ensures.moved.walk in
    let fits = piece_left w.language w.bytes.now w.at c.args.progress (Blank c.in-Blank.len) c.in-Blank.ensures.piece (λ other. cc) in
    record {
      walk = placed_at w _ h (omega arith) (omega (arith, fits.2, h.len));
      same = c.piece.ensures.moved.same ∙ c.gaps.invariant.same;
      spoken = c.piece.ensures.moved.spoken ∙ c.gaps.invariant.spoken;
      after = omega (arith, c.piece.ensures.moved.after, c.gaps.invariant.after);
      ahead = λ begun is.
          let piece = c.in-Blank.ensures.piece ∙ ap (λ p. piece_at w.language p (drop w.at w.bytes.now)) (sym is) in
          ahead-blank w.language w.bytes.now w.cursor w.at c.in-Blank.len begun h.bytes (omega (arith, fits.0, h.len)) piece fits.1
          ∙ c.piece.ensures.ahead begun ∙ c.gaps.invariant.ahead begun is;
    }

pub gaps-smaller : goal.gaps-smaller
gaps-smaller c =
    let w = c.piece.new.self in
    let h = c.piece.ensures.moved.walk in
    let fits = piece_left w.language w.bytes.now w.at c.args.progress (Blank c.in-Blank.len) c.in-Blank.ensures.piece (λ other. cc) in
    let cells = ap length c.piece.ensures.moved.same in
    omega (arith, fits.0, fits.1, h.len, cells, c.piece.ensures.moved.after)

pub returns-in-NewLine-clause-token : goal.returns-in-NewLine-clause-token
returns-in-NewLine-clause-token c = λ begun is.
    let w = c.piece.new.self in
    let piece = c.in-NewLine.ensures.piece ∙ ap (λ p. piece_at w.language p (drop w.at w.bytes.now)) (sym is) in
    sym (c.piece.ensures.ahead begun ∙ c.gaps.invariant.ahead begun is) ∙ ahead-known w.language w.bytes.now w.cursor w.at begun c.piece.ensures.moved.walk.bytes piece
    ∙ ap (λ k. ahead w.language (Known (brief_by k begun [])) (drop w.at w.cursor)) (c.piece.ensures.moved.spoken ∙ c.gaps.invariant.spoken)

pub take-requires-clause-fits : goal.take-requires-clause-fits
take-requires-clause-fits c =
    let w = c.piece.new.self in
    let h = c.piece.ensures.moved.walk in
    let fits = piece_left w.language w.bytes.now w.at c.args.progress (Lexeme c.in-Lexeme.kind c.in-Lexeme.len) c.in-Lexeme.ensures.piece (λ other. cc) in
    omega (arith, fits.2, h.len)

pub returns-in-Lexeme-clause-token : goal.returns-in-Lexeme-clause-token
returns-in-Lexeme-clause-token c = λ begun is.
    let w = c.piece.new.self in
    let h = c.piece.ensures.moved.walk in
    let n = c.in-Lexeme.len in
    let fits = piece_left w.language w.bytes.now w.at c.args.progress (Lexeme c.in-Lexeme.kind n) c.in-Lexeme.ensures.piece (λ other. cc) in
    let piece = c.in-Lexeme.ensures.piece ∙ ap (λ p. piece_at w.language p (drop w.at w.bytes.now)) (sym is) in
    let there = token_ahead w.language w.bytes.now w.cursor w.at n c.in-Lexeme.kind begun h.bytes (omega (arith, fits.0, h.len)) piece fits.1 in
    let same : record { kind = c.in-Lexeme.kind; spelling = take n (drop w.at w.bytes.now) } ≡ seen_operand c.take.result =
    ap (λ k. record { kind = k; spelling = take n (drop w.at w.bytes.now) }) (sym c.take.ensures.kind)
    ∙ ap (λ s. record { kind = c.take.result.kind; spelling = s }) (sym c.take.ensures.spelling) in (
      there.0,
      sym (c.piece.ensures.ahead begun ∙ c.gaps.invariant.ahead begun is) ∙ there.1
          ∙ ap (λ (o : Operand). ahead w.language (begun_with w.language begun there.0 o) (drop (w.at + n) w.cursor)) same
          ∙ ap (λ cells. ahead w.language (begun_with w.language begun there.0 (seen_operand c.take.result)) (drop (w.at + n) cells)) (sym c.take.ensures.same)
          ∙ ap (λ k. ahead w.language (begun_with w.language begun there.0 (seen_operand c.take.result)) (drop k c.take.new.self.cursor)) (sym c.take.ensures.after)
          ∙ ap (λ k. ahead w.language (begun_with k begun there.0 (seen_operand c.take.result)) (drop c.take.new.self.at c.take.new.self.cursor)) (c.piece.ensures.moved.spoken ∙ c.gaps.invariant.spoken)
          ∙ ap (λ k. ahead k (begun_with c.args.self.now.language begun there.0 (seen_operand c.take.result)) (drop c.take.new.self.at c.take.new.self.cursor)) (sym c.take.ensures.spoken),
    )

pub returns-in-Unclosed-clause-fault : goal.returns-in-Unclosed-clause-fault
returns-in-Unclosed-clause-fault c = λ begun is.
    let w = c.piece.new.self in
    let h = c.piece.ensures.moved.walk in
    let fits = piece_left w.language w.bytes.now w.at c.args.progress Unclosed c.in-Unclosed.ensures.piece (λ other. cc) in
    let piece = c.in-Unclosed.ensures.piece ∙ ap (λ p. piece_at w.language p (drop w.at w.bytes.now)) (sym is) in
    let place = c.place_of-line.result in
    sym (c.piece.ensures.ahead begun ∙ c.gaps.invariant.ahead begun is)
    ∙ ahead-open w.language w.bytes.now w.cursor w.at begun place.first place.last place.line h.bytes (omega (arith, fits.0, h.len)) piece c.place_of-line.ensures.place
