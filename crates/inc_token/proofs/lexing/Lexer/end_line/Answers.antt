use Rattle.std.proofs.Common.{◌≡◌, ◌+◌, ◌++◌, ◌∷◌, [], drop, false, length, arith, ap, sym, refl, ◌∙◌, List}
use Rattle.inc_text.specs.PhaseText.{Cell, bytes_of}
use Rattle.inc_token.specs.LineEnds.{answer_with}
use Rattle.inc_token.specs.TokenLines.{lines_from}
use Rattle.inc_token.specs.declared.pieces.Progress.TheVariants.{AtStart}
use Rattle.inc_token.proofs.Places.{new_line_at}
use Rattle.inc_token.proofs.UnmatchedQuotes.{unmatched_moved}
use Rattle.inc_token.proofs.lexing.Lexer.end_line.Goals as goal

pub returns : goal.returns
returns c =
    let w = c.args.self.now in
    let h = c.requires.walk in
    let place = c.place_of-line in
    let same : place.new.self ≡ w.cursor = place.ensures.same in
    let cells : length place.new.self ≡ length w.cursor = ap length same in (
      record {
        walk = record {
          bytes = h.bytes ∙ ap bytes_of (sym same);
          len = h.len ∙ sym cells;
          short = omega (arith, cells, h.short);
          within = omega (arith, cells, c.requires.left);
          unmatched = unmatched_moved w.unmatched w.at (w.at + 1) w.bytes.now (omega arith) h.unmatched;
        };
        same = same;
        bytes = refl;
        after = omega arith;
      },
      λ done begun.
          ap (λ (cs : List Cell). answer_with (done ++ record { tokens = begun; last_line = place.result.line } ∷ []) [] (lines_from c.args.self.now.language 0 AtStart false (drop (w.at + 1) cs))) same
          ∙ new_line_at c.args.self.now.language w.bytes.now w.cursor w.at w.progress w.space done begun place.result.first place.result.last place.result.line h.bytes c.requires.left c.requires.new_line place.ensures.place,
    )
