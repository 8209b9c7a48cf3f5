use Rattle.std.proofs.Common.{◌≡◌, ◌+◌, ◌-◌, ◌++◌, ◌∷◌, [], drop, length, arith, ap, sym, refl, ◌∙◌, false, List, slice_get, slice_range}
use Rattle.inc_text.specs.PhaseText.{Cell, bytes_of}
use Rattle.inc_token.specs.LineEnds.{answer_with}
use Rattle.inc_token.specs.Lexing.{placed}
use Rattle.inc_token.specs.TokenLines.{lines_from}
use Rattle.inc_token.specs.declared.lexing.PlacedToken.{PlacedToken}
use Rattle.inc_token.specs.declared.pieces.Progress.{Progress}
use Rattle.inc_token.proofs.Places.{token_at}
use Rattle.inc_token.proofs.Ranges.{with_first, with_last}
use Rattle.inc_token.proofs.UnmatchedQuotes.{unmatched_moved}
use Rattle.inc_token.proofs.lexing.Lexer.take_token.Goals as goal

pub returns : goal.returns
returns c =
    let w = c.args.self.now in
    let h = c.requires.walk in
    let at = w.at in
    let len = c.args.len in
    let range = c.range_between-range.result in
    let same : c.range_between-range.new.self ≡ w.cursor = c.range_between-range.ensures.same in
    let cells : length c.range_between-range.new.self ≡ length w.cursor = ap length same in
    let first = with_last (slice_get w.cursor at) range.first range.line c.range_between-range.ensures.first in
    let last = with_first (slice_get w.cursor (at + len - 1)) range.last c.range_between-range.ensures.last in (
      record {
        walk = record {
          bytes = h.bytes ∙ ap bytes_of (sym same);
          len = h.len ∙ sym cells;
          short = omega (arith, cells, h.short);
          within = omega (arith, cells, c.requires.fits);
          unmatched = unmatched_moved w.unmatched at (at + len) w.bytes.now (omega arith) h.unmatched;
        };
        same = same;
        bytes = refl;
        after = omega (arith, c.requires.some);
      },
      record { some = c.requires.some; within = omega (arith, h.len, c.requires.fits) },
      λ done begun.
          let p : PlacedToken = record { at = at; len = len; first = range.first; last = range.last; line = range.line; kind = c.args.kind; space = w.space } in
          let t = placed w.bytes.now p in
          ap (λ (cs : List Cell). answer_with done (begun ++ t ∷ []) (lines_from c.args.self.now.language 0 c.progress_with-self.result false (drop (at + len) cs))) same
          ∙ ap (λ (p : Progress). answer_with done (begun ++ t ∷ []) (lines_from c.args.self.now.language 0 p false (drop (at + len) w.cursor))) c.progress_with-self.ensures
          ∙ token_at c.args.self.now.language w.bytes.now w.cursor at len c.args.kind w.progress w.space done begun t range.first first.0 range.line last.0 range.last last.1 (slice_range w.bytes.now at (at + len))
          h.bytes c.requires.left c.requires.lexeme c.requires.some c.requires.fits refl first.1 last.2 refl,
    )
