use Rattle.std.proofs.Common.{◌+◌, arith, refl}
use Rattle.inc_token.proofs.Places.{blank_at, open_at, piece_fits}
use Rattle.inc_token.proofs.UnmatchedQuotes.{unmatched_moved}
use Rattle.inc_token.specs.declared.pieces.Piece.TheVariants.{Blank, Lexeme}
use Rattle.inc_token.proofs.lexing.Lexer.take.Goals as goal

pub overflow_add-self : goal.overflow_add-self
overflow_add-self c =
    let w = c.args.self.now in
    let h = c.requires.walk in
    let fits = piece_fits w.language w.bytes.now w.at w.progress (Blank c.in-Blank.len) (omega (arith, h.len, c.requires.left)) c.in-Blank.ensures.piece in
    omega (arith, fits.1, h.len, h.short)

pub returns-in-Blank-clause-gives : goal.returns-in-Blank-clause-gives
returns-in-Blank-clause-gives c =
    let w = c.args.self.now in
    let h = c.requires.walk in
    let fits = piece_fits w.language w.bytes.now w.at w.progress (Blank c.in-Blank.len) (omega (arith, h.len, c.requires.left)) c.in-Blank.ensures.piece in (
      record {
        walk = record {
          bytes = h.bytes;
          len = h.len;
          short = h.short;
          within = omega (arith, h.len, fits.1);
          unmatched = unmatched_moved c.next_piece.new.unmatched w.at (w.at + c.in-Blank.len) w.bytes.now (omega arith) c.in-Blank.ensures.unmatched;
        };
        same = refl;
        bytes = refl;
        after = omega (arith, fits.0);
      },
      blank_at c.args.self.now.language w.bytes.now w.cursor w.at c.in-Blank.len w.progress w.space h.bytes c.requires.left c.in-Blank.ensures.piece fits.0,
    )

pub returns-in-Unclosed-clause-fault : goal.returns-in-Unclosed-clause-fault
returns-in-Unclosed-clause-fault c =
    let w = c.args.self.now in
    let place = c.place_of-line.result in
    open_at c.args.self.now.language w.bytes.now w.cursor w.at w.progress w.space place.first place.last place.line c.requires.walk.bytes c.requires.left c.in-Unclosed.ensures.piece c.place_of-line.ensures.place

pub take_token-requires-clause-some : goal.take_token-requires-clause-some
take_token-requires-clause-some c =
    let w = c.args.self.now in
    let h = c.requires.walk in
    (piece_fits w.language w.bytes.now w.at w.progress (Lexeme c.in-Lexeme.kind c.in-Lexeme.len) (omega (arith, h.len, c.requires.left)) c.in-Lexeme.ensures.piece).0

pub take_token-requires-clause-fits : goal.take_token-requires-clause-fits
take_token-requires-clause-fits c =
    let w = c.args.self.now in
    let h = c.requires.walk in
    let fits = piece_fits w.language w.bytes.now w.at w.progress (Lexeme c.in-Lexeme.kind c.in-Lexeme.len) (omega (arith, h.len, c.requires.left)) c.in-Lexeme.ensures.piece in
    omega (arith, h.len, fits.1)
