use Rattle.std.proofs.Common.{arith, refl, sym, ◌∙◌}
use Rattle.inc_token.specs.LineFronts.{Nothing}
use Rattle.inc_token.specs.declared.kinds.Kind.TheVariants.{Punct}
use Rattle.inc_token.specs.declared.pieces.Piece.TheVariants.{Blank, Lexeme}
use Rattle.inc_token.specs.declared.pieces.Progress.TheVariants.{AtStart}
use Rattle.inc_token.proofs.BegunText.{text_begun}
use Rattle.inc_token.proofs.FrontPlaces.{placed_at, hash_at}
use Rattle.inc_token.proofs.FrontSteps.{ahead-blank, ahead-known, ahead-open}
use Rattle.inc_token.proofs.Places.{piece_fits}
use Rattle.inc_token.proofs.lines.fronts.Walk.take_first.Goals as goal

pub overflow_add-self : goal.overflow_add-self
overflow_add-self c =
    let w = c.args.self.now in
    let h = c.requires.walk in
    let fits = piece_fits w.language w.bytes.now w.at AtStart (Blank c.in-Blank.len) (omega (arith, h.len, c.requires.left)) c.in-Blank.ensures in
    omega (arith, fits.1, h.len, h.short)

pub take_word-requires-in-Lexeme-clause-fits : goal.take_word-requires-in-Lexeme-clause-fits
take_word-requires-in-Lexeme-clause-fits c =
    let w = c.args.self.now in
    let h = c.requires.walk in
    let fits = piece_fits w.language w.bytes.now w.at AtStart (Lexeme c.in-Lexeme.field-0 c.in-Lexeme.len) (omega (arith, h.len, c.requires.left)) c.in-Lexeme.ensures in
    omega (arith, fits.1, h.len)

pub take_word-requires-in-Lexeme-clause-some : goal.take_word-requires-in-Lexeme-clause-some
take_word-requires-in-Lexeme-clause-some c =
    let w = c.args.self.now in
    let h = c.requires.walk in
    (piece_fits w.language w.bytes.now w.at AtStart (Lexeme c.in-Lexeme.field-0 c.in-Lexeme.len) (omega (arith, h.len, c.requires.left)) c.in-Lexeme.ensures).0

pub returns-in-Blank-clause-moved : goal.returns-in-Blank-clause-moved
returns-in-Blank-clause-moved c =
    let w = c.args.self.now in
    let h = c.requires.walk in
    let fits = piece_fits w.language w.bytes.now w.at AtStart (Blank c.in-Blank.len) (omega (arith, h.len, c.requires.left)) c.in-Blank.ensures in
    record {
      walk = placed_at w _ h (omega arith) (omega (arith, fits.1, h.len));
      same = refl;
      spoken = refl;
      after = omega (arith, fits.0);
    }

pub returns-in-Blank-clause-first : goal.returns-in-Blank-clause-first
returns-in-Blank-clause-first c =
    let w = c.args.self.now in
    let h = c.requires.walk in
    let fits = piece_fits w.language w.bytes.now w.at AtStart (Blank c.in-Blank.len) (omega (arith, h.len, c.requires.left)) c.in-Blank.ensures in (
      omega (arith, fits.0),
      sym (ahead-blank c.args.self.now.language w.bytes.now w.cursor w.at c.in-Blank.len Nothing h.bytes c.requires.left c.in-Blank.ensures fits.0),
    )

pub returns-in-NewLine-clause-first : goal.returns-in-NewLine-clause-first
returns-in-NewLine-clause-first c =
    let w = c.args.self.now in
    ahead-known c.args.self.now.language w.bytes.now w.cursor w.at Nothing c.requires.walk.bytes c.in-NewLine.ensures

pub returns-in-Unclosed-clause-fault : goal.returns-in-Unclosed-clause-fault
returns-in-Unclosed-clause-fault c =
    let w = c.args.self.now in
    let place = c.place_of-line.result in
    ahead-open c.args.self.now.language w.bytes.now w.cursor w.at Nothing place.first place.last place.line c.requires.walk.bytes c.requires.left c.in-Unclosed.ensures c.place_of-line.ensures.place

pub take_word-requires-clause-stands : goal.take_word-requires-clause-stands
take_word-requires-clause-stands c =
    let w = c.args.self.now in
    (Punct, hash_at w.language w.bytes.now w.at (omega (arith, c.requires.left, c.requires.walk.len)) (sym c.is_single_hash.ensures ∙ c.if-is_single_hash.true))

pub returns-then-begins_text-clause-first : goal.returns-then-begins_text-clause-first
returns-then-begins_text-clause-first c =
    let h = c.requires in
    text_begun c.args.self.now h.walk h.left h.bare (sym c.begins_text.ensures ∙ c.if-begins_text.true)
