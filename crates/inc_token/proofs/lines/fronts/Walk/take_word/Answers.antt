use Rattle.std.proofs.Common.{sym, ◌∙◌}
use Rattle.inc_token.proofs.FrontPlaces.{hash_taken, word_taken}
use Rattle.inc_token.proofs.lines.fronts.Walk.take_word.Goals as goal

pub returns-then-is_hash-clause-front : goal.returns-then-is_hash-clause-front
returns-then-is_hash-clause-front c =
    let h = c.requires in
    hash_taken c.args.self.now c.args.len h.stands.0 h.walk h.some h.fits h.stands.1 (sym c.is_hash.ensures ∙ c.if-is_hash.true)

pub returns-clause-front : goal.returns-clause-front
returns-clause-front c =
    let h = c.requires in
    word_taken c.args.self.now c.args.len h.stands.0 h.walk h.some h.fits h.stands.1 (sym c.is_hash.ensures ∙ c.if-is_hash.false)
