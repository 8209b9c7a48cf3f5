use Rattle.std.proofs.Common.{◌<◌, length, sym, ◌∙◌, arith}
use Rattle.inc_text.proofs.CursorLemmas.{feeds_of-cells, place_inside}
use Rattle.inc_text.proofs.cursors.Cursor.line_of.Goals as goal

pub line_feeds_on-line_feeds-requires-clause-within : goal.line_feeds_on-line_feeds-requires-clause-within
line_feeds_on-line_feeds-requires-clause-within c =
    let within : c.args.at < length c.self.inside.bytes.now = place_inside _ _ _ _ _ c.self.view_is c.requires in
    omega (arith, within)

pub line_from-requires-clause-counted : goal.line_from-requires-clause-counted
line_from-requires-clause-counted c = c.line_feeds_on-line_feeds.ensures ∙ sym (feeds_of-cells _ _ _ _ c.args.at c.self.view_is)
