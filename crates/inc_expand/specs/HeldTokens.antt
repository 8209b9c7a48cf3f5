-- Tokens of the program that wait for the rest of a call, as the definitions see them.
use Rattle.inc_expand.specs.declared.held.Held.{Held as HeldValue}
use Rattle.inc_expand.specs.declared.held.HeldRef.{HeldRef}
use Rattle.inc_expand.specs.Items.{spelling_bytes}
use Rattle.inc_expand.specs.Openings.{Held}

abbrev pub seen_ref : HeldRef → Held
seen_ref h = record { kind = h.kind; spelling = h.spelling.now; line = h.line; space = h.space; painted = h.painted }

abbrev pub seen_held : HeldValue → Held
seen_held h = record { kind = h.item.kind; spelling = spelling_bytes h.item.spelling; line = h.item.line; space = h.item.space; painted = h.painted }
