use Rattle.inc_text.proofs.CursorLemmas.{place_upto}
use Rattle.inc_text.proofs.phases.Text.cursor_at.Goals as goal

pub line_feeds_before-line_feeds-requires-clause-within : goal.line_feeds_before-line_feeds-requires-clause-within
line_feeds_before-line_feeds-requires-clause-within c = rw c.deref.ensures.value (place_upto _ _ _ _ _ c.self.view_is c.requires)

pub start_at-requires-clause-within : goal.start_at-requires-clause-within
start_at-requires-clause-within c = rw c.deref-3.ensures.value (place_upto _ _ _ _ _ c.self.view_is c.requires)

pub start_at-requires-clause-counted : goal.start_at-requires-clause-counted
start_at-requires-clause-counted c = rw c.deref-3.ensures.value (rw c.deref.ensures.value at c.line_feeds_before-line_feeds.ensures)
