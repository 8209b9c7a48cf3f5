use Rattle.inc_text.proofs.CursorLemmas.{place_inside}
use Rattle.inc_text.proofs.cursors.Cursor.place_anew.Goals as goal

pub level_on-next-requires-clause-within : goal.level_on-next-requires-clause-within
level_on-next-requires-clause-within c = place_inside _ _ _ _ _ c.self.view_is c.requires
