use Rattle.std.proofs.Common.{refl, rules}
use Rattle.inc_graph.proofs.StateLemmas.{unread_states}
use Rattle.inc_graph.proofs.building.states.FileStates.unread.Goals as goal

pub returns : goal.returns
returns c = unread_states c.args.count _ _ (rw (c.in_ok-push.ensures.items, c.new-records.ensures.items) refl) (c.in_ok-vec.ensures.items_if_clones_equal (search rules))
