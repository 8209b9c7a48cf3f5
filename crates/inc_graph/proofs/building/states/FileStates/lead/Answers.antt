use Rattle.std.proofs.Common.{◌≡◌, ◌<◌, Some, Ok, length, get_or, arith, ap, sym, ◌∙◌}
use Rattle.inc_graph.specs.Entries.{seen_state}
use Rattle.inc_graph.specs.Nexts.{led_state}
use Rattle.inc_graph.proofs.StateLemmas.{states_long, record_within, unread_not_read, led_same, led_read, led_none}
use Rattle.inc_graph.proofs.building.states.FileStates.lead.Goals as goal
use Rattle.inc_graph.proofs.building.states.FileStates.lead.Goals.{in-Read, in_default}

pub returns : goal.returns
returns c =
    let records = c.self.inside.records.items in
    let places = c.self.inside.places.items in
    let file = c.args.file in
    let k = c.index-2.result.now in
    let state = c.index_mut.result.now in
    let low : file < length places = omega (arith, c.requires, states_long records places c.args.self.now c.self.view_is) in
    let is : k ≡ get_or places file k = c.index-2.ensures ∙ ap (λ i. get_or places i k) c.index.ensures in
    let within : k < length records = record_within records places c.self.invariant file k low is in
    elim c.match-index_mut.branch [
      | in-Read w ↦
          rw w.self-inside-is
          (led_read records places c.self.invariant file k state _ low is within c.index_mut.ensures.value (unread_not_read state w.in-Read.entries w.in-Read.is) c.args.self.now c.args.index c.args.to c.self.view_is
          (ap (λ es. Some (Ok es)) w.lead.ensures ∙ ap (λ s. led_state c.args.index c.args.to (seen_state s)) (sym w.in-Read.is)))
      | in_default w ↦
          rw w.self-inside-is
          (led_same records places c.args.self.now file k c.args.index c.args.to _ c.self.view_is low is within c.index_mut.ensures.value (led_none state c.args.index c.args.to w.in_default.not-Read))
    ]
