use Rattle.std.proofs.Common.{◌∙◌, ◌&&◌, ◌||◌, ap, arith, nat_lt, sym}
use Rattle.std.specs.List.{list_any}
use Rattle.inc_graph.specs.Entries.{seen_state}
use Rattle.inc_graph.specs.GraphLists.{defines, flag_at, state_defines}
use Rattle.inc_graph.proofs.DefinedNames.{flags_state, none_defined, none_more}
use Rattle.inc_graph.proofs.building.gathering.defined_names.Goals as goal
use Rattle.inc_graph.proofs.building.gathering.defined_names.Goals.{in-Read, in_default}

pub loop-place-preserved : goal.loop-place-preserved
loop-place-preserved c =
    let ss = c.args.states.now in
    let n = c.args.count in
    let flags = c.loop-place.flags.items in
    elim c.match-state.branch [
      | in-Read w ↦
          let one = w.flag_definitions.ensures in
          rw w.flags-is (record {
            long = one.long ∙ c.loop-place.invariant.long;
            flags = λ name.
                let own = ap (λ s. state_defines name (seen_state s)) (sym w.in-Read.is) ∙ ap (state_defines name) c.state.ensures in
                flags_state ss c.loop-place.place (omega arith) _ _ (nat_lt name n) name (c.loop-place.invariant.flags name)
                (one.flags name ∙ ap (λ k. flag_at flags name || (nat_lt name k && list_any (defines name) w.in-Read.entries)) c.loop-place.invariant.long
                ∙ ap (λ b. flag_at flags name || (nat_lt name n && b)) own);
          })
      | in_default w ↦
          rw w.flags-is (record {
            long = c.loop-place.invariant.long;
            flags = λ name.
                flags_state ss c.loop-place.place (omega arith) _ _ (nat_lt name n) name (c.loop-place.invariant.flags name)
                (none_more (nat_lt name n) _ (flag_at flags name) (ap (state_defines name) (sym c.state.ensures) ∙ none_defined name c.state.result.now w.in_default.not-Read));
          })
    ]
