use Rattle.std.proofs.Common.{◌<◌, Some, None, length, refl, sym, ap, subst, ◌∙◌, arith}
use Rattle.std.specs.Prelude.{option_to_list}
use Rattle.std.proofs.lemmas.List.Elements.{All-contains}
use Rattle.inc_lookup.specs.declared.projects.Found.{Found}
use Rattle.inc_graph.specs.Nexts.{Next, next_found, nexts_found}
use Rattle.inc_graph.specs.Places.{Reaches}
use Rattle.inc_graph.proofs.LeadLemmas.{contains_kept}
use Rattle.inc_graph.proofs.PlaceLemmas.{reaches_none}
use Rattle.inc_graph.proofs.ReadingLemmas.{nexts_reach, nexts_lead}
use Rattle.inc_graph.proofs.building.closures.follow_nexts.Goals as goal
use Rattle.inc_graph.proofs.building.closures.follow_nexts.Goals.{in-Some+in_ok-reach, in_default}

pub reach-requires : goal.reach-requires
reach-requires c =
    let next = c.args.at.now.next in
    let ns = c.args.nexts.now in
    let there = contains_kept (λ (n : Next). next_found n next) ns c.next-item.result c.in-Some.found (c.loop-next.next-index, c.loop-next-test.true, sym c.next-item.is) (sym c.find.ensures ∙ c.in-Some.is) in
    let low = All-contains (λ (f : Found). f.file < c.args.places.now.files) (nexts_found next ns) c.in-Some.found c.requires.found there in
    omega (arith, low, c.loop-next.invariant.files)

pub loop-next-preserved : goal.loop-next-preserved
loop-next-preserved c =
    let at = c.args.at.now in
    let ns = c.args.nexts.now in
    let i = c.loop-next.next-index in
    let n = c.next-item.result in
    let so_far = c.loop-next.invariant in
    let within : at.file < length c.args.states.now = c.requires.file in
    let finds = sym c.find.ensures in
    elim c.match-find.branch [
      | in-Some+in_ok-reach w ↦
          let found = finds ∙ w.in-Some.is in
          rw (w.places-is, w.states-is) (record {
            files = w.in_ok-reach.ensures.files ∙ so_far.files;
            places = nexts_reach at ns i n c.args.places.now.found c.loop-next.places.found w.reach.new.self.found c.loop-next-test.true c.next-item.is so_far.places
                (subst (λ l. Reaches c.loop-next.places.found l w.reach.new.self.found) (sym (ap option_to_list found)) w.in_ok-reach.ensures.reached);
            states = nexts_lead at ns i n c.args.states.now c.loop-next.states w.lead.new.self c.loop-next-test.true c.next-item.is within so_far.states (Some w.in-Some.found) found (rw (← w.index.ensures) w.lead.ensures);
          })
      | in_default w ↦
          let none = finds ∙ w.in_default.is in
          rw (w.places-is, w.states-is) (record {
            files = so_far.files;
            places = nexts_reach at ns i n c.args.places.now.found c.loop-next.places.found c.loop-next.places.found c.loop-next-test.true c.next-item.is so_far.places
                (subst (λ l. Reaches c.loop-next.places.found l c.loop-next.places.found) (sym (ap option_to_list none)) (reaches_none c.loop-next.places.found));
            states = nexts_lead at ns i n c.args.states.now c.loop-next.states c.loop-next.states c.loop-next-test.true c.next-item.is within so_far.states None none refl;
          })
    ]
