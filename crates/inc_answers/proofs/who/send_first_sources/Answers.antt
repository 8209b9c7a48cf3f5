use Rattle.std.proofs.Common.{◌≡◌, ◌++◌, sym, ap, ◌∙◌, suc, take, arith}
use Rattle.std.specs.Prelude.{flat_map}
use Rattle.std.proofs.lemmas.List.{append-nil}
use Rattle.inc_answers.specs.WhoText.{reaching_text}
use Rattle.inc_answers.proofs.BoundLemmas.{enough_left, next_taken, none_to_take, some_left}
use Rattle.inc_answers.proofs.SendingLemmas.{sends_then}
use Rattle.inc_answers.proofs.WhyLemmas.{flat_map-next}
use Rattle.inc_answers.proofs.who.send_first_sources.Goals as goal

pub send_source-requires-clause-edges : goal.send_source-requires-clause-edges
send_source-requires-clause-edges g c =
    let walk = c.loop-place in
    let next = some_left c.args.shown walk.place c.loop-place-test.true c.advance.result walk.reaching.left c.advance.new.self.at c.advance.new.self.left walk.invariant.5 c.advance.ensures.source in
    let all = rw next at walk.invariant.3 in
    all 0 (c.advance.new.self.at) (omega arith)

pub loop-place-preserved : goal.loop-place-preserved
loop-place-preserved g c =
    let walk = c.loop-place in
    let before = walk.invariant in
    let at = c.advance.new.self.at in
    let left = c.advance.new.self.left in
    let next = some_left c.args.shown walk.place c.loop-place-test.true c.advance.result walk.reaching.left at left before.5 c.advance.ensures.source in
    let all = rw next at before.3 in
    let text = reaching_text c.args.with_chains c.args.project.now c.args.graph.now in (
      before.0 ++ text at,
      sends_then _ _ _ _ _ before.1 c.send_source.ensures.text,
      rw c.send_source.ensures.left (flat_map-next text before.0 _ _ _ _ (next_taken c.args.shown walk.place c.loop-place-test.true walk.reaching.left at left next) before.2),
      rw c.send_source.ensures.left (λ k d low. all (suc k) d (omega arith)),
      c.send_source.ensures.graph ∙ c.advance.ensures.graph ∙ before.4,
      rw c.send_source.ensures.left (enough_left c.args.shown walk.place c.loop-place-test.true walk.reaching.left at left next before.5),
    )

pub returns : goal.returns
returns g c =
    let walk = c.loop-place in
    let all = walk.invariant in
    let text = reaching_text c.args.with_chains c.args.project.now c.args.graph.now in
    let whole : all.0 ≡ flat_map text (take c.args.shown c.args.reaching.now.left) =
    sym (append-nil all.0) ∙ ap (λ ls. all.0 ++ flat_map text ls) (sym (none_to_take c.args.shown walk.place walk.reaching.left c.loop-place-test.false)) ∙ all.2 in
    rw (← whole) all.1
