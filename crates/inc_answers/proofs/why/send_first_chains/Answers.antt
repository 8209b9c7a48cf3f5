use Rattle.std.proofs.Common.{◌≡◌, ◌++◌, ◌-◌, List, ℕ, [], sym, ap, ◌∙◌, suc, take, arith}
use Rattle.std.specs.Prelude.{flat_map, codes}
use Rattle.std.proofs.lemmas.List.{append-nil}
use Rattle.inc_answers.specs.MarkTexts.{list_text}
use Rattle.inc_check.specs.Certificates.{marks_of}
use Rattle.inc_answers.proofs.BoundLemmas.{enough_left, next_taken, none_to_take, some_left}
use Rattle.inc_answers.proofs.SendingLemmas.{sends_then}
use Rattle.inc_answers.proofs.WhyLemmas.{flat_map-next}
use Rattle.inc_answers.proofs.why.send_first_chains.Goals as goal

pub send_list-requires-clause-edges : goal.send_list-requires-clause-edges
send_list-requires-clause-edges g c =
    let walk = c.loop-place in
    let next = some_left c.args.shown walk.place c.loop-place-test.true c.advance.result walk.chains.left c.advance.new.self.chain c.advance.new.self.left walk.invariant.4 c.advance.ensures.chain in
    let all = rw next at walk.invariant.3 in
    rw c.edges.ensures (all 0 [] (omega arith))

pub loop-place-preserved : goal.loop-place-preserved
loop-place-preserved g c =
    let walk = c.loop-place in
    let before = walk.invariant in
    let chain = c.advance.new.self.chain in
    let left = c.advance.new.self.left in
    let next = some_left c.args.shown walk.place c.loop-place-test.true c.advance.result walk.chains.left chain left before.4 c.advance.ensures.chain in
    let all = rw next at before.3 in
    let text : List ℕ → List ℕ = λ is. list_text (codes "chain") (marks_of c.args.project.now c.args.graph.now is) in (
      before.0 ++ text c.edges.result.now,
      sends_then _ _ _ _ _ before.1 c.send_list.ensures.sent,
      rw c.edges.ensures (flat_map-next text before.0 _ _ _ _ (next_taken c.args.shown walk.place c.loop-place-test.true walk.chains.left chain left next) before.2),
      λ k d low. all (suc k) d (omega arith),
      enough_left c.args.shown walk.place c.loop-place-test.true walk.chains.left chain left next before.4,
    )

pub returns : goal.returns
returns g c =
    let walk = c.loop-place in
    let all = walk.invariant in
    let text : List ℕ → List ℕ = λ is. list_text (codes "chain") (marks_of c.args.project.now c.args.graph.now is) in
    let whole : all.0 ≡ flat_map text (take c.args.shown c.args.chains.now.left) =
    sym (append-nil all.0) ∙ ap (λ ls. all.0 ++ flat_map text ls) (sym (none_to_take c.args.shown walk.place walk.chains.left c.loop-place-test.false)) ∙ all.2 in
    rw (← whole) all.1
