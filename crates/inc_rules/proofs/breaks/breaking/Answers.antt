use Rattle.std.proofs.Common.{◌≡◌, ◌∙◌, [], ◌∷◌, ◌++◌, ◌+◌, ◌⊎◌, Bool, List, ap, arith, drop, false, length, map, rules, subst, sym, take, true}
use Rattle.std.specs.Prelude.{◌↔◌, slice_index_or}
use Rattle.std.proofs.lemmas.List.{map_more, take_all}
use Rattle.std.proofs.lemmas.Result.{IfOk-weaker}
use Rattle.std.proofs.Math.Seq.{take-append_seam}
use Rattle.inc_graph.proofs.NumberedEdges.{length-numbered_from}
use Rattle.inc_rules.specs.Breaking.{BreaksSome, IsBreaking}
use Rattle.inc_rules.specs.Rules.{Rule}
use Rattle.inc_rules.specs.Views.{seen_rule}
use Rattle.inc_rules.proofs.BreakingLemmas.{all_breaking, all_within, none_breaking, none_long, some_more}
use Rattle.inc_rules.proofs.breaks.breaking.Goals as goal

pub loop-rule-init : goal.loop-rule-init
loop-rule-init c =
    let edges = ap (λ l. length l) c.edges.ensures.edges ∙ length-numbered_from 0 c.args.graph.now.edges in
    let none = c.in_ok-flags.ensures.items_if_clones_equal (search rules) in
    record {
      long = none_long c.in_ok-flags.flags.items _ c.args.graph.now none edges;
      each = none_breaking c.args.project.now c.args.graph.now c.in_ok-flags.flags.items _ none edges;
    }

pub loop-rule-preserved : goal.loop-rule-preserved
loop-rule-preserved c =
    let layout = c.args.project.now in
    let g = c.args.graph.now in
    let r : Rule = seen_rule c.rule-item.result in
    let before : List Rule = map seen_rule (take c.loop-rule.rule-index c.args.rules.now) in
    let all : List Rule = map seen_rule (take (c.loop-rule.rule-index + 1) c.args.rules.now) in
    let more : all ≡ before ++ r ∷ [] =
    map_more seen_rule c.args.rules.now c.loop-rule.rule-index c.rule-item.result c.loop-rule-test.true ∙ ap (λ x. before ++ seen_rule x ∷ []) (sym c.rule-item.is) in
    let new : List Bool = c.flag_rule.new.flags in
    let old : List Bool = c.loop-rule.flags.items in
    let same : length new ≡ length old = c.in_ok-flag_rule.ensures.long ∙ ap (λ l. length l) c.deref_mut.ensures.value in
    let long : c.loop-rule.flags.len ≡ length new = omega (arith, same, c.deref_mut.ensures.len) in
    let back : take c.loop-rule.flags.len (new ++ drop (length new) old) ≡ new =
    ap (λ n. take n (new ++ drop (length new) old)) long ∙ take-append_seam new (drop (length new) old) in
    record {
      long = ap (λ l. length l) back ∙ same ∙ c.loop-rule.invariant.long;
      each = λ edge low.
          subst (λ (l : List Bool). slice_index_or l edge false ≡ true ↔ BreaksSome layout g all edge) (sym back)
          (some_more layout g edge before all r (slice_index_or new edge false) (slice_index_or old edge false) more
          (subst (λ (l : List Bool). slice_index_or new edge false ≡ true ↔ (slice_index_or l edge false ≡ true) ⊎ IsBreaking layout g r edge) c.deref_mut.ensures.value
          (c.in_ok-flag_rule.ensures.flags edge (omega (arith, low, c.in_ok-flag_rule.ensures.long, same, c.loop-rule.invariant.long))))
          (c.loop-rule.invariant.each edge low));
    }

pub returns-clause-breaking : goal.returns-clause-breaking
returns-clause-breaking c =
    let layout = c.args.project.now in
    let g = c.args.graph.now in
    let flags : List Bool = c.loop-rule.flags.items in
    let all = take_all c.loop-rule.rule-index c.args.rules.now (omega (arith, c.loop-rule-test.false)) in
    let same = c.deref.ensures.value in
    IfOk-weaker c.flagged_edges.result _ _
    (λ edges is.
    all_breaking layout g (map seen_rule c.args.rules.now) c.deref.result.now edges.items (ap (λ l. length l) same ∙ c.loop-rule.invariant.long) is
    (λ edge low.
    subst (λ rs. slice_index_or c.deref.result.now edge false ≡ true ↔ BreaksSome layout g (map seen_rule rs) edge) all
    (subst (λ (l : List Bool). slice_index_or l edge false ≡ true ↔ BreaksSome layout g (map seen_rule (take c.loop-rule.rule-index c.args.rules.now)) edge) (sym same)
    (c.loop-rule.invariant.each edge low))))
    c.flagged_edges.ensures

pub returns-clause-within : goal.returns-clause-within
returns-clause-within c =
    IfOk-weaker c.flagged_edges.result _ _
    (λ edges is.
    all_within c.args.project.now c.args.graph.now [] c.deref.result.now edges.items (ap (λ l. length l) c.deref.ensures.value ∙ c.loop-rule.invariant.long) is)
    c.flagged_edges.ensures
