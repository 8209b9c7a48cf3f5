use Rattle.std.proofs.Common.{◌<◌, ◌∙◌, Bool, List, [], ℕ, arith, length, map}
use Rattle.std.specs.Prelude.{filter}
use Rattle.std.specs.List.{list_any}
use Rattle.std.proofs.lemmas.List.{get_or_default}
use Rattle.std.proofs.lemmas.Option.{unwrap_or-slice_get}
use Rattle.inc_lookup.specs.Projects.{path_at}
use Rattle.inc_rules.specs.Rules.{is_left}
use Rattle.inc_rules.specs.Views.{seen_rule}
use Rattle.inc_rules.proofs.JudgeLemmas.{filter_step}
use Rattle.inc_rules.proofs.rule_subjects.subjects.Goals as goal

pub loop-place-preserved : goal.loop-place-preserved
loop-place-preserved c =
    let test : List ℕ → Bool = λ p. list_any (λ r. is_left r p) (map seen_rule c.args.rules.now) in
    let low : c.loop-place.place < length c.args.project.now.paths = omega (arith, c.loop-place-test.true, c.count-place-end.ensures.count) in
    let path : List ℕ = path_at c.args.project.now c.loop-place.place in
    record {
      same = c.push_subject.ensures.same ∙ c.loop-place.invariant.same;
      paths = filter_step test (filter test c.args.project.now.paths) c.args.project.now.paths (map (λ p. p.now) c.loop-place.paths.items)
          (map (λ p. p.now) c.push_subject.new.paths.items) c.loop-place.place path low
          (unwrap_or-slice_get c.args.project.now.paths c.loop-place.place [] ∙ get_or_default c.args.project.now.paths c.loop-place.place [] path low)
          (c.in_ok-push_subject.ensures.paths (map seen_rule c.args.rules.now) c.loop-place.invariant.same) c.loop-place.invariant.paths;
    }
