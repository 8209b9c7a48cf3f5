use Rattle.std.proofs.Common.{rules, ◌≡◌, ◌<◌, ◌∙◌, List, arith, length, length-set, map, subst, sym, true, ℕ}
use Rattle.std.proofs.lemmas.List.{length-map}
use Rattle.inc_answers.proofs.NameLemmas.{IsLater, all_named, read_flags, read_next, read_none}
use Rattle.inc_answers.proofs.named_files.flag_files.Goals as goal

pub returns-in_default-clause-fault : goal.returns-in_default-clause-fault
returns-in_default-clause-fault c =
    rw c.loop-path.invariant.counted
    (read_none (λ p. p.now) c.args.project.now c.args.paths.now c.loop-path.path-index _ c.loop-path-test.true c.loop-path.invariant.later
    (sym c.in_ok-file.ensures.file ∙ c.in_default.is))

pub loop-path-preserved : goal.loop-path-preserved
loop-path-preserved c =
    let within : c.in-Some.file < length c.loop-path.flags.items = search rules in
    rw c.index.ensures (record {
      flags = read_flags (λ p. p.now) c.args.project.now c.args.paths.now c.loop-path.path-index _ c.loop-path-test.true c.loop-path.invariant.later
          c.in-Some.file (sym c.in_ok-file.ensures.file ∙ c.in-Some.is) c.loop-path.flags.items within c.loop-path.invariant.flags;
      long = length-set c.loop-path.flags.items c.in-Some.file true ∙ c.loop-path.invariant.long;
      later = read_next (λ p. p.now) c.args.project.now c.args.paths.now c.loop-path.path-index _ c.loop-path-test.true c.loop-path.invariant.later
          c.in-Some.file (sym c.in_ok-file.ensures.file ∙ c.in-Some.is);
      counted = omega (arith, c.loop-path.invariant.counted);
    })

pub returns-clause-named : goal.returns-clause-named
returns-clause-named c =
    let ps : List (List ℕ) = map (λ p. p.now) c.args.paths.now in
    let end : c.loop-path.path-index ≡ length ps = omega (arith, c.loop-path-test.false, c.loop-path.auto, length-map c.args.paths.now (λ p. p.now)) in
    all_named c.args.project.now ps (subst (λ i. IsLater c.args.project.now ps i) end c.loop-path.invariant.later)
