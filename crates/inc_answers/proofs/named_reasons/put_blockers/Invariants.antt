use Rattle.std.proofs.Common.{◌≡◌, ◌++◌, map, take}
use Rattle.std.specs.Prelude.{flat_map}
use Rattle.inc_answers.specs.NamedReasons.{named_reason, sight_kept}
use Rattle.inc_answers.proofs.named_reasons.put_blockers.Given as goal

-- those so far are added, by the same names
abbrev pub invariant-loop-blocker : goal.invariant-loop-blocker
invariant-loop-blocker l = record {
  text : l.text.items ≡ l.initial.text.items
      ++ flat_map (named_reason (map (λ n. n.now) l.undefined) (sight_kept l.initial.names.language l.project l.initial.names.kept) l.project) (take l.blocker-index l.blockers);
  same : l.names ≡ l.initial.names;
}
