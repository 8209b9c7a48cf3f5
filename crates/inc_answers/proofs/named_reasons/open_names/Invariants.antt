use Rattle.std.proofs.Common.{◌≡◌, map, take}
use Rattle.inc_answers.specs.DirectiveNames.{kept_kind}
use Rattle.inc_answers.specs.NamedReasons.{open_names}
use Rattle.inc_answers.proofs.named_reasons.open_names.Given as goal

-- those so far are found, by the same names
abbrev pub invariant-loop-blocker : goal.invariant-loop-blocker
invariant-loop-blocker l = record {
  found : map (λ n. n.items) l.found.items
      ≡ open_names l.language (map (λ n. n.now) l.undefined) (kept_kind l.initial.names.language l.initial.names.kept) (take l.blocker-index l.blockers);
  same : l.names ≡ l.initial.names;
}
