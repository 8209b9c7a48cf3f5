use Rattle.std.proofs.Common.{◌≡◌, [], take}
use Rattle.std.specs.Prelude.{fold}
use Rattle.inc_answers.specs.MissingNames.{with_missing}
use Rattle.inc_answers.specs.Views.{AreKeyed, AreWithin, seen_names}
use Rattle.inc_answers.proofs.missing_names.MissingNames.of.Given as goal

-- the names of those so far
abbrev pub invariant-loop-place : goal.invariant-loop-place
invariant-loop-place l = record {
  names : seen_names l.missing l.names ≡ fold with_missing [] (take l.place l.missing);
  keyed : AreKeyed l.missing l.names;
  within : AreWithin l.place l.names.names.items;
}
