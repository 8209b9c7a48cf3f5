use Rattle.std.proofs.Common.{◌≡◌, ◌++◌, map, take}
use Rattle.std.specs.Prelude.{flat_map}
use Rattle.inc_answers.specs.NearNames.{or_path}
use Rattle.inc_answers.proofs.near_names.put_others.Given as goal

-- those so far are added
abbrev pub invariant-loop-path : goal.invariant-loop-path
invariant-loop-path l = l.text.items ≡ l.initial.text.items ++ flat_map or_path (map (λ p. p.now) (take l.path-index l.paths))
