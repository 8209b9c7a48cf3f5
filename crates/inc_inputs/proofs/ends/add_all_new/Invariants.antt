use Rattle.std.proofs.Common.{◌≡◌, length, map, take}
use Rattle.std.specs.List.{fold}
use Rattle.inc_graph.specs.FileSets.{AreFlags}
use Rattle.inc_inputs.specs.Ends.{named_files, with_new}
use Rattle.inc_inputs.proofs.ends.add_all_new.Given as goal

-- the paths so far, of which each file is there once and has its flag
abbrev pub invariant-loop-path : goal.invariant-loop-path
invariant-loop-path l = record {
  added : map (λ p. p.now) l.paths.items ≡ fold (with_new l.project) (map (λ p. p.now) l.initial.paths.items) (take l.path-index (map (λ p. p.now) l.more));
  flags : AreFlags (named_files l.project (map (λ p. p.now) l.paths.items)) l.taken.items;
  long : length l.taken.items ≡ length l.project.paths;
}
