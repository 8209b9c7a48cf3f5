use Rattle.std.proofs.Common.{◌≡◌, ℕ, List, length, map}
use Rattle.inc_graph.specs.FileSets.{AreFlags}
use Rattle.inc_inputs.specs.Ends.{before, joined_paths, named_files, once}
use Rattle.inc_inputs.proofs.EndLemmas.{rest}
use Rattle.inc_inputs.proofs.ends.paths_of.Given as goal

-- the paths of the words so far, each file once and with its flag; all of them, before those of the rest, are those of all words
abbrev pub invariant-loop-word : goal.invariant-loop-word
invariant-loop-word l = record {
  done : (done : List (List ℕ)) × (map (λ p. p.now) l.paths.items ≡ once l.project done)
      × (before done (rest (λ w. w.now) l.project l.side l.words l.word-index) ≡ joined_paths l.project l.side (map (λ w. w.now) l.words));
  flags : AreFlags (named_files l.project (map (λ p. p.now) l.paths.items)) l.taken.items;
  long : length l.taken.items ≡ length l.project.paths;
}
