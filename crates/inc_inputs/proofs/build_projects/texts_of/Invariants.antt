use Rattle.std.proofs.Common.{◌≡◌, drop, map, take}
use Rattle.inc_inputs.specs.BuildProjects.{are_utf8}
use Rattle.inc_inputs.proofs.build_projects.texts_of.Given as goal

-- the words so far are texts, and so all are if those that are left are
abbrev pub invariant-loop-word : goal.invariant-loop-word
invariant-loop-word l = record {
  texts : map (λ t. t.now) l.texts.items ≡ map (λ w. w.items) (take l.word-index l.words);
  all : are_utf8 (map (λ w. w.items) (drop l.word-index l.words)) ≡ are_utf8 (map (λ w. w.items) l.words);
}
