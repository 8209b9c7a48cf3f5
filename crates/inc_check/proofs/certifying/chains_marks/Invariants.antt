use Rattle.std.proofs.Common.{◌≡◌, true, map, take}
use Rattle.std.specs.List.{list_all}
use Rattle.inc_graph.specs.Views.{seen_counted}
use Rattle.inc_check.specs.Certificates as spec
use Rattle.inc_check.specs.Texts.{are_short_marks}
use Rattle.inc_check.specs.declared.certificates.CountedMarks.{CountedMarks}
use Rattle.inc_check.proofs.certifying.chains_marks.Given as goal

-- the chains so far
abbrev pub invariant-loop-chain : goal.invariant-loop-chain
invariant-loop-chain l = record {
  marks : l.marks ≡ map (spec.chain_marks l.project l.graph) (map seen_counted (take l.chain-index l.chains));
  short : list_all (λ (k : CountedMarks). are_short_marks k.marks) l.marks ≡ true;
}
