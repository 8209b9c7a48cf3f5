use Rattle.std.proofs.Common.{◌≡◌, ◌++◌, length}
use Rattle.inc_answers.specs.WhyDocument.{other_lasts}
use Rattle.inc_answers.proofs.why_document.lasts_of.Given as goal

-- the last edges so far, and those of the chains that are left
abbrev pub invariant-loop-edges : goal.invariant-loop-edges
invariant-loop-edges l = l.edges.items ++ other_lasts l.last l.chains.left ≡ other_lasts l.last l.initial.chains.left

abbrev pub decreases-loop-edges : goal.decreases-loop-edges
decreases-loop-edges l = length l.chains.left
