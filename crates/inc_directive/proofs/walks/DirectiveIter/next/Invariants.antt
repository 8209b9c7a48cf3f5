use Rattle.std.proofs.Common.{◌≡◌, length}
use Rattle.inc_directive.specs.Parts.{AreIncluded, directives_from}
use Rattle.inc_directive.proofs.walks.DirectiveIter.next.Given as goal

abbrev pub invariant-loop-self : goal.invariant-loop-self
invariant-loop-self l = record {
  included : AreIncluded (length l.self-inside.text.now) l.self-inside.parts.now l.self-inside.inclusions.now;
  left : directives_from l.self-inside.text.now l.self-inside.parts.now l.self-inside.inclusions.now ≡ l.fn.self;
}

abbrev pub decreases-loop-self : goal.decreases-loop-self
decreases-loop-self l = length l.self-inside.parts.now
