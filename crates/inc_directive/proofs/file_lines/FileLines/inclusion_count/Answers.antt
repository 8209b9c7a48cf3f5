use Rattle.std.proofs.Common.{length, arith, ap, ◌∙◌}
use Rattle.inc_text.specs.PhaseText.{bytes_of}
use Rattle.inc_directive.specs.Parts.{inclusions_in}
use Rattle.inc_directive.proofs.SplitParts.{length-directives}
use Rattle.inc_directive.proofs.file_lines.FileLines.inclusion_count.Goals as goal

pub returns : goal.returns
returns c =
    let kept = c.self.inside in
    let h = c.self.invariant in
    let all = ap length (h.directives ∙ ap inclusions_in c.self.view_is) in
    omega (arith, c.len.ensures, kept.inclusions.ok.0, all, length-directives (bytes_of kept.text) kept.parts.items kept.inclusions.items h.included.count)
