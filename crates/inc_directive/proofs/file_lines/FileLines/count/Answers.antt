use Rattle.std.proofs.Common.{arith}
use Rattle.inc_token.specs.LineWalk.{lines_or_none}
use Rattle.inc_token.specs.TokenLines.{token_lines}
use Rattle.inc_directive.specs.Parts.{AreNumbered, IsPart, lines_of_parts}
use Rattle.std.specs.List.{All}
use Rattle.std.proofs.Common.{subst}
use Rattle.inc_directive.proofs.PartFiles.{are_parts, numbered_parts, part_count}
use Rattle.inc_directive.proofs.file_lines.FileLines.count.Goals as goal

pub returns-clause-count : goal.returns-clause-count
returns-clause-count c =
    let kept = c.self.inside in
    omega (arith, part_count kept.language kept.parts.items (lines_or_none (token_lines kept.language kept.text)) c.args.self.now c.self.view_is, kept.parts.ok.0, c.len.ensures)

pub returns-clause-parts : goal.returns-clause-parts
returns-clause-parts c =
    let kept = c.self.inside in
    subst (All IsPart) c.self.view_is (are_parts kept.language kept.text 0 kept.parts.items (lines_or_none (token_lines kept.language kept.text)) c.self.invariant.kept)

pub returns-clause-numbered : goal.returns-clause-numbered
returns-clause-numbered c =
    let kept = c.self.inside in
    subst (λ ps. AreNumbered 0 (lines_of_parts ps)) c.self.view_is
    (numbered_parts kept.language kept.text 0 kept.parts.items (lines_or_none (token_lines kept.language kept.text)) c.self.invariant.kept)
