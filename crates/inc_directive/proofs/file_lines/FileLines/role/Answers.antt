use Rattle.std.proofs.Common.{Some, option_map, arith, ap, sym, refl, ◌∙◌}
use Rattle.inc_token.specs.LineWalk.{lines_or_none}
use Rattle.inc_token.specs.TokenLines.{token_lines}
use Rattle.inc_directive.specs.Parts.{is_text, part_role}
use Rattle.inc_directive.specs.declared.kinds.Role.{Role}
use Rattle.inc_directive.proofs.PartFiles.{part_count, read_at, role_is}
use Rattle.inc_directive.proofs.file_lines.FileLines.role.Goals as goal

pub index-requires : goal.index-requires
index-requires c = let kept = c.self.inside in omega (arith, part_count kept.language kept.parts.items (lines_or_none (token_lines kept.language kept.text)) c.args.self.now c.self.view_is, kept.parts.ok.0, c.requires)

pub returns : goal.returns
returns c =
    let kept = c.self.inside in
    let s = read_at kept.language kept.text kept.parts.items (lines_or_none (token_lines kept.language kept.text)) c.args.self.now c.args.i c.index.result.now c.self.view_is c.self.invariant.kept c.requires c.index.ensures in
    ap (option_map part_role) s.is ∙ ap (λ (r : Role). Some r) (role_is s (is_text c.index.result.now.tag) refl _ s.is ∙ sym c.role.ensures)
