use Rattle.std.proofs.Common.{◌∷◌, map, arith, ap, sym, ◌∙◌}
use Rattle.inc_token.specs.LineWalk.{lines_or_none}
use Rattle.inc_token.specs.TokenLines.{token_lines}
use Rattle.inc_token.specs.Views.{seen}
use Rattle.inc_directive.proofs.PartFiles.{given, one_line, part_count, read_at}
use Rattle.inc_directive.proofs.file_lines.FileLines.line.Goals as goal

pub overflow_add-i : goal.overflow_add-i
overflow_add-i c =
    let kept = c.self.inside in
    omega (arith, part_count kept.language kept.parts.items (lines_or_none (token_lines kept.language kept.text)) c.args.self.now c.self.view_is, c.self.invariant.few, c.requires)

pub index-requires : goal.index-requires
index-requires c = let kept = c.self.inside in omega (arith, part_count kept.language kept.parts.items (lines_or_none (token_lines kept.language kept.text)) c.args.self.now c.self.view_is, kept.parts.ok.0, c.requires)

pub lex_lines-requires-clause-within : goal.lex_lines-requires-clause-within
lex_lines-requires-clause-within c =
    let kept = c.self.inside in
    let s = read_at kept.language kept.text kept.parts.items (lines_or_none (token_lines kept.language kept.text)) c.args.self.now c.args.i c.index.result.now c.self.view_is c.self.invariant.kept c.requires c.index.ensures in
    s.within

pub lex_lines-requires-clause-lines : goal.lex_lines-requires-clause-lines
lex_lines-requires-clause-lines c =
    let kept = c.self.inside in
    let s = read_at kept.language kept.text kept.parts.items (lines_or_none (token_lines kept.language kept.text)) c.args.self.now c.args.i c.index.result.now c.self.view_is c.self.invariant.kept c.requires c.index.ensures in
    (s.line ∷ s.rest, s.lines, omega (arith, s.some, s.enough))

pub returns : goal.returns
returns c = λ l is.
    let kept = c.self.inside in
    let s = read_at kept.language kept.text kept.parts.items (lines_or_none (token_lines kept.language kept.text)) c.args.self.now c.args.i c.index.result.now c.self.view_is c.self.invariant.kept c.requires c.index.ensures in
    c.in_ok-lex_lines.ensures (s.line ∷ s.rest) s.lines ∙ one_line (map seen c.in_ok-line.line.items) s.line s.rest (ap (map seen) c.in_ok-line.ensures.items) ∙ sym (given s l is).0
