use Rattle.std.proofs.Common.{arith, sym, ◌∙◌}
use Rattle.inc_token.specs.LineWalk.{lines_or_none}
use Rattle.inc_token.specs.TokenLines.{token_lines}
use Rattle.inc_directive.proofs.PartFiles.{given, part_count, read_at}
use Rattle.inc_directive.proofs.file_lines.FileLines.tokens.Goals as goal

pub index-requires : goal.index-requires
index-requires c = let kept = c.self.inside in omega (arith, part_count kept.language kept.parts.items (lines_or_none (token_lines kept.language kept.text)) c.args.self.now c.self.view_is, kept.parts.ok.0, c.requires)

pub lex_line-requires-clause-within : goal.lex_line-requires-clause-within
lex_line-requires-clause-within c =
    let kept = c.self.inside in
    let s = read_at kept.language kept.text kept.parts.items (lines_or_none (token_lines kept.language kept.text)) c.args.self.now c.args.i c.index.result.now c.self.view_is c.self.invariant.kept c.requires c.index.ensures in
    s.within

pub lex_line-requires-clause-line : goal.lex_line-requires-clause-line
lex_line-requires-clause-line c =
    let kept = c.self.inside in
    let s = read_at kept.language kept.text kept.parts.items (lines_or_none (token_lines kept.language kept.text)) c.args.self.now c.args.i c.index.result.now c.self.view_is c.self.invariant.kept c.requires c.index.ensures in
    (s.line, s.rest, s.lines)

pub returns : goal.returns
returns c = λ l is.
    let kept = c.self.inside in
    let s = read_at kept.language kept.text kept.parts.items (lines_or_none (token_lines kept.language kept.text)) c.args.self.now c.args.i c.index.result.now c.self.view_is c.self.invariant.kept c.requires c.index.ensures in
    c.lex_line.ensures s.line s.rest s.lines ∙ sym (given s l is).0
