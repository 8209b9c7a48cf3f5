use Rattle.std.proofs.Common.{Some, option_map, arith, ap, sym, refl, ◌∙◌}
use Rattle.inc_token.specs.LineWalk.{lines_or_none}
use Rattle.inc_token.specs.TokenLines.{token_lines}
use Rattle.inc_token.specs.Views.{seen_prefix}
use Rattle.inc_directive.specs.LineKinds.{LineKind}
use Rattle.inc_directive.specs.Parts.{is_text, part_kind}
use Rattle.inc_directive.proofs.PartFiles.{is_directive, kind_is, named-directive, part_count, read_at}
use Rattle.inc_directive.proofs.PrefixKinds.{directive-kind, text-kind}
use Rattle.inc_directive.proofs.file_lines.FileLines.kind.Goals as goal

pub index-part-requires : goal.index-part-requires
index-part-requires c = let kept = c.self.inside in omega (arith, part_count kept.language kept.parts.items (lines_or_none (token_lines kept.language kept.text)) c.args.self.now c.self.view_is, kept.parts.ok.0, c.requires)

pub returns-then-not-is_named : goal.returns-then-not-is_named
returns-then-not-is_named c =
    let kept = c.self.inside in
    let s = read_at kept.language kept.text kept.parts.items (lines_or_none (token_lines kept.language kept.text)) c.args.self.now c.args.i c.index-part.result.now c.self.view_is c.self.invariant.kept c.requires c.index-part.ensures in
    ap (option_map part_kind) s.is
    ∙ ap (λ (k : LineKind). Some k) (kind_is s (is_text c.index-part.result.now.tag) refl (sym c.is_named.ensures ∙ c.if-not-is_named.true) _ s.is ∙ sym c.kind_of.ensures)

pub line_prefix-requires-clause-within : goal.line_prefix-requires-clause-within
line_prefix-requires-clause-within c =
    let kept = c.self.inside in
    let s = read_at kept.language kept.text kept.parts.items (lines_or_none (token_lines kept.language kept.text)) c.args.self.now c.args.i c.index-part.result.now c.self.view_is c.self.invariant.kept c.requires c.index-part.ensures in
    s.within

pub line_prefix-requires-clause-line : goal.line_prefix-requires-clause-line
line_prefix-requires-clause-line c =
    let kept = c.self.inside in
    let s = read_at kept.language kept.text kept.parts.items (lines_or_none (token_lines kept.language kept.text)) c.args.self.now c.args.i c.index-part.result.now c.self.view_is c.self.invariant.kept c.requires c.index-part.ensures in
    (s.line, s.rest, s.lines)

pub returns-in-Some : goal.returns-in-Some
returns-in-Some c =
    let kept = c.self.inside in
    let s = read_at kept.language kept.text kept.parts.items (lines_or_none (token_lines kept.language kept.text)) c.args.self.now c.args.i c.index-part.result.now c.self.view_is c.self.invariant.kept c.requires c.index-part.ensures in
    let prefix = ap (option_map (seen_prefix kept.text)) (sym c.in-Some.is) ∙ c.line_prefix.ensures s.line s.rest s.lines in
    let directive = named-directive c.index-part.result.now.tag (sym c.is_named.ensures ∙ c.if-not-is_named.false) in
    ap (option_map part_kind) (is_directive s directive)
    ∙ ap (λ (k : LineKind). Some k) (directive-kind kept.language s.line.tokens (seen_prefix kept.text c.in-Some.prefix) prefix ∙ sym c.prefix_kind.ensures)

pub returns-in-None : goal.returns-in-None
returns-in-None c =
    let kept = c.self.inside in
    let s = read_at kept.language kept.text kept.parts.items (lines_or_none (token_lines kept.language kept.text)) c.args.self.now c.args.i c.index-part.result.now c.self.view_is c.self.invariant.kept c.requires c.index-part.ensures in
    let none = ap (option_map (seen_prefix kept.text)) (sym c.in-None.is) ∙ c.line_prefix.ensures s.line s.rest s.lines in
    let directive = named-directive c.index-part.result.now.tag (sym c.is_named.ensures ∙ c.if-not-is_named.false) in
    ap (option_map part_kind) (is_directive s directive) ∙ ap (λ (k : LineKind). Some k) (text-kind kept.language s.line.tokens (sym none))
