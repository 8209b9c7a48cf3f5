use Rattle.std.proofs.Common.{Some, ◌≤◌, ◌≡◌, length, slice_get, option_map, arith, ap, sym, refl, ◌∙◌}
use Rattle.std.proofs.lemmas.Grind.{common_steps}
use Rattle.std.proofs.lemmas.Option.{slice_get_read, slice_get_past}
use Rattle.inc_token.specs.LineWalk.{lines_or_none}
use Rattle.inc_token.specs.TokenLines.{token_lines}
use Rattle.inc_token.specs.Views.{seen}
use Rattle.inc_directive.specs.declared.parts.Part.{Part}
use Rattle.std.proofs.Common.{List}
use Rattle.inc_directive.proofs.PartFiles.{has_line, line_blank, line_first, line_past, part_count, part_found, tokens_line, tokens_none}
use Rattle.inc_directive.proofs.file_lines.FileLines.first_line.Goals as goal

pub returns-in_default : goal.returns-in_default
returns-in_default c =
    let kept = c.self.inside in
    let past : length c.deref.result.now ≤ c.args.i = grind (arith, common_steps) in
    let all = part_count kept.language kept.parts.items (lines_or_none (token_lines kept.language kept.text)) c.args.self.now c.self.view_is in
    sym (line_past c.args.self.now c.args.i (slice_get_past c.args.self.now c.args.i (omega (arith, past, all, ap length c.deref.ensures.value))))

pub returns-then-is_blank : goal.returns-then-is_blank
returns-then-is_blank c =
    let kept = c.self.inside in
    let p = c.in-Some.part.now in
    let read : slice_get c.deref.result.now c.args.i ≡ Some p = slice_get_read c.deref.result.now (length c.deref.result.now) c.args.i p refl (grind (arith, common_steps)) (grind (arith, common_steps)) in
    let own : slice_get kept.parts.items c.args.i ≡ Some p = ap (λ (ps : List Part). slice_get ps c.args.i) (sym c.deref.ensures.value) ∙ read in
    let s = has_line (part_found kept.language kept.text kept.parts.items (lines_or_none (token_lines kept.language kept.text)) c.args.self.now c.args.i p c.self.view_is c.self.invariant.kept own) in
    sym (line_blank s (sym c.is_blank.ensures ∙ c.if-is_blank.true))

pub lex_token-requires-clause-within : goal.lex_token-requires-clause-within
lex_token-requires-clause-within c =
    let kept = c.self.inside in
    let p = c.in-Some.part.now in
    let read : slice_get c.deref.result.now c.args.i ≡ Some p = slice_get_read c.deref.result.now (length c.deref.result.now) c.args.i p refl (grind (arith, common_steps)) (grind (arith, common_steps)) in
    let own : slice_get kept.parts.items c.args.i ≡ Some p = ap (λ (ps : List Part). slice_get ps c.args.i) (sym c.deref.ensures.value) ∙ read in
    let s = has_line (part_found kept.language kept.text kept.parts.items (lines_or_none (token_lines kept.language kept.text)) c.args.self.now c.args.i p c.self.view_is c.self.invariant.kept own) in
    s.within

pub lex_token-requires-clause-line : goal.lex_token-requires-clause-line
lex_token-requires-clause-line c =
    let kept = c.self.inside in
    let p = c.in-Some.part.now in
    let read : slice_get c.deref.result.now c.args.i ≡ Some p = slice_get_read c.deref.result.now (length c.deref.result.now) c.args.i p refl (grind (arith, common_steps)) (grind (arith, common_steps)) in
    let own : slice_get kept.parts.items c.args.i ≡ Some p = ap (λ (ps : List Part). slice_get ps c.args.i) (sym c.deref.ensures.value) ∙ read in
    let s = has_line (part_found kept.language kept.text kept.parts.items (lines_or_none (token_lines kept.language kept.text)) c.args.self.now c.args.i p c.self.view_is c.self.invariant.kept own) in
    (s.line, s.rest, s.lines)

pub returns-in-Some-lex_token : goal.returns-in-Some-lex_token
returns-in-Some-lex_token c =
    let kept = c.self.inside in
    let p = c.in-Some.part.now in
    let read : slice_get c.deref.result.now c.args.i ≡ Some p = slice_get_read c.deref.result.now (length c.deref.result.now) c.args.i p refl (grind (arith, common_steps)) (grind (arith, common_steps)) in
    let own : slice_get kept.parts.items c.args.i ≡ Some p = ap (λ (ps : List Part). slice_get ps c.args.i) (sym c.deref.ensures.value) ∙ read in
    let s = has_line (part_found kept.language kept.text kept.parts.items (lines_or_none (token_lines kept.language kept.text)) c.args.self.now c.args.i p c.self.view_is c.self.invariant.kept own) in
    let first = ap (option_map seen) (sym c.in-Some-lex_token.is) ∙ c.lex_token.ensures s.line s.rest s.lines in
    sym (line_first s (sym c.is_blank.ensures ∙ c.if-is_blank.false) ∙ tokens_line s.line.tokens (seen c.in-Some-lex_token.first) first)

pub returns-in-None : goal.returns-in-None
returns-in-None c =
    let kept = c.self.inside in
    let p = c.in-Some.part.now in
    let read : slice_get c.deref.result.now c.args.i ≡ Some p = slice_get_read c.deref.result.now (length c.deref.result.now) c.args.i p refl (grind (arith, common_steps)) (grind (arith, common_steps)) in
    let own : slice_get kept.parts.items c.args.i ≡ Some p = ap (λ (ps : List Part). slice_get ps c.args.i) (sym c.deref.ensures.value) ∙ read in
    let s = has_line (part_found kept.language kept.text kept.parts.items (lines_or_none (token_lines kept.language kept.text)) c.args.self.now c.args.i p c.self.view_is c.self.invariant.kept own) in
    let first = ap (option_map seen) (sym c.in-None.is) ∙ c.lex_token.ensures s.line s.rest s.lines in
    sym (line_first s (sym c.is_blank.ensures ∙ c.if-is_blank.false) ∙ tokens_none s.line.tokens first)
