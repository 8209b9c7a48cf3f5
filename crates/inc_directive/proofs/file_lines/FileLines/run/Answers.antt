use Rattle.std.proofs.Common.{◌++◌, ◌∷◌, true, List, map, slice_range, arith, ap, sym, ◌∙◌, append-nil, Vec, Global}
use Rattle.inc_token.specs.LineWalk.{lines_or_none}
use Rattle.inc_token.specs.TokenLines.{token_lines}
use Rattle.inc_token.specs.LineWalk.{tokens_of_lines}
use Rattle.inc_token.specs.TokenLines.{Tok}
use Rattle.inc_token.specs.Views.{seen}
use Rattle.inc_token.specs.declared.lines.Token.{Token}
use Rattle.std.proofs.Common.{take}
use Rattle.inc_directive.specs.Parts.{lines_of_parts}
use Rattle.inc_directive.specs.Runs.{run_tokens}
use Rattle.inc_directive.proofs.PartFiles.{part_blank, part_count, part_tokens, read_at, run_next}
use Rattle.inc_directive.proofs.file_lines.FileLines.run.Goals as goal
use Rattle.inc_directive.proofs.file_lines.FileLines.run.Goals.{then-not-is_blank+in_ok-lex_lines, else-not-is_blank}

pub index-part-requires : goal.index-part-requires
index-part-requires c = let kept = c.self.inside in omega (arith, part_count kept.language kept.parts.items (lines_or_none (token_lines kept.language kept.text)) c.args.self.now c.self.view_is, kept.parts.ok.0, c.loop-i-test.true, c.requires.within)

pub lex_lines-requires-clause-within : goal.lex_lines-requires-clause-within
lex_lines-requires-clause-within c =
    let kept = c.self.inside in
    let s = read_at kept.language kept.text kept.parts.items (lines_or_none (token_lines kept.language kept.text)) c.args.self.now c.loop-i.i c.index-part.result.now c.self.view_is c.self.invariant.kept (omega (arith, c.loop-i-test.true, c.requires.within)) c.index-part.ensures in
    s.within

pub lex_lines-requires-clause-lines : goal.lex_lines-requires-clause-lines
lex_lines-requires-clause-lines c =
    let kept = c.self.inside in
    let s = read_at kept.language kept.text kept.parts.items (lines_or_none (token_lines kept.language kept.text)) c.args.self.now c.loop-i.i c.index-part.result.now c.self.view_is c.self.invariant.kept (omega (arith, c.loop-i-test.true, c.requires.within)) c.index-part.ensures in
    (s.line ∷ s.rest, s.lines, s.enough)

pub loop-i-preserved : goal.loop-i-preserved
loop-i-preserved c =
    let kept = c.self.inside in
    let all = c.args.self.now in
    let s = read_at kept.language kept.text kept.parts.items (lines_or_none (token_lines kept.language kept.text)) c.args.self.now c.loop-i.i c.index-part.result.now c.self.view_is c.self.invariant.kept (omega (arith, c.loop-i-test.true, c.requires.within)) c.index-part.ensures in
    let next = run_next all c.args.from c.loop-i.i _ c.loop-i.auto.i s.is in
    let before = run_tokens (lines_of_parts (slice_range all c.args.from c.loop-i.i)) in
    elim c.if-not-is_blank.branch [
      | then-not-is_blank+in_ok-lex_lines w ↦
          ap (λ (v : Vec Token Global). map seen v.items) w.run-is
          ∙ w.in_ok-lex_lines.ensures (s.line ∷ s.rest) s.lines
          ∙ ap (λ (ts : List Tok). ts ++ tokens_of_lines true (take c.index-part.result.now.lines (s.line ∷ s.rest))) c.loop-i.invariant
          ∙ ap (λ (ts : List Tok). before ++ ts) (sym (part_tokens s (sym c.is_blank.ensures ∙ w.if-not-is_blank.true)))
          ∙ sym next
      | else-not-is_blank w ↦
          ap (λ (v : Vec Token Global). map seen v.items) w.run-is
          ∙ c.loop-i.invariant
          ∙ sym (append-nil before)
          ∙ ap (λ (ts : List Tok). before ++ ts) (sym (part_blank s (sym c.is_blank.ensures ∙ w.if-not-is_blank.false)))
          ∙ sym next
    ]
