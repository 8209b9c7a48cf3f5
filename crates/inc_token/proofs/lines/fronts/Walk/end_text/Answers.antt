use Rattle.std.proofs.Common.{◌≡◌, ◌+◌, ◌≤◌, ◌<◌, ℕ, zero, suc, length, arith, ap, sym, ◌∙◌, refl}
use Rattle.std.specs.List.{AllWithin}
use Rattle.inc_token.specs.LineFronts.{EndsText, IsPlaced, first_with}
use Rattle.inc_token.specs.LineWalk.{before, lines_at}
use Rattle.inc_token.specs.declared.lines.fronts.Walk.{Walk}
use Rattle.inc_token.proofs.FrontSteps.{empty_lines, line_feeds_over}
use Rattle.inc_token.proofs.lines.fronts.Walk.end_text.Goals as goal

-- LFs that end a line and as many empty ones as there are more
over : (w : Walk) (n : ℕ) (new : Walk) → IsPlaced w → 0 < n → w.at + n ≤ length w.bytes.now → AllWithin (λ b. b ≡ 10) w.bytes.now w.at (w.at + n) → new.at ≡ w.at + n → new.cursor ≡ w.cursor → new.language ≡ w.language
    → EndsText w n new
over w zero new h some within all at same spoken = absurd (omega (arith, some))
over w (suc n) new h some within all at same spoken =
    let next : w.at + 1 + n ≡ w.at + suc n = omega arith in
    let more = empty_lines w.language w.bytes.now w.cursor n (w.at + 1) h.bytes (omega (arith, within)) (λ i d low high. all i d (omega (arith, low)) (omega (arith, high))) in (
      omega (arith, at),
      more.0,
      more.1,
      more.2,
      λ b. line_feeds_over w.language w.bytes.now w.cursor n w.at b h.bytes within all ∙ ap (first_with b) more.3
          ∙ ap (λ k. first_with b (before more.0 (lines_at w.language w.cursor k))) next
          ∙ ap (λ k. first_with b (before more.0 (lines_at w.language w.cursor k))) (sym at)
          ∙ ap (λ cells. first_with b (before more.0 (lines_at w.language cells new.at))) (sym same)
          ∙ ap (λ k. first_with b (before more.0 (lines_at k new.cursor new.at))) (sym spoken),
    )

pub returns-then-line_feeds-gt0-clause-lines : goal.returns-then-line_feeds-gt0-clause-lines
returns-then-line_feeds-gt0-clause-lines c =
    let w = c.args.self.now in
    let found = c.line_feeds_at-line_feeds in
    over w found.result _ c.requires.walk c.if-line_feeds-gt0.true found.ensures.within found.ensures.line_feeds refl refl refl
