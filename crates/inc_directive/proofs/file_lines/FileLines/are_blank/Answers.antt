use Rattle.std.proofs.Common.{◌≡◌, slice_range, arith, ap, sym, ◌∙◌}
use Rattle.std.proofs.lemmas.Bool.{eqb-true}
use Rattle.inc_token.specs.LineWalk.{lines_or_none}
use Rattle.inc_token.specs.TokenLines.{token_lines}
use Rattle.inc_directive.specs.Parts.{lines_of_parts}
use Rattle.inc_directive.specs.Runs.{run_tokens}
use Rattle.inc_directive.proofs.PartFiles.{blank_next, part_count, part_some, read_at, run_any}
use Rattle.inc_directive.proofs.file_lines.FileLines.are_blank.Goals as goal
use Rattle.inc_directive.proofs.file_lines.FileLines.are_blank.Goals.{then-loop-i-test+else-is_blank, else-loop-i-test}

pub index-requires : goal.index-requires
index-requires c = let kept = c.self.inside in omega (arith, part_count kept.language kept.parts.items (lines_or_none (token_lines kept.language kept.text)) c.args.self.now c.self.view_is, kept.parts.ok.0, c.loop-i-test.true, c.requires.within)

pub loop-i-preserved : goal.loop-i-preserved
loop-i-preserved c =
    let kept = c.self.inside in
    let h = c.loop-i.invariant in
    let s = read_at kept.language kept.text kept.parts.items (lines_or_none (token_lines kept.language kept.text)) c.args.self.now c.loop-i.i c.index.result.now c.self.view_is c.self.invariant.kept (omega (arith, c.loop-i-test.true, c.requires.within)) c.index.ensures in
    record {
      after = omega (arith, h.after);
      within = omega (arith, c.loop-i-test.true);
      blank = blank_next s c.args.from h.after h.blank (sym c.is_blank.ensures ∙ c.if-is_blank.true);
    }

pub returns : goal.returns
returns c =
    let kept = c.self.inside in
    let all = c.args.self.now in
    let i = c.loop-i.i in
    let h = c.loop-i.invariant in (
      λ e. ap (λ k. run_tokens (lines_of_parts (slice_range all c.args.from k))) (sym (eqb-true i c.args.to e)) ∙ h.blank,
      λ none.
          elim c.loop-i-test.branch [
            | then-loop-i-test+else-is_blank w ↦
                (let s = read_at kept.language kept.text kept.parts.items (lines_or_none (token_lines kept.language kept.text)) all i w.index.result.now c.self.view_is c.self.invariant.kept
                (omega (arith, w.loop-i-test.true, c.requires.within)) w.index.ensures in
                absurd (run_any all c.args.from i c.args.to _ h.after w.loop-i-test.true s.is (part_some s (sym w.is_blank.ensures ∙ w.if-is_blank.false)) none))
            | else-loop-i-test w ↦ (let same : i ≡ c.args.to = omega (arith, h.within, w.loop-i-test.false) in grind arith)
          ],
    )
