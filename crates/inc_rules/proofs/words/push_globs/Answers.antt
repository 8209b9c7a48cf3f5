use Rattle.std.proofs.Common.{◌≤◌, length, arith}
use Rattle.std.specs.Prelude.{◌==◌}
use Rattle.inc_text.specs.Ascii.{comma}
use Rattle.inc_rules.proofs.SplitLemmas.{part_at, part_low, part_on, parts_end, parts_none}
use Rattle.inc_rules.proofs.words.push_globs.Goals as goal

pub loop-at-preserved : goal.loop-at-preserved
loop-at-preserved c =
    let low : c.loop-at.at ≤ length c.args.word.now = omega (arith, c.loop-at-test.true) in
    record {
      within = part_low c.loop-at.at c.len_before-len.result c.args.word.now low c.len_before-len.ensures.within;
      globs = part_on _ _ _ _ _ _ c.loop-at.invariant.globs (part_at (λ b. b == comma) c.loop-at.at c.len_before-len.result c.args.word.now low c.len_before-len.ensures.is) c.in_ok-push_glob.ensures;
    }

pub returns : goal.returns
returns c = parts_end _ _ _ c.loop-at.invariant.globs (parts_none (λ b. b == comma) c.loop-at.at c.args.word.now (omega (arith, c.loop-at-test.false)))
