use Rattle.std.proofs.Common.{rules, sym}
use Rattle.inc_globs.specs.Globs.{pieces}
use Rattle.inc_globs.proofs.PieceLemmas.{pieces_kept}
use Rattle.inc_globs.proofs.globs.Glob.new.Goals as goal

pub loop-at-preserved : goal.loop-at-preserved
loop-at-preserved c = (
  search rules,
  pieces_kept (pieces c.args.pattern.now) c.loop-at.pieces.items c.push.new.self.items c.in-Some.piece c.loop-at.first c.ends_component-first.result c.args.pattern.now c.loop-at.at c.in-Some.len
      (sym c.in-Some.ensures.piece) (search rules) (search rules) (search rules) c.ends_component-first.ensures c.loop-at.invariant.1,
)
