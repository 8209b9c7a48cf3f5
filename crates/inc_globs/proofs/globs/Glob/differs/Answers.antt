use Rattle.std.proofs.Common.{rules, sym}
use Rattle.inc_globs.proofs.PieceLemmas.{differs_here, ends_before, goes_on}
use Rattle.inc_globs.proofs.globs.Glob.differs.Goals as goal

pub returns-then-index-path : goal.returns-then-index-path
returns-then-index-path c = λ yes. ends_before c.self.inside.pieces.items c.args.self.now (sym c.self.view_is) c.loop-index.index c.index.result.now c.in-Byte.byte c.args.path.now
    (search rules) (search rules) c.in-Byte.is c.loop-index.invariant.1 (search rules)

pub returns-then-path-index : goal.returns-then-path-index
returns-then-path-index c = λ yes. differs_here c.self.inside.pieces.items c.args.self.now (sym c.self.view_is) c.loop-index.index c.index.result.now c.in-Byte.byte c.args.path.now
    (search rules) (search rules) c.in-Byte.is c.loop-index.invariant.1 (search rules) (search rules)

pub loop-index-preserved : goal.loop-index-preserved
loop-index-preserved c = (
  search rules,
  goes_on c.self.inside.pieces.items c.args.self.now (sym c.self.view_is) c.loop-index.index c.index.result.now c.in-Byte.byte c.args.path.now
      (search rules) (search rules) c.in-Byte.is c.loop-index.invariant.1 (search rules) (search rules),
)
