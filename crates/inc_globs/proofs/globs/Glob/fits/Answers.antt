use Rattle.std.proofs.Common.{rules, ◌-◌, drop, map, subst}
use Rattle.inc_globs.specs.Globs.{fits}
use Rattle.inc_globs.specs.Rows.{IsRow}
use Rattle.inc_globs.specs.Views.{seen_piece}
use Rattle.inc_globs.proofs.RowLemmas.{row_back, row_on}
use Rattle.inc_globs.proofs.globs.Glob.fits.Goals as goal

pub loop-left-preserved : goal.loop-left-preserved
loop-left-preserved c =
    let pieces = drop c.loop-left.left (map seen_piece c.loop-left.self-inside.pieces.items) in
    let before : IsRow (fits pieces) c.args.path.now c.deref_mut.result.now = subst (IsRow (fits pieces) c.args.path.now) (search rules) c.loop-left.invariant.2 in
    let made = c.put_piece.ensures (fits pieces) before in (
      search rules,
      search rules,
      row_back _ c.args.path.now c.put_piece.new.row c.loop-left.self-inside.row.items c.loop-left.self-inside.row.len (search rules)
          (row_on c.loop-left.self-inside.pieces.items (c.loop-left.left - 1) c.loop-left.left c.index.result.now c.args.path.now c.put_piece.new.row (search rules) (search rules) (search rules) made),
    )
