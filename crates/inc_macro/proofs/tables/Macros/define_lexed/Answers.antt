use Rattle.std.proofs.Common.{◌∙◌, ap, arith, map, option_map}
use Rattle.std.proofs.lemmas.List.{length-map}
use Rattle.std.proofs.lemmas.Option.{slice_get-get_or, slice_get-map}
use Rattle.inc_token.specs.Views.{seen}
use Rattle.inc_macro.specs.Tables.{table_of}
use Rattle.inc_macro.proofs.WordLines.{line_count, stand_for}
use Rattle.inc_macro.proofs.tables.Macros.define_lexed.Goals as goal

pub line-requires : goal.line-requires
line-requires c =
    let count = line_count c.args.self.now.language (map (λ w. w.now) c.args.words.now) c.args.lines.now c.requires in
    omega (arith, count, length-map c.args.words.now (λ w. w.now), c.loop-i-test.true)

pub define_known-requires : goal.define_known-requires
define_known-requires c =
    stand_for c.args.self.now.language (map (λ w. w.now) c.args.words.now) c.args.lines.now c.requires (table_of c.loop-i.self) c.loop-i.invariant.language c.loop-i.i _ (map seen c.line.result.now)
    (slice_get-map (λ w. w.now) c.args.words.now c.loop-i.i ∙ ap (option_map (λ w. w.now)) (slice_get-get_or c.args.words.now c.loop-i.i _ c.loop-i-test.true))
    c.line.ensures
