use Rattle.std.proofs.Common.{ℕ, sym, ap, ◌∙◌}
use Rattle.std.specs.Prelude.{◌==◌, not, slice_index}
use Rattle.inc_graph.proofs.UnknownMarks.{reached_else}
use Rattle.inc_graph.proofs.fixing.is_reached.Goals as goal

pub returns-else-is_source : goal.returns-else-is_source
returns-else-is_source c =
    ap (λ (k : ℕ). not (slice_index c.args.entered.now k == 0)) c.index.ensures ∙ ap (λ (n : ℕ). not (n == 0)) (c.requires.entered.each c.args.file c.requires.file)
    ∙ reached_else c.args.graph.now c.args.file (sym c.is_source.ensures ∙ c.if-is_source.false)
