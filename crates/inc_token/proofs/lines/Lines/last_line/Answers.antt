use Rattle.std.proofs.Common.{map, ◌≡◌, length, slice_get, Some, option_map, ap, sym, ◌∙◌, arith, refl}
use Rattle.std.proofs.lemmas.Option.{slice_get_read}
use Rattle.inc_token.specs.TokenLines.{TokenLine}
use Rattle.inc_token.specs.Views.{seen}
use Rattle.inc_token.proofs.KeptLines.{length-lines_of, last_line-lines_of}
use Rattle.inc_token.proofs.lines.Lines.last_line.Goals as goal

pub index-requires : goal.index-requires
index-requires c =
    let same = sym (length-lines_of (map seen c.self.inside.tokens.items) 0 c.self.inside.ends.items) ∙ ap length c.self.view_is in
    omega (arith, same, c.self.inside.ends.ok.0, c.requires)

pub returns : goal.returns
returns c =
    let kept = c.self.inside in
    let same = sym (length-lines_of (map seen kept.tokens.items) 0 kept.ends.items) ∙ ap length c.self.view_is in
    let end : slice_get kept.ends.items c.args.i ≡ Some c.index.result.now =
    slice_get_read kept.ends.items (length kept.ends.items) c.args.i c.index.result.now refl (omega (arith, same, c.requires)) c.index.ensures in
    ap (λ ls. option_map (λ (l : TokenLine). l.last_line) (slice_get ls c.args.i)) (sym c.self.view_is)
    ∙ last_line-lines_of (map seen kept.tokens.items) 0 kept.ends.items c.args.i c.index.result.now end
