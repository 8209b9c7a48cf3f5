use Rattle.std.proofs.Common.{map, length, ap, sym, ◌∙◌, arith}
use Rattle.inc_token.specs.Views.{seen}
use Rattle.inc_token.proofs.KeptLines.{length-lines_of}
use Rattle.inc_token.proofs.lines.Lines.count.Goals as goal

pub returns : goal.returns
returns c =
    let same = sym (length-lines_of (map seen c.self.inside.tokens.items) 0 c.self.inside.ends.items) ∙ ap length c.self.view_is in
    omega (arith, same, c.self.inside.ends.ok.0, c.len.ensures)
