use Rattle.std.proofs.Common.{◌∙◌, arith, sym, ap, length}
use Rattle.inc_macro.specs.Bodies.{Kept}
use Rattle.inc_macro.proofs.KeptBodies.{length-tokens_from}
use Rattle.inc_macro.proofs.bodies.Body.len.Goals as goal

pub returns-clause-tokens : goal.returns-clause-tokens
returns-clause-tokens c =
    let same = sym (length-tokens_from c.self.inside.spellings.items c.self.inside.name_len c.self.inside.parts.items) ∙ ap (λ (b : Kept). length b.tokens) c.self.view_is in
    omega (arith, same, c.self.inside.parts.ok.0, c.len.ensures)
