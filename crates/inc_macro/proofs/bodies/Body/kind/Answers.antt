use Rattle.std.proofs.Common.{ap, arith, option_map, Option}
use Rattle.inc_macro.specs.Macros.{BodyToken}
use Rattle.inc_macro.proofs.KeptBodies.{within, token_at}
use Rattle.inc_macro.proofs.bodies.Body.kind.Goals as goal

pub index-requires : goal.index-requires
index-requires c =
    let less = within c.self.inside.name_len c.self.inside.spellings.items c.self.inside.parts.items c.args.self.now c.args.i c.self.view_is c.requires in
    omega (arith, less, c.self.inside.parts.ok.0)

pub returns : goal.returns
returns c =
    let kept = c.self.inside in
    ap (λ (o : Option BodyToken). option_map (λ (b : BodyToken). b.kind) o)
    (token_at kept.name_len kept.spellings.items kept.parts.items c.args.self.now c.args.i c.index.result.now c.self.view_is c.requires c.index.ensures)
