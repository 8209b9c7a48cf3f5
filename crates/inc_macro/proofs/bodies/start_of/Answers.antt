use Rattle.std.proofs.Common.{◌≡◌, suc, ◌-◌, ap, ◌∙◌, sym, arith, get_or, length, ◌<◌, false}
use Rattle.std.proofs.lemmas.Option.{slice_get-get_or}
use Rattle.inc_token.specs.declared.kinds.Kind.TheVariants.{HeaderName}
use Rattle.inc_macro.specs.Bodies.{start_of}
use Rattle.inc_macro.specs.declared.bodies.Part.{Part}
use Rattle.inc_macro.specs.declared.roles.Role.TheVariants.{Itself}
use Rattle.inc_macro.proofs.KeptBodies.{start_of-after}
use Rattle.inc_macro.proofs.bodies.start_of.Goals as goal

pub returns-else-i-eq0 : goal.returns-else-i-eq0
returns-else-i-eq0 c =
    let parts = c.args.parts.now in
    let i = c.args.i in
    let none : Part = record { end = 0; kind = HeaderName; space = false; role = Itself } in
    let after : suc (i - 1) ≡ i = omega (arith, c.if-i-eq0.false) in
    let before : i - 1 < length parts = omega (arith, c.if-i-eq0.false, c.requires) in
    sym (start_of-after c.args.first parts (i - 1) (get_or parts (i - 1) none) (slice_get-get_or parts (i - 1) none before)) ∙ ap (start_of c.args.first parts) after
