use Rattle.std.proofs.Common.{◌≤◌, length, ap, arith, rules}
use Rattle.inc_macro.proofs.KeptBodies.{EndAt-le}
use Rattle.inc_macro.proofs.bodies.Body.name.Goals as goal

pub slice_bounds-result-end : goal.slice_bounds-result-end
slice_bounds-result-end c =
    let low = EndAt-le c.self.inside.name_len c.self.inside.parts.items (length c.self.inside.spellings.items) c.self.invariant.0 in
    let all = ap length c.deref.ensures.value in
    let within : c.self.inside.name_len ≤ length c.deref.result.now = omega (arith, low, all) in
    search rules
