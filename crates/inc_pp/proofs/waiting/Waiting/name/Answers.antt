use Rattle.std.proofs.Common.{◌≡◌, ◌≤◌, Some, length, slice_get, rules}
use Rattle.inc_pp.proofs.WaitingParts.{first_within}
use Rattle.inc_pp.proofs.waiting.Waiting.name.Goals as goal

pub slice_bounds-result-end : goal.slice_bounds-result-end
slice_bounds-result-end c =
    let first : slice_get c.self.inside.parts.items 0 ≡ Some c.in-Some.part.now = search rules in
    let within : c.in-Some.part.now.end ≤ length c.self.inside.bytes.items = first_within (length c.self.inside.bytes.items) c.self.inside.parts.items c.in-Some.part.now first c.self.invariant in
    search rules
