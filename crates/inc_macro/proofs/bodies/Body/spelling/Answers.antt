use Rattle.std.proofs.Common.{◌≡◌, ◌≤◌, length, slice_range, Some, option_map, ap, sym, ◌∙◌, arith, rules, List, Option}
use Rattle.inc_macro.specs.Bodies.{start_of}
use Rattle.inc_macro.specs.Macros.{BodyToken}
use Rattle.inc_macro.specs.declared.bodies.Part.{Part}
use Rattle.inc_macro.proofs.KeptBodies.{within, part_at, token_at, bounds}
use Rattle.inc_macro.proofs.bodies.Body.spelling.Goals as goal

pub start_of-from-requires : goal.start_of-from-requires
start_of-from-requires c =
    let less = within c.self.inside.name_len c.self.inside.spellings.items c.self.inside.parts.items c.args.self.now c.args.i c.self.view_is c.requires in
    omega (arith, less, ap length c.deref.ensures.value)

pub index-requires : goal.index-requires
index-requires c =
    let less = within c.self.inside.name_len c.self.inside.spellings.items c.self.inside.parts.items c.args.self.now c.args.i c.self.view_is c.requires in
    omega (arith, less, c.self.inside.parts.ok.0)

-- the spelling lies within the buffer
lies : (c : goal.After-deref-2) → (c.start_of-from.result ≤ c.index.result.now.end) × (c.index.result.now.end ≤ length c.deref-2.result.now)
lies c =
    let text = c.self.inside.spellings.items in
    let parts = c.self.inside.parts.items in
    let i = c.args.i in
    let less = within c.self.inside.name_len text parts c.args.self.now i c.self.view_is c.requires in
    let fits = bounds c.self.inside.name_len parts (length text) i c.index.result.now c.self.invariant.0 (part_at parts i c.index.result.now less c.index.ensures) in
    let from : c.start_of-from.result ≡ start_of c.self.inside.name_len parts i = c.start_of-from.ensures ∙ ap (λ (ps : List Part). start_of c.self.inside.name_len ps i) c.deref.ensures.value in
    let all : length c.deref-2.result.now ≡ length text = ap length c.deref-2.ensures.value in
    (omega (arith, from, fits.0), omega (arith, all, fits.1))

pub slice_bounds-result-count : goal.slice_bounds-result-count
slice_bounds-result-count c = (lies c).0

pub slice_bounds-result-start : goal.slice_bounds-result-start
slice_bounds-result-start c = let l = lies c in search rules

pub slice_bounds-result-end : goal.slice_bounds-result-end
slice_bounds-result-end c = let l = lies c in search rules

pub returns : goal.returns
returns c =
    let text = c.self.inside.spellings.items in
    let parts = c.self.inside.parts.items in
    let i = c.args.i in
    let end = c.index.result.now.end in
    let from : c.start_of-from.result ≡ start_of c.self.inside.name_len parts i = c.start_of-from.ensures ∙ ap (λ (ps : List Part). start_of c.self.inside.name_len ps i) c.deref.ensures.value in
    ap (λ (o : Option BodyToken). option_map (λ (b : BodyToken). b.spelling) o)
    (token_at c.self.inside.name_len text parts c.args.self.now i c.index.result.now c.self.view_is c.requires c.index.ensures)
    ∙ ap (λ a. Some (slice_range text a end)) (sym from)
    ∙ ap (λ ts. Some (slice_range ts c.start_of-from.result end)) (sym c.deref-2.ensures.value)
