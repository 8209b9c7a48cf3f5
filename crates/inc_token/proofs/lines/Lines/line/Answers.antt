use Rattle.std.proofs.Common.{◌≡◌, suc, ◌+◌, ◌≤◌, length, map, slice_get, slice_range, Some, option_map, ap, sym, ◌∙◌, arith, rules, List, ℕ, Option}
use Rattle.inc_token.specs.LineEnds.{start_of}
use Rattle.inc_token.specs.Views.{seen}
use Rattle.inc_token.specs.TokenLines.{TokenLine, Tok}
use Rattle.inc_token.specs.declared.lines.LineEnd.{LineEnd}
use Rattle.inc_token.specs.declared.lines.Token.{Token}
use Rattle.inc_token.proofs.KeptLines.{bounds, length-lines_of, range-map, tokens-lines_of}
use Rattle.inc_token.proofs.lines.Lines.line.Goals as goal

pub start_of-from-requires : goal.start_of-from-requires
start_of-from-requires c =
    let kept = c.self.inside in
    let same = sym (length-lines_of (map seen kept.tokens.items) 0 kept.ends.items) ∙ ap length c.self.view_is in
    omega (arith, same, c.requires, ap length c.as_slice-ends.ensures.value)

pub overflow_add-i : goal.overflow_add-i
overflow_add-i c =
    let kept = c.self.inside in
    let same = sym (length-lines_of (map seen kept.tokens.items) 0 kept.ends.items) ∙ ap length c.self.view_is in
    omega (arith, same, c.requires, ap length c.as_slice-ends.ensures.value)

pub start_of-to-requires : goal.start_of-to-requires
start_of-to-requires c =
    let kept = c.self.inside in
    let same = sym (length-lines_of (map seen kept.tokens.items) 0 kept.ends.items) ∙ ap length c.self.view_is in
    omega (arith, same, c.requires, ap length c.as_slice-ends.ensures.value)

-- the line lies within the tokens
lies : (c : goal.After-start_of-to) → (c.start_of-from.result ≤ c.start_of-to.result) × (c.start_of-to.result ≤ length c.as_slice-tokens.result.now)
lies c =
    let kept = c.self.inside in
    let ends = kept.ends.items in
    let i = c.args.i in
    let same = sym (length-lines_of (map seen kept.tokens.items) 0 ends) ∙ ap length c.self.view_is in
    let next : i + 1 ≡ suc i = omega arith in
    let from : c.start_of-from.result ≡ start_of 0 ends i = c.start_of-from.ensures ∙ ap (λ (es : List LineEnd). start_of 0 es i) c.as_slice-ends.ensures.value in
    let to : c.start_of-to.result ≡ start_of 0 ends (suc i) = c.start_of-to.ensures ∙ ap (λ (es : List LineEnd). start_of 0 es (i + 1)) c.as_slice-ends.ensures.value ∙ ap (start_of 0 ends) next in
    let fits = bounds 0 ends (length kept.tokens.items) i c.self.invariant (omega (arith, same, c.requires)) in
    let all : length c.as_slice-tokens.result.now ≡ length kept.tokens.items = ap length c.as_slice-tokens.ensures.value in
    (omega (arith, from, to, fits.0), omega (arith, to, all, fits.1))

pub offset_bounds-tokens-from : goal.offset_bounds-tokens-from
offset_bounds-tokens-from c = let l = lies c in omega (arith, l.0, l.1, c.as_slice-tokens.type_inv.1)

pub slice_bounds-result-count : goal.slice_bounds-result-count
slice_bounds-result-count c = (lies c).0

pub slice_bounds-result-start : goal.slice_bounds-result-start
slice_bounds-result-start c = let l = lies c in search rules

pub slice_bounds-result-end : goal.slice_bounds-result-end
slice_bounds-result-end c = let l = lies c in search rules

pub returns : goal.returns
returns c =
    let kept = c.self.inside in
    let ends = kept.ends.items in
    let i = c.args.i in
    let same = sym (length-lines_of (map seen kept.tokens.items) 0 ends) ∙ ap length c.self.view_is in
    let next : i + 1 ≡ suc i = omega arith in
    let from : c.start_of-from.result ≡ start_of 0 ends i = c.start_of-from.ensures ∙ ap (λ (es : List LineEnd). start_of 0 es i) c.as_slice-ends.ensures.value in
    let to : c.start_of-to.result ≡ start_of 0 ends (suc i) = c.start_of-to.ensures ∙ ap (λ (es : List LineEnd). start_of 0 es (i + 1)) c.as_slice-ends.ensures.value ∙ ap (start_of 0 ends) next in
    let all = map seen kept.tokens.items in
    let P : List Tok → ℕ → ℕ → Option (List Tok) = λ ts a b. Some (slice_range ts a b) in
    ap (λ (ls : List TokenLine). option_map (λ (l : TokenLine). l.tokens) (slice_get ls i)) (sym c.self.view_is)
    ∙ tokens-lines_of all 0 ends i (omega (arith, same, c.requires))
    ∙ ap (λ a. P all a (start_of 0 ends (suc i))) (sym from)
    ∙ ap (λ b. P all c.start_of-from.result b) (sym to)
    ∙ ap (λ ts. Some ts) (range-map seen kept.tokens.items c.start_of-from.result c.start_of-to.result)
    ∙ ap (λ (ts : List Token). Some (map seen (slice_range ts c.start_of-from.result c.start_of-to.result))) (sym c.as_slice-tokens.ensures.value)
