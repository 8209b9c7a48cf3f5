-- The lines of a text whose tokens are stored in a row.
use Rattle.std.proofs.Common.{◌≡◌, ℕ, suc, ◌+◌, ◌-◌, ◌<◌, ◌≤◌, List, Option, Some, None, length, drop, take, refl, sym, ap, ◌∙◌, arith, slice_get, slice_range, option_map}
use Rattle.std.proofs.lemmas.List.{drop-drop, drop-take, length-drop, length-take-le}
use Rattle.inc_token.specs.LineEnds.{AreInOrder, lines_of, start_of}
use Rattle.inc_token.specs.TokenLines.{Tok, TokenLine}
use Rattle.inc_token.specs.declared.lines.LineEnd.{LineEnd}
use Rattle.inc_token.proofs.KeptLines.{bounds, length-lines_of, line-lines_of, start_of-behind}
use Rattle.inc_token.proofs.Slices.{get_past, get_take, slice_get-drop}

pub count_is : (tokens : List Tok) (ends : List LineEnd) (all : List TokenLine) → lines_of tokens 0 ends ≡ all → length ends ≡ length all
count_is tokens ends all view = sym (length-lines_of tokens 0 ends) ∙ ap length view

-- what is known of line i, whose tokens are those from one place up to another
pub record IsLine (tokens : List Tok) (all : List TokenLine) (i from to : ℕ) : Type 0 where
  -- the line
  pub line : TokenLine
  -- it is line i
  pub is : slice_get all i ≡ Some line
  -- its tokens are these
  pub part : line.tokens ≡ slice_range tokens from to
  -- the places are in order
  pub order : from ≤ to
  -- they are among the tokens
  pub within : to ≤ length tokens

end_read : (o : Option LineEnd) (to : ℕ) → option_map (λ (e : LineEnd). e.tokens) o ≡ Some to → (e : LineEnd) × (o ≡ Some e) × (e.tokens ≡ to)
end_read None to is = cc
end_read (Some e) to is = let same : e.tokens ≡ to = cc in (e, refl, same)

pub line_here : (tokens : List Tok) (ends copy : List LineEnd) (all : List TokenLine) (i from to : ℕ) → lines_of tokens 0 ends ≡ all → AreInOrder 0 ends (length tokens) → i < length all
    → copy ≡ ends → from ≡ start_of 0 copy i → option_map (λ (e : LineEnd). e.tokens) (slice_get copy i) ≡ Some to → IsLine tokens all i from to
line_here tokens ends copy all i from to view order less same begins stops =
    let low : i < length ends = omega (arith, less, count_is tokens ends all view) in
    let start : from ≡ start_of 0 ends i = begins ∙ ap (λ (es : List LineEnd). start_of 0 es i) same in
    let e = end_read (slice_get ends i) to (ap (λ (es : List LineEnd). option_map (λ (e : LineEnd). e.tokens) (slice_get es i)) (sym same) ∙ stops) in
    let end : to ≡ start_of 0 ends (suc i) = sym (start_of-behind 0 ends i e.0 e.1 ∙ e.2) in
    let fits = bounds 0 ends (length tokens) i order low in
    let line : TokenLine = record { tokens = slice_range tokens (start_of 0 ends i) (start_of 0 ends (suc i)); last_line = e.0.last_line } in
    record {
      line = line;
      is = ap (λ (ls : List TokenLine). slice_get ls i) (sym view) ∙ line-lines_of tokens 0 ends i e.0 e.1;
      part = ap (λ a. slice_range tokens a (start_of 0 ends (suc i))) (sym start) ∙ ap (λ b. slice_range tokens from b) (sym end);
      order = omega (arith, start, end, fits.0);
      within = omega (arith, end, fits.1);
    }

-- its tokens
pub tokens_are : {tokens : List Tok} {all : List TokenLine} {i from to : ℕ} (s : IsLine tokens all i from to) (line : TokenLine) → slice_get all i ≡ Some line → line.tokens ≡ slice_range tokens from to
tokens_are {tokens} {all} {i} {from} {to} s line is =
    let same : s.line ≡ line = some_same s.line line (sym s.is ∙ is) in
    ap (λ (l : TokenLine). l.tokens) (sym same) ∙ s.part
  where
    some_same : (a b : TokenLine) → Some a ≡ Some b → a ≡ b
    some_same a b e = cc

-- token k of a part, and none after its end
pub part_at : (tokens : List Tok) (from to k : ℕ) (t : Tok) → k < to - from → slice_get tokens (from + k) ≡ Some t → slice_get (slice_range tokens from to) k ≡ Some t
part_at tokens from to k t low is = get_take (drop from tokens) (to - from) k low ∙ slice_get-drop tokens from k (from + k) refl ∙ is

pub part_past : (tokens : List Tok) (from to k : ℕ) → to - from ≤ k → slice_get (slice_range tokens from to) k ≡ None
part_past tokens from to k le = get_past (drop from tokens) (to - from) k le

-- the first one
pub part_first : (tokens : List Tok) (from to n : ℕ) → from < to → option_map (λ (t : Tok). t.line) (slice_get tokens from) ≡ Some n → option_map (λ (t : Tok). t.line) (slice_get (slice_range tokens from to) 0) ≡ Some n
part_first tokens from to n less is =
    ap (option_map (λ (t : Tok). t.line)) (get_take (drop from tokens) (to - from) 0 (omega (arith, less)) ∙ slice_get-drop tokens from 0 from (omega arith)) ∙ is

-- a part without so many at its front
pub part_rest : (tokens : List Tok) (from to n : ℕ) → n < to - from → slice_range tokens (from + n) to ≡ drop n (slice_range tokens from to)
part_rest tokens from to n less =
    let size : to - from ≡ n + (to - (from + n)) = omega (arith, less) in
    sym (ap (λ k. drop n (take k (drop from tokens))) size ∙ drop-take n (to - (from + n)) (drop from tokens) ∙ ap (take (to - (from + n))) (drop-drop n from tokens))

pub length-part : (tokens : List Tok) (from to : ℕ) → to ≤ length tokens → length (slice_range tokens from to) ≡ to - from
length-part tokens from to within = length-take-le (to - from) (drop from tokens) (omega (arith, within, length-drop from tokens))
