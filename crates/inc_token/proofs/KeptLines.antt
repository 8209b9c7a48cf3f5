-- Lines that are kept as one row of tokens and the places where lines end.
use Rattle.std.proofs.Common.{◌≡◌, ℕ, zero, suc, ◌-◌, ◌<◌, ◌≤◌, List, [], ◌∷◌, ◌++◌, Some, Result, Ok, Err, length, map, drop, take, refl, sym, ap, ◌∙◌, Bool, arith, slice_get, slice_range, option_map}
use Rattle.std.proofs.lemmas.List.{append_assoc, append-nil, drop-append-le, drop_all, take_rest, drop-map, take-map}
use Rattle.inc_token.proofs.Slices.{slice_range-append}
use Rattle.inc_token.specs.LineEnds.{lines_of, start_of, last_end, AreInOrder, tokens_behind, with_tokens, answer_with}
use Rattle.inc_text.specs.PhaseText.{Cell}
use Rattle.inc_token.specs.TokenLines.{Tok, TokenLine, token_of, with_piece}
use Rattle.inc_token.specs.declared.kinds.Kind.{Kind}
use Rattle.inc_token.specs.declared.pieces.Piece.TheVariants.{NewLine, Lexeme}
use Rattle.inc_token.specs.declared.lines.LexFault.{LexFault}
use Rattle.inc_token.specs.declared.lines.LineEnd.{LineEnd}

pub length-lines_of : (tokens : List Tok) (from : ℕ) (ends : List LineEnd) → length (lines_of tokens from ends) ≡ length ends
length-lines_of tokens from [] = refl
length-lines_of tokens from (e ∷ ends) = ap suc (length-lines_of tokens e.tokens ends)

-- a line begins where the one before it ends
pub start_of-behind : (from : ℕ) (ends : List LineEnd) (i : ℕ) (e : LineEnd) → slice_get ends i ≡ Some e → start_of from ends (suc i) ≡ e.tokens
start_of-behind from [] i e is = cc
start_of-behind from (d ∷ ends) zero e is = cc
start_of-behind from (d ∷ ends) (suc i) e is = start_of-behind d.tokens ends i e is

-- the tokens of line i, and the line of its LF
pub tokens-lines_of : (tokens : List Tok) (from : ℕ) (ends : List LineEnd) (i : ℕ) → i < length ends
    → option_map (λ (l : TokenLine). l.tokens) (slice_get (lines_of tokens from ends) i) ≡ Some (slice_range tokens (start_of from ends i) (start_of from ends (suc i)))
tokens-lines_of tokens from [] i h = absurd (omega arith)
tokens-lines_of tokens from (e ∷ ends) zero h = refl
tokens-lines_of tokens from (e ∷ ends) (suc i) h = tokens-lines_of tokens e.tokens ends i (omega arith)

-- line i whole
pub line-lines_of : (tokens : List Tok) (from : ℕ) (ends : List LineEnd) (i : ℕ) (e : LineEnd) → slice_get ends i ≡ Some e
    → slice_get (lines_of tokens from ends) i ≡ Some (record { tokens = slice_range tokens (start_of from ends i) (start_of from ends (suc i)); last_line = e.last_line })
line-lines_of tokens from [] i e is = cc
line-lines_of tokens from (d ∷ ends) zero e is =
    let same : d ≡ e = cc in
    ap (λ n. Some (record { tokens = slice_range tokens from d.tokens; last_line = n })) (ap (λ (x : LineEnd). x.last_line) same)
line-lines_of tokens from (d ∷ ends) (suc i) e is = line-lines_of tokens d.tokens ends i e is

pub last_line-lines_of : (tokens : List Tok) (from : ℕ) (ends : List LineEnd) (i : ℕ) (e : LineEnd) → slice_get ends i ≡ Some e
    → option_map (λ (l : TokenLine). l.last_line) (slice_get (lines_of tokens from ends) i) ≡ Some e.last_line
last_line-lines_of tokens from [] i e is = cc
last_line-lines_of tokens from (d ∷ ends) zero e is = let same : d ≡ e = cc in ap (λ (x : LineEnd). Some x.last_line) same
last_line-lines_of tokens from (d ∷ ends) (suc i) e is = last_line-lines_of tokens d.tokens ends i e is

pub last_end-le : (from : ℕ) (ends : List LineEnd) (n : ℕ) → AreInOrder from ends n → (from ≤ last_end from ends) × (last_end from ends ≤ n)
last_end-le from [] n h = (omega arith, h)
last_end-le from (e ∷ ends) n h = let below = last_end-le e.tokens ends n h.1 in (omega arith, below.1)

-- a line lies within the tokens
pub bounds : (from : ℕ) (ends : List LineEnd) (n i : ℕ) → AreInOrder from ends n → i < length ends → (start_of from ends i ≤ start_of from ends (suc i)) × (start_of from ends (suc i) ≤ n)
bounds from [] n i h less = absurd (omega arith)
bounds from (e ∷ ends) n zero h less = let below = last_end-le e.tokens ends n h.1 in (h.0, omega arith)
bounds from (e ∷ ends) n (suc i) h less = bounds e.tokens ends n i h.1 (omega arith)

-- with one more end, or with more tokens
pub AreInOrder-more : (from : ℕ) (ends : List LineEnd) (m n : ℕ) → AreInOrder from ends m → m ≤ n → AreInOrder from ends n
AreInOrder-more from [] m n h le = omega arith
AreInOrder-more from (e ∷ ends) m n h le = (h.0, AreInOrder-more e.tokens ends m n h.1 le)

pub AreInOrder-push : (from : ℕ) (ends : List LineEnd) (e : LineEnd) (n : ℕ) → AreInOrder from ends n → e.tokens ≡ n → AreInOrder from (ends ++ e ∷ []) n
AreInOrder-push from [] e n h is = (omega arith, omega arith)
AreInOrder-push from (d ∷ ends) e n h is = (h.0, AreInOrder-push d.tokens ends e n h.1 is)

pub last_end-push : (from : ℕ) (ends : List LineEnd) (e : LineEnd) → last_end from (ends ++ e ∷ []) ≡ e.tokens
last_end-push from [] e = refl
last_end-push from (d ∷ ends) e = last_end-push d.tokens ends e

pub range-map : {X Y : Type 0} (f : X → Y) (xs : List X) (a b : ℕ) → slice_range (map f xs) a b ≡ map f (slice_range xs a b)
range-map f xs a b = ap (take (b - a)) (drop-map f a xs) ∙ take-map f (b - a) (drop a xs)

-- a token after the lines is in none of them
pub lines_of-more : (tokens more : List Tok) (from : ℕ) (ends : List LineEnd) → AreInOrder from ends (length tokens) → lines_of (tokens ++ more) from ends ≡ lines_of tokens from ends
lines_of-more tokens more from [] h = refl
lines_of-more tokens more from (e ∷ ends) h =
    let below = last_end-le e.tokens ends (length tokens) h.1 in
    let same = slice_range-append tokens more from e.tokens h.0 (omega arith) in
    let rest = lines_of-more tokens more e.tokens ends h.1 in
    ap (λ (ts : List Tok). record { tokens = ts; last_line = e.last_line } ∷ lines_of (tokens ++ more) e.tokens ends) same
    ∙ ap (λ (ls : List TokenLine). record { tokens = slice_range tokens from e.tokens; last_line = e.last_line } ∷ ls) rest

pub lines_of-push : (tokens : List Tok) (from : ℕ) (ends : List LineEnd) (e : LineEnd)
    → lines_of tokens from (ends ++ e ∷ []) ≡ lines_of tokens from ends ++ record { tokens = slice_range tokens (last_end from ends) e.tokens; last_line = e.last_line } ∷ []
lines_of-push tokens from [] e = refl
lines_of-push tokens from (d ∷ ends) e =
    ap (λ (ls : List TokenLine). record { tokens = slice_range tokens from d.tokens; last_line = d.last_line } ∷ ls) (lines_of-push tokens d.tokens ends e)

pub tokens_behind-push : (tokens : List Tok) (t : Tok) (ends : List LineEnd) → AreInOrder 0 ends (length tokens)
    → tokens_behind (tokens ++ t ∷ []) ends ≡ tokens_behind tokens ends ++ t ∷ []
tokens_behind-push tokens t ends h =
    let below = last_end-le 0 ends (length tokens) h in
    drop-append-le (last_end 0 ends) tokens (t ∷ []) below.1

-- the tokens of the line that ends after all of them, and none of the next line
pub tokens_behind-end : (tokens : List Tok) (ends : List LineEnd) (e : LineEnd) → e.tokens ≡ length tokens → tokens_behind tokens (ends ++ e ∷ []) ≡ []
tokens_behind-end tokens ends e is =
    ap (λ n. drop n tokens) (last_end-push 0 ends e ∙ is) ∙ drop_all (length tokens) tokens (omega arith)

pub tokens_behind-is : (tokens : List Tok) (ends : List LineEnd) → slice_range tokens (last_end 0 ends) (length tokens) ≡ drop (last_end 0 ends) tokens
tokens_behind-is tokens ends = take_rest tokens (last_end 0 ends)

-- the same answer with a token added, and with an end added
pub added_token : (tokens after : List Tok) (t : Tok) (ends : List LineEnd) (rest : Result (List TokenLine) LexFault) → AreInOrder 0 ends (length tokens) → after ≡ tokens ++ t ∷ []
    → answer_with (lines_of after 0 ends) (tokens_behind after ends) rest ≡ answer_with (lines_of tokens 0 ends) (tokens_behind tokens ends ++ t ∷ []) rest
added_token tokens after t ends rest h is =
    ap (λ (ts : List Tok). answer_with (lines_of ts 0 ends) (tokens_behind ts ends) rest) is
    ∙ ap (λ (ls : List TokenLine). answer_with ls (tokens_behind (tokens ++ t ∷ []) ends) rest) (lines_of-more tokens (t ∷ []) 0 ends h)
    ∙ ap (λ (ts : List Tok). answer_with (lines_of tokens 0 ends) ts rest) (tokens_behind-push tokens t ends h)

pub added_end : (tokens : List Tok) (ends after : List LineEnd) (e : LineEnd) (rest : Result (List TokenLine) LexFault) → e.tokens ≡ length tokens → after ≡ ends ++ e ∷ []
    → answer_with (lines_of tokens 0 after) (tokens_behind tokens after) rest
    ≡ answer_with (lines_of tokens 0 ends ++ record { tokens = tokens_behind tokens ends; last_line = e.last_line } ∷ []) [] rest
added_end tokens ends after e rest len is =
    let line : List Tok → TokenLine = λ ts. record { tokens = ts; last_line = e.last_line } in
    ap (λ (es : List LineEnd). answer_with (lines_of tokens 0 es) (tokens_behind tokens es) rest) is
    ∙ ap (λ (ts : List Tok). answer_with (lines_of tokens 0 (ends ++ e ∷ [])) ts rest) (tokens_behind-end tokens ends e len)
    ∙ ap (λ (ls : List TokenLine). answer_with ls [] rest) (lines_of-push tokens 0 ends e)
    ∙ ap (λ (ts : List Tok). answer_with (lines_of tokens 0 ends ++ line ts ∷ []) [] rest) (ap (slice_range tokens (last_end 0 ends)) len ∙ tokens_behind-is tokens ends)

-- the answer before and after a token, and before and after an end
pub answer_with-token : (done : List TokenLine) (begun : List Tok) (t : Tok) (rest : Result (List TokenLine) LexFault) (space : Bool) (kind : Kind) (n : ℕ) (c : Cell) (cs : List Cell)
    → t ≡ token_of space kind n c cs → answer_with done (begun ++ t ∷ []) rest ≡ answer_with done begun (with_piece space (Lexeme kind n) c cs rest)
answer_with-token done begun t (Err fault) space kind n c cs is = refl
answer_with-token done begun t (Ok []) space kind n c cs is = refl
answer_with-token done begun t (Ok (l ∷ ls)) space kind n c cs is =
    let P : List Tok → Result (List TokenLine) LexFault = λ ts. Ok (done ++ record { tokens = ts; last_line = l.last_line } ∷ ls) in
    ap P (append_assoc begun (t ∷ []) l.tokens) ∙ ap (λ (x : Tok). P (begun ++ x ∷ l.tokens)) is

with_tokens-none : (lines : List TokenLine) → with_tokens [] lines ≡ lines
with_tokens-none [] = refl
with_tokens-none (l ∷ ls) = refl

pub answer_with-end : (done : List TokenLine) (begun : List Tok) (rest : Result (List TokenLine) LexFault) (space : Bool) (c : Cell) (cs : List Cell)
    → answer_with (done ++ record { tokens = begun; last_line = c.line } ∷ []) [] rest ≡ answer_with done begun (with_piece space NewLine c cs rest)
answer_with-end done begun (Err fault) space c cs = refl
answer_with-end done begun (Ok lines) space c cs =
    let e : List TokenLine = record { tokens = begun; last_line = c.line } ∷ [] in
    let Q : List TokenLine → Result (List TokenLine) LexFault = λ ls. Ok ls in
    ap Q (append_assoc done e (with_tokens [] lines))
    ∙ ap (λ (ls : List TokenLine). Q (done ++ record { tokens = begun; last_line = c.line } ∷ ls)) (with_tokens-none lines)
    ∙ ap (λ (ts : List Tok). Q (done ++ record { tokens = ts; last_line = c.line } ∷ lines)) (sym (append-nil begun))

-- at the end of the text
pub answer_with-done : (done : List TokenLine) (begun : List Tok) → answer_with done begun (Ok []) ≡ Ok done
answer_with-done done begun = let Q : List TokenLine → Result (List TokenLine) LexFault = λ ls. Ok ls in ap Q (append-nil done)
