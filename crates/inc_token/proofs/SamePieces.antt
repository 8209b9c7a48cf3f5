-- The piece at the front of a text, where another text goes on after it.
use Rattle.std.proofs.Common.{◌≡◌, ◌≢◌, ℕ, suc, ◌+◌, ◌-◌, ◌≤◌, ◌==◌, ◌||◌, Bool, true, false, not, cond, List, [], ◌∷◌, ◌++◌, Option, Some, None, length, take, drop, get_or, nat_eq, nat_lt, codes, bytes_eq, option_map, refl, sym, ap, ◌∙◌, subst, arith}
use Rattle.std.specs.List.{list_any, prefix_len, starts_with}
use Rattle.std.specs.Option.{option_map_or}
use Rattle.std.proofs.lemmas.Bool.{cond_both, cond-true, eqb-true}
use Rattle.std.proofs.lemmas.List.Sums.{prefix_len_passes}
use Rattle.inc_token.specs.Spellings.{is_blank, is_header_name}
use Rattle.inc_token.specs.TokenLines.{block_comment, comment_rest, line_comment, line_part, longest, longest_token, piece_at, piece_len, token_at}
use Rattle.inc_token.specs.declared.kinds.Kind.{Kind}
use Rattle.inc_token.specs.declared.kinds.Kind.TheVariants.{HeaderName}
use Rattle.inc_token.specs.declared.pieces.Piece.{Piece}
use Rattle.inc_token.specs.declared.pieces.Piece.TheVariants.{Blank, NewLine, Lexeme, Unclosed}
use Rattle.inc_token.specs.declared.pieces.Progress.{Progress}
use Rattle.inc_token.specs.declared.pieces.Progress.TheVariants.{AtStart, AfterHash, AfterInclude, Elsewhere}
use Rattle.inc_token.proofs.PieceBounds.{is_token-byte, line_part-first, token_at-within}
use Rattle.inc_token.proofs.Longest.{length-line_part}
use Rattle.inc_text.specs.declared.languages.Language.{Language}

abbrev pub has_lf : List ℕ → Bool
has_lf bytes = list_any (λ b. b == 10) bytes

abbrev pub on_line : ℕ → Bool
on_line b = not (b == 10)

---- tokens, and other pieces

abbrev pub IsToken : Piece → Type 0
IsToken (Lexeme kind n) = Unit {0}
IsToken _ = ⊥

pub token_is : (language : Language) (progress : Progress) (text : List ℕ) → IsToken (token_at language progress text)
token_is language AtStart text = tt
token_is language AfterHash text = tt
token_is language Elsewhere text = tt
token_is language AfterInclude text =
    cond_both (nat_lt 0 (longest is_header_name text)) (Lexeme HeaderName (longest is_header_name text))
    (longest_token language text) IsToken (λ _. tt) (λ _. tt)

other_token : (a b c d : Bool) (w x y z t u p : Piece) → IsToken t → cond a w (cond b x (cond c y (cond d z t))) ≡ p
    → (IsToken p → ⊥)
    → cond a w (cond b x (cond c y (cond d z u))) ≡ p
other_token true b c d w x y z t u p token is other = is
other_token false true c d w x y z t u p token is other = is
other_token false false true d w x y z t u p token is other = is
other_token false false false true w x y z t u p token is other = is
other_token false false false false w x y z t u p token is other = absurd (other (subst IsToken is token))

-- what is no token is so after any tokens of its line
pub any_progress : (language : Language) (progress later : Progress) (b : ℕ) (bs : List ℕ) (p : Piece) → piece_at language progress (b ∷ bs) ≡ p
    → (IsToken p → ⊥)
    → piece_at language later (b ∷ bs) ≡ p
any_progress language progress later b bs p is other =
    let text : List ℕ = b ∷ bs in
    other_token (is_blank b) (starts_with nat_eq text (codes "/*")) (starts_with nat_eq text (codes "//")) (b == 10)
    (Blank 1) (block_comment text) (line_comment text) NewLine (token_at language progress (line_part text))
    (token_at language later (line_part text)) p
    (token_is language progress (line_part text)) is other

---- comments

size_by : (t : Bool) (o : Option ℕ) (n : ℕ) → ((m : ℕ) → o ≡ Some m → 2 ≤ m)
    → cond t (Some 2) (option_map (λ m. 1 + m) o) ≡ Some n → 2 ≤ n
size_by true o n rest is = let e : n ≡ 2 = cc in omega (arith, e)
size_by false None n rest is = cc
size_by false (Some m) n rest is = let e : n ≡ 1 + m = cc in let k = rest m refl in omega (arith, e, k)

comment_size : (text : List ℕ) (n : ℕ) → comment_rest text ≡ Some n → 2 ≤ n
comment_size [] n is = cc
comment_size (a ∷ []) n is = cc
comment_size (a ∷ b ∷ bs) n is = size_by (bytes_eq (a ∷ b ∷ []) (codes "*/")) (comment_rest (b ∷ bs)) n
    (comment_size (b ∷ bs)) is

front_by : (t : Bool) (o other : Option ℕ) (n k : ℕ) → cond t (Some 2) (option_map (λ m. 1 + m) o) ≡ Some n
    → n ≤ suc k
    → ((m : ℕ) → o ≡ Some m → m ≤ k → other ≡ Some m) → cond t (Some 2) (option_map (λ m. 1 + m) other) ≡ Some n
front_by true o other n k is le rest = is
front_by false None other n k is le rest = cc
front_by false (Some m) other n k is le rest =
    let e : n ≡ 1 + m = cc in
    let there : other ≡ Some m = rest m refl (omega (arith, e, le)) in
    ap (λ x. option_map (λ j. 1 + j) x) there ∙ is

-- */ within the front of a text
comment_front : (front old new : List ℕ) (n : ℕ) → comment_rest (front ++ old) ≡ Some n → n ≤ length front
    → comment_rest (front ++ new) ≡ Some n
comment_front [] old new n is le = let k = comment_size old n is in absurd (omega (arith, le, k))
comment_front (a ∷ []) old new n is le = let k = comment_size (a ∷ old) n is in absurd (omega (arith, le, k))
comment_front (a ∷ b ∷ front) old new n is le =
    front_by (bytes_eq (a ∷ b ∷ []) (codes "*/")) (comment_rest (b ∷ (front ++ old)))
    (comment_rest (b ∷ (front ++ new))) n (length (b ∷ front))
    is le (λ m found low. comment_front (b ∷ front) old new m found low)

abbrev comment_piece : Option ℕ → Piece
comment_piece o = option_map_or (λ n. Blank (2 + n)) o Unclosed

piece_by : (o other : Option ℕ) (k : ℕ) (p : Piece) → comment_piece o ≡ p → p ≢ Unclosed → piece_len p ≤ 2 + k
    → ((m : ℕ) → o ≡ Some m → m ≤ k → other ≡ Some m) → comment_piece other ≡ p
piece_by None other k p is closed le rest = absurd (closed (sym is))
piece_by (Some m) other k p is closed le rest =
    let size : piece_len p ≡ 2 + m = ap piece_len (sym is) in
    ap comment_piece (rest m refl (omega (arith, le, size))) ∙ is

-- a comment within the front
block_front : (a b : ℕ) (front old new : List ℕ) (p : Piece) → block_comment (a ∷ b ∷ (front ++ old)) ≡ p
    → p ≢ Unclosed
    → piece_len p ≤ 2 + length front → block_comment (a ∷ b ∷ (front ++ new)) ≡ p
block_front a b front old new p is closed le =
    piece_by (comment_rest (front ++ old)) (comment_rest (front ++ new)) (length front) p is closed le
    (comment_front front old new)

-- a block comment has two bytes at least
block_size : (text : List ℕ) (p : Piece) → block_comment text ≡ p → p ≢ Unclosed → 2 ≤ piece_len p
block_size text p is closed = by (comment_rest (drop 2 text)) p is closed where
  by : (o : Option ℕ) (p : Piece) → comment_piece o ≡ p → p ≢ Unclosed → 2 ≤ piece_len p
  by None p is closed = absurd (closed (sym is))
  by (Some m) p is closed = let size : piece_len p ≡ 2 + m = ap piece_len (sym is) in omega (arith, size)

---- a line

-- up to an LF in the front
line_front : (front old new : List ℕ) → has_lf front ≡ true
    → prefix_len on_line (front ++ old) ≡ prefix_len on_line (front ++ new)
line_front [] old new lf = cc
line_front (b ∷ front) old new lf = by (b == 10) (has_lf front) (prefix_len on_line (front ++ old))
    (prefix_len on_line (front ++ new)) lf (line_front front old new) where
      by : (p q : Bool) (m n : ℕ) → (p || q) ≡ true → (q ≡ true → m ≡ n)
          → cond (not p) (1 + m) 0 ≡ cond (not p) (1 + n) 0
      by true q m n lf rest = refl
      by false q m n lf rest = ap (λ k. 1 + k) (rest lf)

take_front : (front old new : List ℕ) → has_lf front ≡ true → line_part (front ++ old) ≡ line_part (front ++ new)
take_front [] old new lf = cc
take_front (b ∷ front) old new lf = by (b == 10) (has_lf front) b (front ++ old) (front ++ new) lf
    (take_front front old new) where
      by : (p q : Bool) (b : ℕ) (xs ys : List ℕ) → (p || q) ≡ true → (q ≡ true → line_part xs ≡ line_part ys)
          → take (cond (not p) (1 + prefix_len on_line xs) 0) (b ∷ xs)
          ≡ take (cond (not p) (1 + prefix_len on_line ys) 0) (b ∷ ys)
      by true q b xs ys lf rest = refl
      by false q b xs ys lf rest =
          let add : (n : ℕ) → 1 + n ≡ suc n = λ n. omega arith in
          ap (λ n. take n (b ∷ xs)) (add (prefix_len on_line xs)) ∙ ap (λ zs. b ∷ zs) (rest lf)
          ∙ sym (ap (λ n. take n (b ∷ ys)) (add (prefix_len on_line ys)))

-- two bytes, of which an LF is none
starts_front : (k b : ℕ) (front old new : List ℕ) → has_lf (b ∷ front) ≡ true
    → starts_with nat_eq (b ∷ (front ++ old)) (47 ∷ k ∷ []) ≡ starts_with nat_eq (b ∷ (front ++ new)) (47 ∷ k ∷ [])
starts_front k b (c ∷ front) old new lf = refl
starts_front k b [] old new lf =
    let is : b ≡ 10 = eqb-true b 10 (or_false (b == 10) lf) in
    subst (λ x. starts_with nat_eq (x ∷ old) (47 ∷ k ∷ []) ≡ starts_with nat_eq (x ∷ new) (47 ∷ k ∷ [])) (sym is) refl
  where
    or_false : (p : Bool) → (p || false) ≡ true → p ≡ true
    or_false true is = refl
    or_false false is = is

same_by : (a b c d : Bool) (w x y z t other p : Piece) → cond a w (cond b x (cond c y (cond d z t))) ≡ p
    → (x ≡ p → other ≡ p)
    → cond a w (cond b other (cond c y (cond d z t))) ≡ p
same_by true b c d w x y z t other p is f = is
same_by false true c d w x y z t other p is f = f is
same_by false false c d w x y z t other p is f = is

block_either : (b : ℕ) (front old new : List ℕ) (p : Piece) → p ≢ Unclosed → piece_len p ≤ length (b ∷ front)
    → block_comment (b ∷ (front ++ old)) ≡ p → block_comment (b ∷ (front ++ new)) ≡ p
block_either b [] old new p closed le is = let k = block_size (b ∷ old) p is closed in absurd (omega (arith, k, le))
block_either b (c ∷ front) old new p closed le is = block_front b c front old new p is closed (omega (arith, le))

-- the piece lies in a front that holds an LF
pub piece_same : (language : Language) (progress : Progress) (b : ℕ) (front old new : List ℕ) (p : Piece) → has_lf (b ∷ front) ≡ true
    → piece_at language progress (b ∷ (front ++ old)) ≡ p → piece_len p ≤ length (b ∷ front) → p ≢ Unclosed
    → piece_at language progress (b ∷ (front ++ new)) ≡ p
piece_same language progress b front old new p lf is le closed =
    let text : List ℕ = b ∷ (front ++ old) in
    let later : List ℕ = b ∷ (front ++ new) in
    let star : Bool = starts_with nat_eq text (codes "/*") in
    let slash : Bool = starts_with nat_eq text (codes "//") in
    let token : Piece = token_at language progress (line_part text) in
    let block : Piece = block_comment later in
    ap (λ t. cond (is_blank b) (Blank 1) (cond t block
    (cond (starts_with nat_eq later (codes "//")) (line_comment later)
    (cond (b == 10) NewLine (token_at language progress (line_part later))))))
    (sym (starts_front 42 b front old new lf))
    ∙ ap (λ t. cond (is_blank b) (Blank 1) (cond star block
    (cond t (line_comment later) (cond (b == 10) NewLine (token_at language progress (line_part later))))))
    (sym (starts_front 47 b front old new lf))
    ∙ ap (λ n. cond (is_blank b) (Blank 1) (cond star block
    (cond slash (Blank n) (cond (b == 10) NewLine (token_at language progress (line_part later))))))
    (sym (line_front (b ∷ front) old new lf))
    ∙ ap (λ l. cond (is_blank b) (Blank 1) (cond star block
    (cond slash (line_comment text) (cond (b == 10) NewLine (token_at language progress l)))))
    (sym (take_front (b ∷ front) old new lf))
    ∙ same_by (is_blank b) star slash (b == 10) (Blank 1) (block_comment text)
    (line_comment text) NewLine token block p is
    (block_either b front old new p closed le)

---- a gap before other pieces

-- the text is neither empty nor at the end of a line
abbrev pub goes_on : List ℕ → Bool
goes_on [] = false
goes_on (b ∷ bs) = on_line b

pub ends_there : (front rest : List ℕ) → goes_on rest ≡ true → prefix_len on_line (front ++ rest) ≡ length front → ⊥
ends_there [] [] on is = cc
ends_there [] (b ∷ bs) on is = let e : 1 + prefix_len on_line bs ≡ 0 = sym (cond-true (on_line b) _ _ on)
    ∙ is in absurd (omega (arith, e))
ends_there (a ∷ front) rest on is = by (a == 10) (prefix_len on_line (front ++ rest)) (length front) is
    (ends_there front rest on) where
      by : (p : Bool) (m n : ℕ) → cond (not p) (1 + m) 0 ≡ suc n → (m ≡ n → ⊥) → ⊥
      by true m n is f = cc
      by false m n is f = f (omega (arith, is))

gap_by : (a b c d b' c' d' : Bool) (x y t x' y' z' : Piece) (n : ℕ) → IsToken t
    → cond a (Blank 1) (cond b x (cond c y (cond d NewLine t))) ≡ Blank n
    → (b ≡ true → x ≡ Blank n → (b' ≡ true) × (x' ≡ Blank n)) → (y ≡ Blank n → ⊥)
    → cond a (Blank 1) (cond b' x' (cond c' y' z')) ≡ Blank n
gap_by true b c d b' c' d' x y t x' y' z' n token is star line = is
gap_by false true c d b' c' d' x y t x' y' z' n token is star line = let s = star refl is in cond-true b' x' _ s.0
    ∙ s.1
gap_by false false true d b' c' d' x y t x' y' z' n token is star line = absurd (line is)
gap_by false false false true b' c' d' x y t x' y' z' n token is star line = cc
gap_by false false false false b' c' d' x y t x' y' z' n token is star line = absurd (subst IsToken is token)

-- white space or a comment that a piece of its line follows
pub gap_same : (language : Language) (progress : Progress) (b : ℕ) (front old new : List ℕ) → goes_on old ≡ true
    → piece_at language progress (b ∷ (front ++ old)) ≡ Blank (length (b ∷ front))
    → piece_at language progress (b ∷ (front ++ new)) ≡ Blank (length (b ∷ front))
gap_same language progress b front old new on is =
    let text : List ℕ = b ∷ (front ++ old) in
    let later : List ℕ = b ∷ (front ++ new) in
    let size : ℕ = length (b ∷ front) in
    let line : line_comment text ≡ Blank size → ⊥ = λ e. ends_there (b ∷ front) old on (ap piece_len e) in
    gap_by (is_blank b) (starts_with nat_eq text (codes "/*")) (starts_with nat_eq text (codes "//")) (b == 10)
    (starts_with nat_eq later (codes "/*")) (starts_with nat_eq later (codes "//")) (b == 10)
    (block_comment text) (line_comment text) (token_at language progress (line_part text)) (block_comment later)
    (line_comment later)
    (cond (b == 10) NewLine (token_at language progress (line_part later))) size (token_is language progress (line_part text)) is
    (star_same b front old new) line
  where
    closed : (n : ℕ) → Blank n ≢ Unclosed
    closed n is = cc

    star_same : (b : ℕ) (front old new : List ℕ) → starts_with nat_eq (b ∷ (front ++ old)) (codes "/*") ≡ true
        → block_comment (b ∷ (front ++ old)) ≡ Blank (length (b ∷ front))
        → (starts_with nat_eq (b ∷ (front ++ new)) (codes "/*") ≡ true) ×
        (block_comment (b ∷ (front ++ new)) ≡ Blank (length (b ∷ front)))
    star_same b [] old new star is = let k = block_size (b ∷ old) (Blank 1) is (closed 1) in absurd (omega (arith, k))
    star_same b (c ∷ front) old new star is = (
      star,
      block_front b c front old new (Blank (length (b ∷ c ∷ front))) is (closed (length (b ∷ c ∷ front)))
          (omega arith),
    )

---- the bytes of a token

token_by : (language : Language) (a b c d : Bool) (x : Option ℕ) (m : ℕ) (t p : Piece) → IsToken p
    → cond a (Blank 1) (cond b (comment_piece x) (cond c (Blank m) (cond d NewLine t))) ≡ p
    → (a ≡ false) × (d ≡ false) × (t ≡ p)
token_by language true b c d x m t p token is = absurd (subst IsToken (sym is) token)
token_by language false true c d None m t p token is = absurd (subst IsToken (sym is) token)
token_by language false true c d (Some n) m t p token is = absurd (subst IsToken (sym is) token)
token_by language false false true d x m t p token is = absurd (subst IsToken (sym is) token)
token_by language false false false true x m t p token is = absurd (subst IsToken (sym is) token)
token_by language false false false false x m t p token is = (refl, refl, is)

-- neither the first nor the last is LF
pub token_on_line : (language : Language) (progress : Progress) (b : ℕ) (bs : List ℕ) (kind : Kind) (n : ℕ)
    → piece_at language progress (b ∷ bs) ≡ Lexeme kind n
    → (on_line b ≡ true) × ((d : ℕ) → on_line (get_or (b ∷ bs) (n - 1) d) ≡ true)
token_on_line language progress b bs kind n is =
    let text : List ℕ = b ∷ bs in
    let parts = token_by language (is_blank b) (starts_with nat_eq text (codes "/*")) (starts_with nat_eq text (codes "//"))
    (b == 10)
    (comment_rest (drop 2 text)) (prefix_len on_line text) (token_at language progress (line_part text))
    (Lexeme kind n) tt is in
    let first = line_part-first b bs parts.1 in
    let inner = token_at-within language progress b first.0 (is_token-byte language b parts.0 parts.1) in
    let line : b ∷ first.0 ≡ line_part text = sym first.1 in
    let fits : (1 ≤ piece_len (token_at language progress (line_part text))) ×
    (piece_len (token_at language progress (line_part text)) ≤ length (line_part text)) =
    subst (λ t. (1 ≤ piece_len (token_at language progress t)) × (piece_len (token_at language progress t) ≤ length t)) line inner in
    let size : piece_len (token_at language progress (line_part text)) ≡ n = ap piece_len parts.2 in
    let part = length-line_part text in
    (ap not parts.1, λ d. prefix_len_passes on_line text (n - 1) d (omega (arith, fits.0, fits.1, size, part)))

newline_by : (a b c d : Bool) (x : Option ℕ) (m : ℕ) (t : Piece) → IsToken t
    → cond a (Blank 1) (cond b (comment_piece x) (cond c (Blank m) (cond d NewLine t))) ≡ NewLine → d ≡ true
newline_by true b c d x m t token is = cc
newline_by false true c d None m t token is = cc
newline_by false true c d (Some n) m t token is = cc
newline_by false false true d x m t token is = cc
newline_by false false false true x m t token is = refl
newline_by false false false false x m t token is = absurd (subst IsToken is token)

-- the end of a line is an LF
pub new_line_byte : (language : Language) (progress : Progress) (b : ℕ) (bs : List ℕ) → piece_at language progress (b ∷ bs) ≡ NewLine → b ≡ 10
new_line_byte language progress b bs is =
    let text : List ℕ = b ∷ bs in
    eqb-true b 10 (newline_by (is_blank b) (starts_with nat_eq text (codes "/*"))
    (starts_with nat_eq text (codes "//")) (b == 10)
    (comment_rest (drop 2 text)) (prefix_len on_line text) (token_at language progress (line_part text))
    (token_is language progress (line_part text)) is)

-- white space and comments begin with no LF
pub gap_byte : (language : Language) (progress : Progress) (b n : ℕ) (bs : List ℕ) → piece_at language progress (b ∷ bs) ≡ Blank n → on_line b ≡ true
gap_byte language progress b n bs is = by (b == 10) refl where
  by : (t : Bool) → (b == 10) ≡ t → not t ≡ true
  by false at = refl
  by true at = let e : NewLine ≡ Blank n = subst (λ x. piece_at language progress (x ∷ bs) ≡ Blank n)
      (eqb-true b 10 at) is in cc
