-- What is at a place is at least a byte, and no longer than the text from there on.
use Rattle.std.proofs.Common.{◌≡◌, ℕ, zero, suc, ◌+◌, ◌<◌, ◌≤◌, ◌==◌, Bool, true, false, cond, not, ◌||◌, ◌&&◌, List, [], ◌∷◌, Option, Some, None, length, take, drop, refl, sym, ap, ◌∙◌, subst, arith, is_some, codes, bytes_eq, option_map, nat_lt, nat_eq}
use Rattle.std.specs.Bool.{if◌then◌else◌}
use Rattle.std.specs.List.{prefix_len, starts_with}
use Rattle.std.specs.Option.{option_map_or}
use Rattle.std.proofs.lemmas.List.Sums.{prefix_len-le-length}
use Rattle.std.proofs.lemmas.List.Folds.{length-prefix_len}
use Rattle.std.proofs.lemmas.Bool.{eqb-true}
use Rattle.std.proofs.lemmas.List.{length-drop}
use Rattle.inc_token.specs.Spellings.{is_blank, is_one_above, is_identifier, is_number, is_char, is_str, is_punct, is_other, is_lone, is_header_name}
use Rattle.inc_text.specs.Languages.{is_gnu}
use Rattle.inc_token.specs.TokenLines.{longest_within, longest, is_token, longest_token, token_at, comment_rest, block_comment, line_comment, line_part, piece_at, piece_len}
use Rattle.inc_token.specs.declared.kinds.Kind.TheVariants.{HeaderName, Identifier, Number, Char, Str, Punct, Other}
use Rattle.inc_token.specs.declared.pieces.Piece.{Piece}
use Rattle.inc_token.specs.declared.pieces.Piece.TheVariants.{Blank, NewLine, Lexeme, Unclosed}
use Rattle.inc_token.specs.declared.pieces.Progress.{Progress}
use Rattle.inc_token.specs.declared.pieces.Progress.TheVariants.{AtStart, AfterHash, AfterInclude, Elsewhere}
use Rattle.inc_text.specs.declared.languages.Language.{Language}

-- a byte or more, and at most n
abbrev pub Takes : ℕ → ℕ → Type 0
Takes n m = (1 ≤ m) × (m ≤ n)

abbrev pub IsWithin : ℕ → Piece → Type 0
IsWithin n piece = Takes n (piece_len piece)

pub if_by : {A : Type 0} (P : A → Type 0) (t : Bool) (x y : A) → (t ≡ true → P x) → (t ≡ false → P y) → P (if t then x else y)
if_by P true x y p q = p refl
if_by P false x y p q = q refl

-- one byte that is no white space and no LF lies in a class
mark_other : (p q r l : Bool) → p ≡ false → q ≡ false → r ≡ false → (not r && (not (p || q) || l)) ≡ true
mark_other true q r l a b c = cc
mark_other false true r l a b c = cc
mark_other false false true l a b c = cc
mark_other false false false l a b c = refl

some_class : (a b c d e x : Bool) → ((a || b || c || d || e) ≡ false → x ≡ true)
    → is_some (if a then Some Identifier else if b then Some Number else if c then Some Char else if d then Some Str else if e then Some Punct else if x then Some Other else None) ≡ true
some_class true b c d e x h = refl
some_class false true c d e x h = refl
some_class false false true d e x h = refl
some_class false false false true e x h = refl
some_class false false false false true x h = refl
some_class false false false false false true h = refl
some_class false false false false false false h = h refl

pub is_token-byte : (language : Language) (b : ℕ) → is_blank b ≡ false → (b == 10) ≡ false → is_token language (b ∷ []) ≡ true
is_token-byte language b p q =
    some_class (is_identifier language (b ∷ [])) (is_number language (b ∷ [])) (is_char (b ∷ [])) (is_str (b ∷ [])) (is_punct (b ∷ [])) (is_other language (b ∷ []))
    (mark_other (is_blank b) (b == 10) (is_one_above language (b ∷ [])) (is_lone (b ∷ []) && is_gnu language) p q)

-- the longest prefix that passes has a byte where the first byte alone passes
longest_within-le : (test : List ℕ → Bool) (text : List ℕ) (n : ℕ) → longest_within test text n ≤ n
longest_within-le test text zero = omega arith
longest_within-le test text (suc n) =
    let below = longest_within-le test text n in
    if_by (λ m. m ≤ suc n) (test (take (suc n) text)) (suc n) (longest_within test text n) (λ _. omega arith) (λ _. omega arith)

longest_within-pos : (test : List ℕ → Bool) (text : List ℕ) (n : ℕ) → test (take 1 text) ≡ true → 1 ≤ longest_within test text (suc n)
longest_within-pos test text zero is =
    if_by (λ m. 1 ≤ m) (test (take 1 text)) 1 0 (λ _. omega arith) (λ h. let clash : true ≡ false = sym is ∙ h in cc)
longest_within-pos test text (suc n) is =
    let below = longest_within-pos test text n is in
    if_by (λ m. 1 ≤ m) (test (take (suc (suc n)) text)) (suc (suc n)) (longest_within test text (suc n)) (λ _. omega arith) (λ _. below)

pub longest-le : (test : List ℕ → Bool) (text : List ℕ) → longest test text ≤ length text
longest-le test text = longest_within-le test text (length text)

pub longest-pos : (test : List ℕ → Bool) (b : ℕ) (bs : List ℕ) → test (b ∷ []) ≡ true → 1 ≤ longest test (b ∷ bs)
longest-pos test b bs is = longest_within-pos test (b ∷ bs) (length bs) is

-- a token
longest_token-within : (language : Language) (b : ℕ) (bs : List ℕ) → is_token language (b ∷ []) ≡ true → IsWithin (length (b ∷ bs)) (longest_token language (b ∷ bs))
longest_token-within language b bs is = (longest-pos (is_token language) b bs is, longest-le (is_token language) (b ∷ bs))

pub pos_from_test : (n : ℕ) → nat_lt 0 n ≡ true → 1 ≤ n
pos_from_test zero h = cc
pos_from_test (suc n) h = omega arith

pub token_at-within : (language : Language) (progress : Progress) (b : ℕ) (bs : List ℕ) → is_token language (b ∷ []) ≡ true → IsWithin (length (b ∷ bs)) (token_at language progress (b ∷ bs))
token_at-within language AtStart b bs is = longest_token-within language b bs is
token_at-within language AfterHash b bs is = longest_token-within language b bs is
token_at-within language Elsewhere b bs is = longest_token-within language b bs is
token_at-within language AfterInclude b bs is =
    let n : ℕ = longest is_header_name (b ∷ bs) in
    if_by (IsWithin (length (b ∷ bs))) (nat_lt 0 n) (Lexeme HeaderName n) (longest_token language (b ∷ bs)) (λ h. (pos_from_test n h, longest-le is_header_name (b ∷ bs))) (λ _. longest_token-within language b bs is)

-- up to the next LF
first_stays : (t : Bool) (n b : ℕ) (bs : List ℕ) → t ≡ false → take (cond (not t) (1 + n) 0) (b ∷ bs) ≡ b ∷ take n bs
first_stays true n b bs is = cc
first_stays false n b bs is = let e : 1 + n ≡ suc n = omega arith in ap (λ k. take k (b ∷ bs)) e

pub line_part-first : (b : ℕ) (bs : List ℕ) → (b == 10) ≡ false → (rest : List ℕ) × (line_part (b ∷ bs) ≡ b ∷ rest)
line_part-first b bs is = (take (prefix_len (λ x. not (x == 10)) bs) bs, first_stays (b == 10) (prefix_len (λ x. not (x == 10)) bs) b bs is)

line_part-le : (text : List ℕ) → length (line_part text) ≤ length text
line_part-le text = omega (arith, length-prefix_len (λ b. not (b == 10)) text, prefix_len-le-length (λ b. not (b == 10)) text)

line_token-within : (language : Language) (progress : Progress) (b : ℕ) (bs : List ℕ) → is_blank b ≡ false → (b == 10) ≡ false → IsWithin (length (b ∷ bs)) (token_at language progress (line_part (b ∷ bs)))
line_token-within language progress b bs p q =
    let first = line_part-first b bs q in
    let inner = token_at-within language progress b first.0 (is_token-byte language b p q) in
    let shorter = line_part-le (b ∷ bs) in
    let is : b ∷ first.0 ≡ line_part (b ∷ bs) = sym first.1 in
    let fits : IsWithin (length (line_part (b ∷ bs))) (token_at language progress (line_part (b ∷ bs))) = subst (λ t. IsWithin (length t) (token_at language progress t)) is inner in
    (fits.0, omega (arith, fits.1, shorter))

-- comments
abbrev pub WithinSome : ℕ → Option ℕ → Type 0
WithinSome m None = Unit {0}
WithinSome m (Some n) = n ≤ m

one_more : (m : ℕ) (o : Option ℕ) → WithinSome m o → WithinSome (suc m) (option_map (λ n. 1 + n) o)
one_more m None h = tt
one_more m (Some n) h = omega arith

pub comment_rest-within : (text : List ℕ) → WithinSome (length text) (comment_rest text)
comment_rest-within [] = tt
comment_rest-within (a ∷ []) = tt
comment_rest-within (a ∷ b ∷ bs) =
    let inner = comment_rest-within (b ∷ bs) in
    if_by (WithinSome (length (a ∷ b ∷ bs))) (bytes_eq (a ∷ b ∷ []) (codes "*/")) (Some 2) (option_map (λ n. 1 + n) (comment_rest (b ∷ bs))) (λ _. omega arith) (λ _. one_more (length (b ∷ bs)) (comment_rest (b ∷ bs)) inner)

block_within : (n m : ℕ) (o : Option ℕ) → WithinSome m o → 2 + m ≤ n → IsWithin n (option_map_or (λ n. Blank (2 + n)) o Unclosed)
block_within n m None h le = (omega arith, omega arith)
block_within n m (Some k) h le = (omega arith, omega arith)

pub and_left : (s t : Bool) → (s && t) ≡ true → s ≡ true
and_left true t h = refl
and_left false t h = cc

pub and_right : (s t : Bool) → (s && t) ≡ true → t ≡ true
and_right true t h = h
and_right false t h = cc

pub two_bytes : (b : ℕ) (bs : List ℕ) → starts_with nat_eq (b ∷ bs) (codes "/*") ≡ true → 2 ≤ length (b ∷ bs)
two_bytes b [] h = let clash : false ≡ true = and_right (nat_eq 47 b) false h in cc
two_bytes b (d ∷ ds) h = omega arith

block_comment-within : (b : ℕ) (bs : List ℕ) → starts_with nat_eq (b ∷ bs) (codes "/*") ≡ true → IsWithin (length (b ∷ bs)) (block_comment (b ∷ bs))
block_comment-within b bs h =
    let rest : List ℕ = drop 2 (b ∷ bs) in
    block_within (length (b ∷ bs)) (length rest) (comment_rest rest) (comment_rest-within rest) (omega (arith, length-drop 2 (b ∷ bs), two_bytes b bs h))

slash : (b : ℕ) → nat_eq 47 b ≡ true → (b == 10) ≡ false
slash b h = subst (λ x. (x == 10) ≡ false) (eqb-true 47 b h) refl

counts : (t : Bool) (n : ℕ) → t ≡ false → 1 ≤ cond (not t) (1 + n) 0
counts true n is = cc
counts false n is = omega arith

line_comment-within : (b : ℕ) (bs : List ℕ) → starts_with nat_eq (b ∷ bs) (codes "//") ≡ true → IsWithin (length (b ∷ bs)) (line_comment (b ∷ bs))
line_comment-within b bs h =
    let is : (b == 10) ≡ false = slash b (and_left (nat_eq 47 b) _ h) in
    (counts (b == 10) (prefix_len (λ x. not (x == 10)) bs) is, prefix_len-le-length (λ x. not (x == 10)) (b ∷ bs))

-- what is at a place
pub piece_at-within : (language : Language) (progress : Progress) (text : List ℕ) → 0 < length text → IsWithin (length text) (piece_at language progress text)
piece_at-within language progress [] h = absurd (omega arith)
piece_at-within language progress (b ∷ bs) h =
    let n : ℕ = length (b ∷ bs) in
    let token : Piece = token_at language progress (line_part (b ∷ bs)) in
    let block : Piece = block_comment (b ∷ bs) in
    let line : Piece = line_comment (b ∷ bs) in
    if_by (IsWithin n) (is_blank b) (Blank 1) _
    (λ _. (omega arith, omega arith))
    (λ p. if_by (IsWithin n) (starts_with nat_eq (b ∷ bs) (codes "/*")) block _
    (block_comment-within b bs)
    (λ _. if_by (IsWithin n) (starts_with nat_eq (b ∷ bs) (codes "//")) line _
    (line_comment-within b bs)
    (λ _. if_by (IsWithin n) (b == 10) NewLine token (λ _. (omega arith, omega arith)) (λ q. line_token-within language progress b bs p q))))
