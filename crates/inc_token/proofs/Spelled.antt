-- Each token's bytes lie in its class.
use Rattle.inc_text.specs.declared.languages.Language.{Language}
use Rattle.std.proofs.Common.{◌≡◌, ℕ, zero, suc, ◌+◌, ◌-◌, ◌≤◌, ◌==◌, Bool, true, false, not, ◌&&◌, List, [], ◌∷◌, Option, Some, None, Result, Ok, Err, length, take, drop, refl, sym, ap, ◌∙◌, subst, arith, is_some, unwrap_or, codes, nat_lt, nat_eq, IfOk, IsTrue}
use Rattle.std.specs.Option.{option_map_or}
use Rattle.std.specs.List.{list_all, starts_with, prefix_len}
use Rattle.std.proofs.lemmas.List.{take-take}
use Rattle.std.proofs.lemmas.List.Folds.{length-prefix_len}
use Rattle.inc_text.specs.PhaseText.{Cell, bytes_of}
use Rattle.inc_token.specs.Spellings.{class_of, is_blank, is_identifier, is_number, is_char, is_str, is_punct, is_other, is_header_name, is_spelling}
use Rattle.inc_token.specs.TokenLaws.{is_spelled, has_spellings}
use Rattle.inc_token.specs.TokenLines.{TokenLine, longest_within, longest, is_token, longest_token, token_at, comment_rest, block_comment, line_comment, line_part, piece_at, piece_len, lines_from, token_lines, with_piece, progress_after, is_space}
use Rattle.inc_token.specs.declared.kinds.Kind.{Kind}
use Rattle.inc_token.specs.declared.kinds.Kind.TheVariants.{HeaderName, Identifier, Number, Char, Str, Punct, Other}
use Rattle.inc_token.specs.declared.pieces.Piece.{Piece}
use Rattle.inc_token.specs.declared.pieces.Piece.TheVariants.{Blank, NewLine, Lexeme, Unclosed}
use Rattle.inc_token.specs.declared.pieces.Progress.{Progress}
use Rattle.inc_token.specs.declared.pieces.Progress.TheVariants.{AtStart, AfterHash, AfterInclude, Elsewhere}
use Rattle.inc_token.specs.declared.lines.LexFault.{LexFault}
use Rattle.inc_token.proofs.PieceBounds.{if_by, is_token-byte, longest-pos, line_part-first, pos_from_test, token_at-within}

-- the class that is found holds the text
abbrev pub LiesIn : Language → List ℕ → Option Kind → Type 0
LiesIn language text None = Unit {0}
LiesIn language text (Some kind) = is_spelling language kind text ≡ true

pub class_of-lies : (language : Language) (text : List ℕ) → LiesIn language text (class_of language text)
class_of-lies language text =
    if_by (LiesIn language text) (is_identifier language text) (Some Identifier) _ (λ h. h) (λ _.
    if_by (LiesIn language text) (is_number language text) (Some Number) _ (λ h. h) (λ _.
    if_by (LiesIn language text) (is_char text) (Some Char) _ (λ h. h) (λ _.
    if_by (LiesIn language text) (is_str text) (Some Str) _ (λ h. h) (λ _.
    if_by (LiesIn language text) (is_punct text) (Some Punct) _ (λ h. h) (λ _.
    if_by (LiesIn language text) (is_other language text) (Some Other) None (λ h. h) (λ _. tt))))))

found : (language : Language) (text : List ℕ) (class : Option Kind) → is_some class ≡ true → LiesIn language text class → is_spelling language (unwrap_or class Other) text ≡ true
found language text None is h = cc
found language text (Some kind) is h = h

-- the longest prefix that passes, where it has a byte, does pass
longest_within-passes : (test : List ℕ → Bool) (text : List ℕ) (n : ℕ) → 1 ≤ longest_within test text n → test (take (longest_within test text n) text) ≡ true
longest_within-passes test text zero = λ h. absurd (omega arith)
longest_within-passes test text (suc n) =
    let inner = longest_within-passes test text n in
    if_by (λ m. 1 ≤ m → test (take m text) ≡ true) (test (take (suc n) text)) (suc n) (longest_within test text n) (λ is _. is) (λ _. inner)

pub longest-passes : (test : List ℕ → Bool) (text : List ℕ) → 1 ≤ longest test text → test (take (longest test text) text) ≡ true
longest-passes test text h = longest_within-passes test text (length text) h

-- a piece whose bytes, if it is a token, lie in its class
abbrev pub IsSpelled : Language → List ℕ → Piece → Type 0
IsSpelled language text (Lexeme kind n) = is_spelling language kind (take n text) ≡ true
IsSpelled language text _ = Unit {0}

longest_token-spelled : (language : Language) (b : ℕ) (bs : List ℕ) → is_token language (b ∷ []) ≡ true → IsSpelled language (b ∷ bs) (longest_token language (b ∷ bs))
longest_token-spelled language b bs is =
    let s : List ℕ = take (longest (is_token language) (b ∷ bs)) (b ∷ bs) in
    found language s (class_of language s) (longest-passes (is_token language) (b ∷ bs) (longest-pos (is_token language) b bs is)) (class_of-lies language s)

token_at-spelled : (language : Language) (progress : Progress) (b : ℕ) (bs : List ℕ) → is_token language (b ∷ []) ≡ true → IsSpelled language (b ∷ bs) (token_at language progress (b ∷ bs))
token_at-spelled language AtStart b bs is = longest_token-spelled language b bs is
token_at-spelled language AfterHash b bs is = longest_token-spelled language b bs is
token_at-spelled language Elsewhere b bs is = longest_token-spelled language b bs is
token_at-spelled language AfterInclude b bs is =
    let n : ℕ = longest is_header_name (b ∷ bs) in
    if_by (IsSpelled language (b ∷ bs)) (nat_lt 0 n) (Lexeme HeaderName n) (longest_token language (b ∷ bs)) (λ h. longest-passes is_header_name (b ∷ bs) (pos_from_test n h)) (λ _. longest_token-spelled language b bs is)

-- within the text, and not only up to the next LF
spelled_in_text : (language : Language) (text : List ℕ) (piece : Piece) → piece_len piece ≤ length (line_part text) → IsSpelled language (line_part text) piece → IsSpelled language text piece
spelled_in_text language text (Lexeme kind n) le h =
    let m : ℕ = prefix_len (λ b. not (b == 10)) text in
    let same = take-take n m text (omega (arith, length-prefix_len (λ b. not (b == 10)) text)) in
    ap (is_spelling language kind) (sym same) ∙ h
spelled_in_text language text (Blank n) le h = tt
spelled_in_text language text NewLine le h = tt
spelled_in_text language text Unclosed le h = tt

line_token-spelled : (language : Language) (progress : Progress) (b : ℕ) (bs : List ℕ) → is_blank b ≡ false → (b == 10) ≡ false → IsSpelled language (b ∷ bs) (token_at language progress (line_part (b ∷ bs)))
line_token-spelled language progress b bs p q =
    let first = line_part-first b bs q in
    let is : b ∷ first.0 ≡ line_part (b ∷ bs) = sym first.1 in
    let token = is_token-byte language b p q in
    let spelled : IsSpelled language (line_part (b ∷ bs)) (token_at language progress (line_part (b ∷ bs))) =
    subst (λ t. IsSpelled language t (token_at language progress t)) is (token_at-spelled language progress b first.0 token) in
    let fits : piece_len (token_at language progress (line_part (b ∷ bs))) ≤ length (line_part (b ∷ bs)) =
    subst (λ t. piece_len (token_at language progress t) ≤ length t) is (token_at-within language progress b first.0 token).1 in
    spelled_in_text language (b ∷ bs) (token_at language progress (line_part (b ∷ bs))) fits spelled

comment-spelled : (language : Language) (text : List ℕ) (rest : Option ℕ) → IsSpelled language text (option_map_or (λ n. Blank (2 + n)) rest Unclosed)
comment-spelled language text None = tt
comment-spelled language text (Some n) = tt

pub piece_at-spelled : (language : Language) (progress : Progress) (text : List ℕ) → IsSpelled language text (piece_at language progress text)
piece_at-spelled language progress [] = tt
piece_at-spelled language progress (b ∷ bs) =
    let text : List ℕ = b ∷ bs in
    let token : Piece = token_at language progress (line_part text) in
    if_by (IsSpelled language text) (is_blank b) (Blank 1) _ (λ _. tt) (λ p.
    if_by (IsSpelled language text) (starts_with nat_eq text (codes "/*")) (block_comment text) _ (λ _. comment-spelled language text (comment_rest (drop 2 text))) (λ _.
    if_by (IsSpelled language text) (starts_with nat_eq text (codes "//")) (line_comment text) _ (λ _. tt) (λ _.
    if_by (IsSpelled language text) (b == 10) NewLine token (λ _. tt) (line_token-spelled language progress b bs p))))

-- of all lines
one_more : (a b c : Bool) → a ≡ true → IsTrue (b && c) → IsTrue ((a && b) && c)
one_more true b c is h = h
one_more false b c is h = cc

with_piece-spelled : (language : Language) (space : Bool) (piece : Piece) (c : Cell) (cs : List Cell) (rest : Result (List TokenLine) LexFault) → IsSpelled language (bytes_of (c ∷ cs)) piece
    → IfOk rest (λ ls. IsTrue (list_all (has_spellings language) ls)) → IfOk (with_piece space piece c cs rest) (λ ls. IsTrue (list_all (has_spellings language) ls))
with_piece-spelled language space Unclosed c cs (Err fault) s h = tt
with_piece-spelled language space Unclosed c cs (Ok lines) s h = tt
with_piece-spelled language space (Blank n) c cs (Err fault) s h = tt
with_piece-spelled language space (Blank n) c cs (Ok lines) s h = h
with_piece-spelled language space NewLine c cs (Err fault) s h = tt
with_piece-spelled language space NewLine c cs (Ok lines) s h = h
with_piece-spelled language space (Lexeme kind n) c cs (Err fault) s h = tt
with_piece-spelled language space (Lexeme kind n) c cs (Ok []) s h = h
with_piece-spelled language space (Lexeme kind n) c cs (Ok (l ∷ ls)) s h = one_more (is_spelling language kind (take n (bytes_of (c ∷ cs)))) (list_all (is_spelled language) l.tokens) (list_all (has_spellings language) ls) s h

lines_from-spelled : (language : Language) (left : ℕ) (progress : Progress) (space : Bool) (cells : List Cell) → IfOk (lines_from language left progress space cells) (λ ls. IsTrue (list_all (has_spellings language) ls))
lines_from-spelled language left progress space [] = refl
lines_from-spelled language (suc left) progress space (c ∷ cs) = lines_from-spelled language left progress space cs
lines_from-spelled language zero progress space (c ∷ cs) =
    let text : List ℕ = bytes_of (c ∷ cs) in
    let piece : Piece = piece_at language progress text in
    with_piece-spelled language space piece c cs _ (piece_at-spelled language progress text) (lines_from-spelled language (piece_len piece - 1) (progress_after language progress piece text) (is_space piece) cs)

pub token_lines-spelled : (language : Language) (cells : List Cell) → IfOk (token_lines language cells) (λ lines. IsTrue (list_all (has_spellings language) lines))
token_lines-spelled language cells = lines_from-spelled language 0 AtStart false cells
