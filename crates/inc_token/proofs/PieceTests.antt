-- The scanner's tests at a place, in their order, give the piece of the definition.
use Rattle.std.proofs.Common.{◌≡◌, ℕ, ◌+◌, ◌<◌, Bool, true, false, ◌&&◌, List, [], ◌∷◌, length, get_or, drop, cond, nat_lt, nat_eq, ◌==◌, refl, sym, ap, ◌∙◌, subst}
use Rattle.std.specs.List.{starts_with}
use Rattle.std.proofs.lemmas.Bool.{and_left}
use Rattle.std.proofs.lemmas.List.{drop_more}
use Rattle.inc_token.specs.declared.kinds.Kind.TheVariants.{HeaderName}
use Rattle.inc_token.specs.declared.pieces.Piece.{Piece}
use Rattle.inc_token.specs.declared.pieces.Piece.TheVariants.{Blank, NewLine, Lexeme}
use Rattle.inc_token.specs.declared.pieces.Progress.{Progress}
use Rattle.inc_token.specs.declared.pieces.Progress.TheVariants.{AtStart, AfterHash, AfterInclude, Elsewhere}
use Rattle.inc_token.specs.Spellings.{is_blank, is_header_name}
use Rattle.inc_token.specs.TokenLines.{longest_token, token_at, block_comment, line_comment, line_part, piece_at}
use Rattle.inc_token.specs.Scanning.{header_name_len, begins_with_byte}
use Rattle.inc_token.proofs.FrontPieces.{token_by, piece_by}
use Rattle.inc_token.proofs.Rows.{differs}
use Rattle.inc_token.proofs.Longest.{longest_on_line}
use Rattle.inc_token.proofs.Closed.{flip, longest_header_name}
use Rattle.inc_token.proofs.FirstBytes.{first_token-is}
use Rattle.inc_text.specs.declared.languages.Language.{Language}

token_by-is : (language : Language) (progress : Progress) (b : ℕ) (bs : List ℕ) → is_blank b ≡ false → (b == 10) ≡ false
    → token_at language progress (line_part (b ∷ bs)) ≡ token_by language progress (b ∷ bs)
token_by-is language AtStart b bs blank line = first_token-is language b bs blank line
token_by-is language AfterHash b bs blank line = first_token-is language b bs blank line
token_by-is language Elsewhere b bs blank line = first_token-is language b bs blank line
token_by-is language AfterInclude b bs blank line =
    let text = b ∷ bs in
    let n = header_name_len text in
    ap (λ k. cond (nat_lt 0 k) (Lexeme HeaderName k) (longest_token language (line_part text))) (longest_on_line is_header_name text n (longest_header_name text))
    ∙ ap (λ p. cond (nat_lt 0 n) (Lexeme HeaderName n) p) (first_token-is language b bs blank line)

and_true : (x : Bool) → (x && true) ≡ x
and_true true = refl
and_true false = refl

pub slash_and : (k b : ℕ) (bs : List ℕ) → starts_with nat_eq (b ∷ bs) (47 ∷ k ∷ []) ≡ ((b == 47) && begins_with_byte k bs)
slash_and k b [] = ap (λ t. t && false) (flip b 47)
slash_and k b (c ∷ cs) = ap (λ t. t && ((k == c) && true)) (flip b 47) ∙ ap (λ t. (b == 47) && t) (and_true (k == c) ∙ flip c k)

-- an LF begins no comment, so its test may come first
line_first : (blank star slash line : Bool) (w x y z t u : Piece) → (line ≡ true → star ≡ false) → (line ≡ true → slash ≡ false)
    → (blank ≡ false → line ≡ false → t ≡ u)
    → cond blank w (cond star x (cond slash y (cond line z t))) ≡ cond blank w (cond line z (cond star x (cond slash y u)))
line_first true star slash line w x y z t u no_star no_slash same = refl
line_first false star slash true w x y z t u no_star no_slash same = rw (no_star refl, no_slash refl) refl
line_first false star slash false w x y z t u no_star no_slash same = rw (same refl refl) refl

piece_by-is : (language : Language) (progress : Progress) (b : ℕ) (bs : List ℕ) → piece_at language progress (b ∷ bs) ≡ piece_by language progress (b ∷ bs)
piece_by-is language progress b bs =
    let text = b ∷ bs in
    let token = token_at language progress (line_part text) in
    let star = (b == 47) && begins_with_byte 42 bs in
    let slash = (b == 47) && begins_with_byte 47 bs in
    let lf = λ (x : ℕ). x == 10 in
    ap (λ s. cond (is_blank b) (Blank 1) (cond s (block_comment text) (cond (starts_with nat_eq text (47 ∷ 47 ∷ [])) (line_comment text) (cond (b == 10) NewLine token))))
    (slash_and 42 b bs)
    ∙ ap (λ s. cond (is_blank b) (Blank 1) (cond star (block_comment text) (cond s (line_comment text) (cond (b == 10) NewLine token)))) (slash_and 47 b bs)
    ∙ line_first (is_blank b) star slash (b == 10) (Blank 1) (block_comment text) (line_comment text) NewLine token (token_by language progress text)
    (λ line. and_left (b == 47) (begins_with_byte 42 bs) (differs lf 47 b refl line))
    (λ line. and_left (b == 47) (begins_with_byte 47 bs) (differs lf 47 b refl line))
    (λ blank line. token_by-is language progress b bs blank line)

pub piece_at-is : (language : Language) (progress : Progress) (text : List ℕ) (at : ℕ) → at < length text → piece_by language progress (drop at text) ≡ piece_at language progress (drop at text)
piece_at-is language progress text at lt =
    let head = drop_more text at 0 lt in
    subst (λ xs. piece_by language progress xs ≡ piece_at language progress xs) (sym head) (sym (piece_by-is language progress (get_or text at 0) (drop (at + 1) text)))
