-- A line whose first byte is that of no directive and no comment: it is one of text, whatever its tokens are.
use Rattle.std.proofs.Common.{◌≡◌, ℕ, zero, suc, ◌+◌, ◌-◌, ◌<◌, ◌≤◌, ◌==◌, ◌&&◌, not, Bool, true, false, List, [], ◌∷◌, length, take, drop, get_or, unwrap_or, slice_range, refl, sym, ap, ◌∙◌, arith}
use Rattle.std.proofs.lemmas.Bool.{or_parts, cond-false}
use Rattle.std.proofs.lemmas.List.{drop_more}
use Rattle.inc_token.specs.LineFronts.{Nothing, Known, text_brief, IsPlaced, ahead_of, begins_text}
use Rattle.inc_token.specs.Scanning.{begins_with_byte}
use Rattle.inc_token.specs.Spellings.{class_of, is_blank}
use Rattle.inc_token.specs.TokenLines.{is_hash, is_token, line_part, longest, piece_at}
use Rattle.inc_token.specs.declared.kinds.Kind.{Kind}
use Rattle.inc_token.specs.declared.kinds.Kind.TheVariants.{Other}
use Rattle.inc_token.specs.declared.lines.fronts.Walk.{Walk}
use Rattle.inc_token.specs.declared.pieces.Piece.TheVariants.{Lexeme}
use Rattle.inc_token.specs.declared.pieces.Progress.TheVariants.{AtStart, Elsewhere}
use Rattle.inc_token.proofs.FrontPlaces.{word_taken}
use Rattle.inc_token.proofs.FrontSteps.{token_ahead}
use Rattle.inc_token.proofs.PieceTests.{slash_and}
use Rattle.inc_token.proofs.Places.{piece_fits}
use Rattle.inc_text.specs.declared.languages.Language.{Language}

not_off : (x : Bool) → not x ≡ true → x ≡ false
not_off true is = sym is
not_off false is = refl

-- the token at the front
abbrev front_len : Language → List ℕ → ℕ
front_len language text = longest (is_token language) (line_part text)

abbrev front_kind : Language → List ℕ → Kind
front_kind language text = unwrap_or (class_of language (take (front_len language text) (line_part text))) Other

text_piece : (language : Language) (b : ℕ) (bs : List ℕ) → is_blank b ≡ false → (b == 10) ≡ false → (b == 47) ≡ false → piece_at language AtStart (b ∷ bs) ≡ Lexeme (front_kind language (b ∷ bs)) (front_len language (b ∷ bs))
text_piece language b bs bare line slash =
    cond-false _ _ _ bare
    ∙ (cond-false _ _ _ (slash_and 42 b bs ∙ ap (λ t. t && begins_with_byte 42 bs) slash)
    ∙ (cond-false _ _ _ (slash_and 47 b bs ∙ ap (λ t. t && begins_with_byte 47 bs) slash) ∙ cond-false _ _ _ line))

same_progress : (language : Language) (text : List ℕ) → piece_at language AtStart text ≡ piece_at language Elsewhere text
same_progress language [] = refl
same_progress language (b ∷ bs) = refl

no_hash : (b n : ℕ) (bs : List ℕ) → 1 ≤ n → (b == 35) ≡ false → (b == 37) ≡ false → is_hash (take n (b ∷ bs)) ≡ false
no_hash b zero bs some hash percent = absurd (omega arith)
no_hash b (suc n) bs some hash percent = rw (hash, percent) refl

-- what is known of the line before its first token is what is known of a line of text
pub text_begun : (w : Walk) → IsPlaced w → w.at < length w.cursor → is_blank (get_or w.bytes.now w.at 0) ≡ false → begins_text (get_or w.bytes.now w.at 0) ≡ true → ahead_of Nothing w ≡ ahead_of (Known text_brief) w
text_begun w h left bare text =
    let bytes : List ℕ = w.bytes.now in
    let b : ℕ = get_or bytes w.at 0 in
    let bs : List ℕ = drop (w.at + 1) bytes in
    let lt : w.at < length bytes = omega (arith, left, h.len) in
    let head : drop w.at bytes ≡ b ∷ bs = drop_more bytes w.at 0 lt in
    let last = or_parts _ _ (not_off _ text) in
    let third = or_parts _ _ last.0 in
    let both = or_parts _ _ third.0 in
    let n : ℕ = front_len w.language (b ∷ bs) in
    let kind : Kind = front_kind w.language (b ∷ bs) in
    let is : piece_at w.language AtStart (drop w.at bytes) ≡ Lexeme kind n = ap (piece_at w.language AtStart) head ∙ text_piece w.language b bs bare both.0 last.1 in
    let fits = piece_fits w.language bytes w.at AtStart (Lexeme kind n) lt (sym is) in
    let some : 1 ≤ n = fits.0 in
    let within : w.at + n ≤ length w.cursor = omega (arith, fits.1, h.len) in
    let len : w.at + n - w.at ≡ n = omega arith in
    let word : is_hash (slice_range bytes w.at (w.at + n)) ≡ false = ap (λ k. is_hash (take k (drop w.at bytes))) len ∙ (ap (λ t. is_hash (take n t)) head ∙ no_hash b n bs some both.1 third.1) in
    let there = token_ahead w.language bytes w.cursor w.at n kind (Known text_brief) h.bytes left (sym is ∙ same_progress w.language (drop w.at bytes)) some in
    word_taken w n kind h some within is word ∙ sym there.1
