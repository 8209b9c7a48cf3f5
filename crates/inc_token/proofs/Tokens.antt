-- The token that the scanner finds by the first byte is the longest prefix that lies in a class.
use Rattle.std.proofs.Common.{◌≡◌, ℕ, zero, suc, ◌<◌, ◌≤◌, Bool, true, false, ◌||◌, ◌&&◌, not, List, [], ◌∷◌, Option, Some, None, length, take, cond, ◌==◌, refl, ap, ◌∙◌, subst, arith}
use Rattle.std.specs.Option.{unwrap_or, is_some}
use Rattle.std.proofs.lemmas.Bool.{and_from, and_right, or_from, or_right}
use Rattle.inc_text.specs.Languages.{is_gnu}
use Rattle.inc_token.specs.declared.kinds.Kind.{Kind}
use Rattle.inc_token.specs.declared.kinds.Kind.TheVariants.{Identifier, Number, Char, Str, Punct, Other}
use Rattle.inc_token.specs.declared.pieces.Piece.TheVariants.{Lexeme}
use Rattle.inc_token.specs.Spellings.{is_identifier, is_number, is_char, is_str, is_punct, is_other, is_blank, is_lone, is_mark, is_one_above, class_of}
use Rattle.inc_token.specs.TokenLines.{is_token, longest_token, line_part}
use Rattle.inc_token.specs.Scanning.{punctuator_len}
use Rattle.inc_token.proofs.FrontPieces.{line_len}
use Rattle.inc_token.proofs.Lengths.{identifier_len, number_len, char_len, str_len}
use Rattle.inc_token.proofs.Rows.{line_len-le, line_from}
use Rattle.inc_token.proofs.Longest.{IsLongest, longest_on_line, take-line_part}
use Rattle.inc_token.proofs.Words.{longest_identifier, longest_number}
use Rattle.inc_token.proofs.Closed.{longest_char, longest_str}
use Rattle.inc_token.proofs.LoneQuotes.{NoLone}
use Rattle.inc_token.proofs.Punctuators.{longest_punctuator}
use Rattle.inc_text.specs.declared.languages.Language.{Language}

-- the class by the answers of the six tests
abbrev choose : Bool → Bool → Bool → Bool → Bool → Bool → Option Kind
choose i n c s p o =
    cond i (Some Identifier) (cond n (Some Number) (cond c (Some Char) (cond s (Some Str) (cond p (Some Punct) (cond o (Some Other) None)))))

class_of-choose : (language : Language) (t : List ℕ) → class_of language t ≡ choose (is_identifier language t) (is_number language t) (is_char t) (is_str t) (is_punct t) (is_other language t)
class_of-choose language t = refl

no_class : (i n c s p o : Bool) → i ≡ false → n ≡ false → c ≡ false → s ≡ false → p ≡ false → o ≡ false → is_some (choose i n c s p o) ≡ false
no_class i n c s p o ei en ec es ep eo = rw (ei, en, ec, es, ep, eo) refl

mark_is_short : (text : List ℕ) (m : ℕ) → 1 < m → m ≤ length text → is_mark (take m text) ≡ false
mark_is_short text zero above below = absurd (omega arith)
mark_is_short text (suc zero) above below = absurd (omega arith)
mark_is_short [] (suc (suc m)) above below = absurd (omega arith)
mark_is_short (a ∷ []) (suc (suc m)) above below = absurd (omega arith)
mark_is_short (a ∷ b ∷ bs) (suc (suc m)) above below = refl

no_other : (language : Language) (text : List ℕ) (m : ℕ) → 1 < m → m ≤ length text → (is_lone (take m text) && is_gnu language) ≡ false → is_other language (take m text) ≡ false
no_other language text m above below lone =
    and_right (not (is_one_above language (take m text))) _ (or_from (is_mark (take m text)) _ (mark_is_short text m above below) lone)

module _ (language : Language) (text : List ℕ) where
  token_found : (n : ℕ) (kind : Kind) → 0 < n → n ≤ line_len text → class_of language (take n text) ≡ Some kind
      → identifier_len language text ≤ n → number_len language text ≤ n → char_len text ≤ n → str_len text ≤ n → punctuator_len text ≤ n → NoLone language text n
      → longest_token language (line_part text) ≡ Lexeme kind n
  token_found n kind some within class i d c s p lone =
      let is : IsLongest (is_token language) text n = record {
        within = within;
        passes = λ _. ap is_some class;
        fails = λ m above below.
            let over = λ (test : List ℕ → Bool) (k : ℕ) (is' : IsLongest test text k) (le : k ≤ n). is'.fails m (omega arith) below in
            no_class _ _ _ _ _ _ (over (is_identifier language) _ (longest_identifier language text) i) (over (is_number language) _ (longest_number language text) d)
            (over is_char _ (longest_char text) c) (over is_str _ (longest_str text) s) (over is_punct _ (longest_punctuator text) p)
            (no_other language text m (omega arith) below (lone m above below));
      } in
      let front = line_part text in
      ap (λ k. Lexeme (unwrap_or (class_of language (take k front)) Other) k) (longest_on_line (is_token language) text n is)
      ∙ ap (λ t. Lexeme (unwrap_or (class_of language t) Other) n) (take-line_part text n within)
      ∙ ap (λ o. Lexeme (unwrap_or o Other) n) class

  below_line : (n : ℕ) → n ≤ line_len text → n ≤ length text
  below_line n le = omega (arith, line_len-le text)

  pub token_identifier : (n : ℕ) → identifier_len language text ≡ n → 0 < n → number_len language text ≡ 0 → char_len text ≡ 0 → str_len text ≡ 0
      → punctuator_len text ≡ 0 → NoLone language text n → longest_token language (line_part text) ≡ Lexeme Identifier n
  token_identifier n e some d c s p lone =
      let is = subst (IsLongest (is_identifier language) text) e (longest_identifier language text) in
      token_found n Identifier some is.within (rw (is.passes some) refl) (omega arith) (omega arith) (omega arith) (omega arith) (omega arith) lone

  pub token_number : (n : ℕ) → number_len language text ≡ n → 0 < n → identifier_len language text ≡ 0 → char_len text ≡ 0 → str_len text ≡ 0
      → punctuator_len text ≤ n → NoLone language text n → longest_token language (line_part text) ≡ Lexeme Number n
  token_number n e some i c s p lone =
      let is = subst (IsLongest (is_number language) text) e (longest_number language text) in
      let below = below_line n is.within in
      let word = (longest_identifier language text).fails n (omega arith) below in
      token_found n Number some is.within (rw (word, is.passes some) refl) (omega arith) (omega arith) (omega arith) (omega arith) p lone

  pub token_char : (n : ℕ) → char_len text ≡ n → identifier_len language text < n → number_len language text ≡ 0 → str_len text ≡ 0
      → punctuator_len text ≡ 0 → NoLone language text n → longest_token language (line_part text) ≡ Lexeme Char n
  token_char n e i d s p lone =
      let is = subst (IsLongest is_char text) e (longest_char text) in
      let below = below_line n is.within in
      let some : 0 < n = omega arith in
      let word = (longest_identifier language text).fails n i below in
      let number = (longest_number language text).fails n (omega arith) below in
      token_found n Char some is.within (rw (word, number, is.passes some) refl) (omega arith) (omega arith) (omega arith) (omega arith) (omega arith) lone

  pub token_str : (n : ℕ) → str_len text ≡ n → identifier_len language text < n → number_len language text ≡ 0 → char_len text ≡ 0
      → punctuator_len text ≡ 0 → NoLone language text n → longest_token language (line_part text) ≡ Lexeme Str n
  token_str n e i d c p lone =
      let is = subst (IsLongest is_str text) e (longest_str text) in
      let below = below_line n is.within in
      let some : 0 < n = omega arith in
      let word = (longest_identifier language text).fails n i below in
      let number = (longest_number language text).fails n (omega arith) below in
      let char = (longest_char text).fails n (omega arith) below in
      token_found n Str some is.within (rw (word, number, char, is.passes some) refl) (omega arith) (omega arith) (omega arith) (omega arith) (omega arith) lone

  pub token_punctuator : (n : ℕ) → punctuator_len text ≡ n → 0 < n → identifier_len language text ≡ 0 → number_len language text ≡ 0 → char_len text ≡ 0
      → str_len text ≡ 0 → NoLone language text n → longest_token language (line_part text) ≡ Lexeme Punct n
  token_punctuator n e some i d c s lone =
      let is = subst (IsLongest is_punct text) e (longest_punctuator text) in
      let below = below_line n is.within in
      let word = (longest_identifier language text).fails n (omega arith) below in
      let number = (longest_number language text).fails n (omega arith) below in
      let char = (longest_char text).fails n (omega arith) below in
      let str = (longest_str text).fails n (omega arith) below in
      token_found n Punct some is.within (rw (word, number, char, str, is.passes some) refl) (omega arith) (omega arith) (omega arith) (omega arith) (omega arith) lone

other_chosen : (i n c s p k l : Bool) → i ≡ false → n ≡ false → c ≡ false → s ≡ false → p ≡ false → (k || l) ≡ true
    → choose i n c s p (not (i || n || c || s || p) && (k || l)) ≡ Some Other
other_chosen i n c s p k l ei en ec es ep some = rw (ei, en, ec, es, ep, some) refl

pub token_other : (language : Language) (b : ℕ) (bs : List ℕ) → is_blank b ≡ false → (b == 10) ≡ false → identifier_len language (b ∷ bs) ≡ 0 → number_len language (b ∷ bs) ≡ 0
    → char_len (b ∷ bs) ≡ 0 → str_len (b ∷ bs) ≡ 0 → punctuator_len (b ∷ bs) ≡ 0 → NoLone language (b ∷ bs) 1 → longest_token language (line_part (b ∷ bs)) ≡ Lexeme Other 1
token_other language b bs blank line i d c s p lone =
    let text = b ∷ bs in
    let word : is_identifier language (b ∷ []) ≡ false = (longest_identifier language text).fails 1 (omega arith) (omega arith) in
    let number : is_number language (b ∷ []) ≡ false = (longest_number language text).fails 1 (omega arith) (omega arith) in
    let char : is_char (b ∷ []) ≡ false = (longest_char text).fails 1 (omega arith) (omega arith) in
    let str : is_str (b ∷ []) ≡ false = (longest_str text).fails 1 (omega arith) (omega arith) in
    let punct : is_punct (b ∷ []) ≡ false = (longest_punctuator text).fails 1 (omega arith) (omega arith) in
    let mark : is_mark (b ∷ []) ≡ true = ap not (or_from (is_blank b) (b == 10) blank line) in
    token_found language text 1 Other (omega arith) (line_from b 0 bs line (omega arith))
    (other_chosen _ _ _ _ _ _ (is_lone (b ∷ []) && is_gnu language) word number char str punct (ap (λ k. k || (is_lone (b ∷ []) && is_gnu language)) mark))
    (omega arith) (omega arith) (omega arith) (omega arith) (omega arith) lone

-- a lone quote takes the rest of its line
pub token_lone : (language : Language) (text : List ℕ) → is_gnu language ≡ true → is_lone (take (line_len text) text) ≡ true → identifier_len language text < line_len text
    → number_len language text ≡ 0 → char_len text ≡ 0 → str_len text ≡ 0 → punctuator_len text ≡ 0 → NoLone language text (line_len text)
    → longest_token language (line_part text) ≡ Lexeme Other (line_len text)
token_lone language text gnu is i d c s p lone =
    let n = line_len text in
    let t = take n text in
    let below = line_len-le text in
    let word = (longest_identifier language text).fails n i below in
    let number = (longest_number language text).fails n (omega arith) below in
    let char = (longest_char text).fails n (omega arith) below in
    let str = (longest_str text).fails n (omega arith) below in
    let punct = (longest_punctuator text).fails n (omega arith) below in
    token_found language text n Other (omega arith) (omega arith)
    (other_chosen _ _ _ _ _ (is_mark t) (is_lone t && is_gnu language) word number char str punct (or_right (is_mark t) _ (and_from (is_lone t) (is_gnu language) is gnu)))
    (omega arith) (omega arith) (omega arith) (omega arith) (omega arith) lone
