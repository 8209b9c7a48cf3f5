-- The lines of several words: each that is not empty defines what its word does.
use Rattle.std.proofs.Common.{◌≡◌, ℕ, ◌+◌, ◌<◌, ◌≤◌, ◌==◌, Bool, true, false, cond, List, [], ◌∷◌, ◌++◌, Option, Some, None, Result, Ok, Err, All, length, map, nat_le, option_map, slice_get, get_or, refl, sym, ap, ◌∙◌, subst, arith, ⊎_elim}
use Rattle.std.specs.List.{list_all, list_any}
use Rattle.std.proofs.lemmas.Bool.{cases_Bool, cond-false, and_parts, and_left, leb-true, le-ltb}
use Rattle.std.proofs.lemmas.List.{append-nil, length-map}
use Rattle.std.proofs.lemmas.List.Elements.{All-nil, All-cons}
use Rattle.std.proofs.lemmas.Option.{slice_get-map}
use Rattle.inc_text.specs.PhaseText.{Cell, added_new_line, bytes_of, cells_from, ended_by, is_too_long, phase_text}
use Rattle.inc_text.specs.Origins.{is_special, mark_len}
use Rattle.inc_text.proofs.LawLemmas.{text_stays}
use Rattle.inc_text.specs.declared.languages.Language.{Language}
use Rattle.inc_token.specs.declared.lines.LexFault.{LexFault}
use Rattle.inc_token.specs.declared.pieces.Progress.TheVariants.{AtStart}
use Rattle.inc_token.specs.TokenLines.{Tok, TokenLine, lines_from, token_lines}
use Rattle.inc_token.proofs.OwnLines.{before_lines, own_line, own_tokens, stays_on_line, unplaced, unplaced_line, unplaced_lines}
use Rattle.inc_token.proofs.Rows.{differs}
use Rattle.inc_macro.specs.declared.faults.DefineFault.{DefineFault}
use Rattle.inc_macro.specs.Macros.{Table, define, is_bad_word, tokens_or_bad, word_text, word_tokens}
use Rattle.inc_macro.specs.Results.{◌>>=◌}
use Rattle.inc_macro.specs.WordLines.{StandFor, is_plain, is_plain_byte, line_text, word_lines}
use Rattle.inc_macro.proofs.UnplacedTokens.{define-unplaced}

---- plain bytes

plain_special : (b : ℕ) → is_plain_byte b ≡ true → is_special b ≡ false
plain_special b h = rw (differs is_plain_byte 13 b refl h, differs is_plain_byte 63 b refl h, differs is_plain_byte 92 b refl h) refl

plain_stays : (b : ℕ) → is_plain_byte b ≡ true → stays_on_line b ≡ true
plain_stays b h = rw (differs is_plain_byte 10 b refl h, differs is_plain_byte 47 b refl h) refl

all_stay : (bs : List ℕ) → list_all is_plain_byte bs ≡ true → list_all stays_on_line bs ≡ true
all_stay [] all = refl
all_stay (b ∷ bs) all =
    let h = and_parts (is_plain_byte b) (list_all is_plain_byte bs) all in
    rw (plain_stays b h.0, all_stay bs h.1) refl

none_special : (bs more : List ℕ) → list_all is_plain_byte bs ≡ true → All (λ b. is_special b ≡ false) more → All (λ b. is_special b ≡ false) (bs ++ more)
none_special [] more all rest = rest
none_special (b ∷ bs) more all rest =
    let h = and_parts (is_plain_byte b) (list_all is_plain_byte bs) all in
    All-cons (λ x. is_special x ≡ false) b (bs ++ more) (plain_special b h.0) (none_special bs more h.1 rest)

no_line_feed : (bs : List ℕ) → list_all is_plain_byte bs ≡ true → list_any (λ b. b == 10) bs ≡ false
no_line_feed [] all = refl
no_line_feed (b ∷ bs) all =
    let h = and_parts (is_plain_byte b) (list_all is_plain_byte bs) all in
    rw (differs is_plain_byte 10 b refl h.0, no_line_feed bs h.1) refl

no_mark : (bs : List ℕ) → (get_or bs 0 0 == 239) ≡ false → mark_len bs ≡ 0
no_mark bs other = cond-false _ 3 0 (and_left _ _ (and_left _ _ other))

front_of : (bs more : List ℕ) → list_all is_plain_byte bs ≡ true → (get_or (bs ++ 10 ∷ more) 0 0 == 239) ≡ false
front_of [] more all = refl
front_of (b ∷ bs) more all =
    let h = and_parts (is_plain_byte b) (list_all is_plain_byte bs) all in
    differs is_plain_byte 239 b refl h.0

front_alone : (bs : List ℕ) → list_all is_plain_byte bs ≡ true → (get_or bs 0 0 == 239) ≡ false
front_alone [] all = refl
front_alone (b ∷ bs) all =
    let h = and_parts (is_plain_byte b) (list_all is_plain_byte bs) all in
    differs is_plain_byte 239 b refl h.0

-- the text of a plain word is plain
text-plain : (word : List ℕ) → list_all is_plain_byte word ≡ true → list_all is_plain_byte (word_text word) ≡ true
text-plain [] all = refl
text-plain (b ∷ bs) all =
    let h = and_parts (is_plain_byte b) (list_all is_plain_byte bs) all in
    ⊎_elim (λ (is : (b == 61) ≡ true). rw is h.1) (λ (other : (b == 61) ≡ false). rw (other, h.0) (text-plain bs h.1)) (cases_Bool (b == 61))

text-len : (word : List ℕ) → length (word_text word) ≤ length word + 2
text-len [] = omega arith
text-len (b ∷ bs) =
    ⊎_elim (λ (is : (b == 61) ≡ true). rw is (omega arith)) (λ (other : (b == 61) ≡ false). rw other (let rest = text-len bs in omega (arith, rest))) (cases_Bool (b == 61))

plain_bytes : (word : List ℕ) → is_plain word ≡ true → list_all is_plain_byte word ≡ true
plain_bytes word plain = let h = and_parts (nat_le (length word) 65536) (list_all is_plain_byte word) plain in h.1

line-plain : (word : List ℕ) → list_all is_plain_byte (line_text word) ≡ true
line-plain word =
    ⊎_elim (λ (is : is_plain word ≡ true). ap (λ (t : Bool). list_all is_plain_byte (cond t (word_text word) [])) is ∙ text-plain word (plain_bytes word is))
    (λ (other : is_plain word ≡ false). ap (λ (t : Bool). list_all is_plain_byte (cond t (word_text word) [])) other)
    (cases_Bool (is_plain word))

lines-special : (words : List (List ℕ)) → All (λ b. is_special b ≡ false) (word_lines words)
lines-special [] = All-nil (λ b. is_special b ≡ false)
lines-special (word ∷ words) =
    none_special (line_text word) (10 ∷ word_lines words) (line-plain word) (All-cons (λ b. is_special b ≡ false) 10 (word_lines words) refl (lines-special words))

lines-front : (words : List (List ℕ)) → (get_or (word_lines words) 0 0 == 239) ≡ false
lines-front [] = refl
lines-front (word ∷ words) = front_of (line_text word) (word_lines words) (line-plain word)

---- cells

split_cells : (at line : ℕ) (bs more : List ℕ) → (a : ℕ) × (l : ℕ) × (cells_from at line (bs ++ more) ≡ cells_from at line bs ++ cells_from a l more)
split_cells at line [] more = (at, line, refl)
split_cells at line (b ∷ bs) more =
    let next : ℕ = cond (b == 10) (line + 1) line in
    let r = split_cells (at + 1) next bs more in
    let c : Cell = record { byte = b; first = at; last = at + 1; line = line } in
    (r.0, r.1, ap (λ cs. c ∷ cs) r.2)

cells-bytes : (at line : ℕ) (bs : List ℕ) → bytes_of (cells_from at line bs) ≡ bs
cells-bytes at line [] = refl
cells-bytes at line (b ∷ bs) = ap (λ r. b ∷ r) (cells-bytes (at + 1) (cond (b == 10) (line + 1) line) bs)

ended-behind : (end : Cell) (xs : List Cell) (y : Cell) (ys : List Cell) → ended_by end (xs ++ y ∷ ys) ≡ xs ++ ended_by end (y ∷ ys)
ended-behind end [] y ys = refl
ended-behind end (x ∷ []) y ys = refl
ended-behind end (x ∷ z ∷ zs) y ys = ap (λ cs. x ∷ cs) (ended-behind end (z ∷ zs) y ys)

ended-line : (end : Cell) (first last line : ℕ) (ys : List Cell)
    → ended_by end (record { byte = 10; first = first; last = last; line = line } ∷ ys) ≡ record { byte = 10; first = first; last = last; line = line } ∷ ended_by end ys
ended-line end first last line [] = refl
ended-line end first last line (y ∷ ys) = refl

ended-last : (end x : Cell) (xs : List Cell) → list_all stays_on_line (bytes_of (x ∷ xs)) ≡ true → ended_by end (x ∷ xs) ≡ (x ∷ xs) ++ end ∷ []
ended-last end x [] all =
    let h = and_parts (stays_on_line x.byte) true all in
    cond-false (x.byte == 10) (x ∷ []) (x ∷ end ∷ []) (differs stays_on_line 10 x.byte refl h.0)
ended-last end x (y ∷ ys) all =
    let h = and_parts (stays_on_line x.byte) (list_all stays_on_line (bytes_of (y ∷ ys))) all in
    ap (λ cs. x ∷ cs) (ended-last end y ys h.1)

---- tokens

abbrev own : Language → List ℕ → List Tok
own language text = own_tokens language 0 AtStart false text

abbrev own_of_word : Language → List ℕ → List Tok
own_of_word language word = own language (line_text word)

lines-own : (language : Language) (end : Cell) (at line : ℕ) (words : List (List ℕ))
    → unplaced_lines (lines_from language 0 AtStart false (ended_by end (cells_from at line (word_lines words)))) ≡ Ok (map (own_of_word language) words)
lines-own language end at line [] = refl
lines-own language end at line (word ∷ words) =
    let text : List ℕ = line_text word in
    let more : List ℕ = word_lines words in
    let r = split_cells at line text (10 ∷ more) in
    let a : ℕ = r.0 in
    let l : ℕ = r.1 in
    let cs : List Cell = cells_from at line text in
    let e : Cell = record { byte = 10; first = a; last = a + 1; line = l } in
    let behind : List Cell = cells_from (a + 1) (l + 1) more in
    let bytes : bytes_of cs ≡ text = cells-bytes at line text in
    let stay : list_all stays_on_line (bytes_of cs) ≡ true = ap (list_all stays_on_line) bytes ∙ all_stay text (line-plain word) in
    ap (λ c. unplaced_lines (lines_from language 0 AtStart false (ended_by end c))) r.2
    ∙ ap (λ c. unplaced_lines (lines_from language 0 AtStart false c)) (ended-behind end cs e behind ∙ ap (λ c. cs ++ c) (ended-line end a (a + 1) l behind))
    ∙ own_line language a (a + 1) l (ended_by end behind) 0 AtStart false cs stay (omega arith)
    ∙ ap (λ b. before_lines (own language b) (unplaced_lines (lines_from language 0 AtStart false (ended_by end behind)))) bytes
    ∙ ap (before_lines (own language text)) (lines-own language end (a + 1) (l + 1) words)

-- all lines
words-own : (language : Language) (words : List (List ℕ)) → unplaced_lines (token_lines language (phase_text language (word_lines words))) ≡ Ok (map (own_of_word language) words)
words-own language words =
    let source : List ℕ = word_lines words in
    ap (λ c. unplaced_lines (lines_from language 0 AtStart false c)) (text_stays language source (lines-special words) (no_mark source (lines-front words)))
    ∙ lines-own language (added_new_line source) 0 1 words

-- the only line of a text
line-own : (language : Language) (source : List ℕ) → list_all is_plain_byte source ≡ true → 0 < length source → unplaced_lines (token_lines language (phase_text language source)) ≡ Ok (own language source ∷ [])
line-own language [] plain some = absurd (omega arith)
line-own language (b ∷ bs) plain some =
    let source : List ℕ = b ∷ bs in
    let special : All (λ x. is_special x ≡ false) (source ++ []) = none_special source [] plain (All-nil (λ x. is_special x ≡ false)) in
    let special' : All (λ x. is_special x ≡ false) source = subst (λ l. All (λ x. is_special x ≡ false) l) (append-nil source) special in
    let end : Cell = added_new_line source in
    let cs : List Cell = cells_from 0 1 source in
    let bytes : bytes_of cs ≡ source = cells-bytes 0 1 source in
    let stay : list_all stays_on_line (bytes_of cs) ≡ true = ap (list_all stays_on_line) bytes ∙ all_stay source plain in
    let first : Cell = record { byte = b; first = 0; last = 1; line = 1 } in
    ap (λ c. unplaced_lines (lines_from language 0 AtStart false c)) (text_stays language source special' (no_mark source (front_alone source plain)) ∙ ended-last end first (cells_from 1 (cond (b == 10) 2 1) bs) stay)
    ∙ own_line language (length source) (length source) end.line [] 0 AtStart false cs stay (omega arith)
    ∙ ap (λ t. before_lines (own language t) (unplaced_lines (lines_from language 0 AtStart false []))) bytes

-- the tokens of a plain word
first_own : (lines : Result (List TokenLine) LexFault) (ts : List Tok) → unplaced_lines lines ≡ Ok (ts ∷ []) → (us : List Tok) × (tokens_or_bad lines ≡ Ok us) × (map unplaced us ≡ ts)
first_own (Ok []) ts is = cc
first_own (Ok (l ∷ ls)) ts is = (l.tokens, refl, cc)
first_own (Err fault) ts is = cc

text-some : (word : List ℕ) → 0 < length (word_text word)
text-some [] = omega arith
text-some (b ∷ bs) =
    ⊎_elim (λ (is : (b == 61) ≡ true). rw is (omega arith)) (λ (other : (b == 61) ≡ false). rw other (omega arith)) (cases_Bool (b == 61))

word-own : (language : Language) (word : List ℕ) → is_plain word ≡ true → (us : List Tok) × (word_tokens language word ≡ Ok us) × (map unplaced us ≡ own language (word_text word))
word-own language word plain =
    let h = and_parts (nat_le (length word) 65536) (list_all is_plain_byte word) plain in
    let text : List ℕ = word_text word in
    let r = first_own (token_lines language (phase_text language text)) (own language text) (line-own language text (text-plain word h.1) (text-some word)) in
    let short : is_too_long text ≡ false = le-ltb 16777216 (length text) (omega (arith, text-len word, leb-true (length word) 65536 h.0)) in
    let good : is_bad_word word ≡ false = rw (no_line_feed word h.1, short) refl in
    (r.0, cond-false (is_bad_word word) _ _ good ∙ r.1, r.2)

nothing : (ts : List Tok) → map unplaced ts ≡ [] → 0 < length ts → ⊥
nothing [] is some = absurd (omega (arith, some))
nothing (t ∷ ts) is some = cc

standing : (language : Language) (word : List ℕ) (ts : List Tok) (table : Table) → table.language ≡ language → map unplaced ts ≡ own_of_word language word → StandFor ts word table
standing language word ts table spoken is some =
    let by : Bool → List Tok = λ plain. own language (cond plain (word_text word) []) in
    ⊎_elim
    (λ (plain : is_plain word ≡ true).
    let r = word-own language word plain in
    define-unplaced ts r.0 table (is ∙ ap by plain ∙ sym r.2)
    ∙ ap (λ (tokens : Result (List Tok) DefineFault). tokens >>= (λ us. define us table))
    (sym r.1 ∙ ap (λ l. word_tokens l word) (sym spoken)))
    (λ (other : is_plain word ≡ false). absurd (nothing ts (is ∙ ap by other) some))
    (cases_Bool (is_plain word))

---- the lines of words that are known

module _ (language : Language) (words : List (List ℕ)) where
  pub no_fault : (fault : LexFault) → token_lines language (phase_text language (word_lines words)) ≡ Err fault → ⊥
  no_fault fault is = let same : Err fault ≡ Ok (map (own_of_word language) words) = ap unplaced_lines (sym is) ∙ words-own language words in cc

  module _ (lines : List TokenLine) (known : token_lines language (phase_text language (word_lines words)) ≡ Ok lines) where
    known_lines : map unplaced_line lines ≡ map (own_of_word language) words
    known_lines = let same : Ok (map unplaced_line lines) ≡ Ok (map (own_of_word language) words) = ap unplaced_lines (sym known) ∙ words-own language words in cc

    pub line_count : length lines ≡ length words
    line_count = sym (length-map lines unplaced_line) ∙ ap length known_lines ∙ length-map words (own_of_word language)

    pub stand_for : (table : Table) → table.language ≡ language → (i : ℕ) (word : List ℕ) (ts : List Tok) → slice_get words i ≡ Some word → option_map (λ (l : TokenLine). l.tokens) (slice_get lines i) ≡ Some ts → StandFor ts word table
    stand_for table spoken i word ts here line =
        let same : option_map unplaced_line (slice_get lines i) ≡ option_map (own_of_word language) (slice_get words i) =
        sym (slice_get-map unplaced_line lines i) ∙ ap (λ l. slice_get l i) known_lines ∙ slice_get-map (own_of_word language) words i in
        let both : Some (map unplaced ts) ≡ Some (own_of_word language word) = sym (tokens_at (slice_get lines i) line) ∙ same ∙ ap (option_map (own_of_word language)) here in
        standing language word ts table spoken cc
      where
        tokens_at : (o : Option TokenLine) → option_map (λ (l : TokenLine). l.tokens) o ≡ Some ts → option_map unplaced_line o ≡ Some (map unplaced ts)
        tokens_at None is = cc
        tokens_at (Some l) is = cc
