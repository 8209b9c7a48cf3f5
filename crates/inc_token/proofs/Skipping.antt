-- Skipping over bytes: what `line_rest` gives from a place further on.
use Rattle.std.proofs.Common.{◌≡◌, ◌≢◌, ℕ, zero, suc, ◌+◌, ◌-◌, ◌<◌, ◌≤◌, ◌==◌, Bool, true, false, not, ◌&&◌, ◌||◌, cond, List, [], ◌∷◌, Option, Some, None, length, take, drop, count_by, get_or, nat_lt, refl, sym, ap, ◌∙◌, subst, arith, add-zero, length-drop}
use Rattle.std.specs.List.{prefix_len}
use Rattle.std.specs.Option.{option_map_or}
use Rattle.std.proofs.lemmas.Bool.{cond-false, cond_both, or_parts, and_parts, ne_eqb}
use Rattle.std.proofs.lemmas.List.{drop_more, drop-drop, drop_all}
use Rattle.std.proofs.lemmas.List.Sums.{count_by_more_yes, prefix_len-le-length}
use Rattle.inc_text.specs.LineFeeds.{line_feeds_to}
use Rattle.inc_text.proofs.LineFeedLemmas.{count_more}
use Rattle.inc_text.proofs.PhaseLemmas.{lf, count_cons}
use Rattle.inc_token.specs.declared.pieces.Piece.TheVariants.{Blank, Unclosed}
use Rattle.inc_token.specs.declared.pieces.skipping.Skipped.{Skipped}
use Rattle.inc_token.specs.declared.pieces.skipping.Skipped.TheVariants.{ToLineEnd, ToOpenComment}
use Rattle.inc_token.specs.TokenLines.{comment_rest, block_comment, line_comment}
use Rattle.inc_token.specs.Scanning.{closed_at, begins_with_byte, line_len, lone_len}
use Rattle.inc_text.specs.Languages.{is_gnu}
use Rattle.inc_text.specs.declared.languages.Language.{Language}
use Rattle.inc_token.specs.Skipping.{is_stop, is_plain, literal_or_rest, comment_len, skipped_len, further, skip_part, line_rest}
use Rattle.inc_token.proofs.PieceBounds.{WithinSome, comment_rest-within}

further-none : (r : Skipped) → r ≡ further 0 r
further-none (ToLineEnd n) = ap ToLineEnd (omega arith)
further-none (ToOpenComment n) = ap ToOpenComment (omega arith)

further-further : (m n k : ℕ) (r : Skipped) → m + n ≡ k → further m (further n r) ≡ further k r
further-further m n k (ToLineEnd i) sum = ap ToLineEnd (omega arith)
further-further m n k (ToOpenComment i) sum = ap ToOpenComment (omega arith)

pub line_rest-left : (language : Language) (n : ℕ) (text : List ℕ) → n ≤ length text → line_rest language n text ≡ further n (line_rest language 0 (drop n text))
line_rest-left language zero text le = further-none (line_rest language 0 text)
line_rest-left language (suc n) [] le = absurd (omega arith)
line_rest-left language (suc n) (b ∷ bs) le =
    ap (further 1) (line_rest-left language n bs (omega arith)) ∙ further-further 1 n (suc n) (line_rest language 0 (drop n bs)) (omega arith)

-- the first n bytes are skipped one by one
abbrev pub Plain : ℕ → List ℕ → Type 0
Plain zero text = Unit {0}
Plain (suc n) [] = Unit {0}
Plain (suc n) (b ∷ bs) = (is_stop b ≡ false) × Plain n bs

pub line_rest-byte : (language : Language) (b : ℕ) (bs : List ℕ) → is_stop b ≡ false → line_rest language 0 (b ∷ bs) ≡ further 1 (line_rest language 0 bs)
line_rest-byte language b bs plain =
    let slash = or_parts ((b == 10) || (b == 34) || (b == 39)) (b == 47) plain in
    let single = or_parts ((b == 10) || (b == 34)) (b == 39) slash.0 in
    let double = or_parts (b == 10) (b == 34) single.0 in
    rw (double.0, double.1, single.1, slash.1) refl

pub plain_over : (language : Language) (n : ℕ) (text : List ℕ) → Plain n text → line_rest language 0 text ≡ line_rest language n text
plain_over language zero text plain = refl
plain_over language (suc n) [] plain = refl
plain_over language (suc n) (b ∷ bs) plain = line_rest-byte language b bs plain.0 ∙ ap (further 1) (plain_over language n bs plain.1)

plain_by : (b : ℕ) (bs : List ℕ) (n : ℕ) (mark : Bool) → is_stop b ≡ mark → Plain n bs → Plain (cond (not mark) (1 + n) 0) (b ∷ bs)
plain_by b bs n true is rest = tt
plain_by b bs n false is rest = let next : suc n ≡ 1 + n = omega arith in subst (λ m. Plain m (b ∷ bs)) next (is, rest)

plain_prefix : (text : List ℕ) → Plain (prefix_len is_plain text) text
plain_prefix [] = tt
plain_prefix (b ∷ bs) = plain_by b bs (prefix_len is_plain bs) (is_stop b) refl (plain_prefix bs)

-- the same at a place
pub plain_end : (text : List ℕ) (at end : ℕ) → at ≤ length text → end ≡ at + prefix_len is_plain (drop at text) → end ≤ length text
plain_end text at end le is = omega (arith, is, prefix_len-le-length is_plain (drop at text), length-drop at text)

further_at : (language : Language) (text : List ℕ) (at n end : ℕ) → at ≤ length text → end ≡ at + n → end ≤ length text → line_rest language 0 (drop at text) ≡ line_rest language n (drop at text)
    → further end (line_rest language 0 (drop end text)) ≡ further at (line_rest language 0 (drop at text))
further_at language text at n end le is within over =
    let sum : at + n ≡ end = sym is in
    let fits : n ≤ length (drop at text) = omega (arith, length-drop at text) in
    sym (ap (further at) (over ∙ line_rest-left language n (drop at text) fits)
    ∙ further-further at n end (line_rest language 0 (drop n (drop at text))) sum
    ∙ ap (λ xs. further end (line_rest language 0 xs)) (drop-drop n at text ∙ ap (λ k. drop k text) sum))

pub plain_until : (language : Language) (text : List ℕ) (at end : ℕ) → at ≤ length text → end ≡ at + prefix_len is_plain (drop at text)
    → further end (line_rest language 0 (drop end text)) ≡ further at (line_rest language 0 (drop at text))
plain_until language text at end le is =
    let n = prefix_len is_plain (drop at text) in
    further_at language text at n end le is (plain_end text at end le is) (plain_over language n (drop at text) (plain_prefix (drop at text)))

-- a line is over where nothing is left, and at its LF
pub over_at_end : (language : Language) (text : List ℕ) (at : ℕ) → length text ≤ at → ToLineEnd at ≡ further at (line_rest language 0 (drop at text))
over_at_end language text at le =
    ap ToLineEnd (sym (add-zero at)) ∙ ap (λ xs. further at (line_rest language 0 xs)) (sym (drop_all at text le))

pub over_at_line_feed : (language : Language) (text : List ℕ) (at : ℕ) → at < length text → get_or text at 0 ≡ 10 → ToLineEnd at ≡ further at (line_rest language 0 (drop at text))
over_at_line_feed language text at lt is =
    let head : drop at text ≡ 10 ∷ drop (at + 1) text = drop_more text at 0 lt ∙ ap (λ b. b ∷ drop (at + 1) text) is in
    ap ToLineEnd (sym (add-zero at)) ∙ ap (λ xs. further at (line_rest language 0 xs)) (sym head)

-- the LF that ends the line is the only one up to there
plain_none : (n : ℕ) (text : List ℕ) → Plain n text → count_by lf (take n text) ≡ 0
plain_none zero text plain = refl
plain_none (suc n) [] plain = refl
plain_none (suc n) (b ∷ bs) plain =
    let slash = or_parts ((b == 10) || (b == 34) || (b == 39)) (b == 47) plain.0 in
    let single = or_parts ((b == 10) || (b == 34)) (b == 39) slash.0 in
    let double = or_parts (b == 10) (b == 34) single.0 in
    let none : cond (b == 10) 1 0 ≡ 0 = ap (λ x. cond {A = ℕ} x 1 0) double.0 in
    omega (arith, count_cons b (take n bs), none, plain_none n bs plain.1)

pub one_line_feed : (text : List ℕ) (at end : ℕ) → end ≡ at + prefix_len is_plain (drop at text) → end < length text → get_or text end 0 ≡ 10
    → line_feeds_to (end + 1) text ≡ line_feeds_to at text + 1
one_line_feed text at end is lt byte =
    let n = prefix_len is_plain (drop at text) in
    let none = plain_none n (drop at text) (plain_prefix (drop at text)) in
    let before : count_by lf (take end text) ≡ count_by lf (take (at + n) text) = ap (λ k. count_by lf (take k text)) is in
    let more = count_more text at n in
    let last = count_by_more_yes lf text end 0 lt (ap lf byte) in
    omega (arith, none, before, more, last)

-- a literal, a comment or a byte

closed_within : (quote : ℕ) (escaped : Bool) (n : ℕ) (text : List ℕ) → closed_at quote escaped n text ≤ n + length text
closed_within quote escaped n [] = omega arith
closed_within quote true n (b ∷ bs) =
    let rest = closed_within quote false (suc n) bs in
    cond_both (b == 10) 0 (closed_at quote false (suc n) bs) (λ r. r ≤ n + length (b ∷ bs)) (λ _. omega arith) (λ _. omega arith)
closed_within quote false n (b ∷ bs) =
    let rest = closed_within quote (b == 92) (suc n) bs in
    let later = closed_at quote (b == 92) (suc n) bs in
    cond_both (b == quote) (suc n) (cond (b == 10) 0 later) (λ r. r ≤ n + length (b ∷ bs)) (λ _. omega arith)
    (λ _. cond_both (b == 10) 0 later (λ r. r ≤ n + length (b ∷ bs)) (λ _. omega arith) (λ _. omega arith))

rest_within : (m : ℕ) (o : Option ℕ) → WithinSome m o → comment_len (option_map_or (λ n. Blank (2 + n)) o Unclosed) ≤ 2 + m
rest_within m None h = omega arith
rest_within m (Some n) h = omega arith

comment_within : (b : ℕ) (bs : List ℕ) → begins_with_byte 42 bs ≡ true → comment_len (block_comment (b ∷ bs)) ≤ length (b ∷ bs)
comment_within b [] star = cc
comment_within b (d ∷ ds) star = omega (arith, rest_within (length ds) (comment_rest ds) (comment_rest-within ds))

skipped_within : (language : Language) (b : ℕ) (bs : List ℕ) → skipped_len language (b ∷ bs) ≤ length (b ∷ bs)
skipped_within language b bs =
    let literal = closed_at b false 1 bs in
    let inside = closed_within b false 1 bs in
    let block = (b == 47) && begins_with_byte 42 bs in
    let line = (b == 47) && begins_with_byte 47 bs in
    let P : ℕ → Type 0 = λ n. n ≤ length (b ∷ bs) in
    let line_le : line_len (b ∷ bs) ≤ length (b ∷ bs) = prefix_len-le-length (λ x. not (x == 10)) (b ∷ bs) in
    cond_both ((b == 34) || (b == 39)) (literal_or_rest language literal (b ∷ bs)) (cond block (comment_len (block_comment (b ∷ bs))) (cond line (comment_len (line_comment (b ∷ bs))) 1)) P
    (λ _. cond_both (nat_lt 0 literal) literal (lone_len language (b ∷ bs)) P (λ _. omega arith)
    (λ _. cond_both (is_gnu language) (line_len (b ∷ bs)) 1 P (λ _. line_le) (λ _. omega arith)))
    (λ _. cond_both block (comment_len (block_comment (b ∷ bs))) (cond line (comment_len (line_comment (b ∷ bs))) 1) P
    (λ is. comment_within b bs ((and_parts (b == 47) (begins_with_byte 42 bs) is).1))
    (λ _. cond_both line (comment_len (line_comment (b ∷ bs))) 1 P (λ _. prefix_len-le-length (λ x. not (x == 10)) (b ∷ bs)) (λ _. omega arith)))

skip_part-some : (language : Language) (n : ℕ) (b : ℕ) (bs : List ℕ) → 0 < n → skip_part n (line_rest language (n - 1) bs) ≡ line_rest language n (b ∷ bs)
skip_part-some language zero b bs some = absurd (omega arith)
skip_part-some language (suc n) b bs some = let e : suc n - 1 ≡ n = omega arith in ap (λ k. further 1 (line_rest language k bs)) e

pub line_goes_on : (language : Language) (b : ℕ) (bs : List ℕ) → (b == 10) ≡ false → line_rest language 0 (b ∷ bs) ≡ skip_part (skipped_len language (b ∷ bs)) (line_rest language (skipped_len language (b ∷ bs) - 1) bs)
line_goes_on language b bs line = cond-false (b == 10) (ToLineEnd 0) (skip_part (skipped_len language (b ∷ bs)) (line_rest language (skipped_len language (b ∷ bs) - 1) bs)) line

pub line_rest-part : (language : Language) (b : ℕ) (bs : List ℕ) → (b == 10) ≡ false → 0 < skipped_len language (b ∷ bs) → line_rest language 0 (b ∷ bs) ≡ line_rest language (skipped_len language (b ∷ bs)) (b ∷ bs)
line_rest-part language b bs line some = line_goes_on language b bs line ∙ skip_part-some language (skipped_len language (b ∷ bs)) b bs some

pub part_fits : (language : Language) (text : List ℕ) (at n : ℕ) → at < length text → n ≡ skipped_len language (drop at text) → at + n ≤ length text
part_fits language text at n lt is =
    let head = drop_more text at 0 lt in
    let within : skipped_len language (drop at text) ≤ length (drop at text) =
    subst (λ xs. skipped_len language xs ≤ length xs) (sym head) (skipped_within language (get_or text at 0) (drop (at + 1) text)) in
    omega (arith, within, is, length-drop at text)

pub part_over : (language : Language) (text : List ℕ) (at n : ℕ) → at < length text → get_or text at 0 ≢ 10 → n ≡ skipped_len language (drop at text) → 0 < n
    → further (at + n) (line_rest language 0 (drop (at + n) text)) ≡ further at (line_rest language 0 (drop at text))
part_over language text at n lt other is some =
    let b = get_or text at 0 in
    let bs = drop (at + 1) text in
    let head = drop_more text at 0 lt in
    let len : n ≡ skipped_len language (b ∷ bs) = is ∙ ap (skipped_len language) head in
    let over : line_rest language 0 (drop at text) ≡ line_rest language n (drop at text) =
    subst (λ xs. line_rest language 0 xs ≡ line_rest language n xs) (sym head)
    (line_rest-part language b bs (ne_eqb b 10 other) (omega arith) ∙ ap (λ k. line_rest language k (b ∷ bs)) (sym len)) in
    further_at language text at n (at + n) (omega arith) refl (part_fits language text at n lt is) over
