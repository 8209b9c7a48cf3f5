-- The lines of a text, and the lines and hunks of a diff, one more at a time.
use Rattle.std.proofs.Common.{◌≡◌, ℕ, suc, ◌+◌, ◌<◌, ◌≤◌, Bool, true, false, cond, not, ◌&&◌, ◌==◌, List, [], ◌∷◌, ◌++◌, length, take, drop, refl, sym, ap, ◌∙◌, arith}
use Rattle.std.specs.Prelude.{codes}
use Rattle.std.specs.List.{list_all, list_any, prefix_len}
use Rattle.std.proofs.lemmas.Bool.{cond-true, cond-false}
use Rattle.std.proofs.lemmas.List.{append_assoc, take_all, drop_all}
use Rattle.inc_text.specs.Ascii.{line_feed, minus, plus}
use Rattle.inc_answers.specs.declared.patch.Place.{Place}
use Rattle.inc_answers.specs.PatchText.{Row, before_lines, count_left, goes_on, head_text, hunk_of, hunks_from, is_changed, is_deleted, is_near, lines_of, marked_line, place_after, row_text, rows_of, since_after}

---- the first line of a text

cut_when : (x : Bool) (b : ℕ) (bs : List ℕ) → (b == line_feed) ≡ x → prefix_len goes_on (b ∷ bs) < suc (length bs)
    → (prefix_len goes_on bs < length bs → lines_of bs ≡ take (suc (prefix_len goes_on bs)) bs ∷ lines_of (drop (suc (prefix_len goes_on bs)) bs))
    → lines_of (b ∷ bs) ≡ take (suc (prefix_len goes_on (b ∷ bs))) (b ∷ bs) ∷ lines_of (drop (suc (prefix_len goes_on (b ∷ bs))) (b ∷ bs))
cut_when true b bs is low again =
    let none : prefix_len goes_on (b ∷ bs) ≡ 0 = cond-false (goes_on b) _ _ (ap not is) in
    cond-true (b == line_feed) _ _ is ∙ ap (λ n. take (suc n) (b ∷ bs) ∷ lines_of (drop (suc n) (b ∷ bs))) (sym none)
cut_when false b bs is low again =
    let one : 1 + prefix_len goes_on bs ≡ suc (prefix_len goes_on bs) = omega arith in
    let more : prefix_len goes_on (b ∷ bs) ≡ suc (prefix_len goes_on bs) = cond-true (goes_on b) _ _ (ap not is) ∙ one in
    cond-false (b == line_feed) _ _ is ∙ ap (before_lines b) (again (omega (arith, low, more)))
    ∙ ap (λ n. take (suc n) (b ∷ bs) ∷ lines_of (drop (suc n) (b ∷ bs))) (sym more)

line_cut : (text : List ℕ) → prefix_len goes_on text < length text
    → lines_of text ≡ take (suc (prefix_len goes_on text)) text ∷ lines_of (drop (suc (prefix_len goes_on text)) text)
line_cut [] low = absurd (omega (arith, low))
line_cut (b ∷ bs) low = cut_when (b == line_feed) b bs refl low (line_cut bs)

whole_when : (x : Bool) (b : ℕ) (bs : List ℕ) → (b == line_feed) ≡ x → suc (length bs) ≤ prefix_len goes_on (b ∷ bs)
    → (length bs ≤ prefix_len goes_on bs → before_lines b (lines_of bs) ≡ (b ∷ bs) ∷ []) → lines_of (b ∷ bs) ≡ (b ∷ bs) ∷ []
whole_when true b bs is all again =
    let none : prefix_len goes_on (b ∷ bs) ≡ 0 = cond-false (goes_on b) _ _ (ap not is) in absurd (omega (arith, none, all))
whole_when false b bs is all again =
    let one : 1 + prefix_len goes_on bs ≡ suc (prefix_len goes_on bs) = omega arith in
    let more : prefix_len goes_on (b ∷ bs) ≡ suc (prefix_len goes_on bs) = cond-true (goes_on b) _ _ (ap not is) ∙ one in
    cond-false (b == line_feed) _ _ is ∙ again (omega (arith, all, more))

whole_line : (text : List ℕ) → 0 < length text → length text ≤ prefix_len goes_on text → lines_of text ≡ text ∷ []
whole_line [] some all = absurd (omega (arith, some))
whole_line (b ∷ []) some all = whole_when (b == line_feed) b [] refl all (λ more. refl)
whole_line (b ∷ c ∷ cs) some all = whole_when (b == line_feed) b (c ∷ cs) refl all (λ more. ap (before_lines b) (whole_line (c ∷ cs) (omega arith) more))

pub cut_after : (text : List ℕ) (n : ℕ) → n ≡ prefix_len goes_on text → n < length text → lines_of text ≡ take (n + 1) text ∷ lines_of (drop (n + 1) text)
cut_after text n is low =
    let next : suc (prefix_len goes_on text) ≡ n + 1 = omega (arith, is) in
    line_cut text (omega (arith, is, low)) ∙ ap (λ k. take k text ∷ lines_of (drop k text)) next

pub cut_whole : (text : List ℕ) (n : ℕ) → n ≡ prefix_len goes_on text → 0 < length text → length text ≤ n → lines_of text ≡ take n text ∷ lines_of (drop n text)
cut_whole text n is some all =
    whole_line text some (omega (arith, is, all)) ∙ sym (ap (λ t. t ∷ lines_of (drop n text)) (take_all n text all) ∙ ap (λ t. text ∷ lines_of t) (drop_all n text all))

---- the lines of a file

before_some : (b : ℕ) (ls : List (List ℕ)) → length (before_lines b ls) ≤ suc (length ls)
before_some b [] = omega arith
before_some b (l ∷ ls) = omega arith

lines_when : (x : Bool) (b : ℕ) (bs : List ℕ) → length (lines_of bs) ≤ length bs
    → length (cond x ((b ∷ []) ∷ lines_of bs) (before_lines b (lines_of bs))) ≤ suc (length bs)
lines_when true b bs few = omega arith
lines_when false b bs few = omega (arith, before_some b (lines_of bs))

lines_few : (bs : List ℕ) → length (lines_of bs) ≤ length bs
lines_few [] = omega arith
lines_few (b ∷ bs) = lines_when (b == line_feed) b bs (lines_few bs)

rows_few : (bs as' : List (List ℕ)) → length (rows_of bs as') ≤ length bs
rows_few [] as' = omega arith
rows_few (b ∷ bs) [] = omega arith
rows_few (b ∷ bs) (a ∷ as') = let few = rows_few bs as' in omega arith

-- a file has no more lines than bytes
pub few_rows : (before after : List ℕ) → length (rows_of (lines_of before) (lines_of after)) ≤ length before
few_rows before after = omega (arith, rows_few (lines_of before) (lines_of after), lines_few before)

-- the next line
pub next_row : (before after : List ℕ) (m n : ℕ) → lines_of before ≡ take m before ∷ lines_of (drop m before) → lines_of after ≡ take n after ∷ lines_of (drop n after)
    → rows_of (lines_of before) (lines_of after) ≡ record { before = take m before; after = take n after } ∷ rows_of (lines_of (drop m before)) (lines_of (drop n after))
next_row before after m n b a = ap (λ ls. rows_of ls (lines_of after)) b ∙ ap (λ ls. rows_of (take m before ∷ lines_of (drop m before)) ls) a

no_row : (ls : List (List ℕ)) → rows_of ls [] ≡ []
no_row [] = refl
no_row (l ∷ ls) = refl

pub no_rows : (before after : List ℕ) → length after ≡ 0 → rows_of (lines_of before) (lines_of after) ≡ []
no_rows before [] none = no_row (lines_of before)
no_rows before (a ∷ as') none = absurd (omega (arith, none))

---- what comes next

-- a line that does not change is passed
pub soon_past : (k n : ℕ) (r : Row) (rs : List Row) → k ≡ suc n → is_changed r ≡ false → list_any is_changed (take k (r ∷ rs)) ≡ list_any is_changed (take n rs)
soon_past k n r rs is same = rw (is, same) refl

pub soon_here : (k n : ℕ) (r : Row) (rs : List Row) → k ≡ suc n → is_changed r ≡ true → list_any is_changed (take k (r ∷ rs)) ≡ true
soon_here k n r rs is same = rw (is, same) refl

---- a hunk

hunk_next : (since : ℕ) (r : Row) (rs : List Row) → is_near since (r ∷ rs) ≡ true → hunk_of since (r ∷ rs) ≡ r ∷ hunk_of (since_after since r) rs
hunk_next since r rs near = cond-true (is_near since (r ∷ rs)) _ _ near

pub hunk_end : (since : ℕ) (rs : List Row) → is_near since rs ≡ false → hunk_of since rs ≡ []
hunk_end since [] near = refl
hunk_end since (r ∷ rs) near = cond-false (is_near since (r ∷ rs)) _ _ near

since_when : (b : Bool) (since : ℕ) → cond b 0 (since + 1) ≤ since + 1
since_when true since = omega arith
since_when false since = omega arith

pub since_few : (since : ℕ) (r : Row) → since_after since r ≤ since + 1
since_few since r = since_when (is_changed r) since

left_when : (b : Bool) (new more : ℕ) → cond b new (new + 1) + more ≡ new + cond b more (more + 1)
left_when true new more = refl
left_when false new more = omega arith

-- one more line of a hunk is counted
pub count_step : (since next : ℕ) (left rest all : List Row) (row : Row) (old new old2 new2 : ℕ) → is_near since left ≡ true → left ≡ row ∷ rest → next ≡ since_after since row
    → old2 ≡ old + 1 → new2 ≡ cond (is_deleted row) new (new + 1) → old + length (hunk_of since left) ≡ length all → new + count_left (hunk_of since left) ≡ count_left all
    → (old2 + length (hunk_of next rest) ≡ length all) × (new2 + count_left (hunk_of next rest) ≡ count_left all)
count_step since next left rest all row old new old2 new2 near is after olds news so_far counted =
    let here : hunk_of since left ≡ row ∷ hunk_of next rest =
    ap (hunk_of since) is ∙ hunk_next since row rest (ap (is_near since) (sym is) ∙ near) ∙ ap (λ k. row ∷ hunk_of k rest) (sym after) in
    let long : old + length (row ∷ hunk_of next rest) ≡ length all = ap (λ h. old + length h) (sym here) ∙ so_far in (
      omega (arith, long, olds),
      ap (λ k. k + count_left (hunk_of next rest)) news ∙ left_when (is_deleted row) new (count_left (hunk_of next rest)) ∙ ap (λ h. new + count_left h) (sym here) ∙ counted,
    )

---- all hunks

-- what is sent before a line, and of the line
hunks_step : (place : Place) (left rest : List Row) (row : Row) (near : Bool) → near ≡ is_near place.since left → left ≡ row ∷ rest
    → hunks_from place left
    ≡ (cond (near && not place.is_open) (head_text place (hunk_of place.since left)) [] ++ cond near (row_text row) []) ++ hunks_from (place_after place row near) rest
hunks_step place left rest row near near_is is = rw (near_is, is) refl

pub hunks_more : (place : Place) (left rest : List Row) (row : Row) (near : Bool) (sent all : List ℕ) → near ≡ is_near place.since left → left ≡ row ∷ rest
    → sent ++ hunks_from place left ≡ all
    → ((sent ++ cond (near && not place.is_open) (head_text place (hunk_of place.since left)) []) ++ cond near (row_text row) []) ++ hunks_from (place_after place row near) rest ≡ all
hunks_more place left rest row near sent all near_is is so_far =
    let head : List ℕ = cond (near && not place.is_open) (head_text place (hunk_of place.since left)) [] in
    let line : List ℕ = cond near (row_text row) [] in
    ap (λ t. t ++ hunks_from (place_after place row near) rest) (append_assoc sent head line)
    ∙ append_assoc sent (head ++ line) (hunks_from (place_after place row near) rest)
    ∙ ap (λ t. sent ++ t) (sym (hunks_step place left rest row near near_is is))
    ∙ so_far

-- after the last line nothing is sent
pub hunks_done : (place : Place) (left : List Row) (near : Bool) (sent all : List ℕ) → near ≡ is_near place.since left → left ≡ [] → sent ++ hunks_from place left ≡ all
    → sent ++ cond (near && not place.is_open) (head_text place (hunk_of place.since left)) [] ≡ all
hunks_done place left near sent all near_is is so_far =
    let far : near ≡ false = near_is ∙ ap (is_near place.since) is in
    ap (λ (b : Bool). sent ++ cond (b && not place.is_open) (head_text place (hunk_of place.since left)) []) far
    ∙ ap (λ (ls : List Row). sent ++ hunks_from place ls) (sym is) ∙ so_far

pub new_when : (b : Bool) (new old : ℕ) → new ≤ old → cond b new (new + 1) ≤ old + 1
new_when true new old le = omega (arith, le)
new_when false new old le = omega (arith, le)

pub place_few : (place : Place) (row : Row) (near : Bool) → place.new ≤ place.old → (place_after place row near).new ≤ place.old + 1
place_few place row near le = new_when (is_deleted row) place.new place.old le

---- what becomes of a line

-- it is replaced
pub replaced : (r : Row) → is_changed r ≡ true → is_deleted r ≡ false → row_text r ≡ marked_line minus r.before ++ marked_line plus r.after
replaced r changed stays =
    cond-true (is_changed r) _ _ changed ∙ ap (λ (t : List ℕ). marked_line minus r.before ++ t) (cond-false (is_deleted r) [] (marked_line plus r.after) stays)

-- a line without LF
pub unended : (mark : ℕ) (line : List ℕ) → list_all goes_on line ≡ true → marked_line mark line ≡ mark ∷ line ++ (line_feed ∷ codes "\\ No newline at end of file\n")
unended mark line is = ap (λ (t : List ℕ). mark ∷ line ++ t) (cond-true (list_all goes_on line) _ _ is)
