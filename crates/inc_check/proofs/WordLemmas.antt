-- What the lines of texts hold: a line is read as what it is written of, and nothing else is read.
use Rattle.std.proofs.Common.{◌≡◌, ℕ, zero, suc, ◌+◌, ◌<◌, ◌≤◌, Bool, true, false, List, [], ◌∷◌, ◌++◌, Option, Some, None, length, take, drop, get_or, refl, sym, ap, ◌∙◌, subst, add-one, arith, inl, inr, ◌⊎◌, ◌&&◌}
use Rattle.std.specs.Prelude.{if◌then◌else◌, ◌==◌, not, nat_le, nat_lt, bytes_eq, decimal, codes, position, option_map, is_some}
use Rattle.std.specs.List.{list_any}
use Rattle.std.specs.Str.Parse.{AllDigits}
use Rattle.std.specs.Char.{digit_value}
use Rattle.std.proofs.lemmas.Bool.{cases_Bool, not-true, ltb-false, le-leb, leb-true, lt-ltb, ltb-true, eqb-true, and_parts, and_from}
use Rattle.std.proofs.lemmas.List.{append-nil, take-append-drop}
use Rattle.std.proofs.lemmas.List.Quantifiers.{position-Some}
use Rattle.std.proofs.lemmas.Bool.Decides.{nat_tests}
use Rattle.std.proofs.lemmas.Slice.Eq.{bytes_eq-Decides}
use Rattle.std.proofs.Math.Seq.{take-append_seam, drop-append_seam, split_at}
use Rattle.inc_lookup.proofs.ListingLemmas.{position-none-then, is_some-position}
use Rattle.inc_graph.specs.Cuts.{most_cost}
use Rattle.inc_graph.specs.Marks.{Cost, is_cost_amount}
use Rattle.inc_graph.specs.Marks.{Mark, is_mark}
use Rattle.inc_check.specs.Texts.{greatest_number, cost_line, is_small_cost, count_line, mark_line, times_text, is_small_mark, line_feeds}
use Rattle.inc_check.specs.Reading.{number_in, cost_with, cost_at_blank, cost_in, mark_with, mark_at_blank, mark_in, number_behind, head_of, head_at_blank, head_in}
use Rattle.inc_check.specs.declared.line_parts.ChainHead.{ChainHead}
use Rattle.inc_check.proofs.Formats.{lf, feeds_cons, feeds_append, count_none}
use Rattle.inc_check.proofs.Numerals.{number_in-decimal, number_in-Some, all_digits}

---- digits hold no space and no LF

digit_is_not : (k : ℕ) → (b : ℕ) → digit_value b < 10 → (digit_value k < 10 → ⊥) → (b == k) ≡ false
digit_is_not k b low bad = elim (cases_Bool (b == k)) [
  | inl e ↦ absurd (bad (subst (λ n. digit_value n < 10) (eqb-true b k e) low))
  | inr e ↦ e
]

pub none_of : (k : ℕ) → (digit_value k < 10 → ⊥) → (bs : List ℕ) → AllDigits 10 bs → list_any (λ b. b == k) bs ≡ false
none_of k bad [] all = refl
none_of k bad (b ∷ bs) all = rw (digit_is_not k b all.0 bad) (none_of k bad bs all.1)

no_blank : (bs : List ℕ) → AllDigits 10 bs → position (λ b. b == 32) bs ≡ None
no_blank bs all = none_when (position (λ b. b == 32) bs) (is_some-position (λ b. b == 32) bs ∙ none_of 32 (λ low. absurd (omega arith)) bs all)
  where
    none_when : (o : Option ℕ) → is_some o ≡ false → o ≡ None
    none_when None e = refl
    none_when (Some k) e = cc

---- a mark

blank_behind : (n : ℕ) (path : List ℕ) → n ≤ greatest_number → position (λ b. b == 32) (decimal n ++ 32 ∷ path) ≡ Some (length (decimal n))
blank_behind n path low = position-none-then (λ b. b == 32) (decimal n) 32 path (no_blank (decimal n) (all_digits (decimal n) n low refl)) refl

drop_behind : (xs : List ℕ) (x : ℕ) (ys : List ℕ) → drop (length xs + 1) (xs ++ x ∷ ys) ≡ ys
drop_behind xs x ys = rw add-one (more xs)
  where
    more : (zs : List ℕ) → drop (suc (length zs)) (zs ++ x ∷ ys) ≡ ys
    more [] = refl
    more (z ∷ zs) = more zs

-- a mark is read from its line
pub mark_in-line : (m : Mark) → is_small_mark m ≡ true → mark_in (mark_line m) ≡ Some m
mark_in-line m small =
    let parts = and_parts (is_mark m) (nat_le m.line greatest_number) small in
    let low = leb-true m.line greatest_number parts.1 in
    rw (blank_behind m.line m.path low, take-append_seam (decimal m.line) (32 ∷ m.path), drop_behind (decimal m.line) 32 m.path, number_in-decimal (decimal m.line) m.line low refl, parts.0) refl

pub with_mark_parts : (o : Option ℕ) (path : List ℕ) (m : Mark) → mark_with o path ≡ Some m → (o ≡ Some m.line) × (path ≡ m.path) × (is_mark m ≡ true)
with_mark_parts None path m e = cc
with_mark_parts (Some n) path m e = chosen (record { path = path; line = n }) m (is_mark (record { path = path; line = n })) refl e
  where
    chosen : (a b : Mark) (t : Bool) → is_mark a ≡ t → (if t then Some a else None) ≡ Some b → (Some a.line ≡ Some b.line) × (a.path ≡ b.path) × (is_mark b ≡ true)
    chosen a b true is same = let eq : a ≡ b = cc in subst (λ (c : Mark). (Some a.line ≡ Some c.line) × (a.path ≡ c.path) × (is_mark c ≡ true)) eq (refl, refl, is)
    chosen a b false is same = cc

at_blank : (line : List ℕ) (o : Option ℕ) (m : Mark) → position (λ b. b == 32) line ≡ o → mark_at_blank line o ≡ Some m → (mark_line m ≡ line) × (is_small_mark m ≡ true)
at_blank line None m is e = cc
at_blank line (Some k) m is e =
    let parts = with_mark_parts (number_in (take k line)) (drop (k + 1) line) m e in
    let digits = number_in-Some (take k line) m.line parts.0 in
    let at = position-Some (λ b. b == 32) line k 0 is in
    let cut = split_at line k 0 at.0 in
    let one : suc k ≡ k + 1 = omega arith in (
      ap (λ ds. ds ++ 32 ∷ m.path) digits.0 ∙ ap (λ path. take k line ++ 32 ∷ path) (sym parts.1) ∙ ap (λ n. take k line ++ 32 ∷ drop n line) (sym one)
          ∙ ap (λ b. take k line ++ b ∷ drop (suc k) line) (sym (eqb-true (get_or line k 0) 32 at.1)) ∙ sym cut,
      and_from (is_mark m) (nat_le m.line greatest_number) parts.2 (le-leb m.line greatest_number digits.1),
    )

-- what is read as a mark is its line
pub mark_in-Some : (line : List ℕ) (m : Mark) → mark_in line ≡ Some m → (mark_line m ≡ line) × (is_small_mark m ≡ true)
mark_in-Some line m e = at_blank line (position (λ b. b == 32) line) m refl e

---- a cost

most_amount : (n : ℕ) → is_cost_amount n ≡ true → n ≤ most_cost
most_amount n is = ltb-false most_cost n (not-true (nat_lt most_cost n) (and_parts (not (n == 0)) (not (nat_lt most_cost n)) is).1)

-- a cost is read from its line
pub cost_in-line : (c : Cost) → is_small_cost c ≡ true → cost_in (cost_line c) ≡ Some c
cost_in-line c small =
    let parts = and_parts (is_cost_amount c.amount) (is_small_mark c.mark) small in
    let most = most_amount c.amount parts.0 in
    rw (blank_behind c.amount (mark_line c.mark) (omega arith), take-append_seam (decimal c.amount) (32 ∷ mark_line c.mark), drop_behind (decimal c.amount) 32 (mark_line c.mark), number_in-decimal (decimal c.amount) c.amount (omega arith) refl)
    (rw (mark_in-line c.mark parts.1) (rw parts.0 refl))

cost_parts : (o : Option ℕ) (p : Option Mark) (c : Cost) → cost_with o p ≡ Some c → (o ≡ Some c.amount) × (p ≡ Some c.mark) × (is_cost_amount c.amount ≡ true)
cost_parts None p c e = cc
cost_parts (Some n) None c e = cc
cost_parts (Some n) (Some m) c e = chosen (is_cost_amount n) refl e
  where
    chosen : (t : Bool) → is_cost_amount n ≡ t → (if t then Some (record { mark = m; amount = n }) else None) ≡ Some c → (Some n ≡ Some c.amount) × (Some m ≡ Some c.mark) × (is_cost_amount c.amount ≡ true)
    chosen true is f =
        let it : Cost = record { mark = m; amount = n } in
        let same : it ≡ c = cc in
        subst (λ (d : Cost). (Some n ≡ Some d.amount) × (Some m ≡ Some d.mark) × (is_cost_amount d.amount ≡ true)) same (refl, refl, is)
    chosen false is f = cc

cost_at : (line : List ℕ) (o : Option ℕ) (c : Cost) → position (λ b. b == 32) line ≡ o → cost_at_blank line o ≡ Some c → (cost_line c ≡ line) × (is_small_cost c ≡ true)
cost_at line None c is e = cc
cost_at line (Some k) c is e =
    let parts = cost_parts (number_in (take k line)) (mark_in (drop (k + 1) line)) c e in
    let digits = number_in-Some (take k line) c.amount parts.0 in
    let mark = mark_in-Some (drop (k + 1) line) c.mark parts.1 in
    let at = position-Some (λ b. b == 32) line k 0 is in
    let cut = split_at line k 0 at.0 in
    let one : suc k ≡ k + 1 = omega arith in (
      ap (λ ds. ds ++ 32 ∷ mark_line c.mark) digits.0 ∙ ap (λ rest. take k line ++ 32 ∷ rest) mark.0 ∙ ap (λ n. take k line ++ 32 ∷ drop n line) (sym one)
          ∙ ap (λ b. take k line ++ b ∷ drop (suc k) line) (sym (eqb-true (get_or line k 0) 32 at.1)) ∙ sym cut,
      and_from (is_cost_amount c.amount) (is_small_mark c.mark) parts.2 mark.1,
    )

-- what is read as a cost is its line
pub cost_in-Some : (line : List ℕ) (c : Cost) → cost_in line ≡ Some c → (cost_line c ≡ line) × (is_small_cost c ≡ true)
cost_in-Some line c e = cost_at line (position (λ b. b == 32) line) c refl e

---- a number after a word

pub number_behind-word : (word : List ℕ) (n : ℕ) → n ≤ greatest_number → number_behind word (word ++ decimal n) ≡ Some n
number_behind-word word n low =
    rw (take-append_seam word (decimal n), (bytes_eq-Decides word word).1 refl, drop-append_seam word (decimal n)) (number_in-decimal (decimal n) n low refl)

pub if_some : {X : Type 0} (t : Bool) (o : Option X) (x : X) → (if t then o else None) ≡ Some x → (t ≡ true) × (o ≡ Some x)
if_some true o x e = (refl, e)
if_some false o x e = cc

pub number_behind-Some : (word text : List ℕ) (n : ℕ) → number_behind word text ≡ Some n → (word ++ decimal n ≡ text) × (n ≤ greatest_number)
number_behind-Some word text n e =
    let both = if_some (bytes_eq (take (length word) text) word) (number_in (drop (length word) text)) n e in
    let front = (bytes_eq-Decides (take (length word) text) word).0 both.0 in
    let digits = number_in-Some (drop (length word) text) n both.1 in (
      ap (λ ds. word ++ ds) digits.0 ∙ ap (λ w. w ++ drop (length word) text) (sym front) ∙ take-append-drop (length word) text,
      digits.1,
    )

---- the head of a chain

-- a chain of so many directives that counts so often
abbrev pub head_line : ℕ → ℕ → List ℕ
head_line n k = count_line (codes "chain") n ++ times_text k

-- what is after the word
abbrev head_text : List ℕ → Option ChainHead
head_text text = head_at_blank text (position (λ b. b == 32) text)

head_once : (n : ℕ) → n ≤ greatest_number → head_text (decimal n) ≡ Some (record { length = n; count = 1 })
head_once n low = rw (no_blank (decimal n) (all_digits (decimal n) n low refl), number_in-decimal (decimal n) n low refl) refl

head_more : (n k : ℕ) → n ≤ greatest_number → k ≤ greatest_number → 1 < k → head_text (decimal n ++ 32 ∷ (codes "times " ++ decimal k)) ≡ Some (record { length = n; count = k })
head_more n k low few more =
    rw (blank_behind n (codes "times " ++ decimal k) low, take-append_seam (decimal n) (32 ∷ (codes "times " ++ decimal k)), drop-append_seam (decimal n) (32 ∷ (codes "times " ++ decimal k)), number_in-decimal (decimal n) n low refl)
    (rw (number_behind-word (codes " times ") k few, lt-ltb 1 k more) refl)

times_more : (k : ℕ) → 1 < k → times_text k ≡ codes " times " ++ decimal k
times_more k more = rw (not_one k more) refl
  where
    not_one : (n : ℕ) → 1 < n → (n == 1) ≡ false
    not_one n h = grind (arith, nat_tests)

times_one : (k : ℕ) → k ≡ 1 → times_text k ≡ []
times_one k e = rw e refl

one_or_more : (k : ℕ) → 0 < k → (k ≡ 1) ⊎ (1 < k)
one_or_more zero h = absurd (omega arith)
one_or_more (suc zero) h = inl refl
one_or_more (suc (suc k)) h = inr (omega arith)

head_at : (n k : ℕ) → n ≤ greatest_number → k ≤ greatest_number → (k ≡ 1) ⊎ (1 < k) → head_text (decimal n ++ times_text k) ≡ Some (record { length = n; count = k })
head_at n k low few (inl one) =
    subst (λ text. head_text text ≡ Some (record { length = n; count = k })) (sym (ap (λ ts. decimal n ++ ts) (times_one k one) ∙ append-nil (decimal n)))
    (head_once n low ∙ ap (λ m. Some (record { length = n; count = m })) (sym one))
head_at n k low few (inr more) =
    subst (λ ts. head_text (decimal n ++ ts) ≡ Some (record { length = n; count = k })) (sym (times_more k more)) (head_more n k low few more)

-- the head of a chain is read from its line
pub head_in-line : (n k : ℕ) → n ≤ greatest_number → k ≤ greatest_number → 0 < k → head_in (head_line n k) ≡ Some (record { length = n; count = k })
head_in-line n k low few some = head_at n k low few (one_or_more k some)

-- what is known of a head that is read
abbrev IsHead : List ℕ → ChainHead → Type 0
IsHead text h = (decimal h.length ++ times_text h.count ≡ text) × (h.length ≤ greatest_number) × (0 < h.count) × (h.count ≤ greatest_number)

once_parts : (text : List ℕ) (o : Option ℕ) (h : ChainHead) → number_in text ≡ o → option_map (λ n. record { length = n; count = 1 }) o ≡ Some h → IsHead text h
once_parts text None h is e = cc
once_parts text (Some n) h is e =
    let one : ChainHead = record { length = n; count = 1 } in
    let same : one ≡ h = cc in
    let digits = number_in-Some text n is in
    subst (IsHead text) same (append-nil (decimal n) ∙ digits.0, digits.1, omega arith, omega arith)

more_parts : (text : List ℕ) (k : ℕ) (o p : Option ℕ) (h : ChainHead) → number_in (take k text) ≡ o → number_behind (codes " times ") (drop k text) ≡ p → head_of o p ≡ Some h → IsHead text h
more_parts text k None p h is isp e = cc
more_parts text k (Some n) None h is isp e = cc
more_parts text k (Some n) (Some m) h is isp e =
    let both = if_some (nat_lt 1 m) (Some (record { length = n; count = m })) h e in
    let it : ChainHead = record { length = n; count = m } in
    let same : it ≡ h = cc in
    let more = ltb-true 1 m both.0 in
    let digits = number_in-Some (take k text) n is in
    let times = number_behind-Some (codes " times ") (drop k text) m isp in
    subst (IsHead text) same (
      ap (λ ts. decimal n ++ ts) (times_more m more ∙ times.0) ∙ ap (λ ds. ds ++ drop k text) digits.0 ∙ take-append-drop k text,
      digits.1,
      omega arith,
      times.1,
    )

head_parts : (text : List ℕ) (o : Option ℕ) (h : ChainHead) → head_at_blank text o ≡ Some h → IsHead text h
head_parts text None h e = once_parts text (number_in text) h refl e
head_parts text (Some k) h e = more_parts text k (number_in (take k text)) (number_behind (codes " times ") (drop k text)) h refl refl e

-- what is read as the head of a chain is its line
pub head_in-Some : (line : List ℕ) (h : ChainHead) → head_in line ≡ Some h → (head_line h.length h.count ≡ line) × (h.length ≤ greatest_number) × (0 < h.count) × (h.count ≤ greatest_number)
head_in-Some line h e =
    let both = if_some (bytes_eq (take 6 line) (codes "chain ")) (head_text (drop 6 line)) h e in
    let front = (bytes_eq-Decides (take 6 line) (codes "chain ")).0 both.0 in
    let parts = head_parts (drop 6 line) (position (λ b. b == 32) (drop 6 line)) h both.1 in (
      ap (λ ds. codes "chain " ++ ds) parts.0 ∙ ap (λ w. w ++ drop 6 line) (sym front) ∙ take-append-drop 6 line,
      parts.1,
      parts.2,
      parts.3,
    )

---- no line holds LF

clean_decimal : (n : ℕ) → n ≤ greatest_number → line_feeds (decimal n) ≡ 0
clean_decimal n low = count_none (decimal n) (none_of 10 (λ below. absurd (omega arith)) (decimal n) (all_digits (decimal n) n low refl))

clean_not : (t : Bool) → not t ≡ true → t ≡ false
clean_not true e = cc
clean_not false e = refl

pub clean_mark : (m : Mark) → is_small_mark m ≡ true → line_feeds (mark_line m) ≡ 0
clean_mark m small =
    let parts = and_parts (is_mark m) (nat_le m.line greatest_number) small in
    let both = and_parts (nat_lt 0 (length m.path) && not (list_any (λ b. b == 10) m.path)) (nat_lt 0 m.line) parts.0 in
    let path = and_parts (nat_lt 0 (length m.path)) (not (list_any (λ b. b == 10) m.path)) both.0 in
    let all = feeds_append (decimal m.line) (32 ∷ m.path) in
    let first : line_feeds (32 ∷ m.path) ≡ 0 + line_feeds m.path = feeds_cons 32 m.path in
    let rest = count_none m.path (clean_not (list_any lf m.path) path.1) in
    let digits = clean_decimal m.line (leb-true m.line greatest_number parts.1) in omega arith

pub clean_count : (word : List ℕ) (n : ℕ) → line_feeds word ≡ 0 → n ≤ greatest_number → line_feeds (count_line word n) ≡ 0
clean_count word n bare low =
    let all = feeds_append word (32 ∷ decimal n) in
    let first : line_feeds (32 ∷ decimal n) ≡ 0 + line_feeds (decimal n) = feeds_cons 32 (decimal n) in
    let digits = clean_decimal n low in omega arith

pub clean_head : (n k : ℕ) → n ≤ greatest_number → k ≤ greatest_number → 0 < k → line_feeds (head_line n k) ≡ 0
clean_head n k low few some =
    let all = feeds_append (count_line (codes "chain") n) (times_text k) in
    let front = clean_count (codes "chain") n refl low in
    let back = clean_times k few (one_or_more k some) in omega arith
  where
    clean_times : (m : ℕ) → m ≤ greatest_number → (m ≡ 1) ⊎ (1 < m) → line_feeds (times_text m) ≡ 0
    clean_times m low' (inl one) = ap line_feeds (times_one m one)
    clean_times m low' (inr more) =
        let text = ap line_feeds (times_more m more) ∙ feeds_append (codes " times ") (decimal m) in
        let digits = clean_decimal m low' in omega arith

pub clean_cost : (c : Cost) → is_small_cost c ≡ true → line_feeds (cost_line c) ≡ 0
clean_cost c small =
    let parts = and_parts (is_cost_amount c.amount) (is_small_mark c.mark) small in
    let most = most_amount c.amount parts.0 in
    let all = feeds_append (decimal c.amount) (32 ∷ mark_line c.mark) in
    let first : line_feeds (32 ∷ mark_line c.mark) ≡ 0 + line_feeds (mark_line c.mark) = feeds_cons 32 (mark_line c.mark) in
    let rest = clean_mark c.mark parts.1 in
    let digits = clean_decimal c.amount (omega arith) in omega arith
