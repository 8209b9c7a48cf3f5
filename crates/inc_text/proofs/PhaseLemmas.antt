-- Phases 1 and 2 from the front of a source: one byte or one splice at a time.
use Rattle.std.proofs.Common.{subst, add_assoc, ◌||◌, ◌++◌, ◌≡◌, ◌⊎◌, inl, inr, ℕ, suc, ◌+◌, ◌-◌, ◌<◌, ◌&&◌, Bool, true, false, cond, List, [], ◌∷◌, drop, length, take, get_or, ltb, count_by, refl, sym, ap, ◌∙◌, arith, eqb}
use Rattle.std.proofs.lemmas.Bool.{cond-true, cond-false, and_from, or_parts, and_left, and_right, and_parts, eqb-true, ne_eqb, ltb-true, lt-ltb, false≢true}
use Rattle.std.proofs.lemmas.List.{drop-drop, take_rest}
use Rattle.std.proofs.lemmas.List.Sums.{sum_by-cons, sum_by-append}
use Rattle.inc_text.specs.PhaseText.{Cell, cells_from, end_cells, is_passed, joined, one_more, with_new_lines, with_trigraphs, spliced, without_mark, ended_by, trigraph, is_trigraph}
use Rattle.std.specs.List.{prefix_len}
use Rattle.inc_text.specs.Origins.{end_len, new_line_len, trigraph_of, front_byte, front_width, begins_splice, text_from, is_special}
use Rattle.inc_text.specs.declared.languages.Language.{Language}
use Rattle.inc_text.specs.declared.languages.Language.TheVariants.{C17, Extended, Gnu}

-- a source after phase 1, and after phase 2
abbrev pub replaced : Language → ℕ → ℕ → List ℕ → List Cell
replaced language at line bs = with_trigraphs language (with_new_lines (cells_from at line bs))

-- the first byte of a list, and what is after it
abbrev pub head_of : List Cell → ℕ
head_of [] = 0
head_of (a ∷ r) = a.byte

abbrev pub tail_of : List Cell → List Cell
tail_of [] = []
tail_of (a ∷ r) = r

abbrev pub lf : ℕ → Bool
lf b = eqb b 10

new_lines_pass : (a : Cell) (r : List Cell) → (eqb a.byte 13 && eqb (head_of r) 10) ≡ false → with_new_lines (a ∷ r) ≡ a ∷ with_new_lines r
new_lines_pass a [] h = refl
new_lines_pass a (b ∷ r) h = cond-false _ _ _ h

trigraphs_pass : (language : Language) (a : Cell) (r : List Cell) → is_trigraph language a.byte (head_of r) (head_of (tail_of r)) ≡ false → with_trigraphs language (a ∷ r) ≡ a ∷ with_trigraphs language r
trigraphs_pass language a [] h = refl
trigraphs_pass language a (b ∷ []) h = refl
trigraphs_pass language a (b ∷ c ∷ r) h = cond-false _ _ _ h

spliced_pass : (language : Language) (a : Cell) (r : List Cell) → (eqb a.byte 92 && ltb 0 (end_cells language r)) ≡ false → spliced language (a ∷ r) ≡ a ∷ spliced language r
spliced_pass language a r h = cond-false _ _ _ h

head_of_cells : (at line : ℕ) (bs : List ℕ) → head_of (cells_from at line bs) ≡ get_or bs 0 0
head_of_cells at line [] = refl
head_of_cells at line (b ∷ bs) = refl

-- no trigraph gives one of the bytes that begin or end a sequence
not_given : (n : ℕ) (t : Bool) (x y : ℕ) → eqb x n ≡ false → eqb y n ≡ false → eqb (cond t x y) n ≡ false
not_given n true x y p q = p
not_given n false x y p q = q

given_chain : (a b c d e f g h i : Bool) → eqb (cond a 35 (cond b 91 (cond c 92 (cond d 93 (cond e 94 (cond f 123 (cond g 124 (cond h 125 (cond i 126 0))))))))) 10 ≡ false
given_chain true b c d e f g h i = refl
given_chain false true c d e f g h i = refl
given_chain false false true d e f g h i = refl
given_chain false false false true e f g h i = refl
given_chain false false false false true f g h i = refl
given_chain false false false false false true g h i = refl
given_chain false false false false false false true h i = refl
given_chain false false false false false false false true i = refl
given_chain false false false false false false false false true = refl
given_chain false false false false false false false false false = refl

standard-ne_lf : (c : ℕ) → eqb (trigraph C17 c) 10 ≡ false
standard-ne_lf c = given_chain (eqb c 61) (eqb c 40) (eqb c 47) (eqb c 41) (eqb c 39) (eqb c 60) (eqb c 33) (eqb c 62) (eqb c 45)

-- no trigraph stands for an LF
pub trigraph-ne_lf : (language : Language) (c : ℕ) → eqb (trigraph language c) 10 ≡ false
trigraph-ne_lf C17 c = standard-ne_lf c
trigraph-ne_lf Extended c = standard-ne_lf c
trigraph-ne_lf Gnu c = refl

-- no trigraph ends in one of these
trigraph-null : (language : Language) → trigraph language 0 ≡ 0
trigraph-null C17 = refl
trigraph-null Extended = refl
trigraph-null Gnu = refl

pub trigraph-line_feed : (language : Language) → trigraph language 10 ≡ 0
trigraph-line_feed C17 = refl
trigraph-line_feed Extended = refl
trigraph-line_feed Gnu = refl

pub trigraph-blank : (language : Language) → trigraph language 32 ≡ 0
trigraph-blank C17 = refl
trigraph-blank Extended = refl
trigraph-blank Gnu = refl

trigraph-return : (language : Language) → trigraph language 13 ≡ 0
trigraph-return C17 = refl
trigraph-return Extended = refl
trigraph-return Gnu = refl

-- a byte of the text up to source place p, and the source bs after it
abbrev pub goes_on : Language → ℕ → ℕ → ℕ → List ℕ → ℕ → List Cell
goes_on language at line c bs p = record { byte = c; first = at; last = p; line = line } ∷ replaced language p (cond (eqb c 10) (line + 1) line) bs

-- after phase 1 a source begins with a byte c, which stands for its first w bytes
pub record Gives (language : Language) (at line : ℕ) (bs : List ℕ) (c w : ℕ) : Type 0 where
  pub cells : replaced language at line bs ≡ goes_on language at line c (drop w bs) (at + w)
  pub lines : count_by lf bs ≡ cond (eqb c 10) 1 0 + count_by lf (drop w bs)

pub count_cons : (b : ℕ) (bs : List ℕ) → count_by lf (b ∷ bs) ≡ cond (eqb b 10) 1 0 + count_by lf bs
count_cons b bs = sum_by-cons (λ x. cond (lf x) 1 0) b bs

pub count_append : (xs ys : List ℕ) → count_by lf (xs ++ ys) ≡ count_by lf xs + count_by lf ys
count_append xs ys = sum_by-append (λ x. cond (lf x) 1 0) xs ys

-- the head and the second byte of a source after the new-lines are made one
second_of : (language : Language) (a : Cell) (r : List Cell) → ltb 0 (trigraph language (head_of (with_new_lines (a ∷ r)))) ≡ ltb 0 (trigraph language a.byte)
second_of language a [] = refl
second_of language a (b ∷ r) = second_by language a b r (eqb a.byte 13 && eqb b.byte 10) refl where
  second_by : (language : Language) (a b : Cell) (r : List Cell) (t : Bool) → (eqb a.byte 13 && eqb b.byte 10) ≡ t → ltb 0 (trigraph language (head_of (with_new_lines (a ∷ b ∷ r)))) ≡ ltb 0 (trigraph language a.byte)
  second_by language a b r true h =
      ap (λ x. ltb 0 (trigraph language (head_of x))) (cond-true (eqb a.byte 13 && eqb b.byte 10) (joined 10 a b ∷ with_new_lines r) (a ∷ with_new_lines (b ∷ r)) h) ∙ (ap (ltb 0) (trigraph-line_feed language ∙ sym (trigraph-return language)) ∙ sym (ap (λ x. ltb 0 (trigraph language x)) (eqb-true a.byte 13 ((and_parts _ _ h).0))))
  second_by language a b r false h =
      ap (λ x. ltb 0 (trigraph language (head_of x))) (cond-false (eqb a.byte 13 && eqb b.byte 10) (joined 10 a b ∷ with_new_lines r) (a ∷ with_new_lines (b ∷ r)) h)

abbrev pub first_phase : ℕ → ℕ → List ℕ → List Cell
first_phase at line bs = with_new_lines (cells_from at line bs)

second_from : (language : Language) (at line z : ℕ) (zs : List ℕ) → ltb 0 (trigraph language (head_of (first_phase at line (z ∷ zs)))) ≡ ltb 0 (trigraph language z)
second_from language at line z zs =
    second_of language (record { byte = z; first = at; last = at + 1; line = line }) (cells_from (at + 1) (cond (eqb z 10) (line + 1) line) zs)

no_trigraph_by : (language : Language) (at line b y z : ℕ) (zs : List ℕ) (t : Bool) → (eqb y 13 && eqb z 10) ≡ t → ((eqb b 63 && eqb y 63) && ltb 0 (trigraph language z)) ≡ false → is_trigraph language b (head_of (first_phase at line (y ∷ z ∷ zs))) (head_of (tail_of (first_phase at line (y ∷ z ∷ zs)))) ≡ false
no_trigraph_by language at line b y z zs true h k =
    ap (λ x. is_trigraph language b (head_of x) (head_of (tail_of x))) (cond-true (eqb y 13 && eqb z 10) _ _ h) ∙ and_left _ _ (and_right (eqb b 63) false refl)
no_trigraph_by language at line b y z zs false h k =
    ap (λ x. is_trigraph language b (head_of x) (head_of (tail_of x))) (cond-false (eqb y 13 && eqb z 10) _ _ h) ∙ (ap (λ x. (eqb b 63 && eqb y 63) && x) (second_from language (at + 1) (cond (eqb y 10) (line + 1) line) z zs) ∙ k)

no_trigraph : (language : Language) (at line b : ℕ) (bs : List ℕ) → ((eqb b 63 && eqb (get_or bs 0 0) 63) && ltb 0 (trigraph language (get_or bs 1 0))) ≡ false → is_trigraph language b (head_of (first_phase at line bs)) (head_of (tail_of (first_phase at line bs))) ≡ false
no_trigraph language at line b [] k = k
no_trigraph language at line b (y ∷ []) k = k
no_trigraph language at line b (y ∷ z ∷ zs) k = no_trigraph_by language at line b y z zs _ refl k

gives_one : (language : Language) (at line b : ℕ) (bs : List ℕ) → (eqb b 13 && eqb (get_or bs 0 0) 10) ≡ false → ((eqb b 63 && eqb (get_or bs 0 0) 63) && ltb 0 (trigraph language (get_or bs 1 0))) ≡ false → Gives language at line (b ∷ bs) b 1
gives_one language at line b bs no_pair no_trigraph_is =
    let next = cond (eqb b 10) (line + 1) line in
    let head : eqb b 13 && eqb (head_of (cells_from (at + 1) next bs)) 10 ≡ false = ap (λ h. eqb b 13 && eqb h 10) (head_of_cells (at + 1) next bs) ∙ no_pair in
    record {
      cells = ap (with_trigraphs language) (new_lines_pass (record { byte = b; first = at; last = at + 1; line = line }) (cells_from (at + 1) next bs) head) ∙ trigraphs_pass language (record { byte = b; first = at; last = at + 1; line = line }) (first_phase (at + 1) next bs) (no_trigraph language (at + 1) next b bs no_trigraph_is);
      lines = count_cons b bs;
    }

gives_pair : (language : Language) (at line : ℕ) (bs : List ℕ) → Gives language at line (13 ∷ 10 ∷ bs) 10 2
gives_pair language at line bs =
    let e : at + 1 + 1 ≡ at + 2 = omega arith in
    record {
      cells = trigraphs_pass language (record { byte = 10; first = at; last = at + 1 + 1; line = line }) (first_phase (at + 1 + 1) (line + 1) bs) refl ∙ ap (goes_on language at line 10 bs) e;
      lines = count_cons 13 (10 ∷ bs) ∙ (ap (λ n. 0 + n) (count_cons 10 bs) ∙ omega arith);
    }

gives_trigraph : (language : Language) (at line c : ℕ) (bs : List ℕ) → 0 < trigraph language c → Gives language at line (63 ∷ 63 ∷ c ∷ bs) (trigraph language c) 3
gives_trigraph language at line c bs some =
    let P : ℕ → Type 0 = λ x. 0 < trigraph language x in
    let no_lf : eqb c 10 ≡ false = ne_eqb c 10 (λ e. omega (arith, subst P e some, trigraph-line_feed language)) in
    let no_cr : eqb c 13 ≡ false = ne_eqb c 13 (λ e. omega (arith, subst P e some, trigraph-return language)) in
    let e : at + 1 + 1 + 1 ≡ at + 3 = omega arith in
    let next = cond (eqb c 10) (line + 1) line in
    let same : next ≡ cond (eqb (trigraph language c) 10) (line + 1) line = cond-false (eqb c 10) (line + 1) line no_lf ∙ sym (cond-false (eqb (trigraph language c) 10) (line + 1) line (trigraph-ne_lf language c)) in
    let first : Cell = record { byte = 63; first = at; last = at + 1; line = line } in
    let second : Cell = record { byte = 63; first = at + 1; last = at + 1 + 1; line = line } in
    let third : Cell = record { byte = c; first = at + 1 + 1; last = at + 1 + 1 + 1; line = line } in
    let rest : List Cell = cells_from (at + 1 + 1 + 1) next bs in
    record {
      cells = ap (λ r. with_trigraphs language (first ∷ second ∷ r)) (new_lines_pass third rest (and_left _ _ no_cr)) ∙ (cond-true (ltb 0 (trigraph language c)) _ _ (lt-ltb 0 (trigraph language c) some) ∙ (ap (λ l. record { byte = trigraph language c; first = at; last = at + 1 + 1 + 1; line = line } ∷ replaced language (at + 1 + 1 + 1) l bs) same ∙ ap (goes_on language at line (trigraph language c) bs) e));
      lines = count_cons 63 (63 ∷ c ∷ bs) ∙ (ap (λ n. 0 + n) (count_cons 63 (c ∷ bs)) ∙ (ap (λ n. 0 + (0 + n)) (count_cons c bs) ∙ (ap (λ n. 0 + (0 + (n + count_by lf bs))) (cond-false (eqb c 10) 1 0 no_lf ∙ sym (cond-false (eqb (trigraph language c) 10) 1 0 (trigraph-ne_lf language c))) ∙ omega arith)));
    }

-- the tests of a front, given as variables
abbrev byte_by : Bool → Bool → ℕ → ℕ → ℕ
byte_by x y t b = cond (ltb 0 (cond x 1 (cond y 2 0))) 10 (cond (ltb 0 t) t b)

abbrev width_by : Bool → Bool → ℕ → ℕ
width_by x y t = cond (ltb 0 (cond x 1 (cond y 2 0))) (cond x 1 (cond y 2 0)) (cond (ltb 0 t) 3 1)

pair_front : (language : Language) (at line b : ℕ) (bs : List ℕ) → b ≡ 13 → get_or bs 0 0 ≡ 10 → Gives language at line (b ∷ bs) 10 2
pair_front language at line b [] p q = absurd (omega arith)
pair_front language at line b (z ∷ zs) p q =
    let P : ℕ → Type 0 = λ x. Gives language at line (x ∷ z ∷ zs) 10 2 in
    let Q : ℕ → Type 0 = λ x. Gives language at line (13 ∷ x ∷ zs) 10 2 in
    subst P (sym p) (subst Q (sym q) (gives_pair language at line zs))

trigraph_front : (language : Language) (at line b : ℕ) (bs : List ℕ) → b ≡ 63 → get_or bs 0 0 ≡ 63 → 0 < trigraph language (get_or bs 1 0) → Gives language at line (b ∷ bs) (trigraph language (get_or bs 1 0)) 3
trigraph_front language at line b [] p q h = absurd (omega arith)
trigraph_front language at line b (y ∷ []) p q h =
    let none : trigraph language (get_or {A = ℕ} (y ∷ []) 1 0) ≡ 0 = trigraph-null language in
    absurd (omega (arith, none, h))
trigraph_front language at line b (y ∷ z ∷ zs) p q h =
    let P : ℕ → Type 0 = λ x. Gives language at line (x ∷ y ∷ z ∷ zs) (trigraph language z) 3 in
    let Q : ℕ → Type 0 = λ x. Gives language at line (63 ∷ x ∷ z ∷ zs) (trigraph language z) 3 in
    subst P (sym p) (subst Q (sym q) (gives_trigraph language at line z zs h))

other_front : (language : Language) (at line b : ℕ) (bs : List ℕ) (t u : Bool) → (eqb b 13 && eqb (get_or bs 0 0) 10) ≡ false → (eqb b 63 && eqb (get_or bs 0 0) 63) ≡ t → ltb 0 (trigraph language (get_or bs 1 0)) ≡ u → Gives language at line (b ∷ bs) (byte_by false false (cond t (trigraph language (get_or bs 1 0)) 0) b) (width_by false false (cond t (trigraph language (get_or bs 1 0)) 0))
other_front language at line b bs false u no_pair h k = gives_one language at line b bs no_pair (and_left _ _ h)
other_front language at line b bs true false no_pair h k =
    let P : Bool → Type 0 = λ x. Gives language at line (b ∷ bs) (cond x (trigraph language (get_or bs 1 0)) b) (cond x 3 1) in
    subst P (sym k) (gives_one language at line b bs no_pair (and_right _ _ k))
other_front language at line b bs true true no_pair h k =
    let P : Bool → Type 0 = λ x. Gives language at line (b ∷ bs) (cond x (trigraph language (get_or bs 1 0)) b) (cond x 3 1) in
    subst P (sym k) (trigraph_front language at line b bs (eqb-true b 63 ((and_parts _ _ h).0)) (eqb-true _ 63 ((and_parts _ _ h).1)) (ltb-true _ _ k))

front_by : (language : Language) (at line b : ℕ) (bs : List ℕ) (x y : Bool) → eqb b 10 ≡ x → (eqb b 13 && eqb (get_or bs 0 0) 10) ≡ y → Gives language at line (b ∷ bs) (byte_by x y (trigraph_of language (b ∷ bs)) b) (width_by x y (trigraph_of language (b ∷ bs)))
front_by language at line b bs true y e h =
    let P : ℕ → Type 0 = λ v. Gives language at line (v ∷ bs) 10 1 in
    subst P (sym (eqb-true b 10 e)) (gives_one language at line 10 bs refl refl)
front_by language at line b bs false true e h = pair_front language at line b bs (eqb-true b 13 ((and_parts _ _ h).0)) (eqb-true _ 10 ((and_parts _ _ h).1))
front_by language at line b bs false false e h = other_front language at line b bs _ _ h refl refl

-- what a source that is not empty begins with after phase 1
pub gives_front : (language : Language) (at line b : ℕ) (bs : List ℕ) → Gives language at line (b ∷ bs) (front_byte language (b ∷ bs)) (front_width language (b ∷ bs))
gives_front language at line b bs = front_by language at line b bs _ _ refl refl

front_lf_by : (x y t u : Bool) (c b : ℕ) → eqb b 10 ≡ x → eqb c 10 ≡ false → eqb (cond (ltb 0 (cond x 1 (cond y 2 0))) 10 (cond u (cond t c 0) b)) 10 ≡ ltb 0 (cond x 1 (cond y 2 0))
front_lf_by true y t u c b h k = refl
front_lf_by false true t u c b h k = refl
front_lf_by false false true true c b h k = k
front_lf_by false false false true c b h k = refl
front_lf_by false false t false c b h k = h

front_lf : (language : Language) (bs : List ℕ) → eqb (front_byte language bs) 10 ≡ ltb 0 (new_line_len bs)
front_lf language bs = front_lf_by _ (eqb (get_or bs 0 0) 13 && eqb (get_or bs 1 0) 10) (eqb (get_or bs 0 0) 63 && eqb (get_or bs 1 0) 63) _ (trigraph language (get_or bs 2 0)) _ refl (trigraph-ne_lf language (get_or bs 2 0))

---- white space that may be in a splice

-- it holds of b, and not of k
differs : (f : ℕ → Bool) (k b : ℕ) → f k ≡ false → f b ≡ true → eqb b k ≡ false
differs f k b fails holds = ne_eqb b k (λ e. let c : false ≡ true = sym fails ∙ ap f (sym e) ∙ holds in cc)

passed_not : (language : Language) (k b : ℕ) → is_passed Gnu k ≡ false → is_passed language b ≡ true → eqb b k ≡ false
passed_not C17 k b fails h = cc
passed_not Extended k b fails h = cc
passed_not Gnu k b fails h = differs (is_passed Gnu) k b fails h

passed_plain : (language : Language) (b : ℕ) → is_passed language b ≡ true → is_special b ≡ false
passed_plain language b h = rw (passed_not language 13 b refl h, passed_not language 63 b refl h, passed_not language 92 b refl h) refl

passed_no_line : (language : Language) (b : ℕ) (bs : List ℕ) → is_passed language b ≡ true → new_line_len (b ∷ bs) ≡ 0
passed_no_line language b bs h = cond-false _ _ _ (passed_not language 10 b refl h) ∙ cond-false _ _ _ (and_left _ _ (passed_not language 13 b refl h))

gnu_front : (x t : Bool) (b : ℕ) → x ≡ false → is_passed Gnu b ≡ false → is_passed Gnu (cond x 10 (cond (ltb 0 (cond {A = ℕ} t 0 0)) (cond {A = ℕ} t 0 0) b)) ≡ false
gnu_front true t b none h = cc
gnu_front false true b none h = h
gnu_front false false b none h = h

-- what phase 1 makes of other bytes is no such white space
front_not : (language : Language) (b : ℕ) (bs : List ℕ) → ltb 0 (new_line_len (b ∷ bs)) ≡ false → is_passed language b ≡ false → is_passed language (front_byte language (b ∷ bs)) ≡ false
front_not C17 b bs none h = refl
front_not Extended b bs none h = refl
front_not Gnu b bs none h = gnu_front (ltb 0 (new_line_len (b ∷ bs))) (eqb b 63 && eqb (get_or bs 0 0) 63) b none h

pub byte_lines : (language : Language) (b : ℕ) (bs : List ℕ) → count_by lf (b ∷ bs) ≡ cond (eqb (front_byte language (b ∷ bs)) 10) 1 0 + count_by lf (drop (front_width language (b ∷ bs)) (b ∷ bs))
byte_lines language b bs = (gives_front language 0 0 b bs).lines

-- a source that begins with a new-line
gives_lf : (language : Language) (at line : ℕ) (ys : List ℕ) → ltb 0 (new_line_len ys) ≡ true → Gives language at line ys 10 (new_line_len ys)
gives_lf language at line [] h = absurd (false≢true h)
gives_lf language at line (y ∷ ys) h =
    let P : ℕ → Type 0 = λ c. Gives language at line (y ∷ ys) c (front_width language (y ∷ ys)) in
    let Q : ℕ → Type 0 = λ w. Gives language at line (y ∷ ys) 10 w in
    subst Q (cond-true _ _ _ h) (subst P (cond-true _ _ _ h) (gives_front language at line y ys))

not_lf : (c : ℕ) → eqb c 92 ≡ true → eqb c 10 ≡ false
not_lf c h = ap (λ x. eqb x 10) (eqb-true c 92 h)

-- a byte that begins no sequence stands for itself
plain_front_by : (b : ℕ) (x y t : Bool) (v : ℕ) → eqb b 10 ≡ x → y ≡ false → t ≡ false → (byte_by x y (cond t v 0) b ≡ b) × (width_by x y (cond t v 0) ≡ 1)
plain_front_by b true y t v h k m = (sym (eqb-true b 10 h), refl)
plain_front_by b false y t v h k m = rw (k, m) (refl, refl)

plain_front : (language : Language) (b : ℕ) (bs : List ℕ) → is_special b ≡ false → (front_byte language (b ∷ bs) ≡ b) × (front_width language (b ∷ bs) ≡ 1)
plain_front language b bs h =
    let p = or_parts (eqb b 13 || eqb b 63) (eqb b 92) h in
    let q = or_parts (eqb b 13) (eqb b 63) p.0 in
    plain_front_by b _ _ _ _ refl (and_left _ _ q.0) (and_left _ _ q.1)

-- a new-line with such white space before it at the front of a source: none in the source and none in its cells, or one in both, after which
-- the text goes on as if the source began there
abbrev Ends : Language → ℕ → ℕ → List ℕ → Type 0
Ends language at line bs =
    ((end_len language bs ≡ 0) × (end_cells language (replaced language at line bs) ≡ 0))
    ⊎ ((n : ℕ) × (k : ℕ) × (end_len language bs ≡ suc n) × (end_cells language (replaced language at line bs) ≡ suc k)
    × (drop (suc k) (spliced language (replaced language at line bs)) ≡ text_from language (at + suc n) (line + 1) (drop (suc n) bs))
    × (count_by lf bs ≡ 1 + count_by lf (drop (suc n) bs)))

-- a byte of such white space stands for itself
passed_cells : (language : Language) (at line b : ℕ) (bs : List ℕ) → is_passed language b ≡ true
    → replaced language at line (b ∷ bs) ≡ record { byte = b; first = at; last = at + 1; line = line } ∷ replaced language (at + 1) line bs
passed_cells language at line b bs h =
    let p = plain_front language b bs (passed_plain language b h) in
    let F : ℕ → ℕ → List Cell = λ c w. goes_on language at line c (drop w (b ∷ bs)) (at + w) in
    (gives_front language at line b bs).cells ∙ ap (λ c. F c (front_width language (b ∷ bs))) p.0 ∙ ap (λ w. F b w) p.1
    ∙ ap (λ l. record { byte = b; first = at; last = at + 1; line = line } ∷ replaced language (at + 1) l bs) (cond-false (eqb b 10) (line + 1) line (passed_not language 10 b refl h))

ends_line : (language : Language) (at line b : ℕ) (bs : List ℕ) → ltb 0 (new_line_len (b ∷ bs)) ≡ true → Ends language at line (b ∷ bs)
ends_line language at line b bs h =
    let src : List ℕ = b ∷ bs in
    let w : ℕ = new_line_len src in
    let g = gives_lf language at line src h in
    let more : 0 < w = ltb-true 0 w h in
    let is : w ≡ suc (w - 1) = omega (arith, more) in
    inr (
      w - 1,
      0,
      cond-true (ltb 0 w) w _ h ∙ is,
      ap (end_cells language) g.cells,
      ap (λ cells. drop 1 (spliced language cells)) g.cells ∙ ap (λ n. text_from language (at + n) (line + 1) (drop n src)) is,
      g.lines ∙ ap (λ n. 1 + count_by lf (drop n src)) is,
    )

ends_passed : (language : Language) (at line b : ℕ) (bs : List ℕ) → is_passed language b ≡ true → Ends language (at + 1) line bs → Ends language at line (b ∷ bs)
ends_passed language at line b bs h e =
    let cells = passed_cells language at line b bs h in
    let no_line = passed_not language 10 b refl h in
    let a : Cell = record { byte = b; first = at; last = at + 1; line = line } in
    let rest : List Cell = replaced language (at + 1) line bs in
    let len : end_len language (b ∷ bs) ≡ one_more (end_len language bs) =
    ap (λ n. cond (ltb 0 n) n (cond (is_passed language b) (one_more (end_len language bs)) 0)) (passed_no_line language b bs h)
    ∙ cond-true (is_passed language b) _ _ h in
    let many : end_cells language (replaced language at line (b ∷ bs)) ≡ one_more (end_cells language rest) =
    ap (end_cells language) cells ∙ cond-false (eqb b 10) _ _ no_line ∙ cond-true (is_passed language b) _ _ h in
    by cells len many e
  where
    by : replaced language at line (b ∷ bs) ≡ record { byte = b; first = at; last = at + 1; line = line } ∷ replaced language (at + 1) line bs
        → end_len language (b ∷ bs) ≡ one_more (end_len language bs)
        → end_cells language (replaced language at line (b ∷ bs)) ≡ one_more (end_cells language (replaced language (at + 1) line bs))
        → Ends language (at + 1) line bs → Ends language at line (b ∷ bs)
    by cells len many (inl (none, none')) = inl (len ∙ ap one_more none, many ∙ ap one_more none')
    by cells len many (inr (n, k, some, some', goes, lines)) =
        let place : at + 1 + suc n ≡ at + suc (suc n) = omega arith in
        let none : cond {A = ℕ} (eqb b 10) 1 0 ≡ 0 = cond-false (eqb b 10) 1 0 (passed_not language 10 b refl h) in
        let all : count_by lf (b ∷ bs) ≡ 1 + count_by lf (drop (suc n) bs) = omega (arith, count_cons b bs, none, lines) in
        inr (
          suc n,
          suc k,
          len ∙ ap one_more some,
          many ∙ ap one_more some',
          ap (λ cs. drop (suc (suc k)) (spliced language cs)) cells
              ∙ ap (drop (suc (suc k))) (spliced_pass language (record { byte = b; first = at; last = at + 1; line = line }) (replaced language (at + 1) line bs) (and_left _ _ (passed_not language 92 b refl h)))
              ∙ goes ∙ ap (λ p. text_from language p (line + 1) (drop (suc n) bs)) place,
          all,
        )

ends_none : (language : Language) (at line b : ℕ) (bs : List ℕ) → ltb 0 (new_line_len (b ∷ bs)) ≡ false → is_passed language b ≡ false → Ends language at line (b ∷ bs)
ends_none language at line b bs none other =
    inl (
      cond-false _ _ _ none ∙ cond-false _ _ _ other,
      ap (end_cells language) (gives_front language at line b bs).cells ∙ cond-false _ _ _ (front_lf language (b ∷ bs) ∙ none)
          ∙ cond-false _ _ _ (front_not language b bs none other),
    )

ends : (language : Language) (at line : ℕ) (bs : List ℕ) → Ends language at line bs
ends language at line [] = inl (refl, refl)
ends language at line (b ∷ bs) = by (ltb 0 (new_line_len (b ∷ bs))) (is_passed language b) refl refl (ends language (at + 1) line bs)
  where
    by : (x y : Bool) → ltb 0 (new_line_len (b ∷ bs)) ≡ x → is_passed language b ≡ y → Ends language (at + 1) line bs → Ends language at line (b ∷ bs)
    by true y h k more = ends_line language at line b bs h
    by false true h k more = ends_passed language at line b bs k more
    by false false h k more = ends_none language at line b bs h k

-- both see the same
same_end : (language : Language) (at line : ℕ) (bs : List ℕ) → ltb 0 (end_cells language (replaced language at line bs)) ≡ ltb 0 (end_len language bs)
same_end language at line bs = by (ends language at line bs)
  where
    by : Ends language at line bs → ltb 0 (end_cells language (replaced language at line bs)) ≡ ltb 0 (end_len language bs)
    by (inl (none, none')) = ap (ltb 0) none' ∙ ap (ltb 0) (sym none)
    by (inr (n, k, some, some', goes, lines)) = ap (ltb 0) some' ∙ lt-ltb 0 (suc k) (omega arith) ∙ sym (lt-ltb 0 (suc n) (omega arith)) ∙ ap (ltb 0) (sym some)

-- what comes behind it
abbrev GoesOn : Language → ℕ → ℕ → List ℕ → ℕ → ℕ → Type 0
GoesOn language at line bs k n =
    (drop k (spliced language (replaced language at line bs)) ≡ text_from language (at + n) (line + 1) (drop n bs)) × (count_by lf bs ≡ 1 + count_by lf (drop n bs))

behind_end : (language : Language) (at line : ℕ) (bs : List ℕ) → ltb 0 (end_len language bs) ≡ true
    → GoesOn language at line bs (end_cells language (replaced language at line bs)) (end_len language bs)
behind_end language at line bs h = by (ends language at line bs)
  where
    by : Ends language at line bs → GoesOn language at line bs (end_cells language (replaced language at line bs)) (end_len language bs)
    by (inl (none, none')) = absurd (omega (arith, none, ltb-true 0 (end_len language bs) h))
    by (inr (n, k, some, some', goes, lines)) =
        subst (λ (x : ℕ). GoesOn language at line bs x (end_len language bs)) (sym some')
        (subst (λ (x : ℕ). GoesOn language at line bs (suc k) x) (sym some) (goes, lines))

-- a source goes on with a byte of the text
pub text_byte : (language : Language) (at line b : ℕ) (bs : List ℕ) → begins_splice language (b ∷ bs) ≡ false → text_from language at line (b ∷ bs) ≡ record { byte = front_byte language (b ∷ bs); first = at; last = at + front_width language (b ∷ bs); line = line } ∷ text_from language (at + front_width language (b ∷ bs)) (cond (eqb (front_byte language (b ∷ bs)) 10) (line + 1) line) (drop (front_width language (b ∷ bs)) (b ∷ bs))
text_byte language at line b bs h =
    let src = b ∷ bs in
    let w = front_width language src in
    let next = cond (eqb (front_byte language src) 10) (line + 1) line in
    ap (spliced language) ((gives_front language at line b bs).cells) ∙ spliced_pass language (record { byte = front_byte language src; first = at; last = at + w; line = line }) (replaced language (at + w) next (drop w src)) (ap (λ x. eqb (front_byte language src) 92 && x) (same_end language (at + w) next (drop w src)) ∙ h)

-- or with a splice, and then as if the source began after it
pub text_splice : (language : Language) (at line b : ℕ) (bs : List ℕ) → begins_splice language (b ∷ bs) ≡ true → text_from language at line (b ∷ bs) ≡ text_from language (at + (front_width language (b ∷ bs) + end_len language (drop (front_width language (b ∷ bs)) (b ∷ bs)))) (line + 1) (drop (front_width language (b ∷ bs) + end_len language (drop (front_width language (b ∷ bs)) (b ∷ bs))) (b ∷ bs))
text_splice language at line b bs h =
    let src : List ℕ = b ∷ bs in
    let w : ℕ = front_width language src in
    let n : ℕ = end_len language (drop w src) in
    let parts = and_parts (eqb (front_byte language src) 92) (ltb 0 n) h in
    let a : Cell = record { byte = front_byte language src; first = at; last = at + w; line = line } in
    let rest : List Cell = replaced language (at + w) line (drop w src) in
    ap (spliced language) ((gives_front language at line b bs).cells)
    ∙ ap (λ l. spliced language (a ∷ replaced language (at + w) l (drop w src))) (cond-false (eqb (front_byte language src) 10) (line + 1) line (not_lf _ parts.0))
    ∙ cond-true (eqb a.byte 92 && ltb 0 (end_cells language rest)) (drop (end_cells language rest) (spliced language rest)) (a ∷ spliced language rest)
    (and_from (eqb a.byte 92) (ltb 0 (end_cells language rest)) parts.0 (same_end language (at + w) line (drop w src) ∙ parts.1))
    ∙ (behind_end language (at + w) line (drop w src) parts.1).0
    ∙ ap (λ r. text_from language (at + w + n) (line + 1) r) (drop-drop n w src) ∙ ap (λ p. text_from language p (line + 1) (drop (w + n) src)) (add_assoc at w n)

pub splice_lines : (language : Language) (b : ℕ) (bs : List ℕ) → begins_splice language (b ∷ bs) ≡ true → count_by lf (b ∷ bs) ≡ 1 + count_by lf (drop (front_width language (b ∷ bs) + end_len language (drop (front_width language (b ∷ bs)) (b ∷ bs))) (b ∷ bs))
splice_lines language b bs h =
    let src : List ℕ = b ∷ bs in
    let w : ℕ = front_width language src in
    let n : ℕ = end_len language (drop w src) in
    let parts = and_parts (eqb (front_byte language src) 92) (ltb 0 n) h in
    let e : cond {A = ℕ} (eqb (front_byte language src) 10) 1 0 ≡ 0 = cond-false {A = ℕ} (eqb (front_byte language src) 10) 1 0 (not_lf _ parts.0) in
    let f : count_by lf (drop w src) ≡ 1 + count_by lf (drop n (drop w src)) = (behind_end language 0 0 (drop w src) parts.1).1 in
    let g : count_by lf (drop n (drop w src)) ≡ count_by lf (drop (w + n) src) = ap (count_by lf) (drop-drop n w src) in
    let k : count_by lf src ≡ cond (eqb (front_byte language src) 10) 1 0 + count_by lf (drop w src) = byte_lines language b bs in
    omega arith

pub text_plain : (language : Language) (at line b : ℕ) (bs : List ℕ) → is_special b ≡ false → text_from language at line (b ∷ bs) ≡ record { byte = b; first = at; last = at + 1; line = line } ∷ text_from language (at + 1) (cond (eqb b 10) (line + 1) line) bs
text_plain language at line b bs h =
    let p = plain_front language b bs h in
    let q = or_parts (eqb b 13 || eqb b 63) (eqb b 92) h in
    let no_splice : begins_splice language (b ∷ bs) ≡ false = ap (λ c. eqb c 92 && ltb 0 (end_len language (drop (front_width language (b ∷ bs)) (b ∷ bs)))) p.0 ∙ and_left _ _ q.1 in
    let F : ℕ → ℕ → List Cell = λ c w. record { byte = c; first = at; last = at + w; line = line } ∷ text_from language (at + w) (cond (eqb c 10) (line + 1) line) (drop w (b ∷ bs)) in
    text_byte language at line b bs no_splice ∙ (ap (λ c. F c (front_width language (b ∷ bs))) p.0 ∙ ap (λ w. F b w) p.1)

-- without the byte order mark
abbrev pub has_mark : List ℕ → Bool
has_mark bs = (eqb (get_or bs 0 0) 0xef && eqb (get_or bs 1 0) 0xbb) && eqb (get_or bs 2 0) 0xbf

without_mark_by : (a b c : ℕ) (r : List ℕ) (t : Bool) → has_mark (a ∷ b ∷ c ∷ r) ≡ t → without_mark (cells_from 0 1 (a ∷ b ∷ c ∷ r)) ≡ cond t (cells_from 3 1 r) (cells_from 0 1 (a ∷ b ∷ c ∷ r))
without_mark_by a b c r true h =
    let p = and_parts (eqb a 0xef && eqb b 0xbb) (eqb c 0xbf) h in
    let q = and_parts (eqb a 0xef) (eqb b 0xbb) p.0 in
    let A : ℕ → Type 0 = λ x. without_mark (cells_from 0 1 (x ∷ b ∷ c ∷ r)) ≡ cells_from 3 1 r in
    let B : ℕ → Type 0 = λ x. without_mark (cells_from 0 1 (0xef ∷ x ∷ c ∷ r)) ≡ cells_from 3 1 r in
    let C : ℕ → Type 0 = λ x. without_mark (cells_from 0 1 (0xef ∷ 0xbb ∷ x ∷ r)) ≡ cells_from 3 1 r in
    subst A (sym (eqb-true a 0xef q.0)) (subst B (sym (eqb-true b 0xbb q.1)) (subst C (sym (eqb-true c 0xbf p.1)) refl))
without_mark_by a b c r false h = cond-false (has_mark (a ∷ b ∷ c ∷ r)) _ _ h

pub without_mark_is : (bs : List ℕ) → without_mark (cells_from 0 1 bs) ≡ cond (has_mark bs) (cells_from 3 1 (drop 3 bs)) (cells_from 0 1 bs)
without_mark_is [] = refl
without_mark_is (a ∷ []) = sym (cond-false _ _ _ (and_left _ _ (and_right _ _ refl)))
without_mark_is (a ∷ b ∷ []) = sym (cond-false _ _ _ (and_right _ _ refl))
without_mark_is (a ∷ b ∷ c ∷ r) = without_mark_by a b c r _ refl

-- the last new-line
cons_cond : (a : Cell) (t : Bool) (x y : List Cell) → a ∷ cond t x y ≡ cond t (a ∷ x) (a ∷ y)
cons_cond a true x y = refl
cons_cond a false x y = refl

pub ended_by_is : (end : Cell) (cells : List Cell) (c : Cell) → ended_by end (cells ++ c ∷ []) ≡ cond (eqb c.byte 10) (cells ++ c ∷ []) ((cells ++ c ∷ []) ++ end ∷ [])
ended_by_is end [] c = refl
ended_by_is end (a ∷ []) c = cons_cond a (eqb c.byte 10) (c ∷ []) (c ∷ end ∷ [])
ended_by_is end (a ∷ b ∷ r) c = ap (λ l. a ∷ l) (ended_by_is end (b ∷ r) c) ∙ cons_cond a _ _ _

---- such white space and a new-line, by a search

-- a new-line with such white space before it, by how far this goes
pub end-is : (language : Language) (bs : List ℕ) → end_len language bs
    ≡ cond (ltb 0 (new_line_len (drop (prefix_len (is_passed language) bs) bs))) (prefix_len (is_passed language) bs + new_line_len (drop (prefix_len (is_passed language) bs) bs)) 0
end-is language [] = refl
end-is language (b ∷ bs) = by (is_passed language b) refl (end-is language bs)
  where
    end_by : ℕ → ℕ → ℕ
    end_by n m = cond (ltb 0 m) (n + m) 0

    grown : (n m : ℕ) → one_more (end_by n m) ≡ end_by (suc n) m
    grown n m = more (ltb 0 m) refl
      where
        more : (t : Bool) → ltb 0 m ≡ t → one_more (cond t (n + m) 0) ≡ cond t (suc n + m) 0
        more false none = refl
        more true some =
            let is : n + m ≡ suc (n + m - 1) = omega (arith, ltb-true 0 m some) in
            let goal : suc (suc (n + m - 1)) ≡ suc n + m = omega (arith, is) in
            ap one_more is ∙ goal

    by : (t : Bool) → is_passed language b ≡ t
        → end_len language bs ≡ end_by (prefix_len (is_passed language) bs) (new_line_len (drop (prefix_len (is_passed language) bs) bs))
        → end_len language (b ∷ bs) ≡ end_by (prefix_len (is_passed language) (b ∷ bs)) (new_line_len (drop (prefix_len (is_passed language) (b ∷ bs)) (b ∷ bs)))
    by true h more =
        let n : ℕ = prefix_len (is_passed language) bs in
        let m : ℕ = new_line_len (drop n bs) in
        let one : 1 + n ≡ suc n = omega arith in
        let len : prefix_len (is_passed language) (b ∷ bs) ≡ suc n = cond-true (is_passed language b) (1 + n) 0 h ∙ one in
        ap (λ k. cond (ltb 0 k) k (cond (is_passed language b) (one_more (end_len language bs)) 0)) (passed_no_line language b bs h)
        ∙ cond-true (is_passed language b) _ _ h ∙ ap one_more more ∙ grown n m
        ∙ ap (λ k. end_by k (new_line_len (drop k (b ∷ bs)))) (sym len)
    by false h more =
        let len : prefix_len (is_passed language) (b ∷ bs) ≡ 0 = cond-false (is_passed language b) _ _ h in
        let here : new_line_len (b ∷ bs) ≡ 0 + new_line_len (b ∷ bs) = omega arith in
        ap (λ k. cond (ltb 0 (new_line_len (b ∷ bs))) (new_line_len (b ∷ bs)) k) (cond-false (is_passed language b) _ _ h)
        ∙ ap (λ k. cond (ltb 0 (new_line_len (b ∷ bs))) k 0) here
        ∙ ap (λ k. end_by k (new_line_len (drop k (b ∷ bs)))) (sym len)

-- the same, by what the program finds
pub end-found : (language : Language) (bs : List ℕ) (p m : ℕ) → p ≡ 0 + prefix_len (is_passed language) (drop 0 bs) → m ≡ new_line_len (take (length bs - p) (drop p bs))
    → end_len language bs ≡ cond (ltb 0 m) (p + m) 0
end-found language bs p m at is =
    let q : ℕ = prefix_len (is_passed language) bs in
    let same : p ≡ q = omega (arith, at) in
    let there : m ≡ new_line_len (drop q bs) = is ∙ ap new_line_len (take_rest bs p) ∙ ap (λ k. new_line_len (drop k bs)) same in
    end-is language bs ∙ ap (λ k. cond {A = ℕ} (ltb 0 k) (q + k) 0) (sym there) ∙ ap (λ k. cond {A = ℕ} (ltb 0 m) (k + m) 0) (sym same)
