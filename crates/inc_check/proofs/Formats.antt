-- Texts that are made of lines, and where an input breaks off that is none of them.
use Rattle.std.proofs.Common.{◌≡◌, ℕ, ◌+◌, ◌-◌, ◌<◌, ◌≤◌, Bool, true, false, List, [], ◌∷◌, ◌++◌, length, take, drop, refl, sym, ap, ◌∙◌, subst, arith, inl, inr}
use Rattle.std.specs.Prelude.{◌==◌, nat_le, if◌then◌else◌}
use Rattle.std.specs.List.{list_any}
use Rattle.std.proofs.lemmas.Bool.{cases_Bool, or_parts, leb-true, leb-false}
use Rattle.std.proofs.lemmas.Grind.{flat_map-append}
use Rattle.std.proofs.lemmas.List.{take-take, append-nil, append_assoc, take-append-drop, take-append-le, length-append}
use Rattle.std.proofs.Math.Seq.{take-append_seam, take-append-add}
use Rattle.std.proofs.lemmas.List.Sums.{sum_by-cons, sum_by-append}
use Rattle.inc_check.specs.Texts.{line_text, lines_text, line_feeds, AreClean, Format, Begins, IsMalformed, IsOfLongest}

---- counting LF

pub feeds_cons : (b : ℕ) (bs : List ℕ) → line_feeds (b ∷ bs) ≡ (if b == 10 then 1 else 0) + line_feeds bs
feeds_cons b bs = sum_by-cons (λ x. if x == 10 then 1 else 0) b bs

pub feeds_append : (xs ys : List ℕ) → line_feeds (xs ++ ys) ≡ line_feeds xs + line_feeds ys
feeds_append xs ys = sum_by-append (λ x. if x == 10 then 1 else 0) xs ys

abbrev pub lf : ℕ → Bool
lf b = b == 10

pub count_none : (bs : List ℕ) → list_any lf bs ≡ false → line_feeds bs ≡ 0
count_none [] e = refl
count_none (b ∷ bs) e =
    let parts = or_parts (lf b) (list_any lf bs) e in
    let here : line_feeds (b ∷ bs) ≡ 0 + line_feeds bs = feeds_cons b bs ∙ (rw parts.0 refl) in
    let rest = count_none bs parts.1 in omega arith

---- lines without LF

pub clean-append : (ls ms : List (List ℕ)) → AreClean ls → AreClean ms → AreClean (ls ++ ms)
clean-append [] ms c d = d
clean-append (l ∷ ls) ms c d = (c.0, clean-append ls ms c.1 d)

pub clean_rest : (ks ms : List (List ℕ)) → AreClean (ks ++ ms) → AreClean ms
clean_rest [] ms c = c
clean_rest (k ∷ ks) ms c = clean_rest ks ms c.1

-- the first byte of such a line is no LF, and the rest has none
clean_tail : (b : ℕ) (l : List ℕ) → line_feeds (b ∷ l) ≡ 0 → (b ≡ 10 → ⊥) × (line_feeds l ≡ 0)
clean_tail b l e = cases (b == 10) refl
  where
    cases : (t : Bool) → (b == 10) ≡ t → (b ≡ 10 → ⊥) × (line_feeds l ≡ 0)
    cases true is = let one : line_feeds (b ∷ l) ≡ 1 + line_feeds l = feeds_cons b l ∙ (rw is refl) in absurd (omega arith)
    cases false is = (λ same. differs same, let none : line_feeds (b ∷ l) ≡ 0 + line_feeds l = feeds_cons b l ∙ (rw is refl) in omega arith)
      where
        differs : b ≡ 10 → ⊥
        differs same = let yes' : (10 == 10) ≡ false = subst (λ c. (c == 10) ≡ false) same is in cc

pub lines_text-append : (ls ms : List (List ℕ)) → lines_text (ls ++ ms) ≡ lines_text ls ++ lines_text ms
lines_text-append ls ms = flat_map-append line_text ls ms

feeds_line : (l : List ℕ) → line_feeds l ≡ 0 → line_feeds (line_text l) ≡ 1
feeds_line l e = feeds_append l (10 ∷ []) ∙ ap (λ n. n + 1) e

pub feeds_lines : (ls : List (List ℕ)) → AreClean ls → line_feeds (lines_text ls) ≡ length ls
feeds_lines [] c = refl
feeds_lines (l ∷ ls) c =
    let all = feeds_append (line_text l) (lines_text ls) in
    let here = feeds_line l c.0 in
    let rest = feeds_lines ls c.1 in omega arith

-- a line ends at its LF
line_unique : (k l xs ys : List ℕ) → line_feeds k ≡ 0 → line_feeds l ≡ 0 → k ++ 10 ∷ xs ≡ l ++ 10 ∷ ys → (k ≡ l) × (xs ≡ ys)
line_unique [] [] xs ys c d e = (refl, cc)
line_unique [] (b ∷ l) xs ys c d e = let same : b ≡ 10 = cc in absurd ((clean_tail b l d).0 same)
line_unique (b ∷ k) [] xs ys c d e = let same : b ≡ 10 = cc in absurd ((clean_tail b k c).0 same)
line_unique (b ∷ k) (f ∷ l) xs ys c d e =
    let rest : k ++ 10 ∷ xs ≡ l ++ 10 ∷ ys = cc in
    let same : b ≡ f = cc in
    let parts = line_unique k l xs ys (clean_tail b k c).1 (clean_tail f l d).1 rest in
    let first = parts.0 in (cc, parts.1)

line_first : (l : List ℕ) (rest : List ℕ) → line_text l ++ rest ≡ l ++ 10 ∷ rest
line_first l rest = append_assoc l (10 ∷ []) rest

not_empty : (l rest : List ℕ) → [] ≡ l ++ 10 ∷ rest → ⊥
not_empty [] rest e = cc
not_empty (b ∷ l) rest e = cc

-- a text of lines that goes on from others begins with these
pub prefix_lines : (ks ls : List (List ℕ)) (x : List ℕ) → AreClean ks → AreClean ls → lines_text ks ≡ lines_text ls ++ x → (ms : List (List ℕ)) × (ks ≡ ls ++ ms) × (lines_text ms ≡ x)
prefix_lines ks [] x c d e = (ks, refl, e)
prefix_lines [] (l ∷ ls) x c d e = absurd (not_empty l (lines_text ls ++ x) (e ∙ append_assoc (line_text l) (lines_text ls) x ∙ line_first l (lines_text ls ++ x)))
prefix_lines (k ∷ ks) (l ∷ ls) x c d e =
    let parts = line_unique k l (lines_text ks) (lines_text ls ++ x) c.0 d.0 (sym (line_first k (lines_text ks)) ∙ e ∙ append_assoc (line_text l) (lines_text ls) x ∙ line_first l (lines_text ls ++ x)) in
    let more = prefix_lines ks ls x c.1 d.1 parts.1 in
    let first = parts.0 in
    let rest = more.1 in (more.0, cc, more.2)

---- texts of values, which are made of lines

pub record IsShape {A : Type 0} (T : A → List (List ℕ)) (V : A → Type 0) (F : List ℕ → Type 0) : Type 0 where
  pub to : (text : List ℕ) → F text → (a : A) × (lines_text (T a) ≡ text) × V a
  pub from : (a : A) → V a → F (lines_text (T a))
  pub clean : (a : A) → V a → AreClean (T a)

-- some value has these lines first
abbrev pub Goes : {A : Type 0} → (A → List (List ℕ)) → (A → Type 0) → List (List ℕ) → Type 0
Goes {A} T V done = (a : A) × (ms : List (List ℕ)) × V a × (T a ≡ done ++ ms)

fewer : (n : ℕ) (xs : List ℕ) → line_feeds (take n xs) ≤ line_feeds xs
fewer n xs =
    let all = feeds_append (take n xs) (drop n xs) in
    let same = ap line_feeds (take-append-drop n xs) in omega arith

begins_done : {A : Type 0} (T : A → List (List ℕ)) (V : A → Type 0) (F : List ℕ → Type 0) → IsShape T V F → (done : List (List ℕ)) → Goes T V done → (text : List ℕ) → text ≡ lines_text done → Begins F text
begins_done T V F shape done goes text is =
    (lines_text goes.1, subst F (ap lines_text goes.3 ∙ lines_text-append done goes.1 ∙ ap (λ t. t ++ lines_text goes.1) (sym is)) (shape.from goes.0 goes.2))

-- an input breaks off at a line that follows these lines in no text
pub malformed_line : {A : Type 0} (T : A → List (List ℕ)) (V : A → Type 0) (F : List ℕ → Type 0) → IsShape T V F → (done : List (List ℕ)) (l more input : List ℕ) → AreClean done → line_feeds l ≡ 0 → input ≡ lines_text done ++ (l ++ 10 ∷ more) → Goes T V done → ((a : A) (ms : List (List ℕ)) → V a → T a ≡ done ++ l ∷ ms → ⊥) → IsMalformed F input (1 + length done)
malformed_line {A} T V F shape done l more input clean bare is goes bad = record {
  refused = λ f. let it = shape.to input f in never it.0 it.2 more (it.1 ∙ through);
  good = length (lines_text done);
  fits = let all = ap length is ∙ length-append (lines_text done) (l ++ 10 ∷ more) in omega arith;
  begins = begins_done T V F shape done goes (take (length (lines_text done)) input) front;
  line_is = ap (λ n. 1 + n) (sym (ap line_feeds front ∙ feeds_lines done clean));
  most = λ n low b. let it = shape.to (take n input ++ b.0) b.1 in most n it.0 it.2 b.0 it.1;
}
  where
    front : take (length (lines_text done)) input ≡ lines_text done
    front = ap (take (length (lines_text done))) is ∙ take-append_seam (lines_text done) (l ++ 10 ∷ more)

    head_is : lines_text (done ++ l ∷ []) ≡ (lines_text done ++ l) ++ 10 ∷ []
    head_is = lines_text-append done (l ∷ []) ∙ ap (λ t. lines_text done ++ t) (append-nil (line_text l)) ∙ sym (append_assoc (lines_text done) l (10 ∷ []))

    through : input ≡ lines_text (done ++ l ∷ []) ++ more
    through = is ∙ sym (ap (λ t. t ++ more) head_is ∙ append_assoc (lines_text done ++ l) (10 ∷ []) more ∙ append_assoc (lines_text done) l (10 ∷ more))

    never : (a : A) → V a → (x : List ℕ) → lines_text (T a) ≡ lines_text (done ++ l ∷ []) ++ x → ⊥
    never a v x e =
        let parts = prefix_lines (T a) (done ++ l ∷ []) x (shape.clean a v) (clean-append done (l ∷ []) clean (bare, tt)) e in
        bad a parts.0 v (parts.1 ∙ append_assoc done (l ∷ []) parts.0)

    few : (n : ℕ) → n ≤ length (lines_text done ++ l) → line_feeds (take n input) ≤ length done
    few n low =
        let cut = ap (take n) (is ∙ sym (append_assoc (lines_text done) l (10 ∷ more))) ∙ take-append-le n (lines_text done ++ l) (10 ∷ more) low in
        let same = ap line_feeds cut in
        let less = fewer n (lines_text done ++ l) in
        let all = feeds_append (lines_text done) l in
        let lines = feeds_lines done clean in omega arith

    many : (n : ℕ) (a : A) → V a → (rest : List ℕ) → lines_text (T a) ≡ take n input ++ rest → length (lines_text done ++ l) < n → ⊥
    many n a v rest e high =
        let size : length (lines_text (done ++ l ∷ [])) ≡ length (lines_text done ++ l) + 1 = ap length head_is ∙ length-append (lines_text done ++ l) (10 ∷ []) in
        let j : n ≡ length (lines_text (done ++ l ∷ [])) + (n - length (lines_text (done ++ l ∷ []))) = omega arith in
        let cut = ap (λ k. take k input) j ∙ ap (take (length (lines_text (done ++ l ∷ [])) + (n - length (lines_text (done ++ l ∷ []))))) through ∙ take-append-add (lines_text (done ++ l ∷ [])) more (n - length (lines_text (done ++ l ∷ []))) in
        never a v (take (n - length (lines_text (done ++ l ∷ []))) more ++ rest)
        (e ∙ ap (λ t. t ++ rest) cut ∙ append_assoc (lines_text (done ++ l ∷ [])) (take (n - length (lines_text (done ++ l ∷ []))) more) rest)

    most : (n : ℕ) (a : A) → V a → (rest : List ℕ) → lines_text (T a) ≡ take n input ++ rest → line_feeds (take n input) ≤ line_feeds (take (length (lines_text done)) input)
    most n a v rest e =
        let count : line_feeds (take (length (lines_text done)) input) ≡ length done = ap line_feeds front ∙ feeds_lines done clean in
        elim (cases_Bool (nat_le n (length (lines_text done ++ l)))) [
          | inl low ↦ let less = few n (leb-true n (length (lines_text done ++ l)) low) in omega arith
          | inr high ↦ absurd (many n a v rest e (leb-false n (length (lines_text done ++ l)) high))
        ]

-- an input breaks off at its end
pub malformed_end : {A : Type 0} (T : A → List (List ℕ)) (V : A → Type 0) (F : List ℕ → Type 0) → IsShape T V F → (done : List (List ℕ)) (l input : List ℕ) → AreClean done → line_feeds l ≡ 0 → input ≡ lines_text done ++ l → Goes T V done → (l ≡ [] → (a : A) → V a → T a ≡ done → ⊥) → IsMalformed F input (1 + length done)
malformed_end {A} T V F shape done l input clean bare is goes bad = record {
  refused = λ f. let it = shape.to input f in never it.0 it.2 (it.1 ∙ is);
  good = length (lines_text done);
  fits = let all = ap length is ∙ length-append (lines_text done) l in omega arith;
  begins = begins_done T V F shape done goes (take (length (lines_text done)) input) front;
  line_is = ap (λ n. 1 + n) (sym (ap line_feeds front ∙ feeds_lines done clean));
  most = λ n low b. most n;
}
  where
    front : take (length (lines_text done)) input ≡ lines_text done
    front = ap (take (length (lines_text done))) is ∙ take-append_seam (lines_text done) l

    last : (ms : List (List ℕ)) → AreClean ms → lines_text ms ≡ l → (ms ≡ []) × (l ≡ [])
    last [] c e = (refl, sym e)
    last (m ∷ ms) c e =
        let count = feeds_lines (m ∷ ms) c in
        let same = ap line_feeds e in absurd (omega arith)

    never : (a : A) → V a → lines_text (T a) ≡ lines_text done ++ l → ⊥
    never a v e =
        let parts = prefix_lines (T a) done l (shape.clean a v) clean e in
        let end = last parts.0 (clean_rest done parts.0 (subst AreClean parts.1 (shape.clean a v))) parts.2 in
        bad end.1 a v (parts.1 ∙ ap (λ ms. done ++ ms) end.0 ∙ append-nil done)

    most : (n : ℕ) → line_feeds (take n input) ≤ line_feeds (take (length (lines_text done)) input)
    most n =
        let less = fewer n input in
        let all = ap line_feeds is ∙ feeds_append (lines_text done) l in
        let same = ap line_feeds front in omega arith

-- a part of another has no more LF
part_fewer : (n m : ℕ) (xs : List ℕ) → n ≤ m → line_feeds (take n xs) ≤ line_feeds (take m xs)
part_fewer n m xs low = subst (λ t. line_feeds t ≤ line_feeds (take m xs)) (take-take n m xs low) (fewer n (take m xs))

-- the line where an input breaks off is that after its longest part that begins a text
pub of_longest : (F : Format) → IsOfLongest F
of_longest F input line n bad fits begins longest =
    let more = bad.most n fits begins in
    let is = bad.line_is in
    elim (cases_Bool (nat_le bad.good n)) [
      | inl low ↦ let less = part_fewer bad.good n input (leb-true bad.good n low) in omega arith
      | inr high ↦ absurd (longest bad.good (leb-false bad.good n high) bad.fits bad.begins)
    ]
