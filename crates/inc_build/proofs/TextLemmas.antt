-- The texts of include paths tell them apart.
use Rattle.std.proofs.Common.{◌≡◌, ℕ, suc, true, false, List, [], ◌∷◌, drop, get_or, inl, inr, refl, sym, ap, ◌∙◌, arith}
use Rattle.std.specs.Prelude.{◌==◌, if◌then◌else◌, nat_le}
use Rattle.std.proofs.lemmas.Bool.{cases_Bool, leb-false}
use Rattle.inc_build.specs.Builds.{letter, path_text, text_of}
use Rattle.inc_build.specs.Configurations.{Row}
use Rattle.inc_build.specs.declared.compiler_words.Kind.{Kind}
use Rattle.inc_build.specs.declared.compiler_words.Kind.TheVariants.{Quoted, Searched, System, Last, Macros, Included, Defined, Undefined}

head_is : (x y : ℕ) (xs ys : List ℕ) → x ∷ xs ≡ y ∷ ys → x ≡ y
head_is x y xs ys is = ap (λ (l : List ℕ). get_or l 0 0) is

tail_is : (x y : ℕ) (xs ys : List ℕ) → x ∷ xs ≡ y ∷ ys → xs ≡ ys
tail_is x y xs ys is = ap (λ (l : List ℕ). drop 1 l) is

low_text : (b : ℕ) (bs r : List ℕ) → nat_le b 1 ≡ true → path_text (b ∷ bs) r ≡ 1 ∷ suc b ∷ path_text bs r
low_text b bs r low = rw low refl

high_text : (b : ℕ) (bs r : List ℕ) → nat_le b 1 ≡ false → path_text (b ∷ bs) r ≡ b ∷ path_text bs r
high_text b bs r high = rw high refl

-- no path goes on where another one ends
not_ended : (b : ℕ) (bs r s : List ℕ) → 0 ∷ s ≡ path_text (b ∷ bs) r → ⊥
not_ended b bs r s is =
    elim (cases_Bool (nat_le b 1)) [
      | inl low ↦ let bad = head_is 0 1 s (suc b ∷ path_text bs r) (is ∙ low_text b bs r low) in omega (arith, bad)
      | inr high ↦
          let bad = head_is 0 b s (path_text bs r) (is ∙ high_text b bs r high) in
          let most = leb-false b 1 high in
          omega (arith, bad, most)
    ]

-- two bytes that begin two paths of one text are one byte
pub same_path : (p q r s : List ℕ) → path_text p r ≡ path_text q s → (p ≡ q) × (r ≡ s)
same_path [] [] r s is = (refl, tail_is 0 0 r s is)
same_path [] (c ∷ cs) r s is = absurd (not_ended c cs s r is)
same_path (b ∷ bs) [] r s is = absurd (not_ended b bs r s (sym is))
same_path (b ∷ bs) (c ∷ cs) r s is =
    elim (cases_Bool (nat_le b 1)) [
      | inl low ↦
          elim (cases_Bool (nat_le c 1)) [
            | inl low2 ↦
                let both = sym (low_text b bs r low) ∙ is ∙ low_text c cs s low2 in
                let rest = tail_is 1 1 (suc b ∷ path_text bs r) (suc c ∷ path_text cs s) both in
                let byte : b ≡ c = omega (arith, head_is (suc b) (suc c) (path_text bs r) (path_text cs s) rest) in
                let more = same_path bs cs r s (tail_is (suc b) (suc c) (path_text bs r) (path_text cs s) rest) in
                (rw (byte, more.0) refl, more.1)
            | inr high2 ↦
                let bad = head_is 1 c (suc b ∷ path_text bs r) (path_text cs s) (sym (low_text b bs r low) ∙ is ∙ high_text c cs s high2) in
                let most = leb-false c 1 high2 in
                absurd (omega (arith, bad, most))
          ]
      | inr high ↦
          elim (cases_Bool (nat_le c 1)) [
            | inl low2 ↦
                let bad = head_is b 1 (path_text bs r) (suc c ∷ path_text cs s) (sym (high_text b bs r high) ∙ is ∙ low_text c cs s low2) in
                let most = leb-false b 1 high in
                absurd (omega (arith, bad, most))
            | inr high2 ↦
                let both = sym (high_text b bs r high) ∙ is ∙ high_text c cs s high2 in
                let byte = head_is b c (path_text bs r) (path_text cs s) both in
                let more = same_path bs cs r s (tail_is b c (path_text bs r) (path_text cs s) both) in
                (rw (byte, more.0) refl, more.1)
          ]
    ]

abbrev kind_of : ℕ → Kind
kind_of n =
    if n == 113 then Quoted else if n == 73 then Searched else if n == 115 then System else if n == 97 then Last else
    if n == 109 then Macros else if n == 105 then Included else if n == 68 then Defined else Undefined

kind_of-letter : (k : Kind) → kind_of (letter k) ≡ k
kind_of-letter Quoted = refl
kind_of-letter Searched = refl
kind_of-letter System = refl
kind_of-letter Last = refl
kind_of-letter Macros = refl
kind_of-letter Included = refl
kind_of-letter Defined = refl
kind_of-letter Undefined = refl

abbrev count : List ℕ → ℕ
count [] = 0
count (x ∷ xs) = 1

not_empty : (x : ℕ) (xs : List ℕ) → [] ≡ x ∷ xs → ⊥
not_empty x xs is = let bad : 0 ≡ 1 = ap count is in omega (arith, bad)

row_at : (c : Row) (kind : Kind) (path name : List ℕ) → kind ≡ c.kind → path ≡ c.path → name ≡ c.name → record { kind = kind; path = path; name = name } ≡ c
row_at c kind path name kinds paths names = rw (kinds, paths, names) refl

pub same_rows : (cs ds : List Row) → text_of cs ≡ text_of ds → cs ≡ ds
same_rows [] [] is = refl
same_rows [] (d ∷ ds) is = absurd (not_empty (letter d.kind) (path_text d.path (path_text d.name (text_of ds))) is)
same_rows (c ∷ cs) [] is = absurd (not_empty (letter c.kind) (path_text c.path (path_text c.name (text_of cs))) (sym is))
same_rows (c ∷ cs) (d ∷ ds) is =
    let first = path_text c.path (path_text c.name (text_of cs)) in
    let second = path_text d.path (path_text d.name (text_of ds)) in
    let kind : c.kind ≡ d.kind = sym (kind_of-letter c.kind) ∙ ap kind_of (head_is (letter c.kind) (letter d.kind) first second is) ∙ kind_of-letter d.kind in
    let paths = same_path c.path d.path (path_text c.name (text_of cs)) (path_text d.name (text_of ds)) (tail_is (letter c.kind) (letter d.kind) first second is) in
    let names = same_path c.name d.name (text_of cs) (text_of ds) paths.1 in
    rw (sym (row_at c c.kind c.path c.name refl refl refl) ∙ row_at d c.kind c.path c.name kind paths.0 names.0, same_rows cs ds names.1) refl
