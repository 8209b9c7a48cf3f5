-- The lines of certificates as they are printed: those that name directives, and the others, which name none.
use Rattle.std.proofs.Common.{◌≡◌, ℕ, ◌<◌, ◌≤◌, Bool, true, false, List, [], ◌∷◌, ◌++◌, Option, Some, None, length, map, get_or, refl, sym, ap, ◌∙◌, subst, arith}
use Rattle.std.specs.Prelude.{◌==◌, codes, decimal, flat_map, if◌then◌else◌, nat_le}
use Rattle.std.specs.List.{list_all, list_any}
use Rattle.std.proofs.lemmas.Bool.{and_parts, leb-true, or_parts}
use Rattle.std.proofs.lemmas.List.{get_or_append_left}
use Rattle.std.proofs.lemmas.Str.Parse.{digit_at}
use Rattle.inc_lookup.specs.declared.listings.TheConstants.{LONGEST_PATH}
use Rattle.inc_graph.specs.Marks.{Mark, is_mark}
use Rattle.inc_check.specs.declared.ahead.TheConstants.{LONGEST_LINE}
use Rattle.inc_check.specs.declared.certificates.Certificate.{Certificate}
use Rattle.inc_check.specs.declared.certificates.CountedMarks.{CountedMarks}
use Rattle.inc_check.specs.declared.line_parts.ChainHead.{ChainHead}
use Rattle.inc_check.specs.declared.read_texts.Stage.{Stage}
use Rattle.inc_check.specs.declared.read_texts.Stage.TheVariants.{Start, Cut, Chains, Chain}
use Rattle.inc_check.specs.Texts.{greatest_number, count_line, mark_line, mark_lines, times_text, chain_lines, cut_lines, chains_lines, certificate_lines, is_small_chain, is_small_mark, is_short_mark}
use Rattle.inc_check.specs.Reading.{State, begins_number, head_in, listed_mark, mark_at_place, mark_in, number_behind, or_placed, plain_by, plain_line, short_mark, short_mark_in, with_chain, with_chains, with_cut, with_head, with_next}
use Rattle.inc_check.proofs.Numerals.{all_digits, length-numeral}
use Rattle.inc_check.proofs.PlaceLemmas.{is_colon, no_colon}
use Rattle.inc_check.proofs.WordLemmas.{head_in-Some, head_line, if_some, mark_in-Some, none_of, number_behind-Some}
use Rattle.inc_check.proofs.ShortMarks.{AreShort, short_mark_in-line, short_mark_in-Some}
use Rattle.inc_check.proofs.CertificateFormats.{IsSmall, IsSmallChain, small_chain, small_list}

---- lines that name no directive

-- it begins with `c`, and holds no colon
pub record IsHeadLine (l : List ℕ) : Type 0 where
  pub first : get_or l 0 0 ≡ 99
  pub bare : list_any is_colon l ≡ false

bare_decimal : (n : ℕ) → n ≤ greatest_number → list_any is_colon (decimal n) ≡ false
bare_decimal n low = none_of 58 (λ below. absurd (omega arith)) (decimal n) (all_digits (decimal n) n low refl)

bare_both : (xs ys : List ℕ) → list_any is_colon xs ≡ false → list_any is_colon ys ≡ false → list_any is_colon (xs ++ ys) ≡ false
bare_both [] ys v w = w
bare_both (x ∷ xs) ys v w =
    let parts = or_parts (is_colon x) (list_any is_colon xs) v in rw parts.0 (bare_both xs ys parts.1 w)

pub cut_head : (n : ℕ) → n ≤ greatest_number → IsHeadLine (count_line (codes "cut") n)
cut_head n low = record { first = refl; bare = bare_decimal n low }

pub chains_head : (n : ℕ) → n ≤ greatest_number → IsHeadLine (count_line (codes "chains") n)
chains_head n low = record { first = refl; bare = bare_decimal n low }

bare_times : (k : ℕ) → k ≤ greatest_number → list_any is_colon (times_text k) ≡ false
bare_times k low = when (k == 1)
  where
    when : (one : Bool) → list_any is_colon (if one then [] else codes " times " ++ decimal k) ≡ false
    when true = refl
    when false = bare_decimal k low

pub chain_head : (n k : ℕ) → n ≤ greatest_number → k ≤ greatest_number → IsHeadLine (head_line n k)
chain_head n k low few = record { first = refl; bare = bare_both (decimal n) (times_text k) (bare_decimal n low) (bare_times k few) }

-- a line that names a directive begins with a digit
pub no_head : (m : Mark) → is_small_mark m ≡ true → get_or (mark_line m) 0 0 ≡ 99 → ⊥
no_head m small first =
    let low : m.line ≤ greatest_number = leb-true m.line greatest_number (and_parts (is_mark m) (nat_le m.line greatest_number) small).1 in
    let some : 0 < length (decimal m.line) = (length-numeral (decimal m.line) m.line low refl).0 in
    let digit = digit_at (decimal m.line) 0 (all_digits (decimal m.line) m.line low refl) some in
    let high = digit.1 in
    let same = get_or_append_left (decimal m.line) (32 ∷ m.path) 0 0 some in
    omega (arith, first, high, same)

none_when : (o : Option Mark) → ((m : Mark) → o ≡ Some m → ⊥) → o ≡ None
none_when None never = refl
none_when (Some m) never = absurd (never m refl)

head_names_none : (l : List ℕ) → IsHeadLine l → short_mark_in l ≡ None
head_names_none l head = both (nat_le (length l) LONGEST_LINE) (short_mark (listed_mark l)) (ap short_mark listed)
  where
    both : (t : Bool) (o : Option Mark) → o ≡ None → (if t then o else None) ≡ None
    both true o none = none
    both false o none = refl

    mark : mark_in l ≡ None
    mark = none_when (mark_in l) (λ m is.
        let parts = mark_in-Some l m is in
        no_head m parts.1 (ap (λ (bs : List ℕ). get_or bs 0 0) parts.0 ∙ head.first))

    listed : listed_mark l ≡ None
    listed = ap (λ (o : Option Mark). or_placed o l) mark ∙ ap (mark_at_place l) (no_colon begins_number l 0 head.bare)

pub plain_head : (l : List ℕ) → IsHeadLine l → plain_line l ≡ l
plain_head l head = ap (λ (o : Option Mark). plain_by o l) (head_names_none l head)

-- and no other line is printed as it
pub head_is_plain : (l k : List ℕ) → IsHeadLine k → plain_line l ≡ k → l ≡ k
head_is_plain l k head e = when (short_mark_in l) refl e
  where
    when : (o : Option Mark) → short_mark_in l ≡ o → plain_by o l ≡ k → l ≡ k
    when None is f = f
    when (Some m) is f =
        let short = and_parts (is_small_mark m) (nat_le (length m.path) LONGEST_PATH) (short_mark_in-Some l m is).1 in
        absurd (no_head m short.0 (ap (λ (bs : List ℕ). get_or bs 0 0) f ∙ head.first))

-- what is read as a head is one
module _ (s t : State) (l : List ℕ) where
  next_is : with_next s l ≡ Some t → IsHeadLine l
  next_is e = when (head_in l) refl (if_some _ (with_chain s (head_in l)) t e).1
    where
      when : (o : Option ChainHead) → head_in l ≡ o → with_chain s o ≡ Some t → IsHeadLine l
      when None is f = cc
      when (Some h) is f =
          let parts = head_in-Some l h is in subst IsHeadLine parts.0 (chain_head h.length h.count parts.1 parts.3)

  pub head_is : (st : Stage) → with_head st s l ≡ Some t → IsHeadLine l
  head_is Start e = when (number_behind (codes "cut ") l) refl e
    where
      when : (o : Option ℕ) → number_behind (codes "cut ") l ≡ o → with_cut s o ≡ Some t → IsHeadLine l
      when None is f = cc
      when (Some n) is f =
          let parts = number_behind-Some (codes "cut ") l n is in subst IsHeadLine parts.0 (cut_head n parts.1)
  head_is Cut e = when (number_behind (codes "chains ") l) refl e
    where
      when : (o : Option ℕ) → number_behind (codes "chains ") l ≡ o → with_chains s o ≡ Some t → IsHeadLine l
      when None is f = cc
      when (Some n) is f =
          let parts = number_behind-Some (codes "chains ") l n is in subst IsHeadLine parts.0 (chains_head n parts.1)
  head_is Chains e = next_is e
  head_is Chain e = next_is e

---- lines that name one

plain_printed : (m : Mark) → is_short_mark m ≡ true → plain_line (mark_line m) ≡ mark_line m
plain_printed m short = ap (λ (o : Option Mark). plain_by o (mark_line m)) (short_mark_in-line m short)

-- a line that is printed as that of a directive names it
pub plain_mark : (l : List ℕ) (m : Mark) → is_short_mark m ≡ true → plain_line l ≡ mark_line m → short_mark_in l ≡ Some m
plain_mark l m short e = when (short_mark_in l) refl e
  where
    when : (o : Option Mark) → short_mark_in l ≡ o → plain_by o l ≡ mark_line m → short_mark_in l ≡ Some m
    when None is f = ap short_mark_in f ∙ short_mark_in-line m short
    when (Some k) is f =
        is ∙ sym (short_mark_in-line k (short_mark_in-Some l k is).1) ∙ ap short_mark_in f ∙ short_mark_in-line m short

---- whole certificates

-- each line is as it is printed
abbrev pub ArePlain : List (List ℕ) → Type 0
ArePlain [] = Unit {0}
ArePlain (l ∷ ls) = (plain_line l ≡ l) × ArePlain ls

plain_both : (ls ms : List (List ℕ)) → ArePlain ls → ArePlain ms → ArePlain (ls ++ ms)
plain_both [] ms p q = q
plain_both (l ∷ ls) ms p q = (p.0, plain_both ls ms p.1 q)

pub plain_rest : (ls ms : List (List ℕ)) → ArePlain (ls ++ ms) → ArePlain ms
plain_rest [] ms p = p
plain_rest (l ∷ ls) ms p = plain_rest ls ms p.1

pub plain_map : (ls : List (List ℕ)) → ArePlain ls → map plain_line ls ≡ ls
plain_map [] p = refl
plain_map (l ∷ ls) p = ap (λ (k : List ℕ). k ∷ map plain_line ls) p.0 ∙ ap (λ (ks : List (List ℕ)). l ∷ ks) (plain_map ls p.1)

plain_marks : (ms : List Mark) → AreShort ms → ArePlain (mark_lines ms)
plain_marks [] v = tt
plain_marks (m ∷ ms) v =
    let parts = and_parts (is_short_mark m) (list_all is_short_mark ms) v in (plain_printed m parts.0, plain_marks ms parts.1)

plain_chain : (k : CountedMarks) → IsSmallChain k → ArePlain (chain_lines k)
plain_chain k v =
    (plain_head (head_line (length k.marks) k.count) (chain_head (length k.marks) k.count v.short v.few), plain_marks k.marks v.marks)

plain_chains : (ks : List CountedMarks) → list_all is_small_chain ks ≡ true → ArePlain (flat_map chain_lines ks)
plain_chains [] v = tt
plain_chains (k ∷ ks) v =
    let parts = and_parts (is_small_chain k) (list_all is_small_chain ks) v in
    plain_both (chain_lines k) (flat_map chain_lines ks) (plain_chain k (small_chain k parts.0)) (plain_chains ks parts.1)

pub plain_certificate : (c : Certificate) → IsSmall c → ArePlain (certificate_lines c)
plain_certificate c v =
    let cut = small_list c.cut v.cut in
    let few = leb-true (length c.chains) greatest_number v.few in
    plain_both (cut_lines c.cut) (chains_lines c.chains)
    (plain_head (count_line (codes "cut") (length c.cut)) (cut_head (length c.cut) cut.1), plain_marks c.cut cut.0)
    (plain_head (count_line (codes "chains") (length c.chains)) (chains_head (length c.chains) few), plain_chains c.chains v.chains)
