-- The text of a list of marks, or of costs, is that of no other list.
use Rattle.std.proofs.Common.{◌≡◌, ℕ, Bool, true, List, [], ◌∷◌, Option, Some, refl, sym, ap, ap₂, ◌∙◌}
use Rattle.std.specs.Prelude.{map}
use Rattle.std.specs.List.{list_all}
use Rattle.std.proofs.lemmas.Bool.{and_parts}
use Rattle.inc_graph.specs.Marks.{Mark, Cost}
use Rattle.inc_check.specs.Texts.{mark_line, mark_lines, cost_line, cost_lines, is_small_mark, is_small_cost, IsMarksText, IsCostsText}
use Rattle.inc_check.specs.Reading.{mark_in, cost_in}
use Rattle.inc_check.proofs.CertificateTexts.{text_lines}
use Rattle.inc_check.proofs.CostsFormats.{clean_costs}
use Rattle.inc_check.proofs.MarksFormats.{clean_marks}
use Rattle.inc_check.proofs.WordLemmas.{mark_in-line, cost_in-line}

some_is : {A : Type 0} (a b : A) → Some a ≡ Some b → a ≡ b
some_is a b e = cc

-- elements that can be read from their lines
module _ {A : Type 0} (line : A → List ℕ) (read : List ℕ → Option A) (good : A → Bool) (reads : (a : A) → good a ≡ true → read (line a) ≡ Some a) where
  lines_are_one : (as' bs : List A) → list_all good as' ≡ true → list_all good bs ≡ true → map line as' ≡ map line bs → as' ≡ bs
  lines_are_one [] [] v w e = refl
  lines_are_one [] (b ∷ bs) v w e = cc
  lines_are_one (a ∷ as') [] v w e = cc
  lines_are_one (a ∷ as') (b ∷ bs) v w e =
      let here = and_parts (good a) (list_all good as') v in
      let there = and_parts (good b) (list_all good bs) w in
      let first : line a ≡ line b = cc in
      let rest : map line as' ≡ map line bs = cc in
      ap₂ (λ x xs. x ∷ xs)
      (some_is a b (sym (reads a here.0) ∙ ap read first ∙ reads b there.0))
      (lines_are_one as' bs here.1 there.1 rest)

pub marks_text_is_one : (text : List ℕ) (ms ns : List Mark) → IsMarksText text ms → IsMarksText text ns → ms ≡ ns
marks_text_is_one text ms ns v w =
    lines_are_one mark_line mark_in is_small_mark mark_in-line ms ns v.small w.small
    (text_lines (mark_lines ms) (mark_lines ns) (clean_marks ms v.small) (clean_marks ns w.small) (v.same ∙ sym w.same))

pub costs_text_is_one : (text : List ℕ) (ms ns : List Cost) → IsCostsText text ms → IsCostsText text ns → ms ≡ ns
costs_text_is_one text ms ns v w =
    lines_are_one cost_line cost_in is_small_cost cost_in-line ms ns v.small w.small
    (text_lines (cost_lines ms) (cost_lines ns) (clean_costs ms v.small) (clean_costs ns w.small) (v.same ∙ sym w.same))
