-- Notes of files that pass a test, a file more at a time.
use Rattle.std.proofs.Common.{◌≡◌, ℕ, suc, ◌+◌, Bool, false, List, [], ◌∷◌, ◌++◌, map, sym, ap, ap₂, ◌∙◌, arith}
use Rattle.std.proofs.Math.Path.{fun_ext}
use Rattle.std.proofs.lemmas.List.{map-append}
use Rattle.std.proofs.lemmas.List.Elements.{filter-append}
use Rattle.std.specs.Prelude.{◌&&◌, filter, slice_index_or}
use Rattle.std.specs.List.{range_with_len}
use Rattle.inc_graph.specs.FileSets.{AreFlags}
use Rattle.inc_graph.specs.Members.{is_member}
use Rattle.inc_inputs.specs.BuildNotes.{Kept, none, with_lines}
use Rattle.inc_inputs.proofs.ChoiceLemmas.{range_more}
use Rattle.inc_inputs.proofs.NoteLemmas.{with_lines-append}

one_more : (n : ℕ) → range_with_len 0 (n + 1) ≡ range_with_len 0 n ++ n ∷ []
one_more n =
    let e : n + 1 ≡ suc n = omega arith in
    let z : 0 + n ≡ n = omega arith in
    ap (λ (k : ℕ). range_with_len 0 k) e ∙ range_more 0 n ∙ ap (λ (k : ℕ). range_with_len 0 n ++ k ∷ []) z

pub passing_more : (line : ℕ → List ℕ) (p : ℕ → Bool) (first old new : Kept) (n : ℕ) → old ≡ with_lines first (map line (filter p (range_with_len 0 n)))
    → new ≡ with_lines old (map line (filter p (n ∷ []))) → new ≡ with_lines first (map line (filter p (range_with_len 0 (n + 1))))
passing_more line p first old new n so_far is =
    is
    ∙ ap (λ (k : Kept). with_lines k (map line (filter p (n ∷ [])))) so_far
    ∙ sym (with_lines-append first (map line (filter p (range_with_len 0 n))) (map line (filter p (n ∷ []))))
    ∙ ap (with_lines first) (sym (map-append line (filter p (range_with_len 0 n)) (filter p (n ∷ []))))
    ∙ ap (λ (fs : List ℕ). with_lines first (map line fs)) (sym (filter-append p (range_with_len 0 n) (n ∷ [])))
    ∙ ap (λ (fs : List ℕ). with_lines first (map line (filter p fs))) (sym (one_more n))

-- the files that have two flags are members of two lists
pub both_members : (line : ℕ → List ℕ) (count : ℕ) (sources headers : List ℕ) (from to : List Bool) (first new : Kept) → AreFlags sources from → AreFlags headers to → first ≡ none
    → new ≡ with_lines first (map line (filter (λ f. slice_index_or from f false && slice_index_or to f false) (range_with_len 0 count)))
    → new ≡ with_lines none (map line (filter (λ f. is_member f sources && is_member f headers) (range_with_len 0 count)))
both_members line count sources headers from to first new are_from are_to begins is =
    is
    ∙ ap (λ (k : Kept). with_lines k (map line (filter (λ f. slice_index_or from f false && slice_index_or to f false) (range_with_len 0 count)))) begins
    ∙ ap (λ (p : ℕ → Bool). with_lines none (map line (filter p (range_with_len 0 count)))) (fun_ext (λ f. ap₂ (λ a b. a && b) (are_from f) (are_to f)))
