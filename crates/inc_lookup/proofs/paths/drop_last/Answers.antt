use Rattle.std.proofs.Common.{◌≡◌, ℕ, ◌+◌, ◌-◌, ◌<◌, ◌≤◌, List, [], ◌∷◌, true, false, Some, None, length, take, drop, refl, sym, ap, ◌∙◌, arith}
use Rattle.std.proofs.lemmas.List.{take_rest, drop-take, take-take, drop_all, nil_from_length, length-drop, length-take, length-take-le}
use Rattle.std.proofs.lemmas.Bool.{eq-eqb}
use Rattle.std.specs.List.{list_all, join_with_byte}
use Rattle.std.proofs.lemmas.List.Splits.{join_with_byte-slice_split}
use Rattle.memchr.specs.Find.{IsLastByte, is_byte}
use Rattle.inc_lookup.specs.Paths.{without_last, components}
use Rattle.inc_lookup.specs.PathParts.{is_name, Shows, ShowsAfter}
use Rattle.inc_lookup.proofs.PathLemmas.{has_slash, last_slash, without_last-cut, join-nil, has_slash_none, components_one, components-join}
use Rattle.inc_lookup.proofs.paths.drop_last.Goals as goal

-- where nothing is after the root there are no parts
shows_none : (root : ℕ) (parts : List (List ℕ)) (text : List ℕ) → Shows root parts text → length text ≤ root → ShowsAfter root (without_last parts) text false text
shows_none root parts text shows short =
    let empty : drop root text ≡ [] = nil_from_length _ (simp length-drop (omega arith)) in
    rw (join-nil parts shows.names (sym shows.joined ∙ empty)) refl

-- cut at the last /
shows_cut : (root slash : ℕ) (parts : List (List ℕ)) (text : List ℕ) → Shows root parts text → IsLastByte (is_byte 47) (drop root text) (Some slash) → ShowsAfter root (without_last parts) text true (take (root + slash) text)
shows_cut root slash parts text shows last =
    let names = drop root text in
    let cut = last_slash names slash last.0.high last.1 last.0.after in
    let front = without_last-cut names (take slash names) (drop (slash + 1) names) parts cut.0 cut.1 shows.joined shows.names in
    let short : slash < length text - root = simp length-drop at (last.0.high) in
    rw (front.0) (
      refl,
      record {
        within = rw (length-take-le (root + slash) text (omega arith)) (omega arith);
        joined = drop-take root slash text ∙ sym (join_with_byte-slice_split 47 (take slash names));
        names = front.1;
      },
      take-take root (root + slash) text (omega arith),
    )

-- a text without / shows one part
only_part : (T : List ℕ) (parts : List (List ℕ)) → has_slash T ≡ false → 0 < length T → T ≡ join_with_byte 47 parts → list_all is_name parts ≡ true → parts ≡ T ∷ []
only_part T [] bare long joined names = let short : length T ≡ 0 = ap length joined in absurd (omega arith)
only_part T (p ∷ ps) bare long joined names =
    sym (components-join p ps names) ∙ ap components (sym joined) ∙ components_one T bare

-- without a / nothing is left but the root
shows_one : (root : ℕ) (parts : List (List ℕ)) (text : List ℕ) → Shows root parts text → IsLastByte (is_byte 47) (drop root text) None → root < length text → ShowsAfter root (without_last parts) text true (take root text)
shows_one root parts text shows none some =
    let names = drop root text in
    let bare : has_slash names ≡ false = has_slash_none names (λ k low slash. none k (omega arith) low (eq-eqb _ _ slash)) in
    let long : 0 < length names = simp length-drop (omega arith) in
    let one = only_part names parts bare long shows.joined shows.names in
    rw one (
      refl,
      record {
        within = rw (length-take-le root text shows.within) (omega arith);
        joined = drop_all root (take root text) (simp length-take (omega arith));
        names = refl;
      },
      take-take root root text (omega arith),
    )

pub returns-then-len-root-clause-shows : goal.returns-then-len-root-clause-shows
returns-then-len-root-clause-shows c = λ parts shows. shows_none _ parts _ shows (omega arith)

pub returns-in-Some-clause-shows : goal.returns-in-Some-clause-shows
returns-in-Some-clause-shows c = λ parts shows.
    rw (c.truncate.ensures.items) (shows_cut _ _ parts _ shows (rw (take_rest, c.deref.ensures.value) at c.in-Some.ensures))

pub returns-in-None-clause-shows : goal.returns-in-None-clause-shows
returns-in-None-clause-shows c = λ parts shows.
    rw (c.truncate-in-None.ensures.items) (shows_one _ parts _ shows (rw (take_rest, c.deref.ensures.value) at c.in-None.ensures) (omega arith))
