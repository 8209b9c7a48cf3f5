-- The lines of a baseline, one more at a time, and the steps by which they name directives.
use Rattle.std.proofs.Common.{◌≡◌, ℕ, ◌+◌, ◌-◌, ◌<◌, ◌≤◌, Bool, true, false, List, [], ◌∷◌, ◌++◌, Option, Some, None, Result, Ok, Err, length, take, drop, refl, sym, ap, ◌∙◌, arith}
use Rattle.std.specs.Prelude.{position}
use Rattle.std.proofs.lemmas.List.{append_assoc, append-nil, take_rest, drop-drop, length-drop}
use Rattle.inc_check.specs.declared.read_texts.CertFault.{CertFault}
use Rattle.inc_check.specs.declared.read_texts.CertFault.TheVariants.{Malformed}
use Rattle.inc_inputs.specs.Baselines.{NamedLine, NamedLines, is_passed, named_from, named_line, with_more, with_named, with_text}
use Rattle.inc_inputs.specs.MarkLists.{lines_of}
use Rattle.inc_inputs.specs.PlaceWords.{name_colon}
use Rattle.inc_inputs.proofs.MarkListLemmas.{ends, line_at, line_none}

-- some, and then some more
pub more_both : (a b : List NamedLine) (r : NamedLines) → with_more a (with_more b r) ≡ with_more (a ++ b) r
more_both a b (Ok more) = ap (λ (ls : List NamedLine). Ok ls) (sym (append_assoc a b more))
more_both a b (Err line) = refl

---- a line

module _ (line : ℕ) (text : List ℕ) (more : NamedLines) where
  abbrev by_flag : Bool → NamedLines
  by_flag b = elim b [ true ↦ more | false ↦ with_named line text (name_colon text) more ]

  -- one that has no directive, and one that is malformed
  pub text_passed : is_passed text ≡ true → with_text line text more ≡ more
  text_passed is = ap by_flag is

  pub text_bad : is_passed text ≡ false → name_colon text ≡ None → with_text line text more ≡ Err line
  text_bad is none = ap by_flag is ∙ ap (λ o. with_named line text o more) none

  -- one that has one
  pub text_named : (done new : List NamedLine) (n : ℕ) → is_passed text ≡ false → name_colon text ≡ Some n → new ≡ done ++ named_line line text n ∷ []
      → with_more done (with_text line text more) ≡ with_more new more
  text_named done new n is some added =
      ap (with_more done) (ap by_flag is ∙ ap (λ o. with_named line text o more) some)
      ∙ more_both done (named_line line text n ∷ []) more ∙ ap (λ ls. with_more ls more) (sym added)

---- a text

module _ (all : NamedLines) (done : List NamedLine) (line at : ℕ) (text : List ℕ) (so_far : all ≡ with_more done (named_from line (lines_of (drop at text)))) where
  module _ (n : ℕ) (found : Some n ≡ position ends (take (length text - at) (drop at text))) where
    found_at : position ends (drop at text) ≡ Some n
    found_at = sym (rw take_rest at found)

    pub line_low : at + (n + 1) ≤ length text
    line_low =
        let left : n < length (drop at text) = (line_at (drop at text) n found_at).1 in
        let low : n < length text - at = rw length-drop at left in
        omega (arith, low)

    -- the line, as code cuts it out
    abbrev pub here : List ℕ
    here = take (at + n - at) (drop at text)

    line_is : all ≡ with_more done (with_text line here (named_from (line + 1) (lines_of (drop (at + (n + 1)) text))))
    line_is =
        let len : n ≡ at + n - at = omega arith in
        so_far ∙ ap (λ ls. with_more done (named_from line ls)) (line_at (drop at text) n found_at).0
        ∙ ap (λ m. with_more done (with_text line (take m (drop at text)) (named_from (line + 1) (lines_of (drop (n + 1) (drop at text)))))) len
        ∙ ap (λ t. with_more done (with_text line here (named_from (line + 1) (lines_of t)))) (drop-drop (n + 1) at text)

    -- one line more, whose directive is added to those so far
    pub line_on : (new : List NamedLine) → ((more : NamedLines) → with_more done (with_text line here more) ≡ with_more new more)
        → all ≡ with_more new (named_from (line + 1) (lines_of (drop (at + (n + 1)) text)))
    line_on new added = line_is ∙ added (named_from (line + 1) (lines_of (drop (at + (n + 1)) text)))

    -- a line that is malformed
    pub line_bad : (f : CertFault) → ((m : ℕ) → f ≡ Malformed m → (more : NamedLines) → with_text line here more ≡ Err m) → (m : ℕ) → f ≡ Malformed m → all ≡ Err m
    line_bad f bad m is = line_is ∙ ap (with_more done) (bad m is (named_from (line + 1) (lines_of (drop (at + (n + 1)) text))))

  -- no line is left
  pub lines_end : None ≡ position ends (take (length text - at) (drop at text)) → all ≡ Ok done
  lines_end missing =
      so_far ∙ ap (λ (ls : List (List ℕ)). with_more done (named_from line ls)) (line_none (drop at text) (sym (rw take_rest at missing)))
      ∙ ap (λ (ls : List NamedLine). Ok ls) (append-nil done)
