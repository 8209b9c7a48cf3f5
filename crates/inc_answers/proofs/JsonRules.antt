-- The rules that are broken, one after the other, in an object of JSON.
use Rattle.std.proofs.Common.{◌≡◌, ◌∙◌, ℕ, ◌+◌, ◌<◌, Bool, true, false, List, ◌∷◌, ap, cond, drop, get_or, length, map, subst, sym}
use Rattle.std.specs.Prelude.{filter}
use Rattle.std.proofs.lemmas.List.{drop_more}
use Rattle.inc_answers.specs.JsonAnswers.{JsonOut, about_of, puts}
use Rattle.inc_answers.specs.JsonTexts.{comma_at}
use Rattle.inc_answers.specs.RulesJson.{broken_item}
use Rattle.inc_answers.proofs.JsonSteps.{Makes, item_put}
use Rattle.inc_rules.specs.Judging.{is_broken}
use Rattle.inc_rules.specs.Judging as spec
use Rattle.inc_rules.specs.Views.{seen_judged}
use Rattle.inc_rules.specs.declared.judging.Judged.{Judged}

module _ (name : List ℕ) (xs : List Judged) (i : ℕ) (x : Judged) (low : i < length xs) (at : x ≡ get_or xs i x) where
  abbrev left_from : ℕ → List spec.Judged
  left_from n = filter is_broken (map seen_judged (drop n xs))

  here : left_from i ≡ filter is_broken (seen_judged x ∷ map seen_judged (drop (i + 1) xs))
  here = ap (λ js. filter is_broken (map seen_judged js)) (drop_more xs i x low ∙ ap (λ y. y ∷ drop (i + 1) xs) (sym at))

  -- one that is broken is an item
  pub next_broken : (now comma new end : JsonOut) (place : ℕ) → is_broken (seen_judged x) ≡ true → comma ≡ puts now (comma_at place)
      → new ≡ puts comma (broken_item name (about_of comma) (seen_judged x)) → Makes (broken_item name) now place (left_from i) end → Makes (broken_item name) new 1 (left_from (i + 1)) end
  next_broken now comma new end place broken first second so_far =
      let one : left_from i ≡ seen_judged x ∷ left_from (i + 1) = here ∙ ap (λ (b : Bool). cond b (seen_judged x ∷ left_from (i + 1)) (left_from (i + 1))) broken in
      item_put (broken_item name) now comma new end place (seen_judged x) (left_from (i + 1)) first second (subst (λ (js : List spec.Judged). Makes (broken_item name) now place js end) one so_far)

  -- one that holds is none
  pub next_holds : (now new end : JsonOut) (place : ℕ) → is_broken (seen_judged x) ≡ false → new ≡ now → Makes (broken_item name) now place (left_from i) end
      → Makes (broken_item name) new place (left_from (i + 1)) end
  next_holds now new end place holds same so_far =
      let one : left_from i ≡ left_from (i + 1) = here ∙ ap (λ (b : Bool). cond b (seen_judged x ∷ left_from (i + 1)) (left_from (i + 1))) holds in
      subst (λ (j : JsonOut). Makes (broken_item name) j place (left_from (i + 1)) end) (sym same)
      (subst (λ (js : List spec.Judged). Makes (broken_item name) now place js end) one so_far)
