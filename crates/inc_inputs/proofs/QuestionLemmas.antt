-- Words of questions, and names that are free.
use Rattle.std.proofs.Common.{◌≡◌, ◌∙◌, ℕ, Bool, true, false, List, [], ◌∷◌, Option, Some, None, ap, drop, map, refl, sym}
use Rattle.std.specs.Prelude.{◌||◌, if◌then◌else◌}
use Rattle.std.specs.List.{list_any}
use Rattle.inc_inputs.specs.Questions.{Answered, answer_in, begins_answer, is_answer, parts_of}

-- the answer of a line with these parts
abbrev of_parts : (begins : Bool) → Answered → Option Answered
of_parts begins parts = if begins then (if is_answer parts then Some parts else None) else None

-- what begins as an answer, and has the parts of one or has not
module _ (line text : List ℕ) (parts : Answered) (begins : begins_answer line ≡ true) (at : text ≡ drop 4 line) (are : parts ≡ parts_of text) where
  same : of_parts true parts ≡ answer_in line
  same = ap (of_parts true) (are ∙ ap parts_of at) ∙ ap (λ (b : Bool). of_parts b (parts_of (drop 4 line))) (sym begins)

  pub no_answer : is_answer parts ≡ false → None ≡ answer_in line
  no_answer wrong = ap (λ (b : Bool). if b then Some parts else None) (sym wrong) ∙ same

  pub an_answer : is_answer parts ≡ true → Some parts ≡ answer_in line
  an_answer right = ap (λ (b : Bool). if b then Some parts else None) (sym right) ∙ same

-- the first that passes, by what is seen of each
pub any_map : {X Y : Type 0} (p : Y → Bool) (f : X → Y) (xs : List X) → list_any (λ x. p (f x)) xs ≡ list_any p (map f xs)
any_map p f [] = refl
any_map p f (x ∷ xs) = ap (λ (b : Bool). p (f x) || b) (any_map p f xs)
