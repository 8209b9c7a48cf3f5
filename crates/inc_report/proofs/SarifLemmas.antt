-- Results of rules, put together piece by piece.
use Rattle.std.proofs.Common.{◌≡◌, ◌∙◌, ℕ, ◌+◌, ◌<◌, ◌≤◌, List, [], ◌∷◌, ◌++◌, Result, Ok, Err, OnOk, ap, ap₂, codes, drop, get_or, length, map, refl, sym}
use Rattle.std.specs.Prelude.{flat_map}
use Rattle.std.proofs.Math.ListN.{drop_of_length-le}
use Rattle.std.proofs.lemmas.Grind.{flat_map-append}
use Rattle.std.proofs.lemmas.List.{append-nil, append_assoc, drop_more}
use Rattle.inc_graph.specs.IncludeGraph.{Graph}
use Rattle.inc_lookup.specs.Projects.{Layout}
use Rattle.inc_answers.specs.JsonTexts.{comma_at, items_text, list_of}
use Rattle.inc_report.specs.RulesSarif.{Listed, chain_result, file_result, results_from, rule_item, rule_results}
use Rattle.inc_answers.proofs.JoinedTexts.{item_more, items_from, items_later, list_made}
use Rattle.inc_answers.proofs.NoteLemmas.{joined_as}
use Rattle.inc_answers.proofs.WhyLemmas.{flat_map-map}
use Rattle.inc_rules.specs.Judging as spec
use Rattle.inc_rules.specs.Views.{seen_judged, seen_rule}
use Rattle.inc_rules.specs.declared.judging.Judged.{Judged}

-- one more text behind those that are added, where that may fail
pub joined_on : {T E : Type 0} (r : Result T E) (old a b c x y : List ℕ) → x ≡ old ++ a → OnOk r (y ≡ x ++ c) → c ≡ b → OnOk r (y ≡ old ++ (a ++ b))
joined_on (Ok t) old a b c x y first second is = joined_as old a b c x y first second is
joined_on (Err e) old a b c x y first second is = tt

---- lists that are gone through by their places

module _ {X : Type 0} (f : X → List ℕ) where
  -- behind a text the items from this place on make the list
  abbrev pub Makes : (text : List ℕ) → (place : ℕ) → (xs : List X) → (start : List ℕ) → Type 0
  Makes text place xs start = text ++ items_from place (map f (drop place xs)) ≡ start ++ items_text (map f xs)

  pub item_at : (text new start : List ℕ) (place : ℕ) (x : X) (xs : List X) → place < length xs → x ≡ get_or xs place x → new ≡ text ++ (comma_at place ++ f x)
      → Makes text place xs start → Makes new (place + 1) xs start
  item_at text new start place x xs low at put so_far =
      let rest : List X = drop (place + 1) xs in
      let here : drop place xs ≡ x ∷ rest = drop_more xs place x low ∙ ap (λ (y : X). y ∷ rest) (sym at) in
      ap (λ (t : List ℕ). new ++ t) (sym (items_later place (place + 1) (map f rest) refl))
      ∙ item_more f text new (start ++ items_text (map f xs)) place x rest (drop place xs) here put so_far

  pub list_ended : (old opened text new : List ℕ) (place : ℕ) (xs : List X) → opened ≡ old ++ codes "[" → length xs ≤ place → Makes text place xs opened
      → new ≡ text ++ codes "]" → new ≡ old ++ list_of (map f xs)
  list_ended old opened text new place xs begun past made closed =
      list_made f old text new place xs (drop place xs) (drop_of_length-le xs past) (made ∙ ap (λ (t : List ℕ). t ++ items_text (map f xs)) begun) closed

-- the rules of those that are judged
each_seen : (name : List ℕ) (js : List Judged) → map (λ (j : Judged). rule_item name (seen_rule j.rule.now)) js ≡ map (λ (j : spec.Judged). rule_item name j.rule) (map seen_judged js)
each_seen name [] = refl
each_seen name (j ∷ js) = ap (λ (items : List (List ℕ)). rule_item name (seen_rule j.rule.now) ∷ items) (each_seen name js)

pub rules_seen : (name : List ℕ) (js : List Judged) → list_of (map (λ (j : Judged). rule_item name (seen_rule j.rule.now)) js) ≡ list_of (map (λ (j : spec.Judged). rule_item name j.rule) (map seen_judged js))
rules_seen name js = ap (λ (items : List (List ℕ)). list_of items) (each_seen name js)

---- items with a comma before each

abbrev pub behind_comma : List ℕ → List ℕ
behind_comma x = codes "," ++ x

-- but for the first comma they are the items of a list
pub items_behind : (xs : List (List ℕ)) → drop 1 (flat_map (λ x. codes "," ++ x) xs) ≡ items_text xs
items_behind [] = refl
items_behind (x ∷ xs) = refl

-- those of a rule: of its chains, and then of its files
pub judged_behind : (layout : Layout) (g : Graph) (l : Listed) {X : Type 0} (items : X → List ℕ) (chains : List X) (files : List ℕ)
    → flat_map (λ (c : X). codes "," ++ chain_result layout g l (items c)) chains ++ flat_map (λ (f : ℕ). codes "," ++ file_result layout l f) files
    ≡ flat_map (λ x. codes "," ++ x) (map (chain_result layout g l) (map items chains) ++ map (file_result layout l) files)
judged_behind layout g l items chains files =
    ap₂ (λ (a b : List ℕ). a ++ b)
    (sym (flat_map-map (λ c. behind_comma (chain_result layout g l c)) items chains) ∙ sym (flat_map-map behind_comma (chain_result layout g l) (map items chains)))
    (sym (flat_map-map behind_comma (file_result layout l) files))
    ∙ sym (flat_map-append behind_comma (map (chain_result layout g l) (map items chains)) (map (file_result layout l) files))

-- the same where adding those of its files may fail
pub judged_on : {T E : Type 0} (r : Result T E) (layout : Layout) (g : Graph) (l : Listed) {X : Type 0} (items : X → List ℕ) (chains given : List X) (files lent : List ℕ) (old mid new : List ℕ)
    → mid ≡ old ++ flat_map (λ (c : X). codes "," ++ chain_result layout g l (items c)) given → given ≡ chains
    → OnOk r (new ≡ mid ++ flat_map (λ (f : ℕ). codes "," ++ file_result layout l f) lent) → lent ≡ files
    → OnOk r (new ≡ old ++ flat_map (λ x. codes "," ++ x) (map (chain_result layout g l) (map items chains) ++ map (file_result layout l) files))
judged_on (Ok t) layout g l {X} items chains given files lent old mid new first same second lent_is =
    let both =
    joined_as old (flat_map (λ (c : X). codes "," ++ chain_result layout g l (items c)) chains) (flat_map (λ (f : ℕ). codes "," ++ file_result layout l f) files)
    (flat_map (λ (f : ℕ). codes "," ++ file_result layout l f) lent) mid new
    (first ∙ ap (λ (cs : List X). old ++ flat_map (λ (c : X). codes "," ++ chain_result layout g l (items c)) cs) same) second
    (ap (λ (fs : List ℕ). flat_map (λ (f : ℕ). codes "," ++ file_result layout l f) fs) lent_is) in
    both ∙ ap (λ (t : List ℕ). old ++ t) (judged_behind layout g l items chains files)
judged_on (Err e) layout g l items chains given files lent old mid new first same second lent_is = tt

module _ (layout : Layout) (g : Graph) (name : List ℕ) where
  -- those of the rules from a place on
  abbrev pub behind_from : (place : ℕ) → List spec.Judged → List ℕ
  behind_from place js = flat_map (λ x. codes "," ++ x) (results_from layout g name place js)

  -- those of one rule more
  pub judged_more : (text new end : List ℕ) (place : ℕ) (j : Judged) (js : List Judged) → place < length js → j ≡ get_or js place j
      → new ≡ text ++ flat_map (λ x. codes "," ++ x) (rule_results layout g name place (seen_judged j))
      → text ++ behind_from place (map seen_judged (drop place js)) ≡ end → new ++ behind_from (place + 1) (map seen_judged (drop (place + 1) js)) ≡ end
  judged_more text new end place j js low at put so_far =
      let rest : List spec.Judged = map seen_judged (drop (place + 1) js) in
      let one : List (List ℕ) = rule_results layout g name place (seen_judged j) in
      let here : map seen_judged (drop place js) ≡ seen_judged j ∷ rest = ap (map seen_judged) (drop_more js place j low ∙ ap (λ (y : Judged). y ∷ drop (place + 1) js) (sym at)) in
      ap (λ (t : List ℕ). t ++ behind_from (place + 1) rest) put
      ∙ append_assoc text (flat_map behind_comma one) (behind_from (place + 1) rest)
      ∙ ap (λ (t : List ℕ). text ++ t) (sym (flat_map-append behind_comma one (results_from layout g name (place + 1) rest)))
      ∙ ap (λ (ys : List spec.Judged). text ++ behind_from place ys) (sym here)
      ∙ so_far

  -- once no rule is left
  pub results_ended : (text end : List ℕ) (place : ℕ) (js : List Judged) → length js ≤ place → text ++ behind_from place (map seen_judged (drop place js)) ≡ end → text ≡ end
  results_ended text end place js past so_far =
      sym (append-nil text) ∙ ap (λ (ys : List Judged). text ++ behind_from place (map seen_judged ys)) (sym (drop_of_length-le js past)) ∙ so_far
