-- Paths of which each file is there once name the files that all of them name, and of those that name no file all are there.
use Rattle.std.proofs.Common.{◌≡◌, ℕ, Bool, true, false, List, [], ◌∷◌, ◌++◌, ◌||◌, ◌⊎◌, Option, Some, None, inl, inr, refl, sym, ap, ◌∙◌, subst}
use Rattle.std.specs.Prelude.{◌==◌, filter, if◌then◌else◌, is_some, not}
use Rattle.std.specs.List.{cons_option, fold}
use Rattle.std.specs.Option.{option_map_or}
use Rattle.std.proofs.lemmas.Bool.{cases_Bool, cases_eq, ne_eqb}
use Rattle.std.proofs.lemmas.List.{append-nil, append_assoc}
use Rattle.std.proofs.lemmas.List.Elements.{filter-append, filter_map-append}
use Rattle.std.proofs.lemmas.List.Folds.{list_any-append}
use Rattle.inc_lookup.specs.Projects.{Layout, found_as}
use Rattle.inc_graph.specs.Members.{is_member}
use Rattle.inc_inputs.specs.Ends.{named_files, once, with_new}

-- a number once more behind a list that has it
member_again : (gs fs : List ℕ) (g f : ℕ) → is_member g gs ≡ true → is_member f (gs ++ g ∷ fs) ≡ is_member f (gs ++ fs)
member_again gs fs g f there =
    list_any-append (λ m. m == f) gs (g ∷ fs)
    ∙ elim (cases_eq g f) [
      | inl same ↦
          let here : is_member f gs ≡ true = subst (λ (n : ℕ). is_member n gs ≡ true) same there in
          ap (λ b. b || ((g == f) || is_member f fs)) here ∙ sym (list_any-append (λ m. m == f) gs fs ∙ ap (λ b. b || is_member f fs) here)
      | inr other ↦ ap (λ b. is_member f gs || (b || is_member f fs)) (ne_eqb g f other) ∙ sym (list_any-append (λ m. m == f) gs fs)
    ]

-- a path is added, or names a file that is there
abbrev Step : (layout : Layout) (done : List (List ℕ)) (p : List ℕ) → Type 0
Step layout done p =
    (with_new layout done p ≡ done ++ p ∷ [])
    ⊎ ((g : ℕ) × (found_as layout.paths p ≡ Some g) × (is_member g (named_files layout done) ≡ true) × (with_new layout done p ≡ done))

step : (layout : Layout) (done : List (List ℕ)) (p : List ℕ) → Step layout done p
step layout done p = by_file (found_as layout.paths p) refl
  where
    by_file : (o : Option ℕ) → found_as layout.paths p ≡ o → Step layout done p
    by_file None is = inl (ap (λ (o : Option ℕ). if option_map_or (λ g. is_member g (named_files layout done)) o false then done else done ++ p ∷ []) is)
    by_file (Some g) is =
        let so = ap (λ (o : Option ℕ). if option_map_or (λ g. is_member g (named_files layout done)) o false then done else done ++ p ∷ []) is in
        elim (cases_Bool (is_member g (named_files layout done))) [
          | inl has ↦ inr (g, is, has, so ∙ ap (λ (b : Bool). if b then done else done ++ p ∷ []) has)
          | inr lacks ↦ inl (so ∙ ap (λ (b : Bool). if b then done else done ++ p ∷ []) lacks)
        ]

module _ (layout : Layout) (f : ℕ) where
  files_next : (done ps : List (List ℕ)) (p : List ℕ) → Step layout done p
      → is_member f (named_files layout (with_new layout done p) ++ named_files layout ps) ≡ is_member f (named_files layout done ++ named_files layout (p ∷ ps))
  files_next done ps p (inl is) =
      ap (λ (qs : List (List ℕ)). is_member f (named_files layout qs ++ named_files layout ps)) is
      ∙ ap (λ (fs : List ℕ). is_member f (fs ++ named_files layout ps)) (filter_map-append (found_as layout.paths) done (p ∷ []))
      ∙ ap (is_member f) (append_assoc (named_files layout done) (named_files layout (p ∷ [])) (named_files layout ps))
      ∙ ap (λ (fs : List ℕ). is_member f (named_files layout done ++ fs)) (sym (filter_map-append (found_as layout.paths) (p ∷ []) ps))
  files_next done ps p (inr (g, is, has, same)) =
      ap (λ (qs : List (List ℕ)). is_member f (named_files layout qs ++ named_files layout ps)) same
      ∙ sym (member_again (named_files layout done) (named_files layout ps) g f has)
      ∙ ap (λ (fs : List ℕ). is_member f (named_files layout done ++ fs)) (sym (ap (λ (o : Option ℕ). cons_option o (named_files layout ps)) is))

  files_of : (done ps : List (List ℕ)) → is_member f (named_files layout (fold (with_new layout) done ps)) ≡ is_member f (named_files layout done ++ named_files layout ps)
  files_of done [] = ap (is_member f) (sym (append-nil (named_files layout done)))
  files_of done (p ∷ ps) = files_of (with_new layout done p) ps ∙ files_next done ps p (step layout done p)

  pub same_files : (ps : List (List ℕ)) → is_member f (named_files layout (once layout ps)) ≡ is_member f (named_files layout ps)
  same_files ps = files_of [] ps

module _ (layout : Layout) where
  abbrev others : List (List ℕ) → List (List ℕ)
  others ps = filter (λ p. not (is_some (found_as layout.paths p))) ps

  others_append : (ps qs : List (List ℕ)) → others (ps ++ qs) ≡ others ps ++ others qs
  others_append ps qs = filter-append (λ p. not (is_some (found_as layout.paths p))) ps qs

  others_next : (done : List (List ℕ)) (p : List ℕ) → Step layout done p → others (with_new layout done p) ≡ others done ++ others (p ∷ [])
  others_next done p (inl is) = ap others is ∙ others_append done (p ∷ [])
  others_next done p (inr (g, is, has, same)) =
      let none : others (p ∷ []) ≡ [] = ap (λ (o : Option ℕ). if not (is_some o) then p ∷ [] else []) is in
      ap others same ∙ sym (append-nil (others done)) ∙ ap (λ (ps : List (List ℕ)). others done ++ ps) (sym none)

  others_of : (done ps : List (List ℕ)) → others (fold (with_new layout) done ps) ≡ others done ++ others ps
  others_of done [] = sym (append-nil (others done))
  others_of done (p ∷ ps) =
      others_of (with_new layout done p) ps
      ∙ ap (λ (qs : List (List ℕ)). qs ++ others ps) (others_next done p (step layout done p))
      ∙ append_assoc (others done) (others (p ∷ [])) (others ps)
      ∙ ap (λ (qs : List (List ℕ)). others done ++ qs) (sym (others_append (p ∷ []) ps))

  pub same_others : (ps : List (List ℕ)) → others (once layout ps) ≡ others ps
  same_others ps = others_of [] ps
