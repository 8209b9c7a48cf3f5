-- The places of a body that stand, place by place.
use Rattle.std.proofs.Common.{◌≡◌, ℕ, zero, suc, ◌+◌, ◌≤◌, ◌||◌, Bool, true, false, List, [], ◌∷◌, ◌++◌, drop, length, slice_get, Option, Some, None, Result, Ok, Err, refl, sym, ap, ◌∙◌, append_assoc}
use Rattle.std.specs.List.{list_any}
use Rattle.std.proofs.lemmas.List.{append-nil, drop_all}
use Rattle.inc_macro.specs.Macros.{BodyToken}
use Rattle.inc_macro.specs.Results.{◌>>=◌}
use Rattle.inc_macro.specs.declared.roles.Role.{Role}
use Rattle.inc_macro.specs.declared.roles.Role.TheVariants.{Itself, Paste as PasteRole, Hash as HashRole, AsWritten as WrittenRole, Expanded as ExpandedRole, Comma as CommaRole, Nothing as NothingRole, Optional as OptionalRole}
use Rattle.inc_expand.specs.declared.faults.ExpandFault.{ExpandFault}
use Rattle.inc_expand.specs.declared.rules.Rule.{Rule}
use Rattle.inc_expand.specs.Elements.{Element, Word, Glue, Silent, StringOf, AsWritten, Expanded, Comma, Optional, Kept, Empty, Made, element, elements_from, hash_of}
use Rattle.inc_expand.specs.Expansion.{Argument, Carrier, chosen, goes_with, joined, stands, substituted}
use Rattle.inc_expand.specs.Optionals.{after_places, is_optional_role, optional_of}
use Rattle.inc_macro.proofs.BodyCommas.{drop-later}
use Rattle.inc_expand.proofs.ElementSteps.{place-at}

---- places that stand for themselves

pub alone-stands : (args : List Argument) (e : Element) (es : List Element) → optional_of e ≡ None → stands args e es ≡ Ok (e ∷ [])
alone-stands args (Word b) es h = refl
alone-stands args Glue es h = refl
alone-stands args Silent es h = refl
alone-stands args (StringOf space n) es h = refl
alone-stands args (AsWritten space n) es h = refl
alone-stands args (Expanded space n) es h = refl
alone-stands args (Comma b n) es h = refl
alone-stands args (Optional hash n) es h = cc
alone-stands args (Kept space n) es h = refl
alone-stands args Empty es h = refl
alone-stands args (Made space text) es h = refl

pub alone-goes : (e : Element) (es : List Element) → optional_of e ≡ None → goes_with e es ≡ 0
alone-goes (Word b) es h = refl
alone-goes Glue es h = refl
alone-goes Silent es h = refl
alone-goes (StringOf space n) es h = refl
alone-goes (AsWritten space n) es h = refl
alone-goes (Expanded space n) es h = refl
alone-goes (Comma b n) es h = refl
alone-goes (Optional hash n) es h = cc
alone-goes (Kept space n) es h = refl
alone-goes Empty es h = refl
alone-goes (Made space text) es h = refl

pub alone-chosen : (args : List Argument) (e : Element) (es : List Element) → optional_of e ≡ None → chosen args 0 es ≡ Ok es → chosen args 0 (e ∷ es) ≡ Ok (e ∷ es)
alone-chosen args e es alone rest =
    ap (λ r. r >>= (λ cs. chosen args (goes_with e es) es >>= (λ more. Ok (cs ++ more)))) (alone-stands args e es alone)
    ∙ ap (λ n. chosen args n es >>= (λ more. Ok (e ∷ more))) (alone-goes e es alone)
    ∙ ap (λ r. r >>= (λ more. Ok (e ∷ more))) rest

alone-role : (h : Option Bool) (b : BodyToken) (r : Role) → is_optional_role r ≡ false → optional_of (element h b r) ≡ None
alone-role h b Itself is = refl
alone-role h b PasteRole is = refl
alone-role h b HashRole is = refl
alone-role None b (WrittenRole n) is = refl
alone-role (Some space) b (WrittenRole n) is = refl
alone-role h b (ExpandedRole n) is = refl
alone-role h b (CommaRole n) is = refl
alone-role h b NothingRole is = refl
alone-role h b (OptionalRole n) is = cc

or-false : (a b : Bool) → (a || b) ≡ false → (a ≡ false) × (b ≡ false)
or-false true b is = cc
or-false false b is = (refl, is)

-- the places of a body without `__VA_OPT__`
pub chosen-alone : (args : List Argument) (h : Option Bool) (bs : List BodyToken) (rs : List Role) → list_any is_optional_role rs ≡ false
    → chosen args 0 (elements_from h bs rs) ≡ Ok (elements_from h bs rs)
chosen-alone args h [] rs none = refl
chosen-alone args h (b ∷ bs) [] none = refl
chosen-alone args h (b ∷ bs) (r ∷ rs) none =
    let both = or-false (is_optional_role r) (list_any is_optional_role rs) none in
    alone-chosen args (element h b r) (elements_from (hash_of b r) bs rs) (alone-role h b r both.0) (chosen-alone args (hash_of b r) bs rs both.1)

---- place by place

pub chosen-skip : (args : List Argument) (k : ℕ) (es : List Element) → chosen args k es ≡ chosen args 0 (drop k es)
chosen-skip args zero es = refl
chosen-skip args (suc k) [] = refl
chosen-skip args (suc k) (e ∷ es) = chosen-skip args k es

module _ (args : List Argument) (es : List Element) (i : ℕ) (e : Element) (here : slice_get es i ≡ Some e) where
  chosen-at : (next : ℕ) → next ≡ i + 1 + goes_with e (drop (i + 1) es)
      → chosen args 0 (drop i es) ≡ (stands args e (drop (i + 1) es) >>= (λ cs. chosen args 0 (drop next es) >>= (λ rest. Ok (cs ++ rest))))
  chosen-at next is =
      ap (chosen args 0) (place-at es i e here)
      ∙ ap (λ r. stands args e (drop (i + 1) es) >>= (λ cs. r >>= (λ rest. Ok (cs ++ rest))))
      (chosen-skip args (goes_with e (drop (i + 1) es)) (drop (i + 1) es)
      ∙ ap (chosen args 0) (drop-later (goes_with e (drop (i + 1) es)) (i + 1) next es (sym is)))

  -- what stands for a place is after the others
  pub chosen-passed : (next : ℕ) (old new : List Element) → next ≡ i + 1 + goes_with e (drop (i + 1) es) → after_places old (stands args e (drop (i + 1) es)) ≡ Ok new
      → after_places new (chosen args 0 (drop next es)) ≡ after_places old (chosen args 0 (drop i es))
  chosen-passed next old new is passed =
      by (stands args e (drop (i + 1) es)) (chosen args 0 (drop next es)) passed ∙ sym (ap (after_places old) (chosen-at next is))
    where
      by : (r more : Result (List Element) ExpandFault) → after_places old r ≡ Ok new
          → after_places new more ≡ after_places old (r >>= (λ cs. more >>= (λ rest. Ok (cs ++ rest))))
      by (Err fault) more p = cc
      by (Ok cs) (Err fault) p = refl
      by (Ok cs) (Ok rest) p = let same : old ++ cs ≡ new = cc in ap (λ front. Ok (front ++ rest)) (sym same) ∙ ap Ok (append_assoc old cs rest)

  pub chosen-fault : (fault : ExpandFault) → stands args e (drop (i + 1) es) ≡ Err fault → chosen args 0 (drop i es) ≡ Err fault
  chosen-fault fault is =
      chosen-at (i + 1 + goes_with e (drop (i + 1) es)) refl
      ∙ ap (λ r. r >>= (λ cs. chosen args 0 (drop (i + 1 + goes_with e (drop (i + 1) es)) es) >>= (λ rest. Ok (cs ++ rest)))) is

---- all of them

pub nothing-before : (r : Result (List Element) ExpandFault) → after_places [] r ≡ r
nothing-before (Ok es) = refl
nothing-before (Err fault) = refl

pub chosen-over : (args : List Argument) (es : List Element) (i : ℕ) (all : List Element) → length es ≤ i
    → after_places all (chosen args 0 (drop i es)) ≡ chosen args 0 es → chosen args 0 es ≡ Ok all
chosen-over args es i all over is = sym is ∙ ap (λ xs. after_places all (chosen args 0 xs)) (drop_all i es over) ∙ ap Ok (append-nil all)

pub chosen-refused : (args : List Argument) (es : List Element) (i : ℕ) (all : List Element) (fault : ExpandFault) → chosen args 0 (drop i es) ≡ Err fault
    → after_places all (chosen args 0 (drop i es)) ≡ chosen args 0 es → chosen args 0 es ≡ Err fault
chosen-refused args es i all fault refused is = sym is ∙ ap (after_places all) refused

-- what these places give
pub joined-chosen : (rule : Rule) (args : List Argument) (es cs : List Element) (r : Result (List Carrier) ExpandFault) → chosen args 0 es ≡ Ok cs → joined rule args cs ≡ r → substituted rule args es ≡ r
joined-chosen rule args es cs r stand gives = ap (λ x. x >>= (λ ps. joined rule args ps)) stand ∙ gives
