-- Replacements by bodies without `#` and `##`.
use Rattle.std.proofs.Common.{◌≡◌, ℕ, zero, suc, ◌+◌, ◌-◌, ◌<◌, ◌≤◌, ◌||◌, Bool, true, false, List, [], ◌∷◌, ◌++◌, map, drop, length, slice_get, Option, Some, None, Result, Ok, Err, refl, sym, ap, ap₂, subst, ◌∙◌, arith, append_assoc, length-append, nat_lt, true≢false, lt-ltb}
use Rattle.std.specs.Prelude.{bytes_eq}
use Rattle.std.specs.List.{list_all}
use Rattle.std.proofs.Math.Path.{fun_ext}
use Rattle.std.proofs.lemmas.Bool.{and_parts, le-ltb}
use Rattle.std.proofs.lemmas.List.{map-append, append-nil, length-map}
use Rattle.inc_macro.specs.Results.{◌>>=◌}
use Rattle.inc_macro.specs.Macros.{BodyToken, Definition}
use Rattle.inc_macro.specs.Roles.{is_plain_role, roles_of}
use Rattle.inc_macro.specs.declared.roles.Role.{Role}
use Rattle.inc_macro.specs.declared.roles.Role.TheVariants.{Itself, Paste as PasteRole, Hash as HashRole, AsWritten as WrittenRole, Expanded as ExpandedRole, Comma as CommaRole, Nothing as NothingRole, Optional as OptionalRole}
use Rattle.inc_expand.specs.declared.carried.Carried.{Carried}
use Rattle.inc_expand.specs.declared.faults.ExpandFault.{ExpandFault}
use Rattle.inc_expand.specs.declared.faults.ExpandFault.TheVariants.{OverBudget}
use Rattle.inc_expand.specs.declared.walks.Work.{Work}
use Rattle.inc_expand.specs.declared.rules.Rule.{Rule}
use Rattle.inc_expand.specs.Sets.{Sets, size, holds, Keeps}
use Rattle.inc_expand.specs.Elements.{Element, Word, Glue, Silent, StringOf, AsWritten, Expanded, Comma, Optional, Kept, Empty, Made, element, elements_from, elements_of, hash_of}
use Rattle.inc_expand.specs.Expansion.{Argument, Carrier, Expander, Names, Meter, all_parts, as_part, chosen, joined, only, parts_of, paste_from, replaced, replacing, spent, substituted, tokens_of, union}
use Rattle.inc_expand.specs.Carriers.{carrier, carriers, AreKnown}
use Rattle.inc_expand.specs.Arguments.{ArgumentValue, argument_values, AreKnownIn}
use Rattle.inc_expand.specs.Optionals.{optional_of}
use Rattle.inc_expand.specs.Puts.{moved}
use Rattle.inc_expand.specs.Plain.{ArePlain, IsLaid, is_plain_at, plain_tokens, tokens_at}
use Rattle.inc_expand.specs.Walks.{IsNotPlaced, IsPlaced}
use Rattle.inc_expand.proofs.ElementSteps.{place-at}
use Rattle.inc_expand.proofs.JoinSteps.{same-carriers, keeps-more}
use Rattle.inc_expand.proofs.OptionalSteps.{alone-chosen}
use Rattle.inc_expand.proofs.SubstitutionRuns.{same-arguments}
use Rattle.inc_expand.proofs.Tables.{keeps-itself}
use Rattle.inc_expand.proofs.WalkSteps.{length-spaced, or-turned, replaced-paid}

---- which bodies are plain

plain-role : (h : Option Bool) (b : BodyToken) (r : Role) → is_plain_role r ≡ true → is_plain_at (element h b r) ≡ true
plain-role h b Itself is = refl
plain-role h b PasteRole is = absurd (true≢false (sym is))
plain-role h b HashRole is = absurd (true≢false (sym is))
plain-role h b (WrittenRole n) is = absurd (true≢false (sym is))
plain-role h b (ExpandedRole n) is = refl
plain-role h b (CommaRole n) is = absurd (true≢false (sym is))
plain-role h b NothingRole is = absurd (true≢false (sym is))
plain-role h b (OptionalRole n) is = absurd (true≢false (sym is))

plain-from : (h : Option Bool) (bs : List BodyToken) (rs : List Role) → list_all is_plain_role rs ≡ true → ArePlain (elements_from h bs rs)
plain-from h [] rs all i e is = cc
plain-from h (b ∷ bs) [] all i e is = cc
plain-from h (b ∷ bs) (r ∷ rs) all zero e is =
    let same : element h b r ≡ e = cc in
    subst (λ x. is_plain_at x ≡ true) same (plain-role h b r ((and_parts (is_plain_role r) (list_all is_plain_role rs) all).0))
plain-from h (b ∷ bs) (r ∷ rs) all (suc i) e is = plain-from (hash_of b r) bs rs ((and_parts (is_plain_role r) (list_all is_plain_role rs) all).1) i e is

-- where all roles are plain, all places are
pub plain-roles : (d : Definition) → list_all is_plain_role (roles_of d) ≡ true → ArePlain (elements_of d)
plain-roles d all = plain-from None d.body (roles_of d) all

---- what a plain body gives

plain-part : (args : List Argument) (e : Element) → is_plain_at e ≡ true → parts_of args e ≡ Ok (map as_part (tokens_at args e))
plain-part args (Word b) h = refl
plain-part args (Expanded space n) h = refl
plain-part args Glue h = absurd (true≢false (sym h))
plain-part args Silent h = absurd (true≢false (sym h))
plain-part args (StringOf space n) h = absurd (true≢false (sym h))
plain-part args (AsWritten space n) h = absurd (true≢false (sym h))
plain-part args (Comma b n) h = absurd (true≢false (sym h))
plain-part args (Optional hash n) h = absurd (true≢false (sym h))
plain-part args (Kept space n) h = absurd (true≢false (sym h))
plain-part args Empty h = absurd (true≢false (sym h))
plain-part args (Made space text) h = absurd (true≢false (sym h))

plain-parts : (args : List Argument) (es : List Element) → ArePlain es → all_parts args es ≡ Ok (map as_part (plain_tokens args es))
plain-parts args [] h = refl
plain-parts args (e ∷ es) h =
    ap (λ r. r >>= (λ ps. all_parts args es >>= (λ rest. Ok (ps ++ rest)))) (plain-part args e (h 0 e refl))
    ∙ ap (λ r. r >>= (λ rest. Ok (map as_part (tokens_at args e) ++ rest))) (plain-parts args es (λ i. h (suc i)))
    ∙ ap Ok (sym (map-append as_part (tokens_at args e) (plain_tokens args es)))

paste-plain : (rule : Rule) (p : Option Carrier) (ts : List Carrier) → paste_from rule false p (map as_part ts) ≡ Ok (tokens_of p ++ ts)
paste-plain rule p [] = ap Ok (sym (append-nil (tokens_of p)))
paste-plain rule p (t ∷ ts) = ap (λ r. r >>= (λ xs. Ok (tokens_of p ++ xs))) (paste-plain rule (Some t) ts)

-- a plain place stands for itself
plain-alone : (e : Element) → is_plain_at e ≡ true → optional_of e ≡ None
plain-alone (Word b) h = refl
plain-alone (Expanded space n) h = refl
plain-alone Glue h = refl
plain-alone Silent h = refl
plain-alone (StringOf space n) h = refl
plain-alone (AsWritten space n) h = refl
plain-alone (Comma b n) h = refl
plain-alone (Optional hash n) h = absurd (true≢false (sym h))
plain-alone (Kept space n) h = refl
plain-alone Empty h = refl
plain-alone (Made space text) h = refl

plain-chosen : (args : List Argument) (es : List Element) → ArePlain es → chosen args 0 es ≡ Ok es
plain-chosen args [] h = refl
plain-chosen args (e ∷ es) h = alone-chosen args e es (plain-alone e (h 0 e refl)) (plain-chosen args es (λ i. h (suc i)))

pub plain-substituted : (rule : Rule) (args : List Argument) (es : List Element) → ArePlain es → substituted rule args es ≡ Ok (plain_tokens args es)
plain-substituted rule args es h =
    ap (λ r. r >>= (λ cs. joined rule args cs)) (plain-chosen args es h)
    ∙ ap (λ r. r >>= (λ ps. paste_from rule false None ps)) (plain-parts args es h) ∙ paste-plain rule None (plain_tokens args es)

---- tokens that are put before a list

pub laid-none : (rule : Rule) (s : Sets) (line names : ℕ) (list : List Carried) → AreKnown (size s) list → IsLaid rule s s line names [] list list
laid-none rule s line names list h = record { keeps = keeps-itself s; list = refl; known = h }

laid-more : (rule : Rule) (s u v : Sets) (line names : ℕ) (us ts : List Carrier) (before mid after : List Carried) → names < size s →
    IsLaid rule s u line names ts before mid → IsLaid rule u v line names us mid after → IsLaid rule s v line names (us ++ ts) before after
laid-more rule s u v line names us ts before mid after l p q = record {
  keeps = keeps-more s u v p.keeps q.keeps;
  list = q.list
      ∙ ap₂ (λ (f : Names) (cs : List Carrier). map (moved rule line f) us ++ cs) (fun_ext (p.keeps.same names l)) p.list
      ∙ sym (append_assoc (map (moved rule line (holds s names)) us) (map (moved rule line (holds s names)) ts) (carriers s before))
      ∙ ap (λ cs. cs ++ carriers s before) (sym (map-append (moved rule line (holds s names)) us ts));
  known = q.known;
}

---- place by place

module _ (rule : Rule) (s u : Sets) (line names : ℕ) (as' : List ArgumentValue) (es : List Element) (i j : ℕ) (e : Element) (before mid : List Carried) (units left : ℕ)
    (l : names < size s) (known : AreKnownIn (size s) as') (here : slice_get es i ≡ Some e) (next : j ≡ i + 1)
    (p : IsLaid rule s u line names (plain_tokens (argument_values s as') (drop j es)) before mid)
    (paid : left + length (plain_tokens (argument_values s as') (drop j es)) ≡ units) where
  same-here : tokens_at (argument_values u as') e ≡ tokens_at (argument_values s as') e
  same-here = ap (λ xs. tokens_at xs e) (same-arguments s u p.keeps as' known)

  tokens-here : plain_tokens (argument_values s as') (drop i es) ≡ tokens_at (argument_values s as') e ++ plain_tokens (argument_values s as') (drop j es)
  tokens-here = ap (plain_tokens (argument_values s as')) (place-at es i e here) ∙ ap (λ n. tokens_at (argument_values s as') e ++ plain_tokens (argument_values s as') (drop n es)) (sym next)

  length-here : length (plain_tokens (argument_values s as') (drop i es)) ≡ length (tokens_at (argument_values u as') e) + length (plain_tokens (argument_values s as') (drop j es))
  length-here =
      ap length tokens-here ∙ length-append (tokens_at (argument_values s as') e) (plain_tokens (argument_values s as') (drop j es))
      ∙ ap (λ ts. length ts + length (plain_tokens (argument_values s as') (drop j es))) (sym same-here)

  pub laid-at : (v : Sets) (after : List Carried) → IsLaid rule u v line names (tokens_at (argument_values u as') e) mid after →
      IsLaid rule s v line names (plain_tokens (argument_values s as') (drop i es)) before after
  laid-at v after q =
      subst (λ ts. IsLaid rule s v line names ts before after) (sym tokens-here)
      (laid-more rule s u v line names (tokens_at (argument_values s as') e) (plain_tokens (argument_values s as') (drop j es)) before mid after l p
      (subst (λ ts. IsLaid rule u v line names ts mid after) same-here q))

  pub paid-at : (now : ℕ) → now + length (tokens_at (argument_values u as') e) ≡ left → now + length (plain_tokens (argument_values s as') (drop i es)) ≡ units
  paid-at now q = omega (arith, paid, q, length-here)

  pub over-at : left < length (tokens_at (argument_values u as') e) → units < length (plain_tokens (argument_values s as') es)
  over-at q = let most = drop-tokens i es in omega (arith, paid, q, length-here, most)
    where
      drop-tokens : (k : ℕ) (xs : List Element) → length (plain_tokens (argument_values s as') (drop k xs)) ≤ length (plain_tokens (argument_values s as') xs)
      drop-tokens zero xs = omega arith
      drop-tokens (suc k) [] = omega arith
      drop-tokens (suc k) (x ∷ xs) =
          let less = drop-tokens k xs in
          let both : length (plain_tokens (argument_values s as') (x ∷ xs)) ≡ length (tokens_at (argument_values s as') x) + length (plain_tokens (argument_values s as') xs)
          = length-append (tokens_at (argument_values s as') x) (plain_tokens (argument_values s as') xs) in
          omega (arith, less, both)

---- the whole replacement

length-replaced : (rule : Rule) (t : Carrier) (names : Names) (ts : List Carrier) → length (replacing rule t names ts) ≡ length ts
length-replaced rule t names ts = length-spaced t.space (map (moved rule t.line names) ts) ∙ length-map ts (moved rule t.line names)

module _ (rule : Rule) (d : Definition) (args : List ArgumentValue) (t : Carried) (old : Work) (hidden : ℕ) (rest : List Carried) (plain : ArePlain (elements_of d)) where
  abbrev body : List Carrier
  body = plain_tokens (argument_values old.sets args) (elements_of d)

  abbrev all : Names
  all = union (only d.name) (holds old.sets hidden)

  by-body : (again : Expander) → (substituted rule (argument_values old.sets args) (elements_of d) >>= (λ cs. replaced again old.meter (replacing rule (carrier old.sets t) all cs) (carriers old.sets rest)))
      ≡ replaced again old.meter (replacing rule (carrier old.sets t) all body) (carriers old.sets rest)
  by-body again = ap (λ r. r >>= (λ cs. replaced again old.meter (replacing rule (carrier old.sets t) all cs) (carriers old.sets rest))) (plain-substituted rule (argument_values old.sets args) (elements_of d) plain)

  pub plain-over : old.meter.units < 1 + length body → IsNotPlaced rule d args t hidden old rest OverBudget
  plain-over l again =
      by-body again
      ∙ ap (λ b. elim b as (λ _. Result (List Carrier × Meter) ExpandFault) [ true ↦ Err OverBudget | false ↦ again (spent (1 + length (replacing rule (carrier old.sets t) all body)) old.meter) (replacing rule (carrier old.sets t) all body ++ carriers old.sets rest) ])
      (ap (λ m. nat_lt old.meter.units (1 + m)) (length-replaced rule (carrier old.sets t) all body) ∙ lt-ltb old.meter.units (1 + length body) l)

  module _ (known_args : AreKnownIn (size old.sets) args) (rest_known : AreKnown (size old.sets) rest) (l : hidden < size old.sets) (v : Sets) (keeps : Keeps old.sets v) where
    same-body : plain_tokens (argument_values v args) (elements_of d) ≡ body
    same-body = ap (λ xs. plain_tokens xs (elements_of d)) (same-arguments old.sets v keeps args known_args)

    pub plain-over-later : (units : ℕ) → units + 1 ≡ old.meter.units → units < length (plain_tokens (argument_values v args) (elements_of d)) → IsNotPlaced rule d args t hidden old rest OverBudget
    plain-over-later units e m = plain-over (let same = ap length same-body in omega (arith, e, m, same))

    pub plain-placed : (new : Work) (names units left : ℕ) (list : List Carried) → ((n : List ℕ) → holds v names n ≡ (holds old.sets hidden n || bytes_eq n d.name)) →
        Keeps v new.sets → carriers new.sets list ≡ replacing rule (carrier v t) (holds v names) (plain_tokens (argument_values v args) (elements_of d)) ++ carriers v rest →
        AreKnown (size new.sets) list → units + 1 ≡ old.meter.units → left + length (plain_tokens (argument_values v args) (elements_of d)) ≡ units →
        new.meter ≡ record { units = left; counter = old.meter.counter } →
        IsPlaced rule d args t hidden old new rest list
    plain-placed new names units left list members kw is known first paid meter =
        let same : length (plain_tokens (argument_values v args) (elements_of d)) ≡ length body = ap length same-body in
        let put : carriers new.sets list ≡ replacing rule (carrier old.sets t) all body ++ carriers old.sets rest
        = is
        ∙ ap₂ (λ (h : Names) (cs : List Carrier). replacing rule (carrier old.sets t) h cs ++ carriers v rest) (fun_ext hides) same-body
        ∙ ap (λ cs. replacing rule (carrier old.sets t) all body ++ cs) (same-carriers old.sets v keeps rest rest_known) in
        let long : length list ≡ length body + length rest
        = sym (length-map list (carrier new.sets)) ∙ ap length put ∙ length-append (replacing rule (carrier old.sets t) all body) (carriers old.sets rest)
        ∙ ap₂ (λ a b. a + b) (length-replaced rule (carrier old.sets t) all body) (length-map rest (carrier old.sets)) in
        let less : left ≡ old.meter.units - (1 + length body) = omega (arith, same, first, paid) in
        let now : new.meter.units ≡ left = ap (λ (m : Meter). m.units) meter in
        let spends : new.meter ≡ spent (1 + length body) old.meter = meter ∙ ap with_left less in
        record {
          keeps = keeps-more old.sets v new.sets keeps kw;
          known = known;
          spends = omega (arith, first, paid, now);
          smaller = omega (arith, first, paid, long, same, now);
          same = λ again.
              by-body again
              ∙ replaced-paid again old.meter (length body) (replacing rule (carrier old.sets t) all body) (carriers old.sets rest) (length-replaced rule (carrier old.sets t) all body)
              (le-ltb old.meter.units (1 + length body) (omega (arith, first, paid, same)))
              ∙ ap₂ again (sym spends) (sym put);
        }
      where
        with_left : ℕ → Meter
        with_left n = record { units = n; counter = old.meter.counter }

        hides : (n : List ℕ) → holds v names n ≡ (bytes_eq n d.name || holds old.sets hidden n)
        hides n = members n ∙ sym (or-turned (bytes_eq n d.name) (holds old.sets hidden n))
