-- The places of a body, by index.
use Rattle.std.proofs.Common.{◌≡◌, ℕ, zero, suc, ◌+◌, ◌<◌, ◌≤◌, ◌==◌, ◌||◌, Bool, true, false, List, [], ◌∷◌, ◌++◌, length, slice_get, drop, take, Option, Some, None, option_map, refl, sym, ap, ◌∙◌, arith}
use Rattle.std.proofs.lemmas.Option.{slice_get_within, get_or_from_slice_get}
use Rattle.std.proofs.lemmas.List.{length-map, take_more, take_all}
use Rattle.inc_token.proofs.Slices.{element_at}
use Rattle.inc_macro.specs.declared.roles.Role.{Role}
use Rattle.inc_macro.specs.declared.roles.Role.TheVariants.{Itself, Paste as PasteRole, Hash as HashRole, AsWritten as WrittenRole, Expanded as ExpandedRole, Comma as CommaRole, Nothing as NothingRole, Optional as OptionalRole}
use Rattle.inc_macro.specs.Macros.{BodyToken, Definition, Params, spellings}
use Rattle.inc_macro.specs.Roles.{roles_of, roles_from, before_after, before_next, comma_at}
use Rattle.inc_macro.specs.declared.roles.Before.{Before}
use Rattle.inc_macro.specs.declared.roles.Before.TheVariants.{Neither}
use Rattle.inc_expand.specs.Elements.{Element, Word, Glue, Silent, StringOf, AsWritten, Expanded, Comma, Optional, Kept, Empty, Made, element, elements_from, elements_of, hash_of}
use Rattle.inc_expand.specs.Expansion.{is_expanded_in}
use Rattle.inc_expand.specs.ElementValues.{hash_in, hash_at, asks_for}
use Rattle.inc_expand.proofs.CallSteps.{drop-at}

hash_from : Option Bool → List BodyToken → List Role → ℕ → Option Bool
hash_from h bs rs zero = h
hash_from h bs rs (suc i) = hash_in (slice_get bs i) (slice_get rs i)

get-element : (h : Option Bool) (bs : List BodyToken) (rs : List Role) (i : ℕ) (b : BodyToken) (r : Role) → slice_get bs i ≡ Some b → slice_get rs i ≡ Some r →
    slice_get (elements_from h bs rs) i ≡ Some (element (hash_from h bs rs i) b r)
unfolding hash_from
get-element h [] rs i b r e f = let l = slice_get_within [] i b e in absurd (omega arith)
get-element h (c ∷ bs) [] i b r e f = let l = slice_get_within [] i r f in absurd (omega arith)
get-element h (c ∷ bs) (q ∷ rs) zero b r e f =
    let x : c ≡ b = cc in let y : q ≡ r = cc in λ k. Some (element h (x k) (y k))
get-element h (c ∷ bs) (q ∷ rs) (suc zero) b r e f = get-element (hash_of c q) bs rs zero b r e f
get-element h (c ∷ bs) (q ∷ rs) (suc (suc i)) b r e f = get-element (hash_of c q) bs rs (suc i) b r e f

pub element-is : (d : Definition) (i : ℕ) (b : BodyToken) (r : Role) → slice_get d.body i ≡ Some b → slice_get (roles_of d) i ≡ Some r →
    slice_get (elements_of d) i ≡ Some (element (hash_at d i) b r)
unfolding hash_from
element-is d zero b r e f = get-element None d.body (roles_of d) zero b r e f
element-is d (suc i) b r e f = get-element None d.body (roles_of d) (suc i) b r e f

-- the place with a role
pub place-is : (d : Definition) (i : ℕ) (r : Role) → i < length d.body → slice_get (roles_of d) i ≡ Some r
    → (b : BodyToken) × (slice_get d.body i ≡ Some b) × (slice_get (elements_of d) i ≡ Some (element (hash_at d i) b r))
place-is d i r less role = let b = element_at d.body i less in (b.0, b.1, element-is d i b.0 r b.1 role)

pub space-is : (bs : List BodyToken) (i : ℕ) (b : BodyToken) (space : Bool) → slice_get bs i ≡ Some b
    → option_map (λ (x : BodyToken). x.space) (slice_get bs i) ≡ Some space → b.space ≡ space
space-is bs i b space at is = let same : Some b.space ≡ Some space = ap (option_map (λ (x : BodyToken). x.space)) (sym at) ∙ is in cc

elements-length : (h : Option Bool) (bs : List BodyToken) (rs : List Role) → length bs ≡ length rs → length (elements_from h bs rs) ≡ length bs
elements-length h [] rs e = refl
elements-length h (b ∷ bs) [] e = absurd (let z : length (b ∷ bs) ≡ 0 = e in omega (arith, z))
elements-length h (b ∷ bs) (r ∷ rs) e = ap suc (elements-length (hash_of b r) bs rs (omega (arith, e)))

roles-length : (given : Option Params) (before : Before) (texts : List (List ℕ)) → length (roles_from given before texts) ≡ length texts
roles-length given before [] = refl
roles-length given before (text ∷ texts) = ap suc (roles-length given (before_after (comma_at given (text ∷ texts)) (before_next given before text)) texts)

pub roles-count : (d : Definition) → length (roles_of d) ≡ length d.body
roles-count d = roles-length d.params Neither (spellings d.body) ∙ length-map d.body (λ (b : BodyToken). b.spelling)

-- a body has a place for each token
pub places-of : (d : Definition) → length (elements_of d) ≡ length d.body
places-of d = elements-length None d.body (roles_of d) (sym (roles-count d))

-- the place at an index is before those after it
pub place-at : (es : List Element) (i : ℕ) (e : Element) → slice_get es i ≡ Some e → drop i es ≡ e ∷ drop (i + 1) es
place-at es i e g = drop-at es i e (slice_get_within es i e g) ∙ ap (λ x. x ∷ drop (i + 1) es) (get_or_from_slice_get es i e e g)

---- which arguments are expanded

-- by the role of a place
pub asks-is : (h : Option Bool) (b : BodyToken) (r : Role) (n : ℕ) → is_expanded_in (element h b r ∷ []) n ≡ asks_for r n
asks-is h b Itself n = refl
asks-is h b PasteRole n = refl
asks-is h b HashRole n = refl
asks-is None b (WrittenRole m) n = refl
asks-is (Some space) b (WrittenRole m) n = refl
asks-is h b (CommaRole m) n = refl
asks-is h b NothingRole n = refl
asks-is h b (OptionalRole m) n = by (m == n)
  where
    by : (t : Bool) → (t || false) ≡ t
    by true = refl
    by false = refl
asks-is h b (ExpandedRole m) n = by (m == n)
  where
    by : (t : Bool) → (t || false) ≡ t
    by true = refl
    by false = refl

expanded-first : (e : Element) (es : List Element) (n : ℕ) → is_expanded_in (e ∷ es) n ≡ (is_expanded_in (e ∷ []) n || is_expanded_in es n)
expanded-first (Word b) es n = refl
expanded-first Glue es n = refl
expanded-first Silent es n = refl
expanded-first (StringOf space m) es n = refl
expanded-first (AsWritten space m) es n = refl
expanded-first (Comma b m) es n = refl
expanded-first (Kept space m) es n = refl
expanded-first Empty es n = refl
expanded-first (Made space text) es n = refl
expanded-first (Optional hash m) es n = by (m == n)
  where
    by : (b : Bool) → (b || is_expanded_in es n) ≡ ((b || false) || is_expanded_in es n)
    by true = refl
    by false = refl
expanded-first (Expanded space m) es n = by (m == n)
  where
    by : (b : Bool) → (b || is_expanded_in es n) ≡ ((b || false) || is_expanded_in es n)
    by true = refl
    by false = refl

or-groups : (a b c : Bool) → (a || (b || c)) ≡ ((a || b) || c)
or-groups true b c = refl
or-groups false b c = refl

expanded-append : (xs ys : List Element) (n : ℕ) → is_expanded_in (xs ++ ys) n ≡ (is_expanded_in xs n || is_expanded_in ys n)
expanded-append [] ys n = refl
expanded-append (x ∷ xs) ys n =
    expanded-first x (xs ++ ys) n ∙ ap (λ b. is_expanded_in (x ∷ []) n || b) (expanded-append xs ys n)
    ∙ or-groups (is_expanded_in (x ∷ []) n) (is_expanded_in xs n) (is_expanded_in ys n)
    ∙ ap (λ b. b || is_expanded_in ys n) (sym (expanded-first x xs n))

-- one place more
pub expanded-more : (es : List Element) (i : ℕ) (e : Element) (n : ℕ) (old new : Bool) → slice_get es i ≡ Some e →
    new ≡ (old || is_expanded_in (e ∷ []) n) → old ≡ is_expanded_in (take i es) n → new ≡ is_expanded_in (take (i + 1) es) n
expanded-more es i e n old new g f h =
    f ∙ ap (λ b. b || is_expanded_in (e ∷ []) n) h
    ∙ sym (ap (λ xs. is_expanded_in xs n) (take_more es i e (slice_get_within es i e g) ∙ ap (λ x. take i es ++ x ∷ []) (get_or_from_slice_get es i e e g))
    ∙ expanded-append (take i es) (e ∷ []) n)

pub expanded-all : (d : Definition) (i n : ℕ) (b : Bool) → length d.body ≤ i → b ≡ is_expanded_in (take i (elements_of d)) n → b ≡ is_expanded_in (elements_of d) n
expanded-all d i n b l h = h ∙ ap (λ xs. is_expanded_in xs n) (take_all i (elements_of d) (omega (arith, l, places-of d)))
