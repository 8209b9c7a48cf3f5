-- A replacement put before a list, token by token from its end.
use Rattle.std.proofs.Common.{◌≡◌, ℕ, zero, suc, ◌+◌, ◌<◌, List, [], ◌∷◌, ◌++◌, map, length, drop, get_or, refl, sym, ap, ap₂, subst, ◌∙◌, arith, append_assoc, ◌||◌, ◌*◌, ◌^◌}
use Rattle.std.specs.Prelude.{Bool, true, false, if◌then◌else◌, nat_lt}
use Rattle.std.proofs.lemmas.Nat.{pow_pos}
use Rattle.std.proofs.Math.Path.{fun_ext}
use Rattle.std.proofs.lemmas.List.{map-append, length-map, get_or-map}
use Rattle.inc_expand.specs.declared.carried.Carried.{Carried}
use Rattle.inc_expand.specs.declared.pastes.Segment.{Segment}
use Rattle.inc_expand.specs.declared.rules.Rule.{Rule}
use Rattle.inc_expand.specs.declared.rules.Rule.TheVariants.{BySets, ByContexts}
use Rattle.inc_macro.specs.Macros.{is_identifier_kind}
use Rattle.inc_expand.specs.Sets.{Sets, number_of, size, holds, Keeps}
use Rattle.inc_token.specs.declared.lines.Token.{Token}
use Rattle.inc_token.specs.Views.{seen}
use Rattle.inc_expand.specs.Expansion.{of_source, Carrier, Names, hidden_at}
use Rattle.inc_expand.specs.Carriers.{bytes_in, carried_of, carrier, carriers, AreKnown}
use Rattle.inc_expand.specs.Joins.{segment_tokens, tokens_in}
use Rattle.inc_expand.specs.declared.puts.Union.{Union}
use Rattle.inc_expand.specs.Puts.{IsPut, IsUnion, moved}
use Rattle.inc_expand.proofs.CallSteps.{drop-at}
use Rattle.inc_expand.proofs.JoinSteps.{same-carriers, known-wider, keeps-more, known-at}
use Rattle.inc_expand.proofs.NameNumbers.{and-false}
use Rattle.inc_expand.proofs.LowNames.{in-empty}
use Rattle.inc_expand.proofs.Tables.{keeps-itself}

pub put-none : (rule : Rule) (s : Sets) (line names : ℕ) (list : List Carried) → AreKnown (size s) list → IsPut rule s s line names [] list list
put-none rule s line names list h = record { keeps = keeps-itself s; list = refl; known = h }

-- one token
pub put-one : (rule : Rule) (s u : Sets) (line names set : ℕ) (t : Carried) (before after : List Carried) → Keeps s u → AreKnown (size s) before → set < size u →
    ((n : List ℕ) → holds u set n ≡ hidden_at rule (holds s names) (carrier s t) n) → after ≡ record t { line = line; set = set } ∷ before →
    IsPut rule s u line names (t ∷ []) before after
put-one rule s u line names set t before after k h l members e = record {
  keeps = k;
  list = ap (carriers u) e ∙ ap₂ (λ (a : Names) (bs : List Carrier). record (carrier s t) { line = line; hidden = a } ∷ bs) (fun_ext members) (same-carriers s u k before h);
  known = subst (AreKnown (size u)) (sym e) (l, known-wider (size s) (size u) k.more before h);
}

-- one token, by the union that it was given
pub put-union : (s u : Sets) (line names : ℕ) (j : Union) (t : Carried) (before after : List Carried) → Keeps s u → names < size s → t.set < size s → AreKnown (size s) before →
    j.set ≡ t.set → IsUnion u names j → after ≡ record t { line = line; set = j.all } ∷ before → IsPut BySets s u line names (t ∷ []) before after
put-union s u line names j t before after k l m h e p is =
    put-one BySets s u line names j.all t before after k h p.known
    (λ n. p.members n ∙ ap₂ (λ (a b : Bool). a || b) (k.same names l n) (ap (λ set. holds u set n) e ∙ k.same t.set m n)) is

-- one token, by contexts
pub put-moved : (s : Sets) (line names set : ℕ) (t : Carried) (before after : List Carried) → set < size s → AreKnown (size s) before →
    holds s set ≡ hidden_at ByContexts (holds s names) (carrier s t) → after ≡ record t { line = line; set = set } ∷ before →
    IsPut ByContexts s s line names (t ∷ []) before after
put-moved s line names set t before after l h is e = put-one ByContexts s s line names set t before after (keeps-itself s) h l (λ n. ap (λ (f : Names). f n) is) e

-- more tokens before those
pub put-more : (rule : Rule) (s u v : Sets) (line names : ℕ) (us ts before mid after : List Carried) → names < size s → AreKnown (size s) us →
    IsPut rule s u line names ts before mid → IsPut rule u v line names us mid after → IsPut rule s v line names (us ++ ts) before after
put-more rule s u v line names us ts before mid after l h p q = record {
  keeps = keeps-more s u v p.keeps q.keeps;
  list = q.list
      ∙ ap₂ (λ (f : Names) (cs : List Carrier). map (moved rule line f) cs ++ carriers u mid) (fun_ext (p.keeps.same names l)) (same-carriers s u p.keeps us h)
      ∙ ap (λ cs. map (moved rule line (holds s names)) (carriers s us) ++ cs) p.list
      ∙ sym (append_assoc (map (moved rule line (holds s names)) (carriers s us)) (map (moved rule line (holds s names)) (carriers s ts)) (carriers s before))
      ∙ ap (λ cs. cs ++ carriers s before)
      (sym (map-append (moved rule line (holds s names)) (carriers s us) (carriers s ts)) ∙ ap (map (moved rule line (holds s names))) (sym (map-append (carrier s) us ts)));
  known = q.known;
}

---- the same at an index

-- the token before a place
pub put-token-at : (rule : Rule) (s u v : Sets) (line names : ℕ) (all : List Carried) (i j : ℕ) (d : Carried) (before mid after : List Carried) → names < size s →
    AreKnown (size s) all → i < length all → j ≡ i + 1 →
    IsPut rule s u line names (drop j all) before mid → IsPut rule u v line names (get_or all i d ∷ []) mid after → IsPut rule s v line names (drop i all) before after
put-token-at rule s u v line names all i j d before mid after l h k e p q =
    subst (λ ts. IsPut rule s v line names ts before after) (sym (drop-at all i d k))
    (put-more rule s u v line names (get_or all i d ∷ []) (drop (i + 1) all) before mid after l (known-at (size s) i d all k h, tt)
    (subst (λ n. IsPut rule s u line names (drop n all) before mid) e p) q)

-- the token there, in a table that has grown
pub known-there : (s u : Sets) (all : List Carried) (i : ℕ) (d : Carried) → Keeps s u → AreKnown (size s) all → i < length all → (get_or all i d).set < size u
known-there s u all i d k h l = let a = known-at (size s) i d all l h in omega (arith, a, k.more)

known-first : (n : ℕ) (ts us : List Carried) → AreKnown n (ts ++ us) → AreKnown n ts
known-first n [] us h = tt
known-first n (t ∷ ts) us h = (h.0, known-first n ts us h.1)

known-second : (n : ℕ) (ts us : List Carried) → AreKnown n (ts ++ us) → AreKnown n us
known-second n [] us h = h
known-second n (t ∷ ts) us h = known-second n ts us h.1

known-segment : (n i : ℕ) (d : Segment) (all : List Segment) → i < length all → AreKnown n (tokens_in all) → AreKnown n (segment_tokens (get_or all i d))
known-segment n i d [] l h = absurd (omega arith)
known-segment n zero d (x ∷ xs) l h = known-first n (segment_tokens x) (tokens_in xs) h
known-segment n (suc i) d (x ∷ xs) l h = known-segment n i d xs (omega (arith, l)) (known-second n (segment_tokens x) (tokens_in xs) h)

-- the segment there, in a table that has grown
pub known-segment-there : (s u : Sets) (all : List Segment) (i : ℕ) (d : Segment) → Keeps s u → AreKnown (size s) (tokens_in all) → i < length all →
    AreKnown (size u) (segment_tokens (get_or all i d))
known-segment-there s u all i d k h l = known-wider (size s) (size u) k.more (segment_tokens (get_or all i d)) (known-segment (size s) i d all l h)

-- the segment before a place
pub put-segment-at : (rule : Rule) (s u v : Sets) (line names : ℕ) (all : List Segment) (i j : ℕ) (d : Segment) (before mid after : List Carried) → names < size s →
    AreKnown (size s) (tokens_in all) → i < length all → j ≡ i + 1 →
    IsPut rule s u line names (tokens_in (drop j all)) before mid → IsPut rule u v line names (segment_tokens (get_or all i d)) mid after →
    IsPut rule s v line names (tokens_in (drop i all)) before after
put-segment-at rule s u v line names all i j d before mid after l h k e p q =
    subst (λ xs. IsPut rule s v line names (tokens_in xs) before after) (sym (drop-at all i d k))
    (put-more rule s u v line names (segment_tokens (get_or all i d)) (tokens_in (drop (i + 1) all)) before mid after l (known-segment (size s) i d all k h)
    (subst (λ n. IsPut rule s u line names (tokens_in (drop n all)) before mid) e p) q)

---- lists that are handed in

holds-empty : (s : Sets) (n : List ℕ) → holds s 0 n ≡ false
holds-empty s n = and-false (nat_lt (number_of s.names n) (length s.names)) _ (in-empty s.nodes (number_of s.names n))

some-set : (s : Sets) → 0 < size s
some-set s = by (nat_lt 32 (length s.names))
  where
    by : (b : Bool) → 0 < (if b then (length s.nodes + 2) * 4294967296 else 2 ^ length s.names)
    by true = omega arith
    by false = pow_pos (length s.names)

pub source-carriers : (s : Sets) (ts : List Token) → carriers s (map carried_of ts) ≡ map of_source (map seen ts)
source-carriers s [] = refl
source-carriers s (t ∷ ts) =
    ap₂ (λ (h : Names) (cs : List Carrier). record (of_source (seen t)) { hidden = h } ∷ cs) (fun_ext λ n. holds-empty s n) (source-carriers s ts)

pub source-known : (s : Sets) (ts : List Token) → AreKnown (size s) (map carried_of ts)
source-known s [] = tt
source-known s (t ∷ ts) = (some-set s, source-known s ts)

-- what hides nothing hides the names of where it goes
hides-nothing : (rule : Rule) (s : Sets) (names : Names) (t : Carried) → t.set ≡ 0 → (n : List ℕ) → names n ≡ hidden_at rule names (carrier s t) n
hides-nothing BySets s names t e n = none (names n) (holds s t.set n) (ap (λ set. holds s set n) e ∙ holds-empty s n)
  where
    none : (a b : Bool) → b ≡ false → a ≡ (a || b)
    none true b e = refl
    none false b e = sym e
hides-nothing ByContexts s names t e n =
    ap (λ b. (if b then holds s t.set else names) n)
    (sym (and-false (is_identifier_kind t.kind) (holds s t.set (bytes_in t.text)) (ap (λ set. holds s set (bytes_in t.text)) e ∙ holds-empty s (bytes_in t.text))))

-- one more token of the list that is handed in, which hides nothing
pub put-source-at : (rule : Rule) (s : Sets) (line names : ℕ) (all : List Token) (i j : ℕ) (d : Token) (before mid after : List Carried) → names < size s → i < length all → j ≡ i + 1 →
    AreKnown (size s) before → IsPut rule s s line names (drop j (map carried_of all)) before mid →
    after ≡ record (carried_of (get_or all i d)) { line = line; set = names } ∷ mid → IsPut rule s s line names (drop i (map carried_of all)) before after
put-source-at rule s line names all i j d before mid after l k e known p is =
    put-token-at rule s s s line names (map carried_of all) i j (carried_of d) before mid after l (source-known s all)
    (let n = length-map all carried_of in omega (arith, n, k)) e p
    (subst (λ t. IsPut rule s s line names (t ∷ []) mid after) (sym (get_or-map carried_of all i d (carried_of d) k))
    (put-one rule s s line names names (carried_of (get_or all i d)) mid after (keeps-itself s) p.known l (λ n. hides-nothing rule s (holds s names) (carried_of (get_or all i d)) refl n) is))
