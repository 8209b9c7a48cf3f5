-- Steps within a level of an expansion.
use Rattle.std.proofs.Common.{◌≡◌, ℕ, zero, suc, ◌<◌, List, [], ◌∷◌, ◌++◌, drop, take, get_or, length, Result, Ok, Err, refl, sym, ap, ap₂, subst, ◌∙◌, arith, append_assoc}
use Rattle.std.proofs.Math.ListN.{set}
use Rattle.std.proofs.lemmas.List.{map-append, length-drop}
use Rattle.inc_expand.specs.declared.carried.Carried.{Carried}
use Rattle.inc_expand.specs.declared.faults.ExpandFault.{ExpandFault}
use Rattle.inc_expand.specs.declared.walks.Work.{Work}
use Rattle.inc_expand.specs.Sets.{Sets, size}
use Rattle.inc_expand.specs.Expansion.{Carrier, Case, Passes, Surroundings, Meter, case_of, levels, treated, rule_in}
use Rattle.inc_expand.specs.Carriers.{carrier, carriers, AreKnown}
use Rattle.inc_expand.specs.Arguments.{ArgumentValue, AreKnownIn}
use Rattle.inc_expand.specs.Walks.{behind, IsRefused, IsReplaced, IsStep}
use Rattle.inc_expand.proofs.CallSteps.{known-append}
use Rattle.inc_expand.proofs.ExpansionSteps.{one_step}
use Rattle.inc_expand.proofs.JoinSteps.{same-carriers, known-wider, known-take, known-drop}
use Rattle.inc_expand.proofs.Tables.{keeps-itself}

---- a step of a list

module _ (s : Surroundings) (n : ℕ) (token : Carried) (old : Work) (rest : List Carried) (case : Case)
    (case-is : case_of s (carrier old.sets token) (carriers old.sets rest) ≡ case) where
  pub stepped : levels s (suc n) old.meter (carriers old.sets (token ∷ rest))
      ≡ treated (rule_in s) (levels s n) (levels s (suc n)) (carrier old.sets token) old.meter (carriers old.sets rest) case
  stepped =
      one_step s n old.meter (carrier old.sets token) (carriers old.sets rest)
      ∙ ap (treated (rule_in s) (levels s n) (levels s (suc n)) (carrier old.sets token) old.meter (carriers old.sets rest)) case-is

  pub step-replaced : (new : Work) (list out : List Carried) → AreKnown (size old.sets) out → IsReplaced (rule_in s) (levels s n) case token old new rest list →
      IsStep s n token old new rest list out out
  step-replaced new list out known r = record {
    keeps = r.keeps;
    known = r.known;
    known_out = known-wider (size old.sets) (size new.sets) r.keeps.more out known;
    spends = r.spends;
    smaller = r.smaller;
    same =
        ap (behind (carriers old.sets out)) (stepped ∙ r.same (levels s (suc n)))
        ∙ ap (λ cs. behind cs (levels s (suc n) new.meter (carriers new.sets list))) (sym (same-carriers old.sets new.sets r.keeps out known));
  }

  pub step-refused : (fault : ExpandFault) → IsRefused (rule_in s) (levels s n) case token old rest fault →
      levels s (suc n) old.meter (carriers old.sets (token ∷ rest)) ≡ Err fault
  step-refused fault h = stepped ∙ h (levels s (suc n))

pub behind-both : (front more : List Carrier) (r : Result (List Carrier × Meter) ExpandFault) → behind front (behind more r) ≡ behind (front ++ more) r
behind-both front more (Ok x) = ap (λ cs. Ok (cs, x.1)) (sym (append_assoc front more x.0))
behind-both front more (Err fault) = refl

pub carriers-take : (s : Sets) (k : ℕ) (ts : List Carried) → carriers s (take k ts) ≡ take k (carriers s ts)
carriers-take s zero ts = refl
carriers-take s (suc k) [] = refl
carriers-take s (suc k) (t ∷ ts) = ap (λ cs. carrier s t ∷ cs) (carriers-take s k ts)

pub carriers-drop : (s : Sets) (k : ℕ) (ts : List Carried) → carriers s (drop k ts) ≡ drop k (carriers s ts)
carriers-drop s zero ts = refl
carriers-drop s (suc k) [] = refl
carriers-drop s (suc k) (t ∷ ts) = carriers-drop s k ts

pub step-passes : (s : Surroundings) (n : ℕ) (token : Carried) (old : Work) (rest list before mid out : List Carried) (k : ℕ) →
    case_of s (carrier old.sets token) (carriers old.sets rest) ≡ Passes (carrier old.sets token ∷ take k (carriers old.sets rest)) (drop k (carriers old.sets rest)) →
    token.set < size old.sets → AreKnown (size old.sets) rest → AreKnown (size old.sets) before →
    mid ≡ before ++ token ∷ [] → out ≡ mid ++ take k rest → list ≡ drop k rest →
    IsStep s n token old old rest list before out
step-passes s n token old rest list before mid out k case-is l rest_known before_known e f g = record {
  keeps = keeps-itself old.sets;
  known = subst (AreKnown (size old.sets)) (sym g) (known-drop (size old.sets) k rest rest_known);
  known_out = subst (AreKnown (size old.sets)) (sym out-is)
      (known-append (size old.sets) before (token ∷ take k rest) before_known (l, known-take (size old.sets) k rest rest_known));
  spends = omega arith;
  smaller = let m = ap length g in omega (arith, m, length-drop k rest);
  same =
      ap (behind (carriers old.sets before)) (stepped s n token old rest _ case-is)
      ∙ behind-both (carriers old.sets before) (carrier old.sets token ∷ take k (carriers old.sets rest)) (levels s (suc n) old.meter (drop k (carriers old.sets rest)))
      ∙ ap₂ (λ (cs ds : List Carrier). behind cs (levels s (suc n) old.meter ds)) (sym out-carriers)
      (sym (carriers-drop old.sets k rest) ∙ ap (carriers old.sets) (sym g));
}
  where
    out-is : out ≡ before ++ (token ∷ take k rest)
    out-is = f ∙ ap (λ ts. ts ++ take k rest) e ∙ append_assoc before (token ∷ []) (take k rest)

    out-carriers : carriers old.sets out ≡ carriers old.sets before ++ (carrier old.sets token ∷ take k (carriers old.sets rest))
    out-carriers =
        ap (carriers old.sets) out-is ∙ map-append (carrier old.sets) before (token ∷ take k rest)
        ∙ ap (λ cs. carriers old.sets before ++ (carrier old.sets token ∷ cs)) (carriers-take old.sets k rest)

---- arguments

pub known_in-set : (m i : ℕ) (a : ArgumentValue) (as' : List ArgumentValue) → AreKnownIn m as' → AreKnown m a.written → AreKnown m a.expanded →
    AreKnownIn m (set as' i a)
known_in-set m i a [] h k l = tt
known_in-set m zero a (b ∷ as') h k l = (k, (l, h.1.1))
known_in-set m (suc i) a (b ∷ as') h k l = (h.0, (h.1.0, known_in-set m i a as' h.1.1 k l))

pub known_in-at : (m i : ℕ) (d : ArgumentValue) (as' : List ArgumentValue) → i < length as' → AreKnownIn m as' →
    AreKnown m (get_or as' i d).written × AreKnown m (get_or as' i d).expanded
known_in-at m i d [] l h = absurd (omega arith)
known_in-at m zero d (a ∷ as') l h = (h.0, h.1.0)
known_in-at m (suc i) d (a ∷ as') l h = known_in-at m i d as' (omega (arith, l)) h.1.1
