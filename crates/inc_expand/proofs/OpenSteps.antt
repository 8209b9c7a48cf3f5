-- Expansions of lists that go on in later lines, step by step.
use Rattle.std.proofs.Common.{◌≡◌, ◌≢◌, ℕ, zero, suc, ◌+◌, ◌-◌, ◌<◌, ◌≤◌, Bool, true, false, not, cond, List, [], map, ◌∷◌, ◌++◌, drop, take, get_or, slice_get, is_some, length, Option, Some, None, Result, Ok, Err, IfOk, refl, sym, ap, ap₂, subst, ◌∙◌, arith, append_assoc}
use Rattle.std.specs.Prelude.{⊤}
use Rattle.std.proofs.Math.ListN.{set}
use Rattle.std.proofs.Math.Seq.{take-suc}
use Rattle.std.proofs.lemmas.Bool.{cond-false, cond-true}
use Rattle.std.proofs.lemmas.List.{take_more_set, drop-set-lt, drop_all, take_all, append-nil, length-set, map-append, length-drop, length-map}
use Rattle.inc_token.specs.TokenLines.{Tok}
use Rattle.inc_macro.specs.Results.{◌>>=◌}
use Rattle.inc_macro.specs.Macros.{Definition, Params}
use Rattle.inc_expand.specs.declared.carried.Carried.{Carried}
use Rattle.inc_expand.specs.declared.faults.ExpandFault.{ExpandFault}
use Rattle.inc_expand.specs.declared.faults.ExpandFault.TheVariants.{UnclosedCall}
use Rattle.inc_expand.specs.declared.frames.Call.{Call}
use Rattle.inc_expand.specs.declared.rules.Rule.{Rule}
use Rattle.inc_expand.specs.declared.walks.Work.{Work}
use Rattle.inc_expand.specs.Sets.{Sets, size, Keeps}
use Rattle.inc_expand.specs.Elements.{Element, elements_of}
use Rattle.inc_expand.specs.Expansion.{Argument, Call as CallOf, Carrier, Case, Expander, Item, IsCall, IsObject, IsPredefined, Names, Passes, Surroundings, Meter, argument_at, bound, call_behind, called, case_of, expanded_arguments, intersection, is_expanded_in, item_of, levels, of_source, unexpanded, rule_in, taken, treated}
use Rattle.inc_expand.specs.Carriers.{carrier, carriers, AreKnown}
use Rattle.inc_expand.specs.Arguments.{ArgumentValue, argument_value, argument_values, AreKnownIn}
use Rattle.inc_expand.specs.Frames.{behind_arguments, hidden_by_call, IsCallReplaced, IsCallRefused, IsKnownCall, IsNoted}
use Rattle.inc_expand.specs.Openings.{Held, Opened, Opener, all_given, as_it_is, carried_on, given_behind, goes_on, held, is_open_call, levels_above, of_held, opened, opened_by, opening, waits}
use Rattle.inc_expand.specs.OpenWalks.{AreExpanded, IsOpenStep, arguments_left}
use Rattle.inc_expand.specs.Walks.{replacement, IsRefused, IsReplaced}
use Rattle.inc_expand.proofs.CallLengths.{taken-steps}
use Rattle.inc_expand.proofs.CallSteps.{drop-at, known-append}
use Rattle.inc_expand.proofs.ExpansionSteps.{SpendsOnly, levels_spend}
use Rattle.inc_expand.proofs.FrameSteps.{behind_arguments-both, hidden-keeps, length-arguments, set-argument}
use Rattle.inc_expand.proofs.JoinSteps.{same-carrier, same-carriers, keeps-more, known-wider, known-take, known-drop}
use Rattle.inc_expand.proofs.LevelSteps.{carriers-drop, carriers-take, known_in-at, known_in-set}
use Rattle.inc_expand.proofs.SubstitutionRuns.{same-arguments, known_in-wider}
use Rattle.inc_expand.proofs.SubstitutionSteps.{argument-some, no_argument}
use Rattle.inc_expand.proofs.Tables.{keeps-itself}
use Rattle.inc_expand.proofs.WalkSteps.{after-taken, refused-bound, taken-with}

---- whether the `)` of a call is in a list

got : (xs : List Carried) (i : ℕ) (t : Carried) → slice_get xs i ≡ Some t → (i < length xs) × (get_or xs i t ≡ t)
got [] i t is = cc
got (x ∷ xs) zero t is = let same : x ≡ t = cc in (omega arith, same)
got (x ∷ xs) (suc i) t is = let r = got xs i t is in let l = r.0 in (omega (arith, l), r.1)

not_got : (xs : List Carried) (i : ℕ) → i < length xs → slice_get xs i ≢ None
not_got [] i l = absurd (omega (arith, l))
not_got (x ∷ xs) zero l = λ e. cc
not_got (x ∷ xs) (suc i) l = not_got xs i (omega (arith, l))

behind : (list : List Carried) (i : ℕ) → slice_get list (i + 1) ≡ slice_get (drop 1 list) i
behind [] i = refl
behind (x ∷ xs) i = let e : i + 1 ≡ suc i = omega arith in ap (slice_get (x ∷ xs)) e

-- the token at a place behind the first one
pub there : (list : List Carried) (i : ℕ) (t : Carried) → slice_get list (i + 1) ≡ Some t → (i < length (drop 1 list)) × (get_or (drop 1 list) i t ≡ t)
there list i t is = got (drop 1 list) i t (sym (behind list i) ∙ is)

pub not-there : (list : List Carried) (i n : ℕ) → n ≡ length list - 1 → i < n → slice_get list (i + 1) ≢ None
not-there list i n count l = let k = length-drop 1 list in λ e. not_got (drop 1 list) i (omega (arith, k, count, l)) (sym (behind list i) ∙ e)

carriers-behind : (s : Sets) (list : List Carried) → drop 1 (carriers s list) ≡ carriers s (drop 1 list)
carriers-behind s [] = refl
carriers-behind s (t ∷ ts) = refl

-- what the call gives is what that of the list behind the first token gives
pub close-found : (s : Sets) (list : List Carried) (c : CallOf) → call_behind 0 (carriers s (drop 1 list)) ≡ Some c → true ≡ is_some (call_behind 0 (drop 1 (carriers s list)))
close-found s list c e = sym (ap (λ ts. is_some (call_behind 0 ts)) (carriers-behind s list) ∙ ap is_some e)

pub close-missing : (s : Sets) (list : List Carried) → call_behind 0 (carriers s (drop 1 list)) ≡ None → false ≡ is_some (call_behind 0 (drop 1 (carriers s list)))
close-missing s list e = sym (ap (λ ts. is_some (call_behind 0 ts)) (carriers-behind s list) ∙ ap is_some e)

---- arguments that are expanded one after the other

abbrev Arguments : Type 0
Arguments = Result (List Argument × Meter) ExpandFault

-- what arguments give that are expanded up to parameter i
abbrev left : Surroundings → ℕ → List Element → Meter → ℕ → List Argument → Arguments
left s n es meter i args = behind_arguments (take i args) (expanded_arguments (levels s n) es meter i (drop i args))

behind_no_arguments : (r : Arguments) → behind_arguments [] r ≡ r
behind_no_arguments (Ok x) = refl
behind_no_arguments (Err fault) = refl

module _ (s : Surroundings) (n : ℕ) (es : List Element) (meter : Meter) (i : ℕ) (args : List Argument) where
  abbrev after : Meter → ℕ → List Argument → List Argument → Arguments
  after u k front as' = behind_arguments front (expanded_arguments (levels s n) es u k as')

  next : suc i ≡ i + 1
  next = omega arith

  abbrev a : Argument
  a = argument_at args i

  abbrev by : Bool → Result (Argument × Meter) ExpandFault
  by b = elim b as (λ _. Result (Argument × Meter) ExpandFault) [
    | true ↦ levels s n meter a.written >>=
        (λ e. Ok (record a { expanded = e.0 }, e.1))
    | false ↦ Ok (a, meter)
  ]

  -- the body does not ask for this one
  left-skipped : i < length args → is_expanded_in es i ≡ false → left s n es meter i args ≡ left s n es meter (i + 1) args
  left-skipped l wanted =
      ap (λ as'. after meter i (take i args) as') (drop-at args i (unexpanded []) l)
      ∙ ap (λ b. behind_arguments (take i args) (by b >>= (λ e. expanded_arguments (levels s n) es e.1 (suc i) (drop (i + 1) args) >>= (λ r. Ok (e.0 ∷ r.0, r.1))))) wanted
      ∙ behind_arguments-both (take i args) (a ∷ []) (expanded_arguments (levels s n) es meter (suc i) (drop (i + 1) args))
      ∙ ap₂ (λ (k : ℕ) (front : List Argument). after meter k front (drop (i + 1) args)) next
      (sym (ap (λ k. take k args) (sym next) ∙ take-suc args i (unexpanded []) l))

  -- it does
  left-opened : i < length args → is_expanded_in es i ≡ true → left s n es meter i args
      ≡ (levels s n meter a.written >>= (λ e. left s n es e.1 (suc i) (set args i (record a { expanded = e.0 }))))
  left-opened l wanted =
      ap (λ as'. after meter i (take i args) as') (drop-at args i (unexpanded []) l)
      ∙ ap (λ b. behind_arguments (take i args) (by b >>= (λ e. expanded_arguments (levels s n) es e.1 (suc i) (drop (i + 1) args) >>= (λ r. Ok (e.0 ∷ r.0, r.1))))) wanted
      ∙ go (levels s n meter a.written)
    where
      go : (r : Result (List Carrier × Meter) ExpandFault) →
          behind_arguments (take i args) ((r >>= (λ e. Ok (record a { expanded = e.0 }, e.1)))
          >>= (λ (e : Argument × Meter). expanded_arguments (levels s n) es e.1 (suc i) (drop (i + 1) args) >>= (λ x. Ok (e.0 ∷ x.0, x.1))))
          ≡ (r >>= (λ e. left s n es e.1 (suc i) (set args i (record a { expanded = e.0 }))))
      go (Err fault) = refl
      go (Ok e) =
          behind_arguments-both (take i args) (record a { expanded = e.0 } ∷ []) (expanded_arguments (levels s n) es e.1 (suc i) (drop (i + 1) args))
          ∙ ap₂ (λ (front more : List Argument). after e.1 (suc i) front more)
          (sym (take_more_set args i (record a { expanded = e.0 }) l) ∙ ap
          (λ k. take k (set args i (record a { expanded = e.0 }))) (sym next))
          (sym (drop-set-lt (i + 1) args i (record a { expanded = e.0 }) (omega arith)) ∙ ap
          (λ k. drop k (set args i (record a { expanded = e.0 }))) (sym next))

  -- none is left
  left-ended : length args ≤ i → left s n es meter i args ≡ Ok (args, meter)
  left-ended l =
      ap₂ (λ (front more : List Argument). after meter i front more) (take_all i args l) (drop_all i args l)
      ∙ ap (λ as'. Ok (as', meter)) (append-nil args)

-- a list is known by another one
pub of-list : (s : Surroundings) (n : ℕ) (old : Work) (list ts : List Carried) → list ≡ ts → (r : Result (List Carrier × Meter) ExpandFault) → levels s n old.meter (carriers old.sets list) ≡ r
    → levels s n old.meter (carriers old.sets ts) ≡ r
of-list s n old list ts same r is = ap (λ us. levels s n old.meter (carriers old.sets us)) (sym same) ∙ is

module _ (s : Surroundings) (old : Work) (c : Call) where
  pub expanded-none : (i : ℕ) → IsKnownCall (size old.sets) c → AreExpanded s old c i old c i
  expanded-none i known = record {
    keeps = keeps-itself old.sets;
    others = refl;
    long = refl;
    known = known;
    spends = omega arith;
    same = refl;
  }

  pub expanded-skip : (i : ℕ) → IsKnownCall (size old.sets) c → i < length c.args → is_expanded_in (elements_of c.macro_.now) i ≡ false → AreExpanded s old c i old c (i + 1)
  expanded-skip i known l wanted = record {
    keeps = keeps-itself old.sets;
    others = refl;
    long = refl;
    known = known;
    spends = omega arith;
    same =
        let n = length-arguments old.sets c.args in
        left-skipped s levels_above (elements_of c.macro_.now) old.meter i (argument_values old.sets c.args) (omega (arith, n, l)) wanted;
  }

  module _ (i : ℕ) (d : ArgumentValue) (l : i < length c.args) (wanted : is_expanded_in (elements_of c.macro_.now) i ≡ true) where
    opened-at : arguments_left s c old.sets old.meter i
        ≡ (levels s levels_above old.meter (carriers old.sets (get_or c.args i d).written)
        >>= (λ e. left s levels_above (elements_of c.macro_.now) e.1 (suc i)
        (set (argument_values old.sets c.args) i (record (argument_at (argument_values old.sets c.args) i) { expanded = e.0 }))))
    opened-at =
        let n = length-arguments old.sets c.args in
        left-opened s levels_above (elements_of c.macro_.now) old.meter i (argument_values old.sets c.args) (omega (arith, n, l)) wanted
        ∙ ap (λ (b : Argument). levels s levels_above old.meter b.written
        >>= (λ e. left s levels_above (elements_of c.macro_.now) e.1 (suc i)
        (set (argument_values old.sets c.args) i (record (argument_at (argument_values old.sets c.args) i) { expanded = e.0 }))))
        (argument-some old.sets c.args i d l)

    pub opened-fault : (n : ℕ) → n ≡ levels_above → (fault : ExpandFault) → levels s n old.meter (carriers old.sets (get_or c.args i d).written) ≡ Err fault
        → arguments_left s c old.sets old.meter i ≡ Err fault
    opened-fault n top fault e =
        opened-at
        ∙ ap (λ r. r >>= (λ e. left s levels_above (elements_of c.macro_.now) e.1 (suc i)
        (set (argument_values old.sets c.args) i (record (argument_at (argument_values old.sets c.args) i) { expanded = e.0 }))))
        (ap (λ m. levels s m old.meter (carriers old.sets (get_or c.args i d).written)) (sym top) ∙ e)

    module _ (new : Work) (out : List Carried) (keeps : Keeps old.sets new.sets) (known : IsKnownCall (size old.sets) c) (out_known : AreKnown (size new.sets) out)
        (n : ℕ) (top : n ≡ levels_above)
        (gives : levels s n old.meter (carriers old.sets (get_or c.args i d).written) ≡ Ok (carriers new.sets out, new.meter)) where
      abbrev pub new_value : ArgumentValue
      new_value = record (get_or c.args i d) { expanded = out }

      cost : new.meter.units ≤ old.meter.units
      unfolding SpendsOnly
      cost = subst (λ (r : Result (List Carrier × Meter) ExpandFault). IfOk r (λ x. x.1.units ≤ old.meter.units)) gives
          (levels_spend s n old.meter (carriers old.sets (get_or c.args i d).written))

      goes : arguments_left s c old.sets old.meter i ≡ arguments_left s (record c { args = set c.args i new_value }) new.sets new.meter (i + 1)
      goes =
          opened-at
          ∙ ap (λ r. r >>= (λ e. left s levels_above (elements_of c.macro_.now) e.1 (suc i)
          (set (argument_values old.sets c.args) i (record (argument_at (argument_values old.sets c.args) i) { expanded = e.0 }))))
          (ap (λ m. levels s m old.meter (carriers old.sets (get_or c.args i d).written)) (sym top) ∙ gives)
          ∙ ap (λ as'. left s levels_above (elements_of c.macro_.now) new.meter (suc i)
          (set as' i (record (argument_at as' i) { expanded = carriers new.sets out })))
          (sym (same-arguments old.sets new.sets keeps c.args known.args))
          ∙ ap (left s levels_above (elements_of c.macro_.now) new.meter (suc i)) (set-argument new.sets c.args i d out l)
          ∙ ap (λ k. left s levels_above (elements_of c.macro_.now) new.meter k (argument_values new.sets (set c.args i new_value))) up
        where
          up : suc i ≡ i + 1
          up = omega arith

      pub expanded-one : (after : Call) → after ≡ record c { args = set c.args i new_value } → AreExpanded s old c i new after (i + 1)
      expanded-one after is = subst (λ x. AreExpanded s old c i new x (i + 1)) (sym is) record {
        keeps = keeps;
        others = refl;
        long = length-set c.args i new_value;
        known = record {
          name = let m = keeps.more in omega (arith, m, known.name);
          close = let m = keeps.more in omega (arith, m, known.close);
          args =
              let wide = known_in-wider (size old.sets) (size new.sets) keeps.more c.args known.args in
              known_in-set (size new.sets) i new_value c.args wide (known_in-at (size new.sets) i d c.args l wide).0 out_known;
        };
        spends = cost;
        same = goes;
      }

pub expanded-both : (s : Surroundings) (a b c : Work) (x : Call) (i : ℕ) (y : Call) (j : ℕ) (z : Call) (k : ℕ) → AreExpanded s a x i b y j → AreExpanded s b y j c z k →
    AreExpanded s a x i c z k
expanded-both s a b c x i y j z k p q = record {
  keeps = keeps-more a.sets b.sets c.sets p.keeps q.keeps;
  others = q.others ∙ ap (λ (v : Call). record v { args = z.args }) p.others;
  long = q.long ∙ p.long;
  known = q.known;
  spends = omega (arith, p.spends, q.spends);
  same = p.same ∙ q.same;
}

pub expanded-noted : (s : Surroundings) (a b : Work) (x : Call) (i : ℕ) (y : Call) (j : ℕ) → AreExpanded s a x i b y j → IsNoted x → IsNoted y
expanded-noted s a b x i y j p h = subst IsNoted
    (sym p.others) record { few = let n = p.long in let m = h.few in omega (arith, n, m); wanted = h.wanted }

pub expanded-fault : (s : Surroundings) (a b : Work) (x : Call) (i : ℕ) (y : Call) (j : ℕ) (fault : ExpandFault) → AreExpanded s a x i b y j →
    arguments_left s y b.sets b.meter j ≡ Err fault → arguments_left s x a.sets a.meter i ≡ Err fault
expanded-fault s a b x i y j fault p e = p.same ∙ e

---- a call whose `)` is in the list

module _ (s : Surroundings) (old : Work) (c : Call) (p : Params) (list more : List Carried) (inside : List Carrier)
    (call : call_behind 0 (drop 1 (carriers old.sets list)) ≡ Some (record { inside = inside; close = carrier old.sets c.close; rest = carriers old.sets more }))
    (are : bound p (taken (rule_in s) (carrier old.sets c.close).hidden inside) ≡ Ok (argument_values old.sets c.args)) where
  -- the arguments, and then the replacement
  called-is : (again : Expander) → treated (rule_in s) (levels s levels_above) again (carrier old.sets c.name) old.meter (carriers old.sets list) (IsCall c.macro_.now p (drop 1 (carriers old.sets list)))
      ≡ (arguments_left s c old.sets old.meter 0 >>= (λ x. replacement (rule_in s) again c.macro_.now x.0 (carrier old.sets c.name) (hidden_by_call old.sets c) x.1 (carriers old.sets more)))
  called-is again =
      after-taken (rule_in s) (levels s levels_above) again c.macro_.now p (carrier old.sets c.name) old.meter
      (drop 1 (carriers old.sets list)) (argument_values old.sets c.args)
      (carrier old.sets c.close) (carriers old.sets more) (taken-with (rule_in s) p (drop 1 (carriers old.sets list)) inside
      (carrier old.sets c.close) (carriers old.sets more) call are)
      ∙ ap (λ r. r >>= (λ x. replacement (rule_in s) again c.macro_.now x.0 (carrier old.sets c.name) (hidden_by_call old.sets c) x.1 (carriers old.sets more)))
      (sym (behind_no_arguments (expanded_arguments (levels s levels_above) (elements_of c.macro_.now) old.meter 0 (argument_values old.sets c.args))))

  pub arguments-refused : (fault : ExpandFault) → arguments_left s c old.sets old.meter 0 ≡ Err fault
      → IsRefused (rule_in s) (levels s levels_above) (IsCall c.macro_.now p (drop 1 (carriers old.sets list))) c.name old list fault
  arguments-refused fault e again =
      called-is again
      ∙ ap (λ r. r >>= (λ x. replacement (rule_in s) again c.macro_.now x.0 (carrier old.sets c.name) (hidden_by_call old.sets c) x.1 (carriers old.sets more))) e

  module _ (mid : Work) (after : Call) (done : AreExpanded s old c 0 mid after (length after.args))
      (known : IsKnownCall (size old.sets) c) (more_known : AreKnown (size old.sets) more) where
    all_left : arguments_left s c old.sets old.meter 0 ≡ Ok (argument_values mid.sets after.args, mid.meter)
    all_left =
        let n = length-arguments mid.sets after.args in
        done.same ∙ left-ended s levels_above (elements_of after.macro_.now) mid.meter (length after.args) (argument_values mid.sets after.args) (omega (arith, n))

    replaces : (again : Expander) → treated (rule_in s) (levels s levels_above) again (carrier old.sets c.name) old.meter (carriers old.sets list) (IsCall c.macro_.now p (drop 1 (carriers old.sets list)))
        ≡ replacement (rule_in s) again c.macro_.now (argument_values mid.sets after.args) (carrier mid.sets c.name) (hidden_by_call mid.sets c) mid.meter (carriers mid.sets more)
    replaces again =
        called-is again
        ∙ ap (λ r. r >>= (λ x. replacement (rule_in s) again c.macro_.now x.0 (carrier old.sets c.name) (hidden_by_call old.sets c) x.1 (carriers old.sets more))) all_left
        ∙ ap₂ (λ (t : Carrier) (h : Names). replacement (rule_in s) again c.macro_.now (argument_values mid.sets after.args) t h mid.meter (carriers old.sets more))
        (sym (same-carrier old.sets mid.sets done.keeps c.name known.name)) (hidden-keeps old.sets mid.sets done.keeps c known)
        ∙ ap (λ ts. replacement (rule_in s) again c.macro_.now (argument_values mid.sets after.args) (carrier mid.sets c.name) (hidden_by_call mid.sets c) mid.meter ts)
        (sym (same-carriers old.sets mid.sets done.keeps more more_known))

    pub whole-replaced : (new : Work) (front : List Carried) → IsCallReplaced (rule_in s) after mid new more front
        → IsReplaced (rule_in s) (levels s levels_above) (IsCall c.macro_.now p (drop 1 (carriers old.sets list))) c.name old new list front
    whole-replaced new front r = record {
      keeps = keeps-more old.sets mid.sets new.sets done.keeps r.keeps;
      known = r.known;
      spends = omega (arith, r.spends, done.spends);
      smaller =
          let k = taken-steps (rule_in s) old.sets p list more c.args inside (carrier old.sets c.close) call are in
          omega (arith, k, r.smaller, done.spends);
      same = λ again. replaces again ∙ (subst (λ (x : Call). IsCallReplaced (rule_in s) x mid new more front) done.others r).same again;
    }

    pub whole-refused : (fault : ExpandFault) → IsCallRefused (rule_in s) after mid more fault
        → IsRefused (rule_in s) (levels s levels_above) (IsCall c.macro_.now p (drop 1 (carriers old.sets list))) c.name old list fault
    whole-refused fault h again = replaces again ∙ subst (λ (x : Call). IsCallRefused (rule_in s) x mid more fault) done.others h again

-- its `)` is not
pub unclosed-refused : (s : Surroundings) (old : Work) (t : Carried) (d : Definition) (p : Params) (list : List Carried) (fault : ExpandFault) → fault ≡ UnclosedCall
    → call_behind 0 (drop 1 (carriers old.sets list)) ≡ None
    → IsRefused (rule_in s) (levels s levels_above) (IsCall d p (drop 1 (carriers old.sets list))) t old list fault
unclosed-refused s old t d p list fault e none again =
    ap (called (rule_in s) (levels s levels_above) again (carrier old.sets t) old.meter d p) none ∙ ap Err (sym e)

-- its arguments are too few or too many
pub unbound-refused : (s : Surroundings) (old : Work) (t : Carried) (d : Definition) (p : Params) (list : List Carried) (c : CallOf) → call_behind 0 (drop 1 (carriers old.sets list)) ≡ Some c
    → (fault : ExpandFault) → bound p (taken (rule_in s) c.close.hidden c.inside) ≡ Err fault
    → IsRefused (rule_in s) (levels s levels_above) (IsCall d p (drop 1 (carriers old.sets list))) t old list fault
unbound-refused s old t d p list c call fault e again =
    refused-bound (rule_in s) (levels s levels_above) again (carrier old.sets t) old.meter d p (call_behind 0 (drop 1 (carriers old.sets list))) c call fault e

---- the front token

-- it does not pass
abbrev pub IsNoPass : Case → Type 0
IsNoPass (Passes front rest) = ⊥
IsNoPass (IsPredefined kind content) = ⊤
IsNoPass (IsObject d) = ⊤
IsNoPass (IsCall d p behind) = ⊤

closed-case : (rule : Rule) (deeper : Expander) (again : Opener) (t : Carrier) (meter : Meter) (rest : List Carrier) (case : Case) → IsNoPass case → is_open_call case ≡ false
    → opened_by rule deeper again t meter rest case ≡ goes_on again (treated rule deeper as_it_is t meter rest case)
closed-case rule deeper again t meter rest (Passes front behind) h e = absurd h
closed-case rule deeper again t meter rest (IsPredefined kind content) h e = refl
closed-case rule deeper again t meter rest (IsObject d) h e = refl
closed-case rule deeper again t meter rest (IsCall d p behind) h e = cond-false _ _ _ e

open-case : (rule : Rule) (deeper : Expander) (again : Opener) (t : Carrier) (meter : Meter) (rest : List Carrier) (case : Case) → is_open_call case ≡ true
    → opened_by rule deeper again t meter rest case ≡ Ok (waits meter (t ∷ rest))
open-case rule deeper again t meter rest (Passes front behind) e = cc
open-case rule deeper again t meter rest (IsPredefined kind content) e = cc
open-case rule deeper again t meter rest (IsObject d) e = cc
open-case rule deeper again t meter rest (IsCall d p behind) e = cond-true _ _ _ e

given_behind-both : (front more : List Carrier) (r : Result Opened ExpandFault) → given_behind front (given_behind more r) ≡ given_behind (front ++ more) r
given_behind-both front more (Ok o) = ap (λ ts. Ok (record o { given = ts })) (sym (append_assoc front more o.given))
given_behind-both front more (Err fault) = refl

given_behind-none : (r : Result Opened ExpandFault) → given_behind [] r ≡ r
given_behind-none (Ok o) = refl
given_behind-none (Err fault) = refl

module _ (s : Surroundings) (token : Carried) (old : Work) (rest : List Carried) (case : Case)
    (case-is : case_of s (carrier old.sets token) (carriers old.sets rest) ≡ case) where
  open-stepped : (k : ℕ) → opened s (levels s levels_above) (suc k) old.meter (carriers old.sets (token ∷ rest))
      ≡ opened_by (rule_in s) (levels s levels_above) (opened s (levels s levels_above) k) (carrier old.sets token) old.meter (carriers old.sets rest) case
  open-stepped k = ap (opened_by (rule_in s) (levels s levels_above) (opened s (levels s levels_above) k) (carrier old.sets token) old.meter (carriers old.sets rest)) case-is

  pub open-waits : is_open_call case ≡ true → (k : ℕ) → opened s (levels s levels_above) (suc k) old.meter (carriers old.sets (token ∷ rest))
      ≡ Ok (waits old.meter (carriers old.sets (token ∷ rest)))
  open-waits e k =
      open-stepped k ∙ open-case (rule_in s) (levels s levels_above) (opened s (levels s levels_above) k) (carrier old.sets token) old.meter (carriers old.sets rest) case e

  pub open-replaced : IsNoPass case → is_open_call case ≡ false → (new : Work) (list out : List Carried) → AreKnown (size old.sets) out
      → IsReplaced (rule_in s) (levels s levels_above) case token old new rest list → IsOpenStep s token old new rest list out out
  open-replaced no_pass closed new list out known r = record {
    keeps = r.keeps;
    known = r.known;
    known_out = known-wider (size old.sets) (size new.sets) r.keeps.more out known;
    smaller = r.smaller;
    same = λ k.
        ap (given_behind (carriers old.sets out))
        (open-stepped k
        ∙ closed-case (rule_in s) (levels s levels_above) (opened s (levels s levels_above) k) (carrier old.sets token) old.meter (carriers old.sets rest) case no_pass closed
        ∙ ap (goes_on (opened s (levels s levels_above) k)) (r.same as_it_is))
        ∙ ap (λ cs. given_behind cs (opened s (levels s levels_above) k new.meter (carriers new.sets list))) (sym (same-carriers old.sets new.sets r.keeps out known));
  }

  pub open-refused : IsNoPass case → is_open_call case ≡ false → (fault : ExpandFault) → IsRefused (rule_in s) (levels s levels_above) case token old rest fault
      → (k : ℕ) → opened s (levels s levels_above) (suc k) old.meter (carriers old.sets (token ∷ rest)) ≡ Err fault
  open-refused no_pass closed fault h k =
      open-stepped k
      ∙ closed-case (rule_in s) (levels s levels_above) (opened s (levels s levels_above) k) (carrier old.sets token) old.meter (carriers old.sets rest) case no_pass closed
      ∙ ap (goes_on (opened s (levels s levels_above) k)) (h as_it_is)

pub open-passes : (s : Surroundings) (token : Carried) (old : Work) (rest list before mid out : List Carried) (n : ℕ) →
    case_of s (carrier old.sets token) (carriers old.sets rest) ≡ Passes (carrier old.sets token ∷ take n (carriers old.sets rest)) (drop n (carriers old.sets rest)) →
    token.set < size old.sets → AreKnown (size old.sets) rest → AreKnown (size old.sets) before →
    mid ≡ before ++ token ∷ [] → out ≡ mid ++ take n rest → list ≡ drop n rest →
    IsOpenStep s token old old rest list before out
open-passes s token old rest list before mid out n case-is l rest_known before_known e f g = record {
  keeps = keeps-itself old.sets;
  known = subst (AreKnown (size old.sets)) (sym g) (known-drop (size old.sets) n rest rest_known);
  known_out = subst (AreKnown (size old.sets)) (sym out-is)
      (known-append (size old.sets) before (token ∷ take n rest) before_known (l, known-take (size old.sets) n rest rest_known));
  smaller = let m = ap length g in omega (arith, m, length-drop n rest);
  same = λ k.
      ap (given_behind (carriers old.sets before)) (open-stepped s token old rest _ case-is k)
      ∙ given_behind-both (carriers old.sets before) (carrier old.sets token ∷ take n (carriers old.sets rest)) (opened s (levels s levels_above) k old.meter (drop n (carriers old.sets rest)))
      ∙ ap₂ (λ (cs ds : List Carrier). given_behind cs (opened s (levels s levels_above) k old.meter ds)) (sym out-carriers)
      (sym (carriers-drop old.sets n rest) ∙ ap (carriers old.sets) (sym g));
}
  where
    out-is : out ≡ before ++ (token ∷ take n rest)
    out-is = f ∙ ap (λ ts. ts ++ take n rest) e ∙ append_assoc before (token ∷ []) (take n rest)

    out-carriers : carriers old.sets out ≡ carriers old.sets before ++ (carrier old.sets token ∷ take n (carriers old.sets rest))
    out-carriers =
        ap (carriers old.sets) out-is ∙ map-append (carrier old.sets) before (token ∷ take n rest)
        ∙ ap (λ cs. carriers old.sets before ++ (carrier old.sets token ∷ cs)) (carriers-take old.sets n rest)

---- the whole

-- tokens that wait are before those of later lines
pub carried-on : (u v : Sets) (hs : List Held) (ts : List Tok) (all source : List Carried) → carriers v all ≡ map of_held hs ++ carriers u source → carriers u source ≡ map of_source ts
    → carriers v all ≡ carried_on hs ts
carried-on u v hs ts all source is source-is = is ∙ ap (λ cs. map of_held hs ++ cs) source-is

abbrev pub of_items : Meter → List Item → List Held → Result (List Item × List Held × Meter) ExpandFault
of_items meter is hs = Ok (is, hs, meter)

abbrev items_and_call : Opened → Result (List Item × List Held × Meter) ExpandFault
items_and_call o = Ok (map item_of o.given, map held o.call, o.meter)

pub opening-is : (s : Surroundings) (meter : Meter) (hs : List Held) (ts : List Tok) (sets : Sets) (list : List Carried) → carriers sets list ≡ carried_on hs ts → (r : Result Opened ExpandFault)
    → opened s (levels s levels_above) (length list + meter.units + 1) meter (carriers sets list) ≡ r → opening s meter hs ts ≡ (r >>= items_and_call)
opening-is s meter hs ts sets list all r is =
    ap (λ cs. opened s (levels s levels_above) (length cs + meter.units + 1) meter cs >>= items_and_call) (sym all)
    ∙ ap (λ n. opened s (levels s levels_above) (n + meter.units + 1) meter (carriers sets list) >>= items_and_call) (length-map list (carrier sets))
    ∙ ap (λ o. o >>= items_and_call) is

---- all steps

-- what is left of a list, after tokens that were given
pub record IsOpening (s : Surroundings) (first now : Work) (all list out : List Carried) : Type 0 where
  pub keeps : Keeps first.sets now.sets
  pub known : AreKnown (size now.sets) list
  pub known_out : AreKnown (size now.sets) out
  -- so many steps are left
  pub steps : ℕ
  pub enough : now.meter.units + length list < steps
  pub same : opened s (levels s levels_above) (length all + first.meter.units + 1) first.meter (carriers first.sets all)
      ≡ given_behind (carriers now.sets out) (opened s (levels s levels_above) steps now.meter (carriers now.sets list))

module _ (s : Surroundings) (first : Work) (all : List Carried) where
  pub opening-begun : (out : List Carried) → out ≡ [] → AreKnown (size first.sets) all → IsOpening s first first all all out
  opening-begun out none known = subst (IsOpening s first first all all) (sym none) record {
    keeps = keeps-itself first.sets;
    known = known;
    known_out = tt;
    steps = length all + first.meter.units + 1;
    enough = omega arith;
    same = sym (given_behind-none (opened s (levels s levels_above) (length all + first.meter.units + 1) first.meter (carriers first.sets all)));
  }

  module _ (now : Work) (list out : List Carried) (p : IsOpening s first now all list out) where
    -- a step is left for each token
    one-more : (n : ℕ) → n ≡ p.steps → (token : Carried) (rest : List Carried) → list ≡ token ∷ rest
        → (k : ℕ) × (p.steps ≡ suc k) × (now.meter.units + length rest < k)
    one-more zero e token rest is = let h = p.enough in absurd (omega (arith, h, e))
    one-more (suc k) e token rest is = let h = p.enough in let n = ap length is in (k, sym e, omega (arith, h, e, n))

    pub opening-turn : (token : Carried) (rest : List Carried) → list ≡ token ∷ rest → (new : Work) (after given : List Carried) → IsOpenStep s token now new rest after out given
        → IsOpening s first new all after given
    opening-turn token rest is new after given t =
        let m = one-more p.steps refl token rest is in
        record {
          keeps = keeps-more first.sets now.sets new.sets p.keeps t.keeps;
          known = t.known;
          known_out = t.known_out;
          steps = m.0;
          enough = let n = t.smaller in let j = m.2 in omega (arith, n, j);
          same =
              p.same
              ∙ ap₂ (λ (k : ℕ) (ts : List Carried). given_behind (carriers now.sets out) (opened s (levels s levels_above) k now.meter (carriers now.sets ts))) m.1 is
              ∙ t.same m.0;
        }

    pub opening-fault : (token : Carried) (rest : List Carried) → list ≡ token ∷ rest → (fault : ExpandFault)
        → ((k : ℕ) → opened s (levels s levels_above) (suc k) now.meter (carriers now.sets (token ∷ rest)) ≡ Err fault)
        → opened s (levels s levels_above) (length all + first.meter.units + 1) first.meter (carriers first.sets all) ≡ Err fault
    opening-fault token rest is fault h =
        let m = one-more p.steps refl token rest is in
        p.same
        ∙ ap₂ (λ (k : ℕ) (ts : List Carried). given_behind (carriers now.sets out) (opened s (levels s levels_above) k now.meter (carriers now.sets ts))) m.1 is
        ∙ ap (given_behind (carriers now.sets out)) (h m.0)

    pub opening-waits : (token : Carried) (rest : List Carried) → list ≡ token ∷ rest
        → ((k : ℕ) → opened s (levels s levels_above) (suc k) now.meter (carriers now.sets (token ∷ rest)) ≡ Ok (waits now.meter (carriers now.sets (token ∷ rest))))
        → opened s (levels s levels_above) (length all + first.meter.units + 1) first.meter (carriers first.sets all)
        ≡ Ok (record { given = carriers now.sets out; call = carriers now.sets list; meter = now.meter })
    opening-waits token rest is h =
        let m = one-more p.steps refl token rest is in
        p.same
        ∙ ap₂ (λ (k : ℕ) (ts : List Carried). given_behind (carriers now.sets out) (opened s (levels s levels_above) k now.meter (carriers now.sets ts))) m.1 is
        ∙ ap (given_behind (carriers now.sets out)) (h m.0)
        ∙ ap₂ (λ (cs ds : List Carrier). Ok (record { given = cs; call = ds; meter = now.meter })) (append-nil (carriers now.sets out)) (ap (carriers now.sets) (sym is))

    -- by what a step has left of it
    pub opening-waits-as : (token : Carried) (rest : List Carried) → list ≡ token ∷ rest → (new : Work) (front given : List Carried) → front ≡ token ∷ rest → given ≡ out → new ≡ now
        → ((k : ℕ) → opened s (levels s levels_above) (suc k) now.meter (carriers now.sets (token ∷ rest)) ≡ Ok (waits now.meter (carriers now.sets (token ∷ rest))))
        → opened s (levels s levels_above) (length all + first.meter.units + 1) first.meter (carriers first.sets all)
        ≡ Ok (record { given = carriers new.sets given; call = carriers new.sets front; meter = new.meter })
    opening-waits-as token rest is new front given front-is given-is new-is h =
        opening-waits token rest is h
        ∙ ap (λ (w : Work). Ok (record { given = carriers w.sets out; call = carriers w.sets list; meter = w.meter })) (sym new-is)
        ∙ ap₂ (λ (ts us : List Carried). Ok (record { given = carriers new.sets ts; call = carriers new.sets us; meter = new.meter })) (sym given-is) (is ∙ sym front-is)

    pub opening-over : (popped : List Carried) → popped ≡ list → list ≡ [] → opened s (levels s levels_above) (length all + first.meter.units + 1) first.meter (carriers first.sets all)
        ≡ Ok (record { given = carriers now.sets out; call = carriers now.sets popped; meter = now.meter })
    opening-over popped same none =
        p.same ∙ by p.steps p.enough ∙ ap (λ ts. Ok (record { given = carriers now.sets out; call = carriers now.sets ts; meter = now.meter })) (sym same)
      where
        by : (n : ℕ) → now.meter.units + length list < n → given_behind (carriers now.sets out) (opened s (levels s levels_above) n now.meter (carriers now.sets list))
            ≡ Ok (record { given = carriers now.sets out; call = carriers now.sets list; meter = now.meter })
        by zero h = absurd (omega (arith, h))
        by (suc k) h =
            ap (λ ts. given_behind (carriers now.sets out) (opened s (levels s levels_above) (suc k) now.meter (carriers now.sets ts))) none
            ∙ ap₂ (λ (cs ds : List Carrier). Ok (record { given = cs; call = ds; meter = now.meter })) (append-nil (carriers now.sets out)) (ap (carriers now.sets) (sym none))

    pub opening-smaller : (token : Carried) (rest : List Carried) → list ≡ token ∷ rest → (new : Work) (after given : List Carried) → IsOpenStep s token now new rest after out given
        → new.meter.units + length after < now.meter.units + length list
    opening-smaller token rest is new after given t = let n = t.smaller in let j = ap length is in omega (arith, n, j)
