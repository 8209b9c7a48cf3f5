-- Tokens handed on while the expansion of a list goes on.
use Rattle.std.proofs.Common.{◌≡◌, ◌≢◌, ℕ, zero, suc, ◌+◌, ◌<◌, ◌≤◌, ◌&&◌, eqb, Bool, true, false, List, [], ◌∷◌, ◌++◌, map, take, drop, length, get_or, slice_get, Option, Some, None, IfSome, IfNone, Result, Ok, Err, refl, sym, ap, ap₂, subst, ◌∙◌, arith, append_assoc}
use Rattle.std.proofs.Math.Seq.{take-suc}
use Rattle.std.proofs.lemmas.Bool.{eqb-true, false_from_ne_true}
use Rattle.std.proofs.lemmas.List.{map-append, append-nil, length-append, take-append-drop}
use Rattle.inc_expand.specs.declared.carried.Carried.{Carried}
use Rattle.inc_expand.specs.declared.faults.ExpandFault.{ExpandFault}
use Rattle.inc_expand.specs.declared.frames.Frame.{Frame}
use Rattle.inc_expand.specs.declared.frames.Level.{Level}
use Rattle.inc_expand.specs.declared.walks.Work.{Work}
use Rattle.inc_expand.specs.Sets.{Sets, size}
use Rattle.inc_token.specs.declared.lines.Token.{Token}
use Rattle.inc_token.specs.Views.{seen}
use Rattle.inc_expand.specs.Carriers.{carried_of, carrier, carriers, AreKnown}
use Rattle.inc_expand.specs.Expansion.{Carrier, Item, Surroundings, Meter, all_levels, item_of, levels, of_source, treated, rule_in}
use Rattle.inc_expand.specs.Sinks.{Taken, carried_item, is_none, item_of_source}
use Rattle.inc_expand.specs.Frames.{answer, level_result, steps_left, unwound, AreFrames, IsKnownLevel, IsTurn}
use Rattle.inc_expand.specs.Streams.{AreHanded, ArePassed, IsHandedOn, IsOver, IsStopped, PassAlone, PassesAlone, handed}
use Rattle.inc_expand.specs.Walks.{behind}
use Rattle.inc_expand.proofs.CaseSteps.{one-more, none-more}
use Rattle.inc_expand.proofs.ExpansionSteps.{one_step}
use Rattle.inc_expand.proofs.FrameSteps.{behind-none, level-over, walking-begun}
use Rattle.inc_expand.proofs.LevelSteps.{behind-both}
use Rattle.inc_expand.proofs.PutSteps.{source-carriers}

-- what is left to do of a list, after items that were handed on
pub record IsStreamed {S : Type 0} (takes : S → Bool → Item → S → Type 0) (s : Surroundings) (before now : Work) (all : List Carried) (fs : List Frame) (l : Level) (old new : S) (first : Bool) : Type 0 where
  -- the items that were handed on
  pub items : List Item
  -- they were handed on one by one
  pub handed_on : AreHanded takes true first old new items
  -- the calls that wait are known to the sets
  pub frames : AreFrames (size now.sets) fs
  -- the level at hand is known to them
  pub level : IsKnownLevel (size now.sets) l
  -- where no call waits, all that the level gave was handed on
  pub cleared : fs ≡ [] → l.out.items ≡ []
  -- with these items first, what is left gives the whole result
  pub same : handed [] (levels s all_levels before.meter (carriers before.sets all)) ≡ handed items (answer s now.sets now.meter fs l)

---- tokens that are taken

and-true : (b : Bool) → (b && true) ≡ b
and-true true = refl
and-true false = refl

and-false : (b : Bool) → (b && false) ≡ false
and-false true = refl
and-false false = refl

taken-both : {S : Type 0} (takes : S → Bool → Item → S → Type 0) (first : Bool) (old mid new : S) (is js : List Item) →
    Taken takes first old is mid → Taken takes (first && is_none is) mid js new → Taken takes first old (is ++ js) new
taken-both takes first old mid new [] js e h =
    subst (λ b. Taken takes b old js new) (and-true first) (subst (λ s. Taken takes (first && true) s js new) (sym e) h)
taken-both takes first old mid new (i ∷ is) js (s, t, rest) h =
    (s, t, taken-both takes false s mid new is js rest (subst (λ b. Taken takes b mid js new) (and-false first) h))

flag-both : (was : Bool) (is js : List Item) → ((was && is_none is) && is_none js) ≡ (was && is_none (is ++ js))
flag-both false is js = refl
flag-both true [] js = refl
flag-both true (i ∷ is) js = refl

pub handed-both : {S : Type 0} (takes : S → Bool → Item → S → Type 0) (was mid first : Bool) (old between new : S) (is js : List Item) →
    AreHanded takes was mid old between is → AreHanded takes mid first between new js → AreHanded takes was first old new (is ++ js)
handed-both takes was mid first old between new is js a b = record {
  taken = taken-both takes was old between new is js a.taken (subst (λ f. Taken takes f between js new) a.flag b.taken);
  flag = b.flag ∙ ap (λ f. f && is_none js) a.flag ∙ flag-both was is js;
}

pub handed-none : {S : Type 0} (takes : S → Bool → Item → S → Type 0) (first : Bool) (old : S) → AreHanded takes first first old old []
handed-none takes first old = record { taken = refl; flag = sym (and-true first) }

pub handed-one : {S : Type 0} (takes : S → Bool → Item → S → Type 0) (first : Bool) (old new : S) (i : Item) → takes old first i new → AreHanded takes first false old new (i ∷ [])
handed-one takes first old new i h = record { taken = (new, h, refl); flag = sym (and-false first) }

-- one more token of those that are handed on
pub handed-more : {S A : Type 0} (takes : S → Bool → Item → S → Type 0) (to : A → Item) (was first : Bool) (old mid new : S) (as' : List A) (k : ℕ) (d : A) (i : Item) → k < length as' →
    AreHanded takes was first old mid (map to (take k as')) → i ≡ to (get_or as' k d) → takes mid first i new → AreHanded takes was false old new (map to (take (k + 1) as'))
handed-more takes to was first old mid new as' k d i l h e t =
    let n : k + 1 ≡ suc k = omega arith in
    subst (AreHanded takes was false old new)
    (ap (λ j. map to (take k as') ++ j ∷ []) e ∙ sym (ap (λ j. map to (take j as')) n ∙ ap (map to) (take-suc as' k d l) ∙ map-append to (take k as') (get_or as' k d ∷ [])))
    (handed-both takes was first false old mid new (map to (take k as')) (i ∷ []) h (handed-one takes first mid new i t))

---- a list whose front is taken off

pub popped : (r : Option Carried) (all list new : List Carried) (k : ℕ) → list ≡ drop k all → IfSome r (λ t. list ≡ t ∷ new) → IfNone r (list ≡ []) → IfNone r (new ≡ list) →
    new ≡ drop (k + 1) all
popped (Some t) all list new k e some none same =
    let n : suc k ≡ k + 1 = omega arith in (one-more k all new t (sym e ∙ some)).1 ∙ ap (λ j. drop j all) n
popped None all list new k e some none same =
    let n : suc k ≡ k + 1 = omega arith in same ∙ none ∙ sym (none-more k all (sym e ∙ none)).1 ∙ ap (λ j. drop j all) n

---- tokens that pass alone

pub alone-both : (s : Surroundings) (ts us : List Carrier) → PassAlone s ts → PassAlone s us → PassAlone s (ts ++ us)
alone-both s [] us h k = k
alone-both s (t ∷ ts) us h k = (h.0, alone-both s ts us h.1 k)

pub alone-more : (s : Surroundings) (source : List Token) (k : ℕ) (d : Token) → k < length source →
    PassAlone s (map of_source (map seen (take k source))) → PassesAlone s (of_source (seen (get_or source k d))) → PassAlone s (map of_source (map seen (take (k + 1) source)))
alone-more s source k d l h t =
    let n : k + 1 ≡ suc k = omega arith in
    subst (PassAlone s)
    (sym (ap (λ j. map of_source (map seen (take j source))) n ∙ ap (λ us. map of_source (map seen us)) (take-suc source k d l)
    ∙ ap (map of_source) (map-append seen (take k source) (get_or source k d ∷ [])) ∙ map-append of_source (map seen (take k source)) (seen (get_or source k d) ∷ [])))
    (alone-both s (map of_source (map seen (take k source))) (of_source (seen (get_or source k d)) ∷ []) h (t, tt))

none-taken : (source : List Token) (k : ℕ) → k ≤ length source → eqb k 0 ≡ is_none (map carried_item (map carried_of (take k source)))
none-taken source zero l = refl
none-taken [] (suc k) l = absurd (omega (arith, l))
none-taken (t ∷ ts) (suc k) l = false_from_ne_true (eqb (suc k) 0) (λ e. omega (arith, eqb-true _ _ e))

pub are-passed : {S : Type 0} (takes : S → Bool → Item → S → Type 0) (s : Surroundings) (was first : Bool) (old new : S) (before list : List Carried) (source : List Token) (k : ℕ) → k ≤ length source →
    take k before ≡ map carried_of (take k source) → list ≡ drop k before → PassAlone s (map of_source (map seen (take k source))) →
    Taken takes was old (map item_of_source (map seen (take k source))) new → first ≡ (was && eqb k 0) → ArePassed takes s was first old new before list
are-passed takes s was first old new before list source k l e f h t flag = record {
  passed = map carried_of (take k source);
  are = sym (take-append-drop k before) ∙ ap₂ (λ (us vs : List Carried). us ++ vs) e (sym f);
  alone = λ sets. subst (PassAlone s) (sym (source-carriers sets (take k source))) h;
  handed = record {
    taken = subst (λ is. Taken takes was old is new) (both (take k source)) t;
    flag = flag ∙ ap (λ b. was && b) (none-taken source k l);
  };
}
  where
    both : (us : List Token) → map item_of_source (map seen us) ≡ map carried_item (map carried_of us)
    both [] = refl
    both (u ∷ us) = ap (λ is. carried_item (carried_of u) ∷ is) (both us)

-- none were passed yet
pub passed-none : {S : Type 0} (takes : S → Bool → Item → S → Type 0) (s : Surroundings) (first : Bool) (old : S) (list : List Carried) → ArePassed takes s first first old old list list
passed-none takes s first old list = record { passed = []; are = refl; alone = λ sets. tt; handed = handed-none takes first old }

-- and then some more
pub passed-both : {S : Type 0} (takes : S → Bool → Item → S → Type 0) (s : Surroundings) (was mid first : Bool) (old between new : S) (before list more : List Carried) →
    ArePassed takes s was mid old between before list → ArePassed takes s mid first between new list more → ArePassed takes s was first old new before more
passed-both takes s was mid first old between new before list more a b = record {
  passed = a.passed ++ b.passed;
  are = a.are ∙ ap (λ ts. a.passed ++ ts) b.are ∙ sym (append_assoc a.passed b.passed more);
  alone = λ sets.
      subst (PassAlone s) (sym (map-append (carrier sets) a.passed b.passed))
      (alone-both s (carriers sets a.passed) (carriers sets b.passed) (a.alone sets) (b.alone sets));
  handed =
      subst (AreHanded takes was first old new) (sym (map-append carried_item a.passed b.passed))
      (handed-both takes was mid first old between new (map carried_item a.passed) (map carried_item b.passed) a.handed b.handed);
}

-- one token
pub passed-one : {S : Type 0} (takes : S → Bool → Item → S → Type 0) (s : Surroundings) (first : Bool) (old new : S) (before list : List Carried) (t : Carried) (i : Item) →
    slice_get before 0 ≡ Some t → list ≡ drop 1 before → ((sets : Sets) → PassesAlone s (carrier sets t)) → i ≡ carried_item t → takes old first i new →
    ArePassed takes s first false old new before list
passed-one takes s first old new [] list t i is e alone item h = cc
passed-one takes s first old new (u ∷ us) list t i is e alone item h = record {
  passed = t ∷ [];
  are = let same : u ≡ t = cc in ap₂ (λ (v : Carried) (vs : List Carried). v ∷ vs) same (sym e);
  alone = λ sets. (alone sets, tt);
  handed = subst (λ j. AreHanded takes first false old new (j ∷ [])) item (handed-one takes first old new i h);
}

-- a list at whose front one was passed is shorter
pub passed-shorter : (before list : List Carried) (t : Carried) → slice_get before 0 ≡ Some t → list ≡ drop 1 before → length list < length before
passed-shorter [] list t is e = cc
passed-shorter (u ∷ us) list t is e = let k = ap length e in omega (arith, k)

---- what is left to do

handed-behind : (items : List Item) (front : List Carrier) (r : Result (List Carrier × Meter) ExpandFault) →
    handed items (behind front r) ≡ handed (items ++ map item_of front) r
handed-behind items front (Ok x) =
    ap (λ is. Ok (is, x.1)) (ap (λ is. items ++ is) (map-append item_of front x.0) ∙ sym (append_assoc items (map item_of front) (map item_of x.0)))
handed-behind items front (Err e) = refl

item-carriers : (s : Sets) (ts : List Carried) → map item_of (carriers s ts) ≡ map carried_item ts
item-carriers s [] = refl
item-carriers s (t ∷ ts) = ap (λ is. carried_item t ∷ is) (item-carriers s ts)

pub passed-levels : (s : Surroundings) (n : ℕ) (meter : Meter) (front rest : List Carrier) → PassAlone s front →
    levels s (suc n) meter (front ++ rest) ≡ behind front (levels s (suc n) meter rest)
passed-levels s n meter [] rest h = sym (behind-none (levels s (suc n) meter rest))
passed-levels s n meter (t ∷ ts) rest h =
    one_step s n meter t (ts ++ rest)
    ∙ ap (treated (rule_in s) (levels s n) (levels s (suc n)) t meter (ts ++ rest)) (h.0 (ts ++ rest))
    ∙ ap (behind (t ∷ [])) (passed-levels s n meter ts rest h.1)
    ∙ behind-both (t ∷ []) ts (levels s (suc n) meter rest)

known-behind : (n : ℕ) (front rest : List Carried) → AreKnown n (front ++ rest) → AreKnown n rest
known-behind n [] rest h = h
known-behind n (t ∷ ts) rest h = known-behind n ts rest h.1

---- a level of which items are handed on

-- some call waits: none are
pub handed-nothing : {S : Type 0} (takes : S → Bool → Item → S → Type 0) (s : Surroundings) (first : Bool) (old : S) (fs : List Frame) (l : Level) → fs ≢ [] → IsHandedOn takes s first first old old fs l l
handed-nothing takes s first old fs l some = record {
  items = [];
  taken = handed-none takes first old;
  known = λ n h. h;
  shorter = omega arith;
  cleared = λ none. absurd (some none);
  same = λ sets meter before. ap (λ is. handed is (answer s sets meter fs l)) (sym (append-nil before));
}

-- no call waits: what it has given, and what passes alone at its front
pub handed-level : {S : Type 0} (takes : S → Bool → Item → S → Type 0) (s : Surroundings) (was mid first : Bool) (old between new : S) (fs : List Frame) (l m : Level) → fs ≡ [] → m.deeper ≡ l.deeper →
    m.out.items ≡ [] → AreHanded takes was mid old between (map carried_item l.out.items) → ArePassed takes s mid first between new l.list m.list → IsHandedOn takes s was first old new fs l m
handed-level takes s was mid first old between new fs l m none deeper-is out-is h a = record {
  items = map carried_item l.out.items ++ map carried_item a.passed;
  taken = handed-both takes was mid first old between new (map carried_item l.out.items) (map carried_item a.passed) h a.handed;
  known = λ n k. record {
    list = known-behind n a.passed m.list (subst (AreKnown n) a.are k.list);
    out = subst (AreKnown n) (sym out-is) tt;
  };
  shorter = let n = ap length a.are in let k = length-append a.passed m.list in omega (arith, n, k);
  cleared = λ e. out-is;
  same = λ sets meter before.
      ap (λ gs. handed before (unwound s sets gs (level_result s sets meter l))) none
      ∙ handed-behind before (carriers sets l.out.items) (levels s (suc l.deeper) meter (carriers sets l.list))
      ∙ ap₂ (λ (is : List Item) (ts : List Carrier). handed (before ++ is) (levels s (suc l.deeper) meter ts)) (item-carriers sets l.out.items) (ap (carriers sets) a.are ∙ map-append (carrier sets) a.passed m.list)
      ∙ ap (handed (before ++ map carried_item l.out.items)) (passed-levels s l.deeper meter (carriers sets a.passed) (carriers sets m.list) (a.alone sets))
      ∙ handed-behind (before ++ map carried_item l.out.items) (carriers sets a.passed) (levels s (suc l.deeper) meter (carriers sets m.list))
      ∙ ap₂ (λ (is : List Item) (n : ℕ). handed ((before ++ map carried_item l.out.items) ++ is) (levels s (suc n) meter (carriers sets m.list))) (item-carriers sets a.passed) (sym deeper-is)
      ∙ ap₂ (λ (is : List Item) (r : Result (List Carrier × Meter) ExpandFault). handed is r) (append_assoc before (map carried_item l.out.items) (map carried_item a.passed))
      (sym (behind-none (levels s (suc m.deeper) meter (carriers sets m.list))) ∙ ap (λ ts. behind (carriers sets ts) (levels s (suc m.deeper) meter (carriers sets m.list))) (sym out-is))
      ∙ ap (λ gs. handed (before ++ (map carried_item l.out.items ++ map carried_item a.passed)) (unwound s sets gs (level_result s sets meter m))) (sym none);
}

---- all steps

module _ {S : Type 0} (takes : S → Bool → Item → S → Type 0) (s : Surroundings) (before : Work) (all : List Carried) (old : S) where
  pub streamed-begun : (l : Level) → suc l.deeper ≡ all_levels → l.list ≡ all → l.out.items ≡ [] → AreKnown (size before.sets) all → IsStreamed takes s before before all [] l old old true
  streamed-begun l top list-is out-is known =
      let w = walking-begun s all_levels before all l top list-is out-is known in
      record { items = []; handed_on = handed-none takes true old; frames = w.frames; level = w.level; cleared = λ e. out-is; same = ap (handed []) w.same }

  module _ (now : Work) (fs : List Frame) (l : Level) (mid : S) (first : Bool) (p : IsStreamed takes s before now all fs l old mid first) where
    pub streamed-step : (new : Work) (gs : List Frame) (m k : Level) (later : S) (next : Bool) → IsTurn s now fs l new gs m → IsHandedOn takes s first next mid later gs m k →
        IsStreamed takes s before new all gs k old later next
    streamed-step new gs m k later next t h = record {
      items = p.items ++ h.items;
      handed_on = handed-both takes true first next old mid later p.items h.items p.handed_on h.taken;
      frames = t.frames;
      level = h.known (size new.sets) t.level;
      cleared = h.cleared;
      same = p.same ∙ ap (handed p.items) t.same ∙ h.same new.sets new.meter p.items;
    }

    pub streamed-fault : (fault : ExpandFault) → answer s now.sets now.meter fs l ≡ Err fault → IsStopped takes s before all old mid fault
    streamed-fault fault e = record { items = p.items; taken = p.handed_on.taken; same = p.same ∙ ap (handed p.items) e }

    pub streamed-over : fs ≡ [] → l.list ≡ [] → IsOver takes s before now all old mid
    streamed-over none over = record {
      items = p.items;
      taken = p.handed_on.taken;
      same =
          p.same
          ∙ ap (λ gs. handed p.items (unwound s now.sets gs (level_result s now.sets now.meter l))) none
          ∙ ap (handed p.items) (level-over s now.sets now.meter l over ∙ ap (λ ts. Ok (carriers now.sets ts, now.meter)) (p.cleared none))
          ∙ ap (λ is. Ok (is, now.meter)) (append-nil p.items);
    }

pub streamed-smaller : {S : Type 0} (takes : S → Bool → Item → S → Type 0) (s : Surroundings) (now new : Work) (fs gs : List Frame) (l m k : Level) (mid later : S) (first next : Bool) →
    IsTurn s now fs l new gs m → IsHandedOn takes s first next mid later gs m k → steps_left new.meter gs k < steps_left now.meter fs l
streamed-smaller takes s now new fs gs l m k mid later first next t h = let n = t.fewer in let j = h.shorter in omega (arith, n, j)
