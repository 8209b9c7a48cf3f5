-- The front token of a list, replaced.
use Rattle.std.proofs.Common.{◌≡◌, ℕ, ◌+◌, ◌-◌, ◌<◌, ◌≤◌, ◌||◌, ◌&&◌, Bool, true, false, List, [], ◌∷◌, ◌++◌, map, length, Option, Some, None, IfSome, IfNone, Result, Ok, Err, refl, sym, ap, ap₂, subst, ◌∙◌, arith, nat_lt}
use Rattle.std.specs.Prelude.{bytes_eq}
use Rattle.std.proofs.Math.Path.{fun_ext}
use Rattle.std.proofs.lemmas.List.{length-map, length-append}
use Rattle.std.proofs.lemmas.Bool.{ltb-false, le-ltb}
use Rattle.inc_token.specs.declared.kinds.Kind.{Kind}
use Rattle.inc_macro.specs.Results.{◌>>=◌}
use Rattle.inc_macro.specs.Macros.{Definition, Params}
use Rattle.inc_expand.specs.declared.carried.Carried.{Carried}
use Rattle.inc_expand.specs.declared.carried.Bytes.{Bytes}
use Rattle.inc_expand.specs.declared.faults.ExpandFault.{ExpandFault}
use Rattle.inc_expand.specs.declared.faults.ExpandFault.TheVariants.{OverBudget, UnclosedCall}
use Rattle.inc_expand.specs.declared.frames.Call.{Call as CallStruct}
use Rattle.inc_expand.specs.declared.walks.Work.{Work}
use Rattle.inc_expand.specs.declared.rules.Rule.{Rule}
use Rattle.inc_expand.specs.Sets.{Sets, size, holds, Keeps}
use Rattle.inc_expand.specs.Elements.{elements_of}
use Rattle.inc_expand.specs.Expansion.{Argument, Call, Carrier, Content, Expander, IsObject, IsPredefined, Names, Meter, bound, call_behind, called, counted, expanded_arguments, intersection, only, replaced, replacing, spaced, spent, substituted, text_of, union, taken}
use Rattle.inc_expand.specs.Carriers.{bytes_in, carrier, carriers, AreKnown}
use Rattle.inc_expand.specs.Arguments.{ArgumentValue, argument_values}
use Rattle.inc_expand.specs.Frames.{hidden_by_call, IsCallRefused, IsCallReplaced, IsKnownCall}
use Rattle.inc_expand.specs.Puts.{moved}
use Rattle.inc_expand.specs.Walks.{IsNotPlaced, IsPlaced, IsRefused, IsReplaced, replacement}
use Rattle.inc_expand.proofs.ExpansionSteps.{counted-units}
use Rattle.inc_expand.proofs.JoinSteps.{same-carrier, same-carriers, known-wider, keeps-more}
use Rattle.inc_expand.proofs.SubstitutionRuns.{same-arguments}

---- what a replacement costs

pub replaced-paid : (again : Expander) (meter : Meter) (n : ℕ) (new rest : List Carrier) → length new ≡ n → nat_lt meter.units (1 + n) ≡ false →
    replaced again meter new rest ≡ again (spent (1 + n) meter) (new ++ rest)
replaced-paid again meter n new rest e h =
    ap (λ b. elim b as (λ _. Result (List Carrier × Meter) ExpandFault) [ true ↦ Err OverBudget | false ↦ again (spent (1 + length new) meter) (new ++ rest) ])
    (ap (λ m. nat_lt meter.units (1 + m)) e ∙ h)
    ∙ ap (λ m. again (spent (1 + m) meter) (new ++ rest)) e

pub length-spaced : (space : Bool) (ts : List Carrier) → length (spaced space ts) ≡ length ts
length-spaced space [] = refl
length-spaced space (t ∷ ts) = refl

length-replacing : (rule : Rule) (t : Carrier) (names : Names) (s : Sets) (tokens : List Carried) → length (replacing rule t names (carriers s tokens)) ≡ length tokens
length-replacing rule t names s tokens =
    length-spaced t.space (map (moved rule t.line names) (carriers s tokens)) ∙ length-map (carriers s tokens) (moved rule t.line names) ∙ length-map tokens (carrier s)

pub or-turned : (a b : Bool) → (a || b) ≡ (b || a)
or-turned true true = refl
or-turned true false = refl
or-turned false true = refl
or-turned false false = refl

---- a predefined name

pub predefined-replaced : (rule : Rule) (deeper : Expander) (kind : Kind) (content : Content) (text : Bytes) (name : List ℕ) (t : Carried) (old new : Work) (set : ℕ) (rest list : List Carried) →
    AreKnown (size old.sets) rest → Keeps old.sets new.sets → set < size new.sets →
    ((n : List ℕ) → holds new.sets set n ≡ (holds old.sets t.set n || bytes_eq n name)) → name ≡ bytes_in t.text → bytes_in text ≡ text_of old.meter content →
    2 ≤ old.meter.units → new.meter ≡ spent 2 (counted content old.meter) →
    list ≡ record { text = text; line = t.line; set = set; kind = kind; space = t.space } ∷ rest →
    IsReplaced rule deeper (IsPredefined kind content) t old new rest list
predefined-replaced rule deeper kind content text name t old new set rest list known keeps l members is text-is enough paid e = record {
  keeps = keeps;
  known = rw e (l, known-wider (size old.sets) (size new.sets) keeps.more rest known);
  spends = omega (arith, left, cost);
  smaller = rw e (omega (arith, left, cost, enough));
  same = λ again.
      replaced-paid again (counted content old.meter) 1 (made (text_of old.meter content) (union (only (bytes_in t.text)) (holds old.sets t.set)) ∷ []) (carriers old.sets rest) refl
      (le-ltb (counted content old.meter).units 2 (omega (arith, cost, enough)))
      ∙ ap₂ again (sym paid)
      (ap₂ (λ (h : Names) (cs : List Carrier). made (text_of old.meter content) h ∷ cs) (fun_ext more) (sym (same-carriers old.sets new.sets keeps rest known))
      ∙ ap (λ bytes. made bytes (holds new.sets set) ∷ carriers new.sets rest) (sym text-is) ∙ sym (ap (carriers new.sets) e));
}
  where
    made : List ℕ → Names → Carrier
    made bytes names = record { kind = kind; spelling = bytes; line = t.line; space = t.space; hidden = names }

    cost : (counted content old.meter).units ≡ old.meter.units
    cost = counted-units content old.meter

    left : new.meter.units ≡ (counted content old.meter).units - 2
    left = ap (λ (m : Meter). m.units) paid

    more : (n : List ℕ) → (bytes_eq n (bytes_in t.text) || holds old.sets t.set n) ≡ holds new.sets set n
    more n = or-turned (bytes_eq n (bytes_in t.text)) (holds old.sets t.set n) ∙ ap (λ b. holds old.sets t.set n || bytes_eq n b) (sym is) ∙ sym (members n)

---- a replacement that is put before the rest

module _ (rule : Rule) (old u v w : Sets) (t : Carried) (names : ℕ) (meter left : Meter) (hidden : Names) (tokens rest list : List Carried) (ku : Keeps old u) (kv : Keeps u v) (kw : Keeps v w)
    (rest_known : AreKnown (size old) rest) (tokens_known : AreKnown (size u) tokens)
    (enough : nat_lt meter.units (1 + length tokens) ≡ false) (paid : left ≡ spent (1 + length tokens) meter)
    (hides : (n : List ℕ) → hidden n ≡ holds v names n)
    (is : carriers w list ≡ replacing rule (carrier v t) (holds v names) (carriers v tokens) ++ carriers v rest) where
  pub put-same : (again : Expander) → replaced again meter (replacing rule (carrier old t) hidden (carriers u tokens)) (carriers old rest) ≡ again left (carriers w list)
  put-same again =
      replaced-paid again meter (length tokens) (replacing rule (carrier old t) hidden (carriers u tokens)) (carriers old rest) (length-replacing rule (carrier old t) hidden u tokens) enough
      ∙ ap₂ again (sym paid)
      (ap₂ (λ (h : Names) (cs : List Carrier). replacing rule (carrier v t) h cs ++ carriers old rest) (fun_ext hides) (sym (same-carriers u v kv tokens tokens_known))
      ∙ ap (λ cs. replacing rule (carrier v t) (holds v names) (carriers v tokens) ++ cs) (sym (same-carriers old v (keeps-more old u v ku kv) rest rest_known))
      ∙ sym is)

  pub put-smaller : left.units + length list ≤ meter.units + length rest
  put-smaller =
      let e : length list ≡ length tokens + length rest =
      sym (length-map list (carrier w)) ∙ ap length is ∙ length-append (replacing rule (carrier v t) (holds v names) (carriers v tokens)) (carriers v rest)
      ∙ ap₂ (λ a b. a + b) (length-replacing rule (carrier v t) (holds v names) v tokens) (length-map rest (carrier v)) in
      let l : 1 + length tokens ≤ meter.units = ltb-false meter.units (1 + length tokens) enough in
      let u : left.units ≡ meter.units - (1 + length tokens) = ap (λ (m : Meter). m.units) paid in
      omega (arith, e, l, u)

  pub put-spends : left.units ≤ meter.units
  put-spends = let u : left.units ≡ meter.units - (1 + length tokens) = ap (λ (m : Meter). m.units) paid in omega (arith, u)

pub placed : (rule : Rule) (d : Definition) (args : List ArgumentValue) (t : Carried) (old new : Work) (u v : Sets) (hidden names : ℕ) (tokens rest list : List Carried) →
    hidden < size old.sets → AreKnown (size old.sets) rest → Keeps old.sets u → substituted rule (argument_values old.sets args) (elements_of d) ≡ Ok (carriers u tokens) → AreKnown (size u) tokens →
    nat_lt old.meter.units (1 + length tokens) ≡ false → new.meter ≡ spent (1 + length tokens) old.meter → Keeps u v →
    ((n : List ℕ) → holds v names n ≡ (holds u hidden n || bytes_eq n d.name)) → Keeps v new.sets →
    carriers new.sets list ≡ replacing rule (carrier v t) (holds v names) (carriers v tokens) ++ carriers v rest → AreKnown (size new.sets) list →
    IsPlaced rule d args t hidden old new rest list
placed rule d args t old new u v hidden names tokens rest list l rest_known ku made tokens_known enough paid kv members kw is list_known = record {
  keeps = keeps-more old.sets v new.sets (keeps-more old.sets u v ku kv) kw;
  known = list_known;
  spends = put-spends rule old.sets u v new.sets t names old.meter new.meter all tokens rest list ku kv kw rest_known tokens_known enough paid hides is;
  smaller = put-smaller rule old.sets u v new.sets t names old.meter new.meter all tokens rest list ku kv kw rest_known tokens_known enough paid hides is;
  same = λ again.
      ap (λ r. r >>= (λ cs. replaced again old.meter (replacing rule (carrier old.sets t) all cs) (carriers old.sets rest))) made
      ∙ put-same rule old.sets u v new.sets t names old.meter new.meter all tokens rest list ku kv kw rest_known tokens_known enough paid hides is again;
}
  where
    all : Names
    all = union (only d.name) (holds old.sets hidden)

    hides : (n : List ℕ) → (bytes_eq n d.name || holds old.sets hidden n) ≡ holds v names n
    hides n = or-turned (bytes_eq n d.name) (holds old.sets hidden n) ∙ ap (λ b. b || bytes_eq n d.name) (sym (ku.same hidden l n)) ∙ sym (members n)

pub object-replaced : (rule : Rule) (deeper : Expander) (d : Definition) (args : List ArgumentValue) (t : Carried) (old new : Work) (rest list : List Carried) → args ≡ [] →
    IsPlaced rule d args t t.set old new rest list → IsReplaced rule deeper (IsObject d) t old new rest list
object-replaced rule deeper d args t old new rest list none placed =
    let p = subst (λ as'. IsPlaced rule d as' t t.set old new rest list) none placed in
    record { keeps = p.keeps; known = p.known; spends = p.spends; smaller = p.smaller; same = p.same }

pub object-refused : (rule : Rule) (deeper : Expander) (d : Definition) (args : List ArgumentValue) (t : Carried) (old : Work) (rest : List Carried) (fault : ExpandFault) → args ≡ [] →
    IsNotPlaced rule d args t t.set old rest fault → IsRefused rule deeper (IsObject d) t old rest fault
object-refused rule deeper d args t old rest fault none refused = subst (λ as'. IsNotPlaced rule d as' t t.set old rest fault) none refused

---- calls

-- the `(` is taken from the list
pub known-pop : (n : ℕ) (r : Option Carried) (old new : List Carried) → IfSome r (λ t. old ≡ t ∷ new) → IfNone r (new ≡ old) → AreKnown n old → AreKnown n new
known-pop n None old new h k l = subst (AreKnown n) (sym k) l
known-pop n (Some t) old new h k l = (subst (AreKnown n) h l).1

-- the arguments of the call after its `(`
abbrev arguments_of : Rule → Params → Option Call → Result (List Argument) ExpandFault
arguments_of rule p None = Err UnclosedCall
arguments_of rule p (Some c) = bound p (taken rule c.close.hidden c.inside)

pub refused-taken : (rule : Rule) (deeper again : Expander) (t : Carrier) (meter : Meter) (d : Definition) (p : Params) (call : Option Call) (fault : ExpandFault) →
    arguments_of rule p call ≡ Err fault → called rule deeper again t meter d p call ≡ Err fault
refused-taken rule deeper again t meter d p None fault e = let same : UnclosedCall ≡ fault = cc in ap Err same
refused-taken rule deeper again t meter d p (Some c) fault e =
    ap (λ r. r >>= (λ args. expanded_arguments deeper (elements_of d) meter 0 args >>= (λ x. replacement rule again d x.0 t (intersection t.hidden c.close.hidden) x.1 c.rest))) e

-- a call whose arguments are not bound
pub refused-bound : (rule : Rule) (deeper again : Expander) (t : Carrier) (meter : Meter) (d : Definition) (p : Params) (call : Option Call) (c : Call) → call ≡ Some c →
    (fault : ExpandFault) → bound p (taken rule c.close.hidden c.inside) ≡ Err fault → called rule deeper again t meter d p call ≡ Err fault
refused-bound rule deeper again t meter d p call c is fault e = refused-taken rule deeper again t meter d p call fault (ap (arguments_of rule p) is ∙ e)

-- the call after its `(` has these arguments and this `)`, and this rest of the list
pub record IsTaken (rule : Rule) (p : Params) (list : List Carrier) (args : List Argument) (close : Carrier) (rest : List Carrier) : Type 0 where
  pub inside : List Carrier
  pub call : call_behind 0 list ≡ Some (record { inside = inside; close = close; rest = rest })
  pub args_are : bound p (taken rule close.hidden inside) ≡ Ok args

pub taken-with : (rule : Rule) (p : Params) (list inside : List Carrier) (close : Carrier) (rest : List Carrier) →
    call_behind 0 list ≡ Some (record { inside = inside; close = close; rest = rest }) → {args : List Argument} → bound p (taken rule close.hidden inside) ≡ Ok args → IsTaken rule p list args close rest
taken-with rule p list inside close rest call are = record { inside = inside; call = call; args_are = are }

-- the call with its arguments
pub after-taken : (rule : Rule) (deeper again : Expander) (d : Definition) (p : Params) (t : Carrier) (meter : Meter) (list : List Carrier) (args : List Argument) (close : Carrier) (rest : List Carrier) →
    IsTaken rule p list args close rest →
    called rule deeper again t meter d p (call_behind 0 list)
    ≡ (expanded_arguments deeper (elements_of d) meter 0 args >>= (λ x. replacement rule again d x.0 t (intersection t.hidden close.hidden) x.1 rest))
after-taken rule deeper again d p t meter list args close rest is =
    ap (called rule deeper again t meter d p) is.call
    ∙ ap (λ r. r >>= (λ xs. expanded_arguments deeper (elements_of d) meter 0 xs >>= (λ x. replacement rule again d x.0 t (intersection t.hidden close.hidden) x.1 rest))) is.args_are

-- a call whose arguments are expanded, by what is hidden
pub hidden-called : (rule : Rule) (c : CallStruct) (old now : Work) (both : ℕ) (rest : List Carried) → IsKnownCall (size old.sets) c → AreKnown (size old.sets) rest → Keeps old.sets now.sets → now.meter ≡ old.meter →
    ((x : List ℕ) → holds now.sets both x ≡ (holds old.sets c.name.set x && holds old.sets c.close.set x)) → (again : Expander) →
    replacement rule again c.macro_.now (argument_values old.sets c.args) (carrier old.sets c.name) (hidden_by_call old.sets c) old.meter (carriers old.sets rest)
    ≡ replacement rule again c.macro_.now (argument_values now.sets c.args) (carrier now.sets c.name) (holds now.sets both) now.meter (carriers now.sets rest)
hidden-called rule c old now both rest known rest_known keeps meter members again =
    ap₂ (λ (h : Names) (u : Meter). replacement rule again c.macro_.now (argument_values old.sets c.args) (carrier old.sets c.name) h u (carriers old.sets rest)) (fun_ext (λ x. sym (members x))) (sym meter)
    ∙ ap₂ (λ (as' : List Argument) (cs : List Carrier). replacement rule again c.macro_.now as' (carrier old.sets c.name) (holds now.sets both) now.meter cs)
    (sym (same-arguments old.sets now.sets keeps c.args known.args)) (sym (same-carriers old.sets now.sets keeps rest rest_known))
    ∙ ap (λ (t : Carrier). replacement rule again c.macro_.now (argument_values now.sets c.args) t (holds now.sets both) now.meter (carriers now.sets rest)) (sym (same-carrier old.sets now.sets keeps c.name known.name))

pub call-replaced : (rule : Rule) (c : CallStruct) (old now new : Work) (both : ℕ) (rest list : List Carried) → IsKnownCall (size old.sets) c → AreKnown (size old.sets) rest → Keeps old.sets now.sets → now.meter ≡ old.meter →
    ((x : List ℕ) → holds now.sets both x ≡ (holds old.sets c.name.set x && holds old.sets c.close.set x)) →
    IsPlaced rule c.macro_.now c.args c.name both now new rest list → IsCallReplaced rule c old new rest list
call-replaced rule c old now new both rest list known rest_known keeps meter members p = record {
  keeps = keeps-more old.sets now.sets new.sets keeps p.keeps;
  known = p.known;
  spends = let u : now.meter.units ≡ old.meter.units = ap (λ (m : Meter). m.units) meter in omega (arith, p.spends, u);
  smaller = let u : now.meter.units ≡ old.meter.units = ap (λ (m : Meter). m.units) meter in omega (arith, p.smaller, u);
  same = λ again. hidden-called rule c old now both rest known rest_known keeps meter members again ∙ p.same again;
}

pub call-refused : (rule : Rule) (c : CallStruct) (old now : Work) (both : ℕ) (rest : List Carried) (fault : ExpandFault) → IsKnownCall (size old.sets) c → AreKnown (size old.sets) rest → Keeps old.sets now.sets → now.meter ≡ old.meter →
    ((x : List ℕ) → holds now.sets both x ≡ (holds old.sets c.name.set x && holds old.sets c.close.set x)) →
    IsNotPlaced rule c.macro_.now c.args c.name both now rest fault → IsCallRefused rule c old rest fault
call-refused rule c old now both rest fault known rest_known keeps meter members h again =
    hidden-called rule c old now both rest known rest_known keeps meter members again ∙ h again
