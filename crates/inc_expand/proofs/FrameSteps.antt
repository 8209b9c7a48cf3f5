-- Calls that wait for the expansion of an argument: what is left to do gives the same after each step.
use Rattle.std.proofs.Common.{◌≡◌, ℕ, suc, Bool, true, false, ◌+◌, ◌<◌, ◌≤◌, List, [], ◌∷◌, ◌++◌, drop, take, get_or, length, Some, None, Result, Ok, Err, refl, sym, ap, ap₂, subst, ◌∙◌, arith, append_assoc}
use Rattle.std.proofs.Math.ListN.{set}
use Rattle.std.proofs.Math.Path.{fun_ext}
use Rattle.std.proofs.Math.Seq.{take-suc}
use Rattle.std.proofs.lemmas.List.{take_more_set, drop-set-lt, map-set, drop_all, take_all, append-nil, length-set}
use Rattle.inc_macro.specs.Results.{◌>>=◌}
use Rattle.inc_macro.specs.Macros.{Definition, Params}
use Rattle.inc_expand.specs.declared.carried.Carried.{Carried}
use Rattle.inc_expand.specs.declared.faults.ExpandFault.{ExpandFault}
use Rattle.inc_expand.specs.declared.faults.ExpandFault.TheVariants.{OverBudget, UnclosedCall}
use Rattle.inc_expand.specs.declared.frames.Call.{Call}
use Rattle.inc_expand.specs.declared.frames.Frame.{Frame}
use Rattle.inc_expand.specs.declared.frames.Level.{Level}
use Rattle.inc_expand.specs.declared.walks.Work.{Work}
use Rattle.inc_expand.specs.Sets.{Sets, size, Keeps}
use Rattle.inc_expand.specs.Elements.{elements_of}
use Rattle.inc_expand.specs.Expansion.{Argument, Call as CallOf, Carrier, IsCall, Names, Surroundings, Meter, all_levels, argument_at, bound, call_behind, called, case_of, expanded_arguments, intersection, is_expanded_in, levels, unexpanded, rule_in, taken}
use Rattle.inc_expand.specs.Carriers.{carrier, carriers, AreKnown}
use Rattle.inc_expand.specs.Arguments.{ArgumentValue, argument_value, argument_values, AreKnownIn}
use Rattle.inc_expand.specs.Frames.{answer, behind_arguments, call_result, call_with, going_on, hidden_by_call, level_result, resumed, steps_of, unwound, with_front, AreFrames, ArePassedOn, IsCallReplaced, IsCallRefused, IsFrame, IsGone, IsKnownCall, IsKnownLevel, IsNoted, IsTurn}
use Rattle.inc_expand.specs.Walks.{behind, replacement, IsStep}
use Rattle.inc_expand.proofs.CallSteps.{drop-at}
use Rattle.inc_expand.proofs.ExpansionSteps.{no_step}
use Rattle.inc_expand.proofs.JoinSteps.{same-carrier, same-carriers, known-wider, keeps-more}
use Rattle.inc_expand.proofs.SubstitutionRuns.{same-arguments, known_in-wider}
use Rattle.inc_expand.proofs.SubstitutionSteps.{argument-some, no_argument}
use Rattle.inc_expand.proofs.LevelSteps.{known_in-at, known_in-set, stepped}
use Rattle.inc_expand.proofs.WalkSteps.{after-taken, refused-bound, taken-with}
use Rattle.inc_expand.proofs.CallLengths.{taken-steps}
use Rattle.inc_expand.proofs.Tables.{keeps-itself}

---- results

-- what a list or a call gives
abbrev Given : Type 0
Given = Result (List Carrier × Meter) ExpandFault

pub behind-none : (r : Given) → behind [] r ≡ r
behind-none (Ok x) = refl
behind-none (Err fault) = refl

behind-then : (front : List Carrier) (r : Given) (f : List Carrier × Meter → Given) → behind front (r >>= f) ≡
    (r >>= (λ e. behind front (f e)))
behind-then front (Ok x) f = refl
behind-then front (Err fault) f = refl

pub behind_arguments-both : (front more : List Argument) (r : Result (List Argument × Meter) ExpandFault) →
    behind_arguments front (behind_arguments more r) ≡ behind_arguments (front ++ more) r
behind_arguments-both front more (Ok x) = ap (λ as'. Ok (as', x.1)) (sym (append_assoc front more x.0))
behind_arguments-both front more (Err fault) = refl

---- tables of sets that have grown

pub hidden-keeps : (u v : Sets) → Keeps u v → (c : Call) → IsKnownCall (size u) c → hidden_by_call u c ≡ hidden_by_call v c
hidden-keeps u v k c known =
    sym (ap₂ (λ (a b : Names). intersection a b) (fun_ext λ n. k.same c.name.set known.name n)
    (fun_ext λ n. k.same c.close.set known.close n))

call_with-keeps : (s : Surroundings) (u v : Sets) → Keeps u v → (meter : Meter) (n : ℕ) (c : Call) (args : List Argument)
    (l : Level) → IsKnownCall (size u) c → IsKnownLevel (size u) l →
    call_with s u meter n c args l ≡ call_with s v meter n c args l
call_with-keeps s u v k meter n c args l known level =
    ap₂ (λ (out list : List Carrier). behind out (going_on s l.deeper c.macro_.now (carrier u c.name)
    (hidden_by_call u c) meter n args list))
    (sym (same-carriers u v k l.out.items level.out)) (sym (same-carriers u v k l.list level.list))
    ∙ ap₂ (λ (t : Carrier) (h : Names). behind (carriers v l.out.items)
    (going_on s l.deeper c.macro_.now t h meter n args (carriers v l.list)))
    (sym (same-carrier u v k c.name known.name)) (hidden-keeps u v k c known)

resumed-keeps : (s : Surroundings) (u v : Sets) → Keeps u v → (f : Frame) → IsFrame (size u) f → (r : Given) →
    resumed s u f r ≡ resumed s v f r
resumed-keeps s u v k f frame (Err fault) = refl
resumed-keeps s u v k f frame (Ok e) =
    ap (λ as'. call_with s u e.1 (suc f.at) f.call (set as' f.at
    (record (argument_at as' f.at) { expanded = e.0 })) f.level)
    (sym (same-arguments u v k f.call.args frame.known.args))
    ∙ call_with-keeps s u v k e.1 (suc f.at) f.call
    (set (argument_values v f.call.args) f.at (record (argument_at
    (argument_values v f.call.args) f.at) { expanded = e.0 })) f.level frame.known frame.level

pub unwound-keeps : (s : Surroundings) (u v : Sets) → Keeps u v → (fs : List Frame) → AreFrames (size u) fs →
    (r : Given) → unwound s u fs r ≡ unwound s v fs r
unwound-keeps s u v k [] frames r = refl
unwound-keeps s u v k (f ∷ fs) frames r = unwound-keeps s u v k fs frames.1 (resumed s u f r) ∙ ap (unwound s v fs)
    (resumed-keeps s u v k f frames.0 r)

pub unwound-fault : (s : Surroundings) (sets : Sets) (fs : List Frame) (fault : ExpandFault) → unwound s sets fs
    (Err fault) ≡ Err fault
unwound-fault s sets [] fault = refl
unwound-fault s sets (f ∷ fs) fault = unwound-fault s sets fs fault

pub call-wider : (m n : ℕ) → m ≤ n → (c : Call) → IsKnownCall m c → IsKnownCall n c
call-wider m n l c known = record {
  name = omega (arith, l, known.name);
  close = omega (arith, l, known.close);
  args = known_in-wider m n l c.args known.args;
}

pub level-wider : (m n : ℕ) → m ≤ n → (l : Level) → IsKnownLevel m l → IsKnownLevel n l
level-wider m n w l known = record { list = known-wider m n w l.list known.list; out = known-wider m n w l.out.items known.out }

pub frames-wider : (m n : ℕ) → m ≤ n → (fs : List Frame) → AreFrames m fs → AreFrames n fs
frames-wider m n w [] frames = tt
frames-wider m n w (f ∷ fs) frames = (
  record {
    known = call-wider m n w f.call frames.0.known;
    noted = frames.0.noted;
    level = level-wider m n w f.level frames.0.level;
    within = frames.0.within;
  },
  frames-wider m n w fs frames.1,
)

---- the arguments of a call

-- the argument of parameter i, which is expanded
opened-at : (s : Surroundings) (deeper : ℕ) (d : Definition) (t : Carrier) (hidden : Names) (meter : Meter) (i : ℕ)
    (args : List Argument) (rest : List Carrier) →
    i < length args → is_expanded_in (elements_of d) i ≡ true →
    going_on s deeper d t hidden meter i args rest
    ≡ (levels s deeper meter (argument_at args i).written
    >>= (λ e. going_on s deeper d t hidden e.1 (suc i) (set args i
    (record (argument_at args i) { expanded = e.0 })) rest))
opened-at s deeper d t hidden meter i args rest l wanted =
    ap (λ as'. after meter i (take i args) as') (drop-at args i (unexpanded []) l)
    ∙ ap (λ b. behind_arguments (take i args) (by b >>= (λ e. expanded_arguments (levels s deeper) (elements_of d) e.1
    (suc i) (drop (i + 1) args) >>= (λ r. Ok (e.0 ∷ r.0, r.1))))
    >>= (λ x. replacement (rule_in s) (levels s (suc deeper)) d x.0 t hidden x.1 rest)) wanted
    ∙ go (levels s deeper meter a.written)
  where
    a : Argument
    a = argument_at args i

    after : Meter → ℕ → List Argument → List Argument → Given
    after u n front as' = behind_arguments front (expanded_arguments (levels s deeper) (elements_of d) u n as') >>=
        (λ x. replacement (rule_in s) (levels s (suc deeper)) d x.0 t hidden x.1 rest)

    by : Bool → Result (Argument × Meter) ExpandFault
    by b = elim b as (λ _. Result (Argument × Meter) ExpandFault) [
      | true ↦ levels s deeper meter a.written >>=
          (λ e. Ok (record a { expanded = e.0 }, e.1))
      | false ↦ Ok (a, meter)
    ]

    next : suc i ≡ i + 1
    next = omega arith

    go : (r : Given) →
        (behind_arguments (take i args) ((r >>= (λ e. Ok (record a { expanded = e.0 }, e.1)))
        >>= (λ (e : Argument × Meter). expanded_arguments (levels s deeper) (elements_of d) e.1 (suc i)
        (drop (i + 1) args) >>= (λ r. Ok (e.0 ∷ r.0, r.1))))
        >>= (λ x. replacement (rule_in s) (levels s (suc deeper)) d x.0 t hidden x.1 rest))
        ≡ (r >>= (λ e. going_on s deeper d t hidden e.1 (suc i) (set args i (record a { expanded = e.0 })) rest))
    go (Err fault) = refl
    go (Ok e) =
        ap (λ r. r >>= (λ x. replacement (rule_in s) (levels s (suc deeper)) d x.0 t hidden x.1 rest))
        (behind_arguments-both (take i args) (record a { expanded = e.0 } ∷ [])
        (expanded_arguments (levels s deeper) (elements_of d) e.1 (suc i) (drop (i + 1) args)))
        ∙ ap₂ (λ (front more : List Argument). after e.1 (suc i) front more)
        (sym (take_more_set args i (record a { expanded = e.0 }) l) ∙ ap
        (λ n. take n (set args i (record a { expanded = e.0 }))) (sym next))
        (sym (drop-set-lt (i + 1) args i (record a { expanded = e.0 }) (omega arith)) ∙ ap
        (λ n. drop n (set args i (record a { expanded = e.0 }))) (sym next))

-- one that is not
skipped-at : (s : Surroundings) (deeper : ℕ) (d : Definition) (t : Carrier) (hidden : Names) (meter : Meter) (i : ℕ)
    (args : List Argument) (rest : List Carrier) →
    i < length args → is_expanded_in (elements_of d) i ≡ false → going_on s deeper d t hidden meter i args rest
    ≡ going_on s deeper d t hidden meter (i + 1) args rest
skipped-at s deeper d t hidden meter i args rest l wanted =
    ap (λ as'. after i (take i args) as') (drop-at args i (unexpanded []) l)
    ∙ ap (λ b. behind_arguments (take i args) (by b >>= (λ e. expanded_arguments (levels s deeper) (elements_of d) e.1
    (suc i) (drop (i + 1) args) >>= (λ r. Ok (e.0 ∷ r.0, r.1))))
    >>= (λ x. replacement (rule_in s) (levels s (suc deeper)) d x.0 t hidden x.1 rest)) wanted
    ∙ ap (λ r. r >>= (λ x. replacement (rule_in s) (levels s (suc deeper)) d x.0 t hidden x.1 rest))
    (behind_arguments-both (take i args) (a ∷ []) (expanded_arguments (levels s deeper) (elements_of d) meter (suc i)
    (drop (i + 1) args)))
    ∙ ap₂ (λ (n : ℕ) (front : List Argument). after n front (drop (i + 1) args)) next (front-is)
  where
    a : Argument
    a = argument_at args i

    after : ℕ → List Argument → List Argument → Given
    after n front as' = behind_arguments front (expanded_arguments (levels s deeper) (elements_of d) meter n as') >>=
        (λ x. replacement (rule_in s) (levels s (suc deeper)) d x.0 t hidden x.1 rest)

    by : Bool → Result (Argument × Meter) ExpandFault
    by b = elim b as (λ _. Result (Argument × Meter) ExpandFault) [
      | true ↦ levels s deeper meter a.written >>=
          (λ e. Ok (record a { expanded = e.0 }, e.1))
      | false ↦ Ok (a, meter)
    ]

    next : suc i ≡ i + 1
    next = omega arith

    front-is : take i args ++ a ∷ [] ≡ take (i + 1) args
    front-is = sym (ap (λ n. take n args) (sym next) ∙ take-suc args i (unexpanded []) l)

-- none is left
ended-at : (s : Surroundings) (deeper : ℕ) (d : Definition) (t : Carrier) (hidden : Names) (meter : Meter) (i : ℕ)
    (args : List Argument) (rest : List Carrier) →
    length args ≤ i → going_on s deeper d t hidden meter i args rest ≡ replacement (rule_in s)
    (levels s (suc deeper)) d args t hidden meter rest
ended-at s deeper d t hidden meter i args rest l =
    ap₂ (λ (front more : List Argument). behind_arguments front
    (expanded_arguments (levels s deeper) (elements_of d) meter i more) >>=
    (λ x. replacement (rule_in s) (levels s (suc deeper)) d x.0 t hidden x.1 rest))
    (take_all i args l) (drop_all i args l)
    ∙ ap (λ as'. replacement (rule_in s) (levels s (suc deeper)) d as' t hidden meter rest) (append-nil args)

-- all are left
pub begun-at : (s : Surroundings) (deeper : ℕ) (d : Definition) (t : Carrier) (hidden : Names) (meter : Meter)
    (args : List Argument) (rest : List Carrier) →
    (expanded_arguments (levels s deeper) (elements_of d) meter 0 args >>=
    (λ x. replacement (rule_in s) (levels s (suc deeper)) d x.0 t hidden x.1 rest))
    ≡ going_on s deeper d t hidden meter 0 args rest
begun-at s deeper d t hidden meter args rest = by (expanded_arguments (levels s deeper) (elements_of d) meter 0 args)
  where
    by : (r : Result (List Argument × Meter) ExpandFault) →
        (r >>= (λ x. replacement (rule_in s) (levels s (suc deeper)) d x.0 t hidden x.1 rest)) ≡
        (behind_arguments [] r >>= (λ x. replacement (rule_in s) (levels s (suc deeper)) d x.0 t hidden x.1 rest))
    by (Ok x) = refl
    by (Err fault) = refl

---- the same of a call of the program

pub length-arguments : (sets : Sets) (as' : List ArgumentValue) → length (argument_values sets as') ≡ length as'
length-arguments sets [] = refl
length-arguments sets (a ∷ as') = ap suc (length-arguments sets as')

-- an argument that was expanded
pub set-argument : (sets : Sets) (as' : List ArgumentValue) (i : ℕ) (d : ArgumentValue) (ts : List Carried) →
    i < length as' →
    set (argument_values sets as') i (record (argument_at (argument_values sets as') i) { expanded = carriers sets ts })
    ≡ argument_values sets (set as' i (record (get_or as' i d) { expanded = ts }))
set-argument sets as' i d ts l =
    ap (λ (a : Argument). set (argument_values sets as') i (record a { expanded = carriers sets ts }))
    (argument-some sets as' i d l)
    ∙ sym (map-set (argument_value sets) as' i (record (get_or as' i d) { expanded = ts }))

-- the call waits
call-opened : (s : Surroundings) (sets : Sets) (meter : Meter) (i : ℕ) (c : Call) (l : Level) (d : ArgumentValue) →
    i < length c.args → is_expanded_in (elements_of c.macro_.now) i ≡ true →
    call_result s sets meter i c l ≡ resumed s sets (record { call = c; at = i; level = l })
    (levels s l.deeper meter (carriers sets (get_or c.args i d).written))
call-opened s sets meter i c l d w wanted =
    ap (behind (carriers sets l.out.items))
    (opened-at s l.deeper c.macro_.now (carrier sets c.name) (hidden_by_call sets c) meter i
    (argument_values sets c.args) (carriers sets l.list)
    (omega (arith, length-arguments sets c.args, w)) wanted)
    ∙ behind-then (carriers sets l.out.items) (levels s l.deeper meter
    (argument_at (argument_values sets c.args) i).written) _
    ∙ ap (λ (a : Argument). resumed s sets (record { call = c; at = i; level = l })
    (levels s l.deeper meter a.written)) (argument-some sets c.args i d w)

-- nothing waits, and all that is left to do is a list of which nothing is left
pub level-over : (s : Surroundings) (sets : Sets) (meter : Meter) (l : Level) → l.list ≡ [] → level_result s sets meter l
    ≡ Ok (carriers sets l.out.items, meter)
level-over s sets meter l none =
    ap (λ ts. behind (carriers sets l.out.items) (levels s (suc l.deeper) meter (carriers sets ts))) none
    ∙ ap (behind (carriers sets l.out.items)) (no_step s l.deeper meter) ∙ ap (λ ts. Ok (ts, meter))
    (append-nil (carriers sets l.out.items))

---- arguments that are passed

steps-at : (as' : List ArgumentValue) (i : ℕ) (d : ArgumentValue) → i < length as' → steps_of (drop i as') ≡ suc
    (length (get_or as' i d).written + steps_of (drop (i + 1) as'))
steps-at as' i d l = ap steps_of (drop-at as' i d l)

pub passed-none : (s : Surroundings) (deeper : ℕ) (c : Call) (i : ℕ) → ArePassedOn s deeper c i c i
passed-none s deeper c i = record { others = refl; long = refl; known = λ n h. h; same = λ sets meter l e. refl; fewer = omega arith }

pub passed-both : (s : Surroundings) (deeper : ℕ) (a : Call) (i : ℕ) (b : Call) (j : ℕ) (c : Call) (k : ℕ) →
    ArePassedOn s deeper a i b j → ArePassedOn s deeper b j c k → ArePassedOn s deeper a i c k
passed-both s deeper a i b j c k p q = record {
  others = q.others ∙ ap (λ (x : Call). record x { args = c.args }) p.others;
  long = q.long ∙ p.long;
  known = λ n h. q.known n (p.known n h);
  same = λ sets meter l e. p.same sets meter l e ∙ q.same sets meter l e;
  fewer = omega (arith, p.fewer, q.fewer);
}

-- one that no ordinary place asks for
pub passed-skip : (s : Surroundings) (deeper : ℕ) (c : Call) (i : ℕ) → i < length c.args → is_expanded_in
    (elements_of c.macro_.now) i ≡ false → ArePassedOn s deeper c i c (i + 1)
passed-skip s deeper c i l wanted = record {
  others = refl;
  long = refl;
  known = λ n h. h;
  same = λ sets meter level e.
      ap (behind (carriers sets level.out.items))
      (skipped-at s level.deeper c.macro_.now (carrier sets c.name) (hidden_by_call sets c) meter i
      (argument_values sets c.args) (carriers sets level.list)
      (let n = length-arguments sets c.args in omega (arith, n, l)) wanted);
  fewer = let n = steps-at c.args i no_argument l in omega (arith, n);
}

-- one that expands to itself
pub passed-one : (s : Surroundings) (deeper : ℕ) (c : Call) (i : ℕ) (d : ArgumentValue) (ts : List Carried)
    (new : Call) → i < length c.args → is_expanded_in (elements_of c.macro_.now) i ≡ true →
    ts ≡ (get_or c.args i d).written → ((sets : Sets) (meter : Meter) → levels s deeper meter (carriers sets ts) ≡ Ok
    (carriers sets ts, meter)) →
    new ≡ record c { args = set c.args i (record (get_or c.args i d) { expanded = (get_or c.args i d).written }) } →
    ArePassedOn s deeper c i new (i + 1)
passed-one s deeper c i d ts new l wanted written-is itself is = subst (λ x. ArePassedOn s deeper c i x (i + 1))
    (sym is) record {
      others = refl;
      long = length-set c.args i after;
      known = λ n h. let k = known_in-at n i d c.args l h in known_in-set n i after c.args h k.0 k.0;
      same = λ sets meter level e.
          call-opened s sets meter i c level d l wanted
          ∙ ap (resumed s sets (record { call = c; at = i; level = level }))
          (ap₂ (λ (n : ℕ) (us : List Carried). levels s n meter (carriers sets us)) e (sym written-is) ∙ itself sets meter
          ∙ ap (λ us. Ok (carriers sets us, meter)) written-is)
          ∙ ap (λ as'. call_with s sets meter (suc i) c as' level)
          (set-argument sets c.args i d (get_or c.args i d).written l)
          ∙ ap (λ n. call_with s sets meter n c (argument_values sets (set c.args i after)) level) next;
      fewer = let n = steps-at c.args i d l in let m = ap steps_of
          (drop-set-lt (i + 1) c.args i after (omega arith)) in omega (arith, n, m);
    }
  where
    after : ArgumentValue
    after = record (get_or c.args i d) { expanded = (get_or c.args i d).written }

    next : suc i ≡ i + 1
    next = omega arith

pub passed-noted : (s : Surroundings) (deeper : ℕ) (c : Call) (i : ℕ) (new : Call) (j : ℕ) →
    ArePassedOn s deeper c i new j → IsNoted c → IsNoted new
passed-noted s deeper c i new j p h = subst IsNoted
    (sym p.others) record { few = let n = p.long in let m = h.few in omega (arith, n, m); wanted = h.wanted }

pub passed-known : (s : Surroundings) (deeper : ℕ) (c : Call) (i : ℕ) (new : Call) (j n : ℕ) →
    ArePassedOn s deeper c i new j → IsKnownCall n c → IsKnownCall n new
passed-known s deeper c i new j n p h = subst (IsKnownCall n)
    (sym p.others) record { name = h.name; close = h.close; args = p.known n h.args }

---- a call that is gone on with

module _ (s : Surroundings) (old : Work) (fs : List Frame) (c : Call) (i : ℕ) (l : Level) where
  -- it waits
  pub gone-opened : (m : Level) (d : ArgumentValue) → i < length c.args → is_expanded_in (elements_of c.macro_.now) i
      ≡ true →
      AreFrames (size old.sets) fs → IsKnownCall (size old.sets) c → IsNoted c → IsKnownLevel (size old.sets) l →
      m.deeper + 1 ≡ l.deeper → m.list ≡ (get_or c.args i d).written → m.out.items ≡ [] → IsGone s old fs c i l old
      (record { call = c; at = i; level = l } ∷ fs) m
  gone-opened m d w wanted frames known noted level deeper-is list-is out-is = record {
    keeps = keeps-itself old.sets;
    frames = (record { known = known; noted = noted; level = level; within = w }, frames);
    level = record {
      list = subst (AreKnown (size old.sets)) (sym list-is) (known_in-at (size old.sets) i d c.args w known.args).0;
      out = subst (AreKnown (size old.sets)) (sym out-is) tt;
    };
    same = ap (unwound s old.sets fs) (call-opened s old.sets old.meter i c l d w wanted ∙ ap
        (resumed s old.sets (record { call = c; at = i; level = l })) begins);
    fewer = let n = steps-at c.args i d w in let k = ap length list-is in
        let j : steps_of (drop (suc i) c.args) ≡ steps_of (drop (i + 1) c.args) = ap
        (λ x. steps_of (drop x c.args)) next in omega (arith, n, k, j);
  }
    where
      next : suc i ≡ i + 1
      next = omega arith

      up : l.deeper ≡ suc m.deeper
      up = omega (arith, deeper-is)

      begins : levels s l.deeper old.meter (carriers old.sets (get_or c.args i d).written)
          ≡ level_result s old.sets old.meter m
      begins =
          ap₂ (λ (n : ℕ) (ts : List Carried). levels s n old.meter (carriers old.sets ts)) up (sym list-is)
          ∙ sym (behind-none (levels s (suc m.deeper) old.meter (carriers old.sets m.list)))
          ∙ ap (λ ts. behind (carriers old.sets ts) (levels s (suc m.deeper) old.meter (carriers old.sets m.list)))
          (sym out-is)

  -- or it cannot, for no level is left
  pub gone-too-deep : i < length c.args → is_expanded_in (elements_of c.macro_.now) i ≡ true → l.deeper ≡ 0 →
      unwound s old.sets fs (call_result s old.sets old.meter i c l) ≡ Err OverBudget
  gone-too-deep w wanted none =
      ap (unwound s old.sets fs)
      (call-opened s old.sets old.meter i c l no_argument w wanted
      ∙ ap (λ n. resumed s old.sets (record { call = c; at = i; level = l })
      (levels s n old.meter (carriers old.sets (get_or c.args i no_argument).written))) none)
      ∙ unwound-fault s old.sets fs OverBudget

  -- it is replaced
  ends : length c.args ≤ i →
      call_result s old.sets old.meter i c l
      ≡ behind (carriers old.sets l.out.items) (replacement (rule_in s) (levels s (suc l.deeper)) c.macro_.now
      (argument_values old.sets c.args) (carrier old.sets c.name) (hidden_by_call old.sets c) old.meter
      (carriers old.sets l.list))
  ends w =
      ap (behind (carriers old.sets l.out.items))
      (ended-at s l.deeper c.macro_.now (carrier old.sets c.name) (hidden_by_call old.sets c) old.meter i
      (argument_values old.sets c.args) (carriers old.sets l.list)
      (let n = length-arguments old.sets c.args in omega (arith, n, w)))

  pub gone-replaced : (new : Work) (m : Level) → length c.args ≤ i → AreFrames (size old.sets) fs → IsKnownLevel
      (size old.sets) l → m.deeper ≡ l.deeper → m.out.items ≡ l.out.items →
      IsCallReplaced (rule_in s) c old new l.list m.list → IsGone s old fs c i l new fs m
  gone-replaced new m w frames level deeper-is out-is r = record {
    keeps = r.keeps;
    frames = frames-wider (size old.sets) (size new.sets) r.keeps.more fs frames;
    level = record {
      list = r.known;
      out = subst (AreKnown (size new.sets)) (sym out-is)
          (known-wider (size old.sets) (size new.sets) r.keeps.more l.out.items level.out);
    };
    same =
        ap (unwound s old.sets fs)
        (ends w ∙ ap (behind (carriers old.sets l.out.items)) (r.same (levels s (suc l.deeper)))
        ∙ ap₂ (λ (cs : List Carrier) (n : ℕ). behind cs (levels s (suc n) new.meter (carriers new.sets m.list)))
        (sym (same-carriers old.sets new.sets r.keeps l.out.items level.out) ∙ ap (carriers new.sets) (sym out-is))
        (sym deeper-is))
        ∙ unwound-keeps s old.sets new.sets r.keeps fs frames (level_result s new.sets new.meter m);
    fewer = let n = r.smaller in omega (arith, n);
  }

  pub gone-refused : (fault : ExpandFault) → length c.args ≤ i → IsCallRefused (rule_in s) c old l.list fault →
      unwound s old.sets fs (call_result s old.sets old.meter i c l) ≡ Err fault
  gone-refused fault w h =
      ap (unwound s old.sets fs) (ends w ∙ ap (behind (carriers old.sets l.out.items)) (h (levels s (suc l.deeper))))
      ∙ unwound-fault s old.sets fs fault

  -- after arguments that were passed
  module _ (before : Call) (from : ℕ) (p : ArePassedOn s l.deeper before from c i) where
    pub gone-passed : (new : Work) (gs : List Frame) (m : Level) → IsGone s old fs c i l new gs m →
        IsGone s old fs before from l new gs m
    gone-passed new gs m g = record {
      keeps = g.keeps;
      frames = g.frames;
      level = g.level;
      same = ap (unwound s old.sets fs) (p.same old.sets old.meter l refl) ∙ g.same;
      fewer = let n = g.fewer in let k = p.fewer in omega (arith, n, k);
    }

    pub fault-passed : (fault : ExpandFault) → unwound s old.sets fs (call_result s old.sets old.meter i c l)
        ≡ Err fault →
        unwound s old.sets fs (call_result s old.sets old.meter from before l) ≡ Err fault
    fault-passed fault e = ap (unwound s old.sets fs) (p.same old.sets old.meter l refl) ∙ e

---- a step

module _ (s : Surroundings) (old : Work) (fs : List Frame) where
  -- at a token that is no call
  pub turn-step : (new : Work) (l m : Level) (token : Carried) → m.deeper ≡ l.deeper → AreFrames (size old.sets) fs →
      IsStep s l.deeper token old new l.list m.list l.out.items m.out.items →
      IsTurn s old fs (with_front token l) new fs m
  turn-step new l m token deeper-is frames step = record {
    keeps = step.keeps;
    frames = frames-wider (size old.sets) (size new.sets) step.keeps.more fs frames;
    level = record { list = step.known; out = step.known_out };
    same =
        ap (unwound s old.sets fs) (step.same ∙ ap (λ n. behind (carriers new.sets m.out.items)
        (levels s (suc n) new.meter (carriers new.sets m.list))) (sym deeper-is))
        ∙ unwound-keeps s old.sets new.sets step.keeps fs frames (level_result s new.sets new.meter m);
    fewer = let n = step.smaller in omega (arith, n);
  }

  pub turn-fault : (l : Level) (token : Carried) (fault : ExpandFault) → levels s (suc l.deeper) old.meter
      (carriers old.sets (token ∷ l.list)) ≡ Err fault →
      answer s old.sets old.meter fs (with_front token l) ≡ Err fault
  turn-fault l token fault e = ap (λ r. unwound s old.sets fs (behind (carriers old.sets l.out.items) r)) e
      ∙ unwound-fault s old.sets fs fault

  -- at a call, which begins
  module _ (l : Level) (c : Call) (p : Params) (more : List Carried) (inside : List Carrier)
      (case-is : case_of s (carrier old.sets c.name) (carriers old.sets l.list) ≡ IsCall c.macro_.now p
      (drop 1 (carriers old.sets l.list)))
      (call : call_behind 0 (drop 1 (carriers old.sets l.list)) ≡ Some
      (record { inside = inside; close = carrier old.sets c.close; rest = carriers old.sets more }))
      (are : bound p (taken (rule_in s) (carrier old.sets c.close).hidden inside) ≡ Ok (argument_values old.sets c.args)) where
    begins : level_result s old.sets old.meter (with_front c.name l) ≡ call_result s old.sets old.meter 0 c
        (record l { list = more })
    begins =
        ap (behind (carriers old.sets l.out.items))
        (stepped s l.deeper c.name old l.list _ case-is
        ∙ after-taken (rule_in s) (levels s l.deeper) (levels s (suc l.deeper)) c.macro_.now p (carrier old.sets c.name) old.meter
        (drop 1 (carriers old.sets l.list)) (argument_values old.sets c.args)
        (carrier old.sets c.close) (carriers old.sets more) (taken-with (rule_in s) p (drop 1 (carriers old.sets l.list)) inside
        (carrier old.sets c.close) (carriers old.sets more) call are)
        ∙ begun-at s l.deeper c.macro_.now (carrier old.sets c.name) (hidden_by_call old.sets c) old.meter
        (argument_values old.sets c.args) (carriers old.sets more))

    pub turn-begun : (new : Work) (gs : List Frame) (m : Level) → IsGone s old fs c 0
        (record l { list = more }) new gs m → IsTurn s old fs (with_front c.name l) new gs m
    turn-begun new gs m g = record {
      keeps = g.keeps;
      frames = g.frames;
      level = g.level;
      same = ap (unwound s old.sets fs) begins ∙ g.same;
      fewer = let n = g.fewer in let k = taken-steps (rule_in s) old.sets p l.list more c.args inside
          (carrier old.sets c.close) call are in omega (arith, n, k);
    }

    pub begun-fault : (fault : ExpandFault) → unwound s old.sets fs
        (call_result s old.sets old.meter 0 c (record l { list = more })) ≡ Err fault →
        answer s old.sets old.meter fs (with_front c.name l) ≡ Err fault
    begun-fault fault e = ap (unwound s old.sets fs) begins ∙ e

  -- or does not, for its `)` is missing or its arguments are too few or too many
  module _ (l : Level) (t : Carried) (d : Definition) (p : Params)
      (case-is : case_of s (carrier old.sets t) (carriers old.sets l.list) ≡ IsCall d p
      (drop 1 (carriers old.sets l.list))) where
    pub unclosed-fault : (fault : ExpandFault) → fault ≡ UnclosedCall → call_behind 0
        (drop 1 (carriers old.sets l.list)) ≡ None → answer s old.sets old.meter fs (with_front t l) ≡ Err fault
    unclosed-fault fault e none =
        turn-fault l t fault
        (stepped s l.deeper t old l.list _ case-is ∙ ap (called (rule_in s) (levels s l.deeper) (levels s (suc l.deeper))
        (carrier old.sets t) old.meter d p) none ∙ ap Err (sym e))

    pub unbound-fault : (c : CallOf) → call_behind 0 (drop 1 (carriers old.sets l.list)) ≡ Some c →
        (fault : ExpandFault) → bound p (taken (rule_in s) c.close.hidden c.inside) ≡ Err fault →
        answer s old.sets old.meter fs (with_front t l) ≡ Err fault
    unbound-fault c call fault e =
        turn-fault l t fault
        (stepped s l.deeper t old l.list _ case-is
        ∙ refused-bound (rule_in s) (levels s l.deeper) (levels s (suc l.deeper)) (carrier old.sets t) old.meter d p
        (call_behind 0 (drop 1 (carriers old.sets l.list))) c call fault e)

  -- at the end of an argument
  module _ (f : Frame) (l : Level) (d : ArgumentValue) (args : List ArgumentValue) (out : List Carried)
      (out-is : out ≡ l.out.items)
      (is : args ≡ set f.call.args f.at (record (get_or f.call.args f.at d) { expanded = out })) (none : l.list ≡ [])
      (within : f.at < length f.call.args) where
    next : suc f.at ≡ f.at + 1
    next = omega arith

    closes : resumed s old.sets f (level_result s old.sets old.meter l) ≡ call_result s old.sets old.meter (f.at + 1)
        (record f.call { args = args }) f.level
    closes =
        ap (resumed s old.sets f) (level-over s old.sets old.meter l none ∙ ap
        (λ ts. Ok (carriers old.sets ts, old.meter)) (sym out-is))
        ∙ ap (λ as'. call_with s old.sets old.meter (suc f.at) f.call as' f.level)
        (set-argument old.sets f.call.args f.at d out within ∙ ap (argument_values old.sets) (sym is))
        ∙ ap (λ n. call_with s old.sets old.meter n f.call (argument_values old.sets args) f.level) next

    pub turn-closed : (below : Level) → below ≡ f.level → (new : Work) (gs : List Frame) (m : Level) → IsGone s old fs
        (record f.call { args = args }) (f.at + 1) below new gs m →
        IsTurn s old (f ∷ fs) l new gs m
    turn-closed below below-is new gs m h =
        let g : IsGone s old fs (record f.call { args = args }) (f.at + 1) f.level new gs m = subst
        (λ x. IsGone s old fs (record f.call { args = args }) (f.at + 1) x new gs m) below-is h in record {
          keeps = g.keeps;
          frames = g.frames;
          level = g.level;
          same = ap (unwound s old.sets fs) closes ∙ g.same;
          fewer =
              let n = g.fewer in
              let k = ap (λ as'. steps_of (drop (f.at + 1) as')) is in
              let i = ap steps_of (drop-set-lt (f.at + 1) f.call.args f.at
              (record (get_or f.call.args f.at d) { expanded = out }) (omega arith)) in
              let j : steps_of (drop (suc f.at) f.call.args) ≡ steps_of (drop (f.at + 1) f.call.args) = ap
              (λ x. steps_of (drop x f.call.args)) next in omega (arith, n, k, i, j);
        }

    pub closed-fault : (below : Level) → below ≡ f.level → (fault : ExpandFault) →
        unwound s old.sets fs (call_result s old.sets old.meter (f.at + 1) (record f.call { args = args }) below)
        ≡ Err fault → answer s old.sets old.meter (f ∷ fs) l ≡ Err fault
    closed-fault below below-is fault e =
        ap (unwound s old.sets fs) (closes ∙ ap (call_result s old.sets old.meter (f.at + 1)
        (record f.call { args = args })) (sym below-is)) ∙ e

    pub closed-noted : IsNoted f.call → IsNoted (record f.call { args = args })
    closed-noted h = record {
      few = let n = ap length is in let k = length-set f.call.args f.at
          (record (get_or f.call.args f.at d) { expanded = out }) in let m = h.few in omega (arith, n, k, m);
      wanted = h.wanted;
    }

    pub closed-known : (n : ℕ) → IsKnownCall n f.call → AreKnown n l.out.items → IsKnownCall n
        (record f.call { args = args })
    closed-known n h k = record {
      name = h.name;
      close = h.close;
      args = subst (AreKnownIn n) (sym is)
          (known_in-set n f.at (record (get_or f.call.args f.at d) { expanded = out }) f.call.args h.args
          (known_in-at n f.at d f.call.args within h.args).0 (subst (AreKnown n) (sym out-is) k));
    }

pub front-is : (l : Level) (token : Carried) (rest : List Carried) → l.list ≡ token ∷ rest → with_front token
    (record l { list = rest }) ≡ l
front-is l token rest e = ap (λ (ts : List Carried). record l { list = ts }) (sym e)

---- all steps

-- how many levels there are may be known by another number
pub at-level : (s : Surroundings) (n m : ℕ) (meter : Meter) (ts : List Carrier) (r : Result (List Carrier × Meter) ExpandFault) → n ≡ m → levels s n meter ts ≡ r → levels s m meter ts ≡ r
at-level s n m meter ts r same is = ap (λ k. levels s k meter ts) (sym same) ∙ is

-- what is left to do gives what the list gives, at a level
pub record IsWalking (s : Surroundings) (n : ℕ) (first now : Work) (all : List Carried) (fs : List Frame)
    (l : Level) : Type 0 where
  pub keeps : Keeps first.sets now.sets
  pub frames : AreFrames (size now.sets) fs
  pub level : IsKnownLevel (size now.sets) l
  pub same : levels s n first.meter (carriers first.sets all) ≡ answer s now.sets now.meter fs l

module _ (s : Surroundings) (n : ℕ) (first : Work) (all : List Carried) where
  pub walking-begun : (l : Level) → suc l.deeper ≡ n → l.list ≡ all → l.out.items ≡ [] → AreKnown
      (size first.sets) all → IsWalking s n first first all [] l
  walking-begun l top list-is out-is known = record {
    keeps = keeps-itself first.sets;
    frames = tt;
    level = record {
      list = subst (AreKnown (size first.sets)) (sym list-is) known;
      out = subst
          (AreKnown (size first.sets)) (sym out-is) tt;
    };
    same =
        ap₂ (λ (m : ℕ) (ts : List Carried). levels s m first.meter (carriers first.sets ts)) (sym top) (sym list-is)
        ∙ sym (behind-none (levels s (suc l.deeper) first.meter (carriers first.sets l.list)))
        ∙ ap (λ ts. behind (carriers first.sets ts) (levels s (suc l.deeper) first.meter
        (carriers first.sets l.list))) (sym out-is);
  }

  pub walking-turn : (now new : Work) (fs gs : List Frame) (l m : Level) → IsWalking s n first now all fs l →
      IsTurn s now fs l new gs m → IsWalking s n first new all gs m
  walking-turn now new fs gs l m w t = record {
    keeps = keeps-more first.sets now.sets new.sets w.keeps t.keeps;
    frames = t.frames;
    level = t.level;
    same = w.same ∙ t.same;
  }

  pub walking-over : (now : Work) (fs : List Frame) (l : Level) → IsWalking s n first now all fs l → fs ≡ [] → l.list
      ≡ [] →
      levels s n first.meter (carriers first.sets all) ≡ Ok (carriers now.sets l.out.items, now.meter)
  walking-over now fs l w none over =
      w.same ∙ ap (λ gs. unwound s now.sets gs (level_result s now.sets now.meter l)) none
      ∙ level-over s now.sets now.meter l over
