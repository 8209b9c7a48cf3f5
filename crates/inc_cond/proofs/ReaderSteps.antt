-- The reader takes as many steps as it has symbols, and one more: what it gives does not depend on how many it may take.
use Rattle.std.proofs.Common.{◌≡◌, ℕ, zero, suc, Bool, true, false, ◌+◌, ◌*◌, ◌<◌, ◌≤◌, List, [], ◌∷◌, length, Option, Some, None, refl, sym, ap, ap₂, subst, ◌∙◌, arith}
use Rattle.std.specs.Prelude.{◌==◌, ◌&&◌, nat_le, codes, bytes_eq, if◌then◌else◌}
use Rattle.inc_cond.specs.declared.operators.Unary.{Unary}
use Rattle.inc_cond.specs.declared.operators.Binary.{Binary}
use Rattle.inc_cond.specs.Symbols.{Symbol, Constant, Sign, Stray}
use Rattle.inc_cond.specs.Expressions.{Forms, Reader, Reading, ◌and_then◌, after_operand, behind, binary_of, binary_strength, choice, continued, in_parentheses, made_of, operand, prefixed_operand, reader, unary_of, whole}
use Rattle.inc_cond.specs.Frames.{read}

---- what is left

-- a reading leaves w symbols less than n, or fewer still
abbrev pub Leaves : {E : Type 0} → (w n : ℕ) → Reading E → Type 0
Leaves w n None = Unit {0}
Leaves w n (Some e) = w + length e.1 ≤ n

-- how many symbols are taken at least
abbrev pub weight : {E : Type 0} → Option E → ℕ
weight None = 1
weight (Some e) = 0

abbrev pub Shrinks : {E : Type 0} → Reader E → Type 0
Shrinks {E} inner = (least : ℕ) (left : Option E) (ss : List Symbol) → Leaves (weight left) (length ss) (inner least left ss)

leaves-then :
    {E F : Type 0} (w n v m : ℕ) (r : Reading E) (f : E × List Symbol → Reading F) →
    Leaves w n r → ((e : E × List Symbol) → w + length e.1 ≤ n → Leaves v m (f e)) → Leaves v m (r and_then f)
leaves-then w n v m None f l g = tt
leaves-then w n v m (Some e) f l g = g e l

-- a sign is after, or nothing
abbrev pub IfBehind : (n : ℕ) → Option (List Symbol) → Type 0
IfBehind n None = Unit {0}
IfBehind n (Some rest) = suc (length rest) ≤ n

if_behind-test : (b : Bool) (ss : List Symbol) → IfBehind (suc (length ss)) (if b then Some ss else None)
if_behind-test true ss = omega arith
if_behind-test false ss = tt

pub if_behind : (text : List ℕ) (ss : List Symbol) → IfBehind (length ss) (behind text ss)
if_behind text [] = tt
if_behind text (Constant v ∷ ss) = tt
if_behind text (Sign s ∷ ss) = if_behind-test (bytes_eq s text) ss
if_behind text (Stray ∷ ss) = tt

leaves-behind :
    {F : Type 0} (n v m : ℕ) (o : Option (List Symbol)) (f : List Symbol → Reading F) →
    IfBehind n o → ((rest : List Symbol) → suc (length rest) ≤ n → Leaves v m (f rest)) → Leaves v m (o and_then f)
leaves-behind n v m None f l g = tt
leaves-behind n v m (Some rest) f l g = g rest l

leaves-either : {E : Type 0} (w n : ℕ) (b : Bool) (x y : Reading E) → Leaves w n x → Leaves w n y → Leaves w n (if b then x else y)
leaves-either w n true x y l m = l
leaves-either w n false x y l m = m

leaves-wider : {E : Type 0} (w n v m : ℕ) (r : Reading E) → v ≤ w → n ≤ m → Leaves w n r → Leaves v m r
leaves-wider w n v m None h k l = tt
leaves-wider w n v m (Some e) h k l = omega arith

---- one step

-- the reader over a reader of parts
abbrev pub step : {E : Type 0} → Forms E → Reader E → Reader E
step forms inner least None ss = operand forms inner ss and_then λ e. inner least (Some e.0) e.1
step forms inner least (Some e) ss = after_operand forms inner least e ss

pub reader-suc : {E : Type 0} (forms : Forms E) (n least : ℕ) (left : Option E) (ss : List Symbol) →
    reader forms (suc n) least left ss ≡ step forms (reader forms n) least left ss
reader-suc forms n least None ss = refl
reader-suc forms n least (Some e) ss = refl

module _ {E : Type 0} (forms : Forms E) (inner : Reader E) (h : Shrinks inner) where
  parentheses-leave : (ss : List Symbol) → Leaves 1 (suc (length ss)) (in_parentheses forms inner ss)
  parentheses-leave ss =
      leaves-then 1 (length ss) 1 (suc (length ss)) (inner 0 None ss) _ (h 0 None ss) (λ e l.
      leaves-behind (length e.1) 1 (suc (length ss)) (behind (codes ")") e.1) _ (if_behind (codes ")") e.1) (λ rest m.
      omega arith))

  prefixed-leave : (u : Option Unary) (ss : List Symbol) → Leaves 1 (suc (length ss)) (prefixed_operand forms inner u ss)
  prefixed-leave None ss = tt
  prefixed-leave (Some u) ss = leaves-then 1 (length ss) 1 (suc (length ss)) (inner 11 None ss) _ (h 11 None ss) (λ e l. omega arith)

  operand-leaves : (ss : List Symbol) → Leaves 1 (length ss) (operand forms inner ss)
  operand-leaves [] = tt
  operand-leaves (Constant v ∷ ss) = omega arith
  operand-leaves (Sign s ∷ ss) =
      leaves-either 1 (suc (length ss)) (bytes_eq s (codes "(")) _ _ (parentheses-leave ss) (prefixed-leave (unary_of s) ss)
  operand-leaves (Stray ∷ ss) = tt

  choice-leaves : (c : E) (ss : List Symbol) → Leaves 0 (suc (length ss)) (choice forms inner c ss)
  choice-leaves c ss =
      leaves-then 1 (length ss) 0 (suc (length ss)) (inner 0 None ss) _ (h 0 None ss) (λ a l.
      leaves-behind (length a.1) 0 (suc (length ss)) (behind (codes ":") a.1) _ (if_behind (codes ":") a.1) (λ rest m.
      leaves-then 1 (length rest) 0 (suc (length ss)) (inner 0 None rest) _ (h 0 None rest) (λ b k. omega arith)))

  continued-leaves : (least : ℕ) (e : E) (o : Option Binary) (s : Symbol) (ss : List Symbol) →
      Leaves 0 (suc (length ss)) (continued forms inner least e o (s ∷ ss) ss)
  continued-leaves least e None s ss = omega arith
  continued-leaves least e (Some o) s ss =
      leaves-either 0 (suc (length ss)) (nat_le least (binary_strength o)) _ _
      (leaves-then 1 (length ss) 0 (suc (length ss)) (inner (binary_strength o + 1) None ss) _ (h (binary_strength o + 1) None ss) (λ b l.
      leaves-wider 0 (length b.1) 0 (suc (length ss)) (inner least (Some (forms.joined o e b.0)) b.1) (omega arith) (omega arith) (h least (Some (forms.joined o e b.0)) b.1)))
      (omega arith)

  after-leaves : (least : ℕ) (e : E) (ss : List Symbol) → Leaves 0 (length ss) (after_operand forms inner least e ss)
  after-leaves least e [] = omega arith
  after-leaves least e (Constant v ∷ ss) = omega arith
  after-leaves least e (Sign s ∷ ss) =
      leaves-either 0 (suc (length ss)) (bytes_eq s (codes "?") && (least == 0)) _ _ (choice-leaves e ss) (continued-leaves least e (binary_of s) (Sign s) ss)
  after-leaves least e (Stray ∷ ss) = omega arith

  step-leaves : Shrinks (step forms inner)
  step-leaves least None ss =
      leaves-then 1 (length ss) 1 (length ss) (operand forms inner ss) _ (operand-leaves ss) (λ e l.
      more e l (inner least (Some e.0) e.1) (h least (Some e.0) e.1))
    where
      more : (e : E × List Symbol) → 1 + length e.1 ≤ length ss → (r : Reading E) → Leaves 0 (length e.1) r → Leaves 1 (length ss) r
      more e l None k = tt
      more e l (Some x) k = omega arith
  step-leaves least (Some e) ss = after-leaves least e ss

pub shrinks : {E : Type 0} (forms : Forms E) (n : ℕ) → Shrinks (reader forms n)
shrinks forms zero least left ss = tt
shrinks forms (suc n) least left ss =
    subst (Leaves (weight left) (length ss)) (sym (reader-suc forms n least left ss)) (step-leaves forms (reader forms n) (shrinks forms n) least left ss)

---- two readers of parts that agree

-- on fewer symbols than n
abbrev pub Agree : {E : Type 0} → (n : ℕ) → (first second : Reader E) → Type 0
Agree {E} n first second = (least : ℕ) (left : Option E) (ss : List Symbol) → length ss < n → first least left ss ≡ second least left ss

same-then :
    {E F : Type 0} (w n : ℕ) (r q : Reading E) (f g : E × List Symbol → Reading F) →
    r ≡ q → Leaves w n q → ((e : E × List Symbol) → w + length e.1 ≤ n → f e ≡ g e) → (r and_then f) ≡ (q and_then g)
same-then {E} {F} w n r q f g same l h = ap (λ x. x and_then f) same ∙ by q l
  where
    by : (x : Reading E) → Leaves w n x → (x and_then f) ≡ (x and_then g)
    by None k = refl
    by (Some e) k = h e k

same-behind :
    {F : Type 0} (n : ℕ) (o : Option (List Symbol)) (f g : List Symbol → Reading F) →
    IfBehind n o → ((rest : List Symbol) → suc (length rest) ≤ n → f rest ≡ g rest) → (o and_then f) ≡ (o and_then g)
same-behind n None f g l h = refl
same-behind n (Some rest) f g l h = h rest l

same-either : {E : Type 0} (b : Bool) (x y v w : Reading E) → x ≡ v → y ≡ w → (if b then x else y) ≡ (if b then v else w)
same-either b x y v w e f = ap₂ (λ p q. if b then p else q) e f

module _ {E : Type 0} (forms : Forms E) (n : ℕ) (first second : Reader E) (h : Shrinks second) (a : Agree n first second) where
  parentheses-agree : (ss : List Symbol) → length ss < n → in_parentheses forms first ss ≡ in_parentheses forms second ss
  parentheses-agree ss l =
      same-then 1 (length ss) (first 0 None ss) (second 0 None ss) _ _ (a 0 None ss l) (h 0 None ss) (λ e k. refl)

  prefixed-agree : (u : Option Unary) (ss : List Symbol) → length ss < n → prefixed_operand forms first u ss ≡ prefixed_operand forms second u ss
  prefixed-agree None ss l = refl
  prefixed-agree (Some u) ss l =
      same-then 1 (length ss) (first 11 None ss) (second 11 None ss) _ _ (a 11 None ss l) (h 11 None ss) (λ e k. refl)

  operand-agree : (ss : List Symbol) → length ss ≤ n → operand forms first ss ≡ operand forms second ss
  operand-agree [] l = refl
  operand-agree (Constant v ∷ ss) l = refl
  operand-agree (Sign s ∷ ss) l =
      same-either (bytes_eq s (codes "(")) _ _ _ _ (parentheses-agree ss (omega arith)) (prefixed-agree (unary_of s) ss (omega arith))
  operand-agree (Stray ∷ ss) l = refl

  choice-agree : (c : E) (ss : List Symbol) → length ss < n → choice forms first c ss ≡ choice forms second c ss
  choice-agree c ss l =
      same-then 1 (length ss) (first 0 None ss) (second 0 None ss) _ _ (a 0 None ss l) (h 0 None ss) (λ e k.
      same-behind (length e.1) (behind (codes ":") e.1) _ _ (if_behind (codes ":") e.1) (λ rest m.
      same-then 1 (length rest) (first 0 None rest) (second 0 None rest) _ _ (a 0 None rest (omega arith)) (h 0 None rest) (λ b j. refl)))

  continued-agree : (least : ℕ) (e : E) (o : Option Binary) (all ss : List Symbol) → length ss < n →
      continued forms first least e o all ss ≡ continued forms second least e o all ss
  continued-agree least e None all ss l = refl
  continued-agree least e (Some o) all ss l =
      same-either (nat_le least (binary_strength o)) _ _ _ _
      (same-then 1 (length ss) (first (binary_strength o + 1) None ss) (second (binary_strength o + 1) None ss) _ _
      (a (binary_strength o + 1) None ss l) (h (binary_strength o + 1) None ss) (λ b k.
      a least (Some (forms.joined o e b.0)) b.1 (omega arith)))
      refl

  after-agree : (least : ℕ) (e : E) (ss : List Symbol) → length ss ≤ n → after_operand forms first least e ss ≡ after_operand forms second least e ss
  after-agree least e [] l = refl
  after-agree least e (Constant v ∷ ss) l = refl
  after-agree least e (Sign s ∷ ss) l =
      same-either (bytes_eq s (codes "?") && (least == 0)) _ _ _ _ (choice-agree e ss (omega arith))
      (continued-agree least e (binary_of s) (Sign s ∷ ss) ss (omega arith))
  after-agree least e (Stray ∷ ss) l = refl

  step-agree : (least : ℕ) (left : Option E) (ss : List Symbol) → length ss ≤ n → step forms first least left ss ≡ step forms second least left ss
  step-agree least None ss l =
      same-then 1 (length ss) (operand forms first ss) (operand forms second ss) _ _ (operand-agree ss l) (operand-leaves forms second h ss) (λ e k.
      a least (Some e.0) e.1 (omega arith))
  step-agree least (Some e) ss l = after-agree least e ss l

---- steps enough

pub enough : {E : Type 0} (forms : Forms E) (n m least : ℕ) (left : Option E) (ss : List Symbol) → length ss < n → length ss < m →
    reader forms n least left ss ≡ reader forms m least left ss
enough forms zero m least left ss l k = absurd (omega arith)
enough forms (suc n) zero least left ss l k = absurd (omega arith)
enough forms (suc n) (suc m) least left ss l k =
    reader-suc forms n least left ss
    ∙ step-agree forms (length ss) (reader forms n) (reader forms m) (shrinks forms m)
    (λ least1 left1 ts j. enough forms n m least1 left1 ts (omega arith) (omega arith)) least left ss (omega arith)
    ∙ sym (reader-suc forms m least left ss)

pub read-shrinks : {E : Type 0} (forms : Forms E) → Shrinks (read forms)
unfolding read
read-shrinks forms least left ss = shrinks forms (suc (length ss)) least left ss

pub read-step : {E : Type 0} (forms : Forms E) (least : ℕ) (left : Option E) (ss : List Symbol) →
    read forms least left ss ≡ step forms (read forms) least left ss
unfolding read
read-step forms least left ss =
    reader-suc forms (length ss) least left ss
    ∙ step-agree forms (length ss) (reader forms (length ss)) (read forms) (read-shrinks forms)
    (λ least1 left1 ts j. enough forms (length ss) (suc (length ts)) least1 left1 ts j (omega arith)) least left ss (omega arith)

-- what the whole gives
pub made_of-read : {E : Type 0} (forms : Forms E) (ss : List Symbol) → made_of forms ss ≡ whole (read forms 0 None ss)
unfolding read
made_of-read forms ss = ap whole (enough forms (2 * length ss + 1) (suc (length ss)) 0 None ss (omega arith) (omega arith))
