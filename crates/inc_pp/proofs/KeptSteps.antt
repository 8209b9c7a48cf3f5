-- Steps one after the other, where each keeps what is known of the state.
use Rattle.std.proofs.Common.{ℕ, Result, Ok, Err, IfOk}
use Rattle.inc_macro.specs.Results.{◌>>=◌}
use Rattle.inc_pp.specs.declared.causes.Cause.{Cause}
use Rattle.inc_pp.specs.Tasks.{State, Halt, File, halting}

-- Q of the value, if there is one
pub record Keeps {A E : Type 0} (Q : A → Type 0) (r : Result A E) : Type 0 where
  pub value : IfOk r Q

pub keeps_ok : {A E : Type 0} {Q : A → Type 0} {x : A} → Q x → Keeps {E = E} Q (Ok x)
keeps_ok h = record { value = h }

pub keeps_err : {A E : Type 0} {Q : A → Type 0} {e : E} → Keeps Q (Err e)
keeps_err = record { value = tt }

-- nothing is asked of the value
pub keeps_any : {A E : Type 0} (r : Result A E) → Keeps (λ (x : A). Unit {0}) r
keeps_any (Ok x) = record { value = tt }
keeps_any (Err e) = record { value = tt }

pub keeps_after : {A B E : Type 0} {R : B → Type 0} (r : Result A E) {k : A → Result B E} → ((x : A) → Keeps R (k x)) → Keeps R (r >>= k)
keeps_after (Ok x) more = more x
keeps_after (Err e) more = keeps_err

pub keeps_then : {A B E : Type 0} {Q : A → Type 0} {R : B → Type 0} {r : Result A E} {k : A → Result B E} → Keeps Q r → ((x : A) → Q x → Keeps R (k x)) → Keeps R (r >>= k)
keeps_then {r = Ok x} h more = more x h.value
keeps_then {r = Err e} h more = keeps_err

-- Q of the value, or P of the state in which it stopped
abbrev pub HoldsOf : {A : Type 0} → (A → Type 0) → (State → Type 0) → Result A Halt → Type 0
HoldsOf Q P (Ok x) = Q x
HoldsOf Q P (Err halt) = P halt.state

pub record Holds {A : Type 0} (Q : A → Type 0) (P : State → Type 0) (r : Result A Halt) : Type 0 where
  pub outcome : HoldsOf Q P r

pub holds_ok : {A : Type 0} {Q : A → Type 0} {P : State → Type 0} {x : A} → Q x → Holds Q P (Ok x)
holds_ok h = record { outcome = h }

pub holds_then : {A B : Type 0} {Q : A → Type 0} {R : B → Type 0} {P : State → Type 0} {r : Result A Halt} {k : A → Result B Halt}
    → Holds Q P r → ((x : A) → Q x → Holds R P (k x)) → Holds R P (r >>= k)
holds_then {r = Ok x} h more = more x h.outcome
holds_then {r = Err halt} h more = record { outcome = h.outcome }

pub holds_halting : {A : Type 0} {Q : A → Type 0} {P : State → Type 0} (f : File) (line : ℕ) (s : State) (r : Result A Cause) → P s → Keeps Q r → Holds Q P (halting f line s r)
holds_halting f line s (Ok x) p h = record { outcome = h.value }
holds_halting f line s (Err c) p h = record { outcome = p }
