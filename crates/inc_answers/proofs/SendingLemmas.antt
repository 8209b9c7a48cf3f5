-- Texts that are sent one after the other, kept in a buffer, written, or lost after a fault.
use Rattle.std.proofs.Common.{◌≡◌, ℕ, suc, ◌+◌, ◌≤◌, zero-add, Bool, true, false, List, [], ◌∷◌, ◌++◌, Option, Some, None, Result, Ok, Err, length, take, refl, sym, ap, subst, ◌∙◌, arith}
use Rattle.std.specs.Prelude.{OnOk, OnErr, is_err}
use Rattle.std.specs.Io.KnownBytes.{Appends}
use Rattle.std.proofs.lemmas.List.{append_assoc, append-nil, length-append, take-append-le}
use Rattle.inc_text.specs.Devices.{AppendsFront}
use Rattle.inc_answers.specs.Sending.{stream, Stream, SentBy, IsSent, Sends}

---- known bytes

pub appends_none : (a : Option (List ℕ)) → Appends a a []
appends_none None = tt
appends_none (Some xs) = sym (append-nil xs)

pub appends_then : (a b c : Option (List ℕ)) (xs ys : List ℕ) → Appends a b xs → Appends b c ys → Appends a c (xs ++ ys)
appends_then None b c xs ys h k = tt
appends_then (Some as') None c xs ys h k = absurd h
appends_then (Some as') (Some bs) None xs ys h k = absurd k
appends_then (Some as') (Some bs) (Some cs) xs ys h k = k ∙ ap (λ (l : List ℕ). l ++ ys) h ∙ append_assoc as' xs ys

-- a front of a text is one of each text that begins with it
front_longer : (a b : Option (List ℕ)) (xs ys : List ℕ) → AppendsFront a b xs → AppendsFront a b (xs ++ ys)
front_longer a b xs ys h =
    let n : ℕ = h.0 in
    let fits : n ≤ length xs = h.1 in
    let same : take n xs ≡ take n (xs ++ ys) = sym (take-append-le n xs ys fits) in
    (n, rw (length-append xs ys) (omega arith), subst (Appends a b) same h.2)

pub take_further : (xs ys : List ℕ) (n : ℕ) → take (length xs + n) (xs ++ ys) ≡ xs ++ take n ys
take_further [] ys n = rw zero-add refl
take_further (x ∷ xs) ys n =
    let more : length (x ∷ xs) + n ≡ suc (length xs + n) = omega arith in
    rw more (ap (λ (l : List ℕ). x ∷ l) (take_further xs ys n))

-- a whole text and then a front of the next are a front of both
pub front_then : (a b c : Option (List ℕ)) (xs ys : List ℕ) → Appends a b xs → AppendsFront b c ys → AppendsFront a c (xs ++ ys)
front_then a b c xs ys h k =
    let n : ℕ = k.0 in
    let fits : n ≤ length ys = k.1 in
    let same : xs ++ take n ys ≡ take (length xs + n) (xs ++ ys) = sym (take_further xs ys n) in
    (length xs + n, rw (length-append xs ys) (omega arith), subst (Appends a c) same (appends_then a b c xs (take n ys) h k.2))

---- what is sent

-- one text after the other
pub sends_then : (a b c : Stream) (first second : List ℕ) → Sends a b first → Sends b c second → Sends a c (first ++ second)
sends_then a b c first second h k = λ start before sent.
    subst (λ (l : List ℕ). IsSent start l c) (append_assoc before first second) (k start (before ++ first) (h start before sent))

pub sends_none : (a : Stream) → Sends a a []
sends_none a = λ start before sent. subst (λ (l : List ℕ). IsSent start l a) (sym (append-nil before)) sent

kept_by : (start written : Option (List ℕ)) (failed : Bool) (before waiting text : List ℕ) → SentBy failed start before written waiting
    → SentBy failed start (before ++ text) written (waiting ++ text)
kept_by start written true before waiting text sent = front_longer start written before text sent
kept_by start written false before waiting text sent =
    (sent.0, sent.1, ap (λ (l : List ℕ). l ++ text) sent.2 ∙ append_assoc sent.0 waiting text)

-- a text that waits
pub sends_kept : (written : Option (List ℕ)) (failed : Bool) (waiting text : List ℕ)
    → Sends (stream written failed waiting) (stream written failed (waiting ++ text)) text
sends_kept written failed waiting text = λ start before sent. kept_by start written failed before waiting text sent

-- nothing is written after a fault
pub sends_lost : (written : Option (List ℕ)) (waiting left text : List ℕ)
    → Sends (stream written true waiting) (stream written true left) text
sends_lost written waiting left text = λ start before sent. front_longer start written before text sent

-- what waits is written, or a front of it
pub sends_written : {E : Type 0} (old new : Option (List ℕ)) (failed : Bool) (waiting : List ℕ) (r : Result (Unit {0}) E) → failed ≡ is_err r
    → OnOk r (Appends old new waiting) → OnErr r (AppendsFront old new waiting)
    → Sends (stream old false waiting) (stream new failed []) []
sends_written old new failed waiting (Ok x) is whole front = λ start before sent.
    let state : SentBy false start (before ++ []) new [] =
    (sent.0 ++ waiting, appends_then start old new sent.0 waiting sent.1 whole, ap (λ (l : List ℕ). l ++ []) sent.2) in
    subst (λ (b : Bool). SentBy b start (before ++ []) new []) (sym is) state
sends_written old new failed waiting (Err x) is whole front = λ start before sent.
    let all : AppendsFront start new (sent.0 ++ waiting) = front_then start old new sent.0 waiting sent.1 front in
    let state : SentBy true start (before ++ []) new [] = subst (AppendsFront start new) (sym sent.2 ∙ sym (append-nil before)) all in
    subst (λ (b : Bool). SentBy b start (before ++ []) new []) (sym is) state

-- a text past an empty buffer, as if it had waited there
pub sends_past : (old new : Option (List ℕ)) (before after : Bool) (text : List ℕ)
    → Sends (stream old before text) (stream new after []) []
    → Sends (stream old before []) (stream new after []) text
sends_past old new before after text sends =
    let first : Stream = record { written = old; failed = before; waiting = [] } in
    let last : Stream = record { written = new; failed = after; waiting = [] } in
    subst (λ (l : List ℕ). Sends first last l) (append-nil text)
    (sends_then first (stream old before text) last text [] (sends_kept old before [] text) sends)

---- from the start to the end

-- a stream before anything was sent
pub stream_begun : (s : Stream) → s.failed ≡ false → s.waiting ≡ [] → s ≡ stream s.written false []
stream_begun s sound empty =
    subst (λ (b : Bool). s ≡ stream s.written b []) sound (subst (λ (l : List ℕ). s ≡ stream s.written s.failed l) empty refl)

pub sent_start : (written : Option (List ℕ)) (failed : Bool) (waiting : List ℕ) → failed ≡ false → waiting ≡ [] → IsSent written [] (stream written failed waiting)
sent_start written failed waiting sound empty =
    let none : IsSent written [] (stream written false []) = ([], appends_none written, refl) in
    rw (sound, empty) none
