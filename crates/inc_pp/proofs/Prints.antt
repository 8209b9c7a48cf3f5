-- The text of the tokens that are put out, one token more or less.
use Rattle.std.proofs.Common.{◌≡◌, Bool, false, ℕ, zero, suc, ◌+◌, ◌-◌, ◌<◌, ◌≤◌, List, [], ◌∷◌, ◌++◌, length, map, take, drop, get_or, refl, sym, ap, ap₂, subst, ◌∙◌, arith, append_assoc, length-append}
use Rattle.std.proofs.Math.Seq.{take-append_seam}
use Rattle.std.proofs.Math.ListN.{set}
use Rattle.std.proofs.lemmas.List.{map-append, append-nil, set-append_left}
use Rattle.inc_text.specs.Ascii.{line_feed}
use Rattle.inc_token.specs.declared.kinds.Kind.{Kind}
use Rattle.inc_expand.specs.Expansion.{Item}
use Rattle.inc_expand.specs.Sinks.{Taken}
use Rattle.inc_pp.specs.declared.labels.Label.{Label}
use Rattle.inc_pp.specs.Labels.{kind_in, len_in, label_of, starts_in, tokens_in}
use Rattle.inc_pp.specs.OutTokens.{IsKept, ended, separator, takes_item, with_token}
use Rattle.inc_pp.specs.Printed.{printed}
use Rattle.inc_pp.proofs.LabelParts.{kind-of-label, len-of-label, starts-of-label}
use Rattle.inc_pp.specs.Tasks.{OutToken, line_tokens}

-- what is after a token, before these
abbrev pub behind : List OutToken → ℕ
behind [] = line_feed
behind (t ∷ ts) = separator t.starts

printed-cons : (t : OutToken) (ts : List OutToken) → printed (t ∷ ts) ≡ t.spelling ++ (behind ts ∷ printed ts)
printed-cons t [] = refl
printed-cons t (u ∷ us) = refl

-- after some bytes and one more
drop-past : (xs : List ℕ) (c : ℕ) (ys : List ℕ) → drop (suc (length xs)) (xs ++ (c ∷ ys)) ≡ ys
drop-past [] c ys = refl
drop-past (x ∷ xs) c ys = drop-past xs c ys

abbrev token : Kind → List ℕ → Bool → OutToken
token kind spelling starts = record { kind = kind; spelling = spelling; starts = starts }

same-token : (a b : Kind) (s t : List ℕ) (u v : Bool) → a ≡ b → s ≡ t → u ≡ v → token a s u ≡ token b t v
same-token a b s t u v kind spelling starts = cc

-- tokens come back from their text
given-back : (ts : List OutToken) → tokens_in (map label_of ts) (printed ts) ≡ ts
given-back [] = refl
given-back (t ∷ ts) =
    let n : len_in (label_of t) + 1 ≡ suc (length t.spelling) = let e = len-of-label t in omega (arith, e) in
    let front : take (len_in (label_of t)) (printed (t ∷ ts)) ≡ t.spelling =
    ap₂ (λ k bs. take k bs) (len-of-label t) (printed-cons t ts) ∙ take-append_seam t.spelling (behind ts ∷ printed ts) in
    let rest : drop (len_in (label_of t) + 1) (printed (t ∷ ts)) ≡ printed ts =
    ap₂ (λ k bs. drop k bs) n (printed-cons t ts) ∙ drop-past t.spelling (behind ts) (printed ts) in
    ap₂ (λ (u : OutToken) (us : List OutToken). u ∷ us) (same-token _ _ _ _ _ _ (kind-of-label t) front (starts-of-label t))
    (ap (tokens_in (map label_of ts)) rest ∙ given-back ts)

pub tokens-are : (ts : List OutToken) (ms : List Label) (text : List ℕ) → ms ≡ map label_of ts → text ≡ printed ts → tokens_in ms text ≡ ts
tokens-are ts ms text m p = ap₂ tokens_in m p ∙ given-back ts

kept : (ts : List OutToken) (ms : List Label) (text : List ℕ) → ms ≡ map label_of ts → text ≡ printed ts → IsKept ms text
kept ts ms text m p =
    let same = tokens-are ts ms text m p in
    record { marked = ap (map label_of) same ∙ sym m; printed = ap printed same ∙ sym p }

pub same-kept : (ms new_ms : List Label) (text new_text : List ℕ) → new_ms ≡ ms → new_text ≡ text → IsKept ms text → IsKept new_ms new_text
same-kept ms new_ms text new_text m t k = record { marked = ap₂ (λ ns bs. map label_of (tokens_in ns bs)) m t ∙ k.marked ∙ sym m; printed = ap₂ (λ ns bs. printed (tokens_in ns bs)) m t ∙ k.printed ∙ sym t }

---- one token more

ended-cons : (s b : ℕ) (bs : List ℕ) → 0 < length bs → ended s (b ∷ bs) ≡ b ∷ ended s bs
ended-cons s b [] l = absurd (omega arith)
ended-cons s b (c ∷ bs) l = refl

ended-append : (s : ℕ) (xs : List ℕ) (c : ℕ) (ys : List ℕ) → ended s (xs ++ (c ∷ ys)) ≡ xs ++ ended s (c ∷ ys)
ended-append s [] c ys = refl
ended-append s (x ∷ xs) c ys =
    let n = length-append xs (c ∷ ys) in
    ended-cons s x (xs ++ (c ∷ ys)) (omega (arith, n)) ∙ ap (λ zs. x ∷ zs) (ended-append s xs c ys)

-- the last byte as it is set
pub set-ended : (s i : ℕ) (xs : List ℕ) → suc i ≡ length xs → set xs i s ≡ ended s xs
set-ended s i [] e = absurd (omega arith)
set-ended s zero (x ∷ []) e = refl
set-ended s zero (x ∷ y ∷ xs) e = absurd (omega arith)
set-ended s (suc i) (x ∷ []) e = absurd (omega arith)
set-ended s (suc i) (x ∷ y ∷ xs) e = ap (λ zs. x ∷ zs) (set-ended s i (y ∷ xs) (omega arith))

pub set-last : (s i : ℕ) (xs ys new : List ℕ) → 0 < length xs → i ≡ length xs - 1 → new ≡ xs ++ ys → set new i s ≡ ended s xs ++ ys
set-last s i xs ys new l e is =
    ap (λ zs. set zs i s) is ∙ set-append_left xs ys i s (omega arith) ∙ ap (λ zs. zs ++ ys) (set-ended s i xs (omega arith))

printed-length : (t : OutToken) (ts : List OutToken) → 0 < length (printed (t ∷ ts))
printed-length t ts =
    let e = ap length (printed-cons t ts) in
    let n = length-append t.spelling (behind ts ∷ printed ts) in
    omega (arith, e, n)

printed-more : (ts : List OutToken) (t : OutToken) → printed (ts ++ t ∷ []) ≡ with_token t.starts t.spelling (printed ts)
printed-more [] t = refl
printed-more (u ∷ us) t =
    printed-cons u (us ++ t ∷ []) ∙ ap (λ bs. u.spelling ++ (behind (us ++ t ∷ []) ∷ bs)) (printed-more us t) ∙ by us
    ∙ ap (λ bs. ended (separator t.starts) bs ++ (t.spelling ++ (line_feed ∷ []))) (sym (printed-cons u us))
  where
    tail : List ℕ
    tail = t.spelling ++ (line_feed ∷ [])

    by : (us : List OutToken) → u.spelling ++ (behind (us ++ t ∷ []) ∷ (ended (separator t.starts) (printed us) ++ tail))
        ≡ ended (separator t.starts) (u.spelling ++ (behind us ∷ printed us)) ++ tail
    by [] = sym (append_assoc u.spelling (separator t.starts ∷ []) tail) ∙ ap (λ bs. bs ++ tail) (sym (ended-append (separator t.starts) u.spelling line_feed []))
    by (v ∷ vs) =
        ap (λ bs. u.spelling ++ (bs ++ tail)) (sym (ended-cons (separator t.starts) (separator v.starts) (printed (v ∷ vs)) (printed-length v vs)))
        ∙ sym (append_assoc u.spelling (ended (separator t.starts) (separator v.starts ∷ printed (v ∷ vs))) tail)
        ∙ ap (λ bs. bs ++ tail) (sym (ended-append (separator t.starts) u.spelling (separator v.starts) (printed (v ∷ vs))))

pub pushed : (ms new_ms : List Label) (text new_text : List ℕ) (t : OutToken) → IsKept ms text → new_ms ≡ ms ++ label_of t ∷ [] →
    new_text ≡ with_token t.starts t.spelling text → IsKept new_ms new_text × (tokens_in new_ms new_text ≡ tokens_in ms text ++ t ∷ [])
pushed ms new_ms text new_text t k m p =
    let ts = tokens_in ms text in
    let m_is : new_ms ≡ map label_of (ts ++ t ∷ []) = m ∙ ap (λ ns. ns ++ label_of t ∷ []) (sym k.marked) ∙ sym (map-append label_of ts (t ∷ [])) in
    let p_is : new_text ≡ printed (ts ++ t ∷ []) = p ∙ ap (with_token t.starts t.spelling) (sym k.printed) ∙ sym (printed-more ts t) in
    (kept (ts ++ t ∷ []) new_ms new_text m_is p_is, tokens-are (ts ++ t ∷ []) new_ms new_text m_is p_is)

---- the last token taken back

length-ended : (s : ℕ) (xs : List ℕ) → length (ended s xs) ≡ length xs
length-ended s [] = refl
length-ended s (b ∷ []) = refl
length-ended s (b ∷ c ∷ bs) = ap suc (length-ended s (c ∷ bs))

ended-twice : (s r : ℕ) (xs : List ℕ) → ended s (ended r xs) ≡ ended s xs
ended-twice s r [] = refl
ended-twice s r (b ∷ []) = refl
ended-twice s r (b ∷ c ∷ bs) =
    let n = length-ended r (c ∷ bs) in
    ended-cons s b (ended r (c ∷ bs)) (omega (arith, n)) ∙ ap (λ zs. b ∷ zs) (ended-twice s r (c ∷ bs))

ended-printed : (ts : List OutToken) → ended line_feed (printed ts) ≡ printed ts
ended-printed [] = refl
ended-printed (t ∷ []) = ended-append line_feed t.spelling line_feed []
ended-printed (t ∷ u ∷ us) =
    ap (ended line_feed) (printed-cons t (u ∷ us)) ∙ ended-append line_feed t.spelling (separator u.starts) (printed (u ∷ us))
    ∙ ap (λ bs. t.spelling ++ bs) (ended-cons line_feed (separator u.starts) (printed (u ∷ us)) (printed-length u us) ∙ ap (λ bs. separator u.starts ∷ bs) (ended-printed (u ∷ us)))
    ∙ sym (printed-cons t (u ∷ us))

-- tokens whose labels end with this one
record Ended (ts : List OutToken) (ms : List Label) (m : Label) : Type 0 where
  -- the tokens before the last one
  front : List OutToken
  -- the last token
  last : OutToken
  -- these are all tokens
  are : ts ≡ front ++ last ∷ []
  -- the labels of the others
  labels : map label_of front ≡ ms
  -- that of the last one
  label : label_of last ≡ m

ended-by : (ts : List OutToken) (ms : List Label) (m : Label) → map label_of ts ≡ ms ++ m ∷ [] → Ended ts ms m
ended-by [] [] m e = cc
ended-by [] (n ∷ ms) m e = cc
ended-by (t ∷ ts) [] m e = record { front = []; last = t; are = ap (λ us. t ∷ us) (none ts (ap (drop 1) e)); labels = refl; label = ap first-of e }
  where
    none : (us : List OutToken) → map label_of us ≡ [] → us ≡ []
    none [] f = refl
    none (u ∷ us) f = cc

    first-of : List Label → Label
    first-of [] = m
    first-of (n ∷ ns) = n
ended-by (t ∷ ts) (n ∷ ms) m e =
    let p = ended-by ts ms m (ap (drop 1) e) in
    record { front = t ∷ p.front; last = p.last; are = ap (λ us. t ∷ us) p.are; labels = ap₂ (λ (k : Label) (ks : List Label). k ∷ ks) (ap first-of e) p.labels; label = p.label }
  where
    first-of : List Label → Label
    first-of [] = n
    first-of (k ∷ ks) = k

-- what is before the last token of a text
before-last : (ts : List OutToken) (t : OutToken) (text : List ℕ) → text ≡ printed (ts ++ t ∷ []) →
    ended line_feed (take (length text - (length t.spelling + 1)) text) ≡ printed ts
before-last ts t text e =
    let front : List ℕ = ended (separator t.starts) (printed ts) in
    let is : text ≡ front ++ (t.spelling ++ (line_feed ∷ [])) = e ∙ printed-more ts t in
    let n = length-append front (t.spelling ++ (line_feed ∷ [])) in
    let k = length-append t.spelling (line_feed ∷ []) in
    let j = ap length is in
    let long : length text - (length t.spelling + 1) ≡ length front = omega (arith, n, k, j) in
    ap (ended line_feed) (ap₂ (λ i bs. take i bs) long is ∙ take-append_seam front (t.spelling ++ (line_feed ∷ [])))
    ∙ ended-twice line_feed (separator t.starts) (printed ts) ∙ ended-printed ts

pub popped : (ms new_ms : List Label) (m : Label) (text new_text : List ℕ) → IsKept ms text → ms ≡ new_ms ++ m ∷ [] →
    new_text ≡ ended line_feed (take (length text - (len_in m + 1)) text) →
    IsKept new_ms new_text × (tokens_in new_ms new_text ≡ take (length (tokens_in ms text) - 1) (tokens_in ms text))
popped ms new_ms m text new_text k e t =
    let us = tokens_in ms text in
    let p = ended-by us new_ms m (k.marked ∙ e) in
    let text_is : text ≡ printed (p.front ++ p.last ∷ []) = sym k.printed ∙ ap printed p.are in
    let len_is : len_in m ≡ length p.last.spelling = sym (ap len_in p.label) ∙ len-of-label p.last in
    let new_is : new_text ≡ printed p.front =
    t ∙ ap (λ i. ended line_feed (take (length text - (i + 1)) text)) len_is ∙ before-last p.front p.last text text_is in
    let n = ap length p.are in
    let j = length-append p.front (p.last ∷ []) in
    let long : length us - 1 ≡ length p.front = omega (arith, n, j) in (
      kept p.front new_ms new_text (sym p.labels) new_is,
      tokens-are p.front new_ms new_text (sym p.labels) new_is
          ∙ sym (ap₂ (λ i vs. take i vs) long p.are ∙ take-append_seam p.front (p.last ∷ [])),
    )

---- one token less

abbrev first-token : Label → List ℕ → OutToken
first-token m text = token (kind_in m) (take (len_in m) text) (starts_in m)

-- the first label is that of the first token
first-label : (m : Label) (ms : List Label) (text : List ℕ) → IsKept (m ∷ ms) text → length (take (len_in m) text) ≡ len_in m
first-label m ms text k = sym (len-of-label (first-token m text)) ∙ ap (λ (ns : List Label). len-of ns) k.marked
  where
    len-of : List Label → ℕ
    len-of [] = 0
    len-of (n ∷ ns) = len_in n

whole : (m : Label) (ms : List Label) (text : List ℕ) → IsKept (m ∷ ms) text →
    take (len_in m) text ++ (behind (tokens_in ms (drop (len_in m + 1) text)) ∷ printed (tokens_in ms (drop (len_in m + 1) text))) ≡ text
whole m ms text k = sym (printed-cons (first-token m text) (tokens_in ms (drop (len_in m + 1) text))) ∙ k.printed

within-cons : (m : Label) (ms : List Label) (text : List ℕ) → IsKept (m ∷ ms) text → len_in m < length text
within-cons m ms text k =
    let ts = tokens_in ms (drop (len_in m + 1) text) in
    let n = length-append (take (len_in m) text) (behind ts ∷ printed ts) in
    let e = ap length (whole m ms text k) in
    let f = first-label m ms text k in
    omega (arith, n, e, f)

rest-cons : (m : Label) (ms : List Label) (text : List ℕ) → IsKept (m ∷ ms) text → IsKept ms (drop (len_in m + 1) text)
rest-cons m ms text k =
    let ts = tokens_in ms (drop (len_in m + 1) text) in
    let n : len_in m + 1 ≡ suc (length (take (len_in m) text)) = let f = first-label m ms text k in omega (arith, f) in
    let rest : drop (len_in m + 1) text ≡ printed ts = (
    ap (drop (len_in m + 1)) (sym (whole m ms text k)) ∙ ap (λ j. drop j (take (len_in m) text ++ (behind ts ∷ printed ts))) n
    ∙ drop-past (take (len_in m) text) (behind ts) (printed ts)) in
    record { marked = ap (drop 1) k.marked; printed = sym rest }

pub within : (ms : List Label) (d : Label) (text : List ℕ) → 1 ≤ length ms → IsKept ms text → len_in (get_or ms 0 d) < length text
within [] d text l k = absurd (omega arith)
within (m ∷ ms) d text l k = within-cons m ms text k

pub rest-kept : (ms : List Label) (d : Label) (text : List ℕ) → 1 ≤ length ms → IsKept ms text → IsKept (drop 1 ms) (drop (len_in (get_or ms 0 d) + 1) text)
rest-kept [] d text l k = absurd (omega arith)
rest-kept (m ∷ ms) d text l k = rest-cons m ms text k

---- tokens of an expansion put out

pub taken-line : (first : Bool) (old new : List OutToken) (items : List Item) → Taken takes_item first old items new → new ≡ old ++ line_tokens first items
taken-line first old new [] e = sym e ∙ sym (append-nil old)
taken-line first old new (i ∷ is) (mid, t, rest) =
    let o : OutToken = record { kind = i.kind; spelling = i.spelling; starts = first } in
    taken-line false mid new is rest ∙ ap (λ ts. ts ++ line_tokens false is) t ∙ append_assoc old (o ∷ []) (line_tokens false is)

pub line-taken : (first : Bool) (old : List OutToken) (items : List Item) → Taken takes_item first old items (old ++ line_tokens first items)
line-taken first old [] = sym (append-nil old)
line-taken first old (i ∷ is) =
    let o : OutToken = record { kind = i.kind; spelling = i.spelling; starts = first } in
    let rest : Taken takes_item false (old ++ o ∷ []) is ((old ++ o ∷ []) ++ line_tokens false is) = line-taken false (old ++ o ∷ []) is in
    (old ++ o ∷ [], refl, subst (Taken takes_item false (old ++ o ∷ []) is) (append_assoc old (o ∷ []) (line_tokens false is)) rest)

-- what is taken back is what was put out
pub taken-back : (first : Bool) (old new : List OutToken) (items : List Item) (count : ℕ) → count ≡ length old → Taken takes_item first old items new → take count new ≡ old
taken-back first old new items count e t =
    ap₂ (λ k ts. take k ts) e (taken-line first old new items t) ∙ take-append_seam old (line_tokens first items)
