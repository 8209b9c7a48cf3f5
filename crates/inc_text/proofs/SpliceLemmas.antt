-- A source that becomes its text in its own memory, one piece at a time.
use Rattle.std.proofs.Common.{◌≡◌, ℕ, ◌+◌, ◌-◌, ◌<◌, ◌≤◌, Bool, not, true, false, get_or, List, [], ◌∷◌, ◌++◌, length, take, drop, set, All, refl, sym, ap, subst, ◌∙◌, arith}
use Rattle.std.proofs.lemmas.List.{drop-drop, take_rest, take-append-drop, drop-set-lt, get_or-take, drop_all, length-set, length-take-le, append-nil, take_all}
use Rattle.std.proofs.lemmas.Grind.{take-set_at}
use Rattle.inc_text.specs.declared.origins.Origin.{Origin}
use Rattle.inc_text.specs.declared.source_pieces.SourcePiece.TheVariants.{Byte, Splice}
use Rattle.inc_text.specs.PhaseText.{phase_text}
use Rattle.std.specs.List.{prefix_len}
use Rattle.std.proofs.lemmas.Bool.{false≢true}
use Rattle.std.proofs.lemmas.List.Folds.{length-prefix_len}
use Rattle.std.proofs.lemmas.List.Sums.{prefix_len-le-length, prefix_len_passes}
use Rattle.inc_text.specs.Origins.{IsMapped, IsSpliced, ReadTo, cells_at, ends_open, is_plain, is_special, mark_len, origins_past, origins_with, piece_of}
use Rattle.inc_text.proofs.PartLemmas.{byte_taken, parts_end, parts_open, run_read, splice_taken, start_marked, start_plain}
use Rattle.inc_text.specs.declared.devices.TheConstants.{LONGEST_FILE}
use Rattle.inc_text.specs.declared.languages.Language.{Language}

-- In the code `&xs[at..]` is `take (length xs - at) (drop at xs)`.
abbrev rest_of : List ℕ → ℕ → List ℕ
rest_of xs at = take (length xs - at) (drop at xs)

same_rest : (language : Language) (source : List ℕ) (ms : List Origin) (ss room : List ℕ) (len at : ℕ) → IsSpliced language source ms ss room len at → rest_of room at ≡ rest_of source at
same_rest language source ms ss room len at h = take_rest room at ∙ (h.rest ∙ sym (take_rest source at))

text_len : (language : Language) (source : List ℕ) (ms : List Origin) (ss room : List ℕ) (len at : ℕ) → IsSpliced language source ms ss room len at → length (take len room) ≡ len
text_len language source ms ss room len at h = length-take-le len room (omega (arith, h.order, h.size, h.read.bound))

-- a list that was lent whole
pub lent : (old new : List ℕ) (len : ℕ) → length new ≡ length old → length old ≡ len → take len (new ++ drop (length new) old) ≡ new
lent old new len size is =
    ap (λ l. take len (new ++ l)) (drop_all (length new) old (omega arith)) ∙ (ap (take len) (append-nil new) ∙ take_all len new (omega arith))

-- what is left of the source, further on
rest_on : (language : Language) (source : List ℕ) (ms : List Origin) (ss room new : List ℕ) (len at n : ℕ) → IsSpliced language source ms ss room len at → drop (at + n) new ≡ drop (at + n) room → drop (at + n) new ≡ drop (at + n) source
rest_on language source ms ss room new len at n h same = same ∙ (sym (drop-drop n at room) ∙ (ap (drop n) h.rest ∙ drop-drop n at source))

-- the bytes of a run begin no sequence
off : (b : Bool) → not b ≡ true → b ≡ false
off true e = absurd (false≢true e)
off false e = refl

all_plain : (xs : List ℕ) → All (λ b. is_special b ≡ false) (take (prefix_len is_plain xs) xs)
all_plain xs i d low =
    let n : ℕ = prefix_len is_plain xs in
    let below : i < n = omega (arith, low, length-prefix_len is_plain xs) in
    ap is_special (get_or-take n xs i d below) ∙ off (is_special (get_or xs i d)) (prefix_len_passes is_plain xs i d below)

-- a run of bytes that stand for themselves
pub run_spliced : (language : Language) (source : List ℕ) (ms : List Origin) (ss room new : List ℕ) (len at end : ℕ) → IsSpliced language source ms ss room len at → end ≡ at + prefix_len is_plain (drop at room)
    → take (len + (end - at)) new ≡ take len room ++ take (end - at) (drop at room) → drop (at + (end - at)) new ≡ drop (at + (end - at)) room → length new ≡ length room → IsSpliced language source ms ss new (len + (end - at)) end
run_spliced language source ms ss room new len at end h is front back size =
    let n : ℕ = prefix_len is_plain (drop at room) in
    let same : end - at ≡ n = omega arith in
    let F : ℕ → Type 0 = λ k. take (len + k) new ≡ take len room ++ take k (drop at room) in
    let B : ℕ → Type 0 = λ k. drop (at + k) new ≡ drop (at + k) room in
    let S : ℕ → ℕ → Type 0 = λ k e. IsSpliced language source ms ss new (len + k) e in
    let rest : List ℕ = drop at source in
    let some : n ≤ length rest = subst (λ (l : List ℕ). n ≤ length l) h.rest (prefix_len-le-length is_plain (drop at room)) in
    let long : length (take n rest) ≡ n = length-take-le n rest some in
    let text : take (len + n) new ≡ take len room ++ take n rest = subst F same front ∙ ap (λ l. take len room ++ take n l) h.rest in
    let one : ReadTo language source ms ss (take len room ++ take n rest) (at + length (take n rest)) = run_read language source ms ss (take len room) at (take n rest) (drop n rest) h.read (sym (take-append-drop n rest)) (subst (λ (l : List ℕ). All (λ b. is_special b ≡ false) (take n l)) h.rest (all_plain (drop at room))) in
    let done : IsSpliced language source ms ss new (len + n) (at + n) = record {
      read = subst (λ (l : List ℕ). ReadTo language source ms ss l (at + n)) (sym text) (subst (λ (k : ℕ). ReadTo language source ms ss (take len room ++ take n rest) (at + k)) long one);
      rest = rest_on language source ms ss room new len at n h (subst B same back);
      size = size ∙ h.size;
      order = omega (arith, h.order);
    } in
    subst (λ (k : ℕ). S k end) (sym same) (subst (S n) (sym is) done)

-- a byte
pub byte_spliced : (language : Language) (source : List ℕ) (ms : List Origin) (ss room : List ℕ) (len at c w : ℕ) → IsSpliced language source ms ss room len at → at < length room → Byte c w ≡ piece_of language (rest_of room at) → 0 < w → w ≤ length (rest_of room at)
    → IsSpliced language source (origins_with ms len at w) ss (set room len c) (len + 1) (at + w)
byte_spliced language source ms ss room len at c w h lt is some fits =
    let same : rest_of room at ≡ rest_of source at = same_rest language source ms ss room len at h in
    let long : length (take len room) ≡ len = text_len language source ms ss room len at h in
    let more : at < length source = omega (arith, h.size) in
    let one : ReadTo language source (origins_with ms (length (take len room)) at w) ss (take len room ++ c ∷ []) (at + w) = byte_taken language source ms ss (take len room) at c w h.read more (is ∙ ap (piece_of language) same) some (subst (λ (l : List ℕ). w ≤ length l) same fits) in
    let text : take (len + 1) (set room len c) ≡ take len room ++ c ∷ [] = take-set_at room len (len + 1) c refl (omega (arith, h.order)) in
    record {
      read = subst (λ (l : List ℕ). ReadTo language source (origins_with ms len at w) ss l (at + w)) (sym text) (subst (λ (k : ℕ). ReadTo language source (origins_with ms k at w) ss (take len room ++ c ∷ []) (at + w)) long one);
      rest = rest_on language source ms ss room (set room len c) len at w h (drop-set-lt (at + w) room len c (omega (arith, h.order)));
      size = length-set room len c ∙ h.size;
      order = omega (arith, h.order);
    }

-- a splice
pub splice_spliced : (language : Language) (source : List ℕ) (ms : List Origin) (ss room : List ℕ) (len at w : ℕ) → IsSpliced language source ms ss room len at → at < length room → Splice w ≡ piece_of language (rest_of room at) → 0 < w → w ≤ length (rest_of room at)
    → IsSpliced language source (origins_past ms len at w) (ss ++ len ∷ []) room len (at + w)
splice_spliced language source ms ss room len at w h lt is some fits =
    let same : rest_of room at ≡ rest_of source at = same_rest language source ms ss room len at h in
    let long : length (take len room) ≡ len = text_len language source ms ss room len at h in
    let more : at < length source = omega (arith, h.size) in
    let one : ReadTo language source (origins_past ms (length (take len room)) at w) (ss ++ length (take len room) ∷ []) (take len room) (at + w) = splice_taken language source ms ss (take len room) at w h.read more (is ∙ ap (piece_of language) same) some (subst (λ (l : List ℕ). w ≤ length l) same fits) in
    record {
      read = subst (λ (k : ℕ). ReadTo language source (origins_past ms k at w) (ss ++ k ∷ []) (take len room) (at + w)) long one;
      rest = rest_on language source ms ss room room len at w h refl;
      size = h.size;
      order = omega (arith, h.order);
    }

-- the whole text, with and without the LF that is added
abbrev end_origin : ℕ → ℕ → Origin
end_origin len size = record { at = len; ahead = size - len; width = 0 }

pub spliced_open : (language : Language) (source : List ℕ) (ms : List Origin) (ss room : List ℕ) (len : ℕ) → IsSpliced language source ms ss room len (length source) → ends_open (take len room) ≡ true
    → (cells_at (ms ++ end_origin len (length room) ∷ []) ss 0 0 (take len room ++ 10 ∷ []) ≡ phase_text language source) × IsMapped (ms ++ end_origin len (length room) ∷ []) ss (take len room ++ 10 ∷ [])
spliced_open language source ms ss room len h is =
    let long : length (take len room) ≡ len = text_len language source ms ss room len (length source) h in
    let ahead : length source + 0 - length (take len room) ≡ length room - len = omega (arith, h.size) in
    let text : List ℕ = take len room ++ 10 ∷ [] in
    let P : ℕ → ℕ → Type 0 = λ at far. (cells_at (ms ++ record { at = at; ahead = far; width = 0 } ∷ []) ss 0 0 text ≡ phase_text language source) × IsMapped (ms ++ record { at = at; ahead = far; width = 0 } ∷ []) ss text in
    subst (λ (at : ℕ). P at (length room - len)) long (subst (λ (far : ℕ). P (length (take len room)) far) ahead (parts_open language source ms ss (take len room) h.read is))

pub spliced_end : (language : Language) (source : List ℕ) (ms : List Origin) (ss room : List ℕ) (len : ℕ) → IsSpliced language source ms ss room len (length source) → ends_open (take len room) ≡ false
    → (cells_at ms ss 0 0 (take len room) ≡ phase_text language source) × IsMapped ms ss (take len room)
spliced_end language source ms ss room len h is = parts_end language source ms ss (take len room) h.read is

-- the start, after the byte order mark where there is one
pub spliced_plain : (language : Language) (source : List ℕ) → mark_len source ≡ 0 → length source ≤ LONGEST_FILE → IsSpliced language source [] [] source 0 0
spliced_plain language source none short = record {
  read = start_plain language source none short;
  rest = refl;
  size = refl;
  order = omega arith;
}

pub spliced_marked : (language : Language) (source : List ℕ) (n : ℕ) → n ≡ mark_len source → 0 < n → length source ≤ LONGEST_FILE → IsSpliced language source (origins_past [] 0 0 n) [] source 0 n
spliced_marked language source n is some short = record {
  read = start_marked language source n is some short;
  rest = refl;
  size = refl;
  order = omega arith;
}
