-- Texts put at a place of a list of bytes.
use Rattle.std.proofs.Common.{◌≡◌, ℕ, ◌+◌, ◌-◌, ◌/◌, ◌^◌, ◌<◌, ◌≤◌, List, [], ◌∷◌, ◌++◌, length, take, drop, sym, ap, ◌∙◌, arith}
use Rattle.std.specs.Prelude.{decimal}
use Rattle.std.proofs.lemmas.Fmt.{decimal_digit, decimal_step}
use Rattle.std.proofs.lemmas.List.{append_assoc, length-append, length-drop, length-take-le, take-append-drop, take-append-le, take_all}
use Rattle.inc_answers.specs.Numbers.{directive_text}
use Rattle.inc_answers.proofs.SendingLemmas.{take_further}

---- how many digits a number has

pub length_one : (n : ℕ) → n < 10 → length (decimal n) ≡ 1
length_one n low = ap length (decimal_digit n low)

length_more : (n : ℕ) → 10 ≤ n → n < 2 ^ 64 → length (decimal n) ≡ length (decimal (n / 10)) + 1
length_more n high small = ap length (decimal_step n high small) ∙ length-append (decimal (n / 10)) _

pub length_two : (n : ℕ) → 10 ≤ n → n < 100 → length (decimal n) ≡ 2
length_two n high low = length_more n high (omega arith) ∙ ap (λ (k : ℕ). k + 1) (length_one (n / 10) (omega arith))

pub length_three : (n : ℕ) → 100 ≤ n → n < 1_000 → length (decimal n) ≡ 3
length_three n high low = length_more n (omega arith) (omega arith) ∙ ap (λ (k : ℕ). k + 1) (length_two (n / 10) (omega arith) (omega arith))

pub length_four : (n : ℕ) → 1_000 ≤ n → n < 10_000 → length (decimal n) ≡ 4
length_four n high low = length_more n (omega arith) (omega arith) ∙ ap (λ (k : ℕ). k + 1) (length_three (n / 10) (omega arith) (omega arith))

-- four digits less
pub length_by_fours : (n : ℕ) → 10_000 ≤ n → n < 2 ^ 64 → length (decimal n) ≡ 4 + length (decimal (n / 10_000))
length_by_fours n high small =
    let first = length_more n (omega arith) small in
    let second = length_more (n / 10) (omega arith) (omega arith) in
    let third = length_more (n / 10 / 10) (omega arith) (omega arith) in
    let fourth = length_more (n / 10 / 10 / 10) (omega arith) (omega arith) in
    let same : n / 10 / 10 / 10 / 10 ≡ n / 10_000 = omega arith in
    let last : length (decimal (n / 10 / 10 / 10 / 10)) ≡ length (decimal (n / 10_000)) = ap (λ (k : ℕ). length (decimal k)) same in
    omega (arith, first, second, third, fourth, last)

---- what is put

-- a text that is written so that it ends at a place, in a list that is handed on whole
pub put_before : (old new ds : List ℕ) (len at end start : ℕ) → len ≡ length old → end ≡ at + length ds → start + length ds ≡ end → end ≤ length old → drop start new ≡ ds ++ drop end old → take start new ≡ take start old
    → take end (take len (new ++ drop (length new) old)) ≡ take at old ++ ds
put_before old new ds len at end start whole_len is starts within written before =
    let same : start ≡ at = omega arith in
    let front : length (take start old) ≡ start = length-take-le start old (omega arith) in
    let whole : new ≡ take start old ++ (ds ++ drop end old) =
    sym (take-append-drop start new) ∙ ap (λ (l : List ℕ). l ++ drop start new) before ∙ ap (λ (l : List ℕ). take start old ++ l) written in
    let place : end ≡ length (take start old) + length ds = omega (arith, front) in
    let text : take (length ds) (ds ++ drop end old) ≡ ds = take-append-le (length ds) ds (drop end old) (omega arith) ∙ take_all (length ds) ds (omega arith) in
    let rest : length (drop end old) ≡ length old - end = length-drop end old in
    let long : length new ≡ length old =
    ap length whole ∙ length-append (take start old) (ds ++ drop end old) ∙ ap (λ (n : ℕ). length (take start old) + n) (length-append ds (drop end old)) ∙ omega (arith, front, rest) in
    let all : take len (new ++ drop (length new) old) ≡ new = take-append-le len new (drop (length new) old) (omega (arith, whole_len, long)) ∙ take_all len new (omega (arith, whole_len, long)) in
    ap (take end) (all ∙ whole) ∙ ap (λ (n : ℕ). take n (take start old ++ (ds ++ drop end old))) place
    ∙ take_further (take start old) (ds ++ drop end old) (length ds)
    ∙ ap (λ (l : List ℕ). take start old ++ l) text
    ∙ ap (λ (n : ℕ). take n old ++ ds) same

pub directive_joined : (front path : List ℕ) (line : ℕ) → (((front ++ decimal line) ++ 32 ∷ []) ++ path) ++ 10 ∷ [] ≡ front ++ directive_text line path
directive_joined front path line =
    ap (λ (l : List ℕ). (l ++ path) ++ 10 ∷ []) (append_assoc front (decimal line) (32 ∷ []))
    ∙ ap (λ (l : List ℕ). l ++ 10 ∷ []) (append_assoc front (decimal line ++ 32 ∷ []) path)
    ∙ append_assoc front ((decimal line ++ 32 ∷ []) ++ path) (10 ∷ [])
    ∙ ap (λ (l : List ℕ). front ++ (l ++ 10 ∷ [])) (append_assoc (decimal line) (32 ∷ []) path)
