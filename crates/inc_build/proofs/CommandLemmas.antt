-- Words of a command that are lent.
use Rattle.std.proofs.Common.{◌≡◌, ℕ, suc, ◌<◌, ◌+◌, true, false, not, List, [], ◌∷◌, ◌++◌, Option, Some, None, take, drop, option_map, inl, inr, refl, sym, ap, ◌∙◌, arith}
use Rattle.std.proofs.lemmas.Bool.{and_parts, not-true, cases_Bool}
use Rattle.std.proofs.lemmas.List.{append-nil, append_assoc}
use Rattle.std.specs.Prelude.{◌==◌, ◌&&◌, cond}
use Rattle.std.specs.List.{prefix_len}
use Rattle.inc_build.specs.Commands.{State, start, is_blank, is_plain, stops, words_from, finished}
use Rattle.inc_build.specs.declared.commands.Mode.TheVariants.{Bare}

-- within a word, outside quotes
abbrev pub within : List ℕ → State
within w = record { mode = Bare; is_begun = true; word = w }

-- a byte that stands for itself is one more of the word
put_plain : (s : State) (b : ℕ) (bs : List ℕ) → s.mode ≡ Bare → is_plain b ≡ true → words_from s (b ∷ bs) ≡ words_from (within (s.word ++ b ∷ [])) bs
put_plain s b bs bare plain =
    let third = and_parts (not (is_blank b) && not (b == 92) && not (b == 39)) (not (b == 34)) plain in
    let second = and_parts (not (is_blank b) && not (b == 92)) (not (b == 39)) third.0 in
    let first = and_parts (not (is_blank b)) (not (b == 92)) second.0 in
    let blank : is_blank b ≡ false = not-true _ first.0 in
    let back : (b == 92) ≡ false = not-true _ first.1 in
    let single : (b == 39) ≡ false = not-true _ second.1 in
    let double : (b == 34) ≡ false = not-true _ third.1 in
    rw (bare, blank, back, single, double) refl

more_options : (w : List ℕ) (o : Option (List (List ℕ))) → option_map (λ ws. w ∷ ws) o ≡ option_map (λ ws. (w ++ []) ∷ ws) (option_map (finished start) o)
more_options w None = refl
more_options w (Some ws) = rw (append-nil w) refl

one_more : (b : ℕ) (bs : List ℕ) → is_plain b ≡ true → prefix_len is_plain (b ∷ bs) ≡ suc (prefix_len is_plain bs)
one_more b bs plain =
    let sum : 1 + prefix_len is_plain bs ≡ suc (prefix_len is_plain bs) = omega arith in
    ap (λ p. cond p (1 + prefix_len is_plain bs) 0) plain ∙ sum

-- a word up to its end
pub run : (w text : List ℕ) → stops (drop (prefix_len is_plain text) text) ≡ true
    → words_from (within w) text ≡ option_map (λ ws. (w ++ take (prefix_len is_plain text) text) ∷ ws) (words_from start (drop (prefix_len is_plain text) text))
run w [] end = ap (λ (v : List ℕ). Some (v ∷ [])) (sym (append-nil w))
run w (b ∷ bs) end =
    elim (cases_Bool (is_plain b)) [
      | inl plain ↦
          let len = one_more b bs plain in
          let rest = run (w ++ b ∷ []) bs (rw len at end) in
          put_plain (within w) b bs refl plain ∙ rest ∙ rw (len, append_assoc w (b ∷ []) (take (prefix_len is_plain bs) bs)) refl
      | inr isnt ↦
          let len : prefix_len is_plain (b ∷ bs) ≡ 0 = ap (λ p. cond p (1 + prefix_len is_plain bs) 0) isnt in
          let blank : is_blank b ≡ true = rw len at end in
          rw len (rw blank (more_options w (words_from start bs)))
    ]

-- a word that is lent
pub lent : (text : List ℕ) → stops (drop (prefix_len is_plain text) text) ≡ true → 0 < prefix_len is_plain text
    → words_from start text ≡ option_map (λ ws. take (prefix_len is_plain text) text ∷ ws) (words_from start (drop (prefix_len is_plain text) text))
lent [] end some = absurd (omega (arith, some))
lent (b ∷ bs) end some =
    elim (cases_Bool (is_plain b)) [
      | inl plain ↦
          let len = one_more b bs plain in
          let rest = run (b ∷ []) bs (rw len at end) in
          put_plain start b bs refl plain ∙ rest ∙ rw len refl
      | inr isnt ↦
          let len : prefix_len is_plain (b ∷ bs) ≡ 0 = ap (λ p. cond p (1 + prefix_len is_plain bs) 0) isnt in
          absurd (omega (arith, some, len))
    ]
