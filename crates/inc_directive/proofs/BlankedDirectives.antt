-- The lines that are blanked by the physical lines on which they begin are include directives, where one begins on each
-- of these.
use Rattle.std.proofs.Common.{◌≡◌, ℕ, ◌+◌, ◌<◌, ◌≤◌, ◌==◌, ◌&&◌, ◌||◌, Bool, true, false, cond, List, [], ◌∷◌, ◌++◌, Option, Some, None, Ok, option_map, slice_get, take, map, filter, refl, sym, ap, ◌∙◌, subst, arith}
use Rattle.std.specs.List.{All}
use Rattle.std.proofs.lemmas.Bool.{and_right, eqb-false, eqb-true, ne_eqb, true_from_ne_false}
use Rattle.std.proofs.lemmas.List.{take_more}
use Rattle.std.proofs.lemmas.List.Elements.{All-head}
use Rattle.std.proofs.lemmas.List.Folds.{list_any-append}
use Rattle.std.proofs.lemmas.Option.{slice_get_within, get_or_from_slice_get}
use Rattle.inc_text.specs.PhaseText.{phase_text}
use Rattle.inc_text.specs.declared.languages.Language.{Language}
use Rattle.inc_token.specs.Blanking.{begins_on, blanked, blanked_from, blanked_lines, line_range, ranges_of}
use Rattle.inc_token.specs.TokenLaws.{AreTokenLinesFrom, IsOnLines}
use Rattle.inc_token.specs.TokenLines.{Tok, TokenLine, token_lines}
use Rattle.inc_token.proofs.BlankedLines.{ascends}
use Rattle.inc_directive.specs.BlankedSources.{includes_on, is_include_on}
use Rattle.inc_directive.specs.LineKinds.{line_kind}
use Rattle.inc_directive.specs.Removal.{is_among, is_include, is_removed}

-- those of a list that pass a test
pub among_kept : (test : ℕ → Bool) (ns : List ℕ) (n : ℕ) → is_among (filter test ns) n ≡ (test n && is_among ns n)
among_kept test [] n = sym (and_right (test n) false refl)
among_kept test (k ∷ ns) n = by (among_kept test ns n) (test k) (k == n) refl refl where
  same : (t u : Bool) → t ≡ u → (t && true) ≡ u
  same true u is = is
  same false u is = is

  by : is_among (filter test ns) n ≡ (test n && is_among ns n) → (t e : Bool) → test k ≡ t → (k == n) ≡ e
      → is_among (cond t (k ∷ filter test ns) (filter test ns)) n ≡ (test n && (e || is_among ns n))
  by rest true true passes equal = ap (λ e. e || is_among (filter test ns) n) equal
      ∙ sym (same (test n) true (ap test (sym (eqb-true k n equal)) ∙ passes))
  by rest true false passes equal = ap (λ e. e || is_among (filter test ns) n) equal ∙ rest
  by rest false true passes equal =
      let fails : test n ≡ false = ap test (sym (eqb-true k n equal)) ∙ passes in
      rest ∙ ap (λ t. t && is_among ns n) fails ∙ sym (ap (λ t. t && true) fails)
  by rest false false passes equal = rest

ranges_by : (p q : Bool) (l : TokenLine) (fs gs : List TokenLine) → p ≡ q
    → map (λ (m : TokenLine). line_range m.tokens) fs ≡ map (λ (m : TokenLine). line_range m.tokens) gs
    → map (λ (m : TokenLine). line_range m.tokens) (cond p (l ∷ fs) fs)
    ≡ map (λ (m : TokenLine). line_range m.tokens) (cond q (l ∷ gs) gs)
ranges_by true true l fs gs same rest = ap (λ rs. line_range l.tokens ∷ rs) rest
ranges_by false false l fs gs same rest = rest
ranges_by true false l fs gs same rest = cc
ranges_by false true l fs gs same rest = cc

same_number : (n : ℕ) → (n == n) ≡ true
same_number n = true_from_ne_false (n == n) (λ is. eqb-false n n is refl)

module _ (language : Language) (remove kept : List ℕ) where
  -- no line begins on another physical line than its own
  elsewhere : (n : ℕ) (ts : List Tok) → ((t : Tok) (us : List Tok) → ts ≡ t ∷ us → n ≡ t.line → ⊥)
      → is_include_on language n ts ≡ false
  elsewhere n [] other = refl
  elsewhere n (t ∷ ts) other =
      ap (λ b. is_include (line_kind language (t ∷ ts)) && b) (ne_eqb n t.line (other t ts refl))
      ∙ and_right (is_include (line_kind language (t ∷ ts))) false refl

  none_later : (k n : ℕ) (ls : List TokenLine) → AreTokenLinesFrom k ls → n < k → includes_on language ls n ≡ false
  none_later k n [] h lt = refl
  none_later k n (l ∷ ls) h lt =
      ap (λ b. b || includes_on language ls n)
      (elsewhere n l.tokens (λ t us has is.
      let low = (All-head (IsOnLines k l.last_line) t us
      (subst (λ xs. All (IsOnLines k l.last_line) xs) has h.1)).0 in
      omega (arith, is, low, lt)))
      ∙ none_later (l.last_line + 1) n ls h.2 (omega (arith, h.0, lt))

  -- the line that begins on a kept line is a directive that is removed
  same_line : (k : ℕ) (ts : List Tok) (last : ℕ) (ls : List TokenLine) → All (IsOnLines k last) ts
      → AreTokenLinesFrom (last + 1) ls
      → ((n : ℕ) → k ≤ n
      → is_among kept n ≡ ((is_include_on language n ts || includes_on language ls n) && is_among remove n))
      → begins_on kept ts ≡ is_removed language (is_among remove) ts
  same_line k [] last ls on later known = refl
  same_line k (t ∷ ts) last ls on later known =
      let place = All-head (IsOnLines k last) t ts on in
      known t.line place.0
      ∙ ap (λ b. ((is_include (line_kind language (t ∷ ts)) && (t.line == t.line)) || b) && is_among remove t.line)
      (none_later (last + 1) t.line ls later (omega (arith, place.1)))
      ∙ ap (λ b. ((is_include (line_kind language (t ∷ ts)) && b) || false) && is_among remove t.line)
      (same_number t.line)
      ∙ ap (λ b. b && is_among remove t.line) (alone (is_include (line_kind language (t ∷ ts))))
    where
      alone : (i : Bool) → ((i && true) || false) ≡ i
      alone true = refl
      alone false = refl

  same_ranges : (k : ℕ) (ls : List TokenLine) → AreTokenLinesFrom k ls
      → ((n : ℕ) → k ≤ n → is_among kept n ≡ (includes_on language ls n && is_among remove n))
      → ranges_of (begins_on kept) ls ≡ ranges_of (is_removed language (is_among remove)) ls
  same_ranges k [] h known = refl
  same_ranges k (l ∷ ls) h known =
      ranges_by (begins_on kept l.tokens) (is_removed language (is_among remove) l.tokens) l
      (filter (λ (m : TokenLine). begins_on kept m.tokens) ls)
      (filter (λ (m : TokenLine). is_removed language (is_among remove) m.tokens) ls)
      (same_line k l.tokens l.last_line ls h.1 h.2 known)
      (same_ranges (l.last_line + 1) ls h.2 (λ n low.
      known n (omega (arith, low, h.0))
      ∙ ap (λ b. (b || includes_on language ls n) && is_among remove n)
      (elsewhere n l.tokens (λ t us has is.
      let high = (All-head (IsOnLines k l.last_line) t us
      (subst (λ xs. All (IsOnLines k l.last_line) xs) has h.1)).1 in
      omega (arith, is, high, low)))))

-- blanking by the lines of `remove` on which an include directive begins
pub kept_are_removed : (language : Language) (remove source : List ℕ) (lines : List TokenLine) (flags : ℕ → Bool)
    → token_lines language (phase_text language source) ≡ Ok lines → ((n : ℕ) → flags n ≡ includes_on language lines n)
    → blanked (filter flags remove) lines source ≡ blanked_lines (is_removed language (is_among remove)) lines source
kept_are_removed language remove source lines flags is known =
    ap (λ rs. blanked_from 0 rs source)
    (same_ranges language remove (filter flags remove) 1 lines (ascends language source lines is)
    (λ n low. among_kept flags remove n ∙ ap (λ b. b && is_among remove n) (known n)))

-- one line more of which it is known whether it is an include directive
pub one_more_line : (language : Language) (ls : List TokenLine) (i n : ℕ) (ts : List Tok) (new old : Bool)
    → option_map (λ (l : TokenLine). l.tokens) (slice_get ls i) ≡ Some ts → new ≡ (is_include_on language n ts || old)
    → old ≡ includes_on language (take i ls) n → new ≡ includes_on language (take (i + 1) ls) n
one_more_line language ls i n ts new old at one before = by (slice_get ls i) refl at where
  other_way : (a b : Bool) → (a || b) ≡ (b || (a || false))
  other_way true true = refl
  other_way true false = refl
  other_way false true = refl
  other_way false false = refl

  by : (o : Option TokenLine) → slice_get ls i ≡ o → option_map (λ (l : TokenLine). l.tokens) o ≡ Some ts
      → new ≡ includes_on language (take (i + 1) ls) n
  by None there tokens = cc
  by (Some l) there tokens =
      let same : ts ≡ l.tokens = cc in
      let front : List TokenLine = take i ls in
      let more : take (i + 1) ls ≡ front ++ l ∷ [] =
      take_more ls i l (slice_get_within ls i l there)
      ∙ ap (λ m. front ++ m ∷ []) (get_or_from_slice_get ls i l l there) in
      one ∙ ap (λ us. is_include_on language n us || old) same ∙ other_way (is_include_on language n l.tokens) old
      ∙ ap (λ b. b || (is_include_on language n l.tokens || false)) before
      ∙ sym (list_any-append (λ (m : TokenLine). is_include_on language n m.tokens) front (l ∷ []))
      ∙ sym (ap (λ ms. includes_on language ms n) more)
