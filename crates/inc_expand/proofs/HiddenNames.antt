-- Tokens that hide other names: what does not ask what they hide is as before.
use Rattle.std.proofs.Common.{◌≡◌, ℕ, zero, suc, ◌-◌, ◌==◌, ◌&&◌, Bool, true, false, List, [], ◌∷◌, ◌++◌, Option, Some, None, Result, Ok, Err, drop, length, map, refl, sym, ap, ap₂, ◌∙◌, nat_lt}
use Rattle.std.specs.Prelude.{if◌then◌else◌, is_some, option_map}
use Rattle.std.proofs.lemmas.List.{length-map, map-append}
use Rattle.inc_macro.specs.Results.{◌>>=◌}
use Rattle.inc_macro.specs.Macros.{BodyToken, Params, parameter_names}
use Rattle.inc_text.specs.Ascii.{blank}
use Rattle.inc_text.specs.declared.languages.Language.TheVariants.{C17}
use Rattle.inc_token.specs.declared.kinds.Kind.{Kind}
use Rattle.inc_token.specs.declared.kinds.Kind.TheVariants.{Str}
use Rattle.inc_token.specs.Spellings.{class_of}
use Rattle.inc_expand.specs.declared.faults.ExpandFault.{ExpandFault}
use Rattle.inc_expand.specs.declared.faults.ExpandFault.TheVariants.{ArgumentCount, BadString}
use Rattle.inc_expand.specs.declared.rules.Rule.{Rule}
use Rattle.inc_expand.specs.declared.rules.Rule.TheVariants.{ByContexts}
use Rattle.inc_expand.specs.Elements.{Element, Word, Glue, Silent, StringOf, AsWritten, Expanded, Comma, Optional, Kept, Empty, Made}
use Rattle.inc_expand.specs.Expansion.{Argument, Carrier, Names, Part, Paste, Piece, all_parts, argument_at, arguments, as_part, bound, chosen, comma_part, depth_after, filled_up, fits, goes_with, has_tokens, hidden_by_paste, in_quotes, inside, is_comma, is_str, joined, left_out, made_kind, made_string, no_names, of_body, onto_first, operand, parts_of, paste_from, pasted, spaced, spelled, spelled_token, split_at_commas, standing, stands, string_of, substituted, tokens_of, unexpanded}

-- what is made of a result
abbrev pub mapped : {A B : Type 0} → (A → B) → Result A ExpandFault → Result B ExpandFault
mapped h r = r >>= λ x. Ok (h x)

---- tokens that are told apart by their spellings and classes alone

module _ (g : Carrier → Names) where
  abbrev pub changed : Carrier → Carrier
  changed t = record t { hidden = g t }

  abbrev pub changed_argument : Argument → Argument
  changed_argument a = record a { written = map changed a.written; expanded = map changed a.expanded }

  split-changed : (most deep : ℕ) (ts : List Carrier) → split_at_commas most deep (map changed ts) ≡ map (map changed) (split_at_commas most deep ts)
  split-changed most deep [] = refl
  split-changed most deep (t ∷ ts) =
      let b : Bool = is_comma t && ((deep == 0) && nat_lt 0 most) in
      ap (λ o. if b then [] ∷ o else onto_first (changed t) o) (split-changed (if b then most - 1 else most) (depth_after deep t) ts)
      ∙ go b (split_at_commas (if b then most - 1 else most) (depth_after deep t) ts)
    where
      go : (b : Bool) (o : List (List Carrier)) → (if b then [] ∷ map (map changed) o else onto_first (changed t) (map (map changed) o)) ≡ map (map changed) (if b then [] ∷ o else onto_first t o)
      go true o = refl
      go false [] = refl
      go false (a ∷ as') = refl

  arguments-changed : (p : Params) (ts : List Carrier) → arguments p (map changed ts) ≡ map (map changed) (arguments p ts)
  arguments-changed p [] = go (length p.names == 0)
    where
      go : (b : Bool) → (if b then [] else [] ∷ []) ≡ map (map changed) (if b then [] else [] ∷ [])
      go true = refl
      go false = refl
  arguments-changed p (t ∷ ts) =
      ap (λ n. split_at_commas (if is_some p.variable then length p.names else suc n) 0 (changed t ∷ map changed ts)) (length-map ts changed)
      ∙ split-changed (if is_some p.variable then length p.names else suc (length ts)) 0 (t ∷ ts)

  unexpanded-changed : (ls : List (List Carrier)) → map unexpanded (map (map changed) ls) ≡ map changed_argument (map unexpanded ls)
  unexpanded-changed [] = refl
  unexpanded-changed (l ∷ ls) = ap (λ as'. unexpanded (map changed l) ∷ as') (unexpanded-changed ls)

  filled-changed : (p : Params) (as' : List Argument) → filled_up p (map changed_argument as') ≡ map changed_argument (filled_up p as')
  filled-changed p as' =
      ap (λ n. if is_some p.variable && (n == length p.names) then map changed_argument as' ++ left_out ∷ [] else map changed_argument as') (length-map as' changed_argument)
      ∙ go (is_some p.variable && (length as' == length p.names))
    where
      go : (b : Bool) → (if b then map changed_argument as' ++ left_out ∷ [] else map changed_argument as') ≡ map changed_argument (if b then as' ++ left_out ∷ [] else as')
      go true = sym (map-append changed_argument as' (left_out ∷ []))
      go false = refl

  pub bound-changed : (p : Params) (ts : List Carrier) → bound p (map changed ts) ≡ mapped (map changed_argument) (bound p ts)
  bound-changed p ts =
      ap checked (ap (filled_up p) (ap (map unexpanded) (arguments-changed p ts) ∙ unexpanded-changed (arguments p ts)) ∙ filled-changed p (map unexpanded (arguments p ts)))
      ∙ by (filled_up p (map unexpanded (arguments p ts)))
    where
      checked : List Argument → Result (List Argument) ExpandFault
      checked as' = if length as' == length (parameter_names (Some p)) then Ok as' else Err ArgumentCount

      by : (as' : List Argument) → checked (map changed_argument as') ≡ mapped (map changed_argument) (checked as')
      by as' =
          ap (λ n. if n == length (parameter_names (Some p)) then Ok (map changed_argument as') else Err ArgumentCount) (length-map as' changed_argument)
          ∙ go (length as' == length (parameter_names (Some p)))
        where
          go : (b : Bool) → (if b then Ok (map changed_argument as') else Err ArgumentCount) ≡ mapped (map changed_argument) (if b then Ok as' else Err ArgumentCount)
          go true = refl
          go false = refl

  pub at-changed : (as' : List Argument) (n : ℕ) → argument_at (map changed_argument as') n ≡ changed_argument (argument_at as' n)
  at-changed [] n = refl
  at-changed (a ∷ as') zero = refl
  at-changed (a ∷ as') (suc n) = at-changed as' n

  spelled-changed : (ts : List Carrier) → spelled (map changed ts) ≡ spelled ts
  spelled-changed [] = refl
  spelled-changed (t ∷ ts) = ap (λ xs. (if t.space then blank ∷ [] else []) ++ spelled_token t ++ xs) (spelled-changed ts)

---- substitution

string_by : Bool → List ℕ → Result Carrier ExpandFault
string_by space bytes =
    fits (in_quotes bytes) >>= λ text.
    if is_str (class_of C17 text) then Ok (record { kind = Str; spelling = text; line = 0; space = space; hidden = no_names }) else Err BadString

module _ (rule : Rule) (g : Carrier → Names) (made : (t : Carrier) → g (record t { hidden = no_names }) ≡ no_names) (any-space : (t : Carrier) (s : Bool) → g (record t { space = s }) ≡ g t)
    (of-paste : (t a b : Carrier) → g (record t { hidden = hidden_by_paste rule a.hidden b.hidden }) ≡ hidden_by_paste rule (g a) (g b)) where
  abbrev f : Carrier → Carrier
  f = changed g

  abbrev on_part : Part → Part
  on_part (Piece o) = Piece (option_map f o)
  on_part Paste = Paste

  -- a token that hides nothing
  plain-changed : (t : Carrier) → f (record t { hidden = no_names }) ≡ record t { hidden = no_names }
  plain-changed t = ap (λ (h : Names). record t { hidden = h }) (made t)

  spaced-changed : (s : Bool) (ts : List Carrier) → spaced s (map f ts) ≡ map f (spaced s ts)
  spaced-changed s [] = refl
  spaced-changed s (t ∷ ts) = ap (λ (h : Names). record t { space = s; hidden = h } ∷ map f ts) (sym (any-space t s))

  string-changed : (space : Bool) (ts : List Carrier) → string_of space (map f ts) ≡ string_of space ts
  unfolding string_by
  string-changed space ts = ap (string_by space) (ap spelled (spaced-changed false ts) ∙ spelled-changed g (spaced false ts))

  string-kept : (space : Bool) (ts : List Carrier) → (string_of space ts >>= λ t. Ok (as_part t ∷ [])) ≡ mapped (map on_part) (string_of space ts >>= λ t. Ok (as_part t ∷ []))
  string-kept space ts = by (fits (in_quotes (spelled (spaced false ts))))
    where
      put : List ℕ → Bool → Result (List Part) ExpandFault
      put text b = (if b then Ok (record { kind = Str; spelling = text; line = 0; space = space; hidden = no_names }) else Err BadString) >>= λ t. Ok (as_part t ∷ [])

      go : (text : List ℕ) (b : Bool) → put text b ≡ mapped (map on_part) (put text b)
      go text true = ap (λ (t : Carrier). Ok (as_part t ∷ [])) (sym (plain-changed (record { kind = Str; spelling = text; line = 0; space = space; hidden = no_names })))
      go text false = refl

      by : (r : Result (List ℕ) ExpandFault) →
          ((r >>= λ text. if is_str (class_of C17 text) then Ok (record { kind = Str; spelling = text; line = 0; space = space; hidden = no_names }) else Err BadString) >>= λ t. Ok (as_part t ∷ []))
          ≡ mapped (map on_part) ((r >>= λ text. if is_str (class_of C17 text) then Ok (record { kind = Str; spelling = text; line = 0; space = space; hidden = no_names }) else Err BadString) >>= λ t. Ok (as_part t ∷ []))
      by (Ok text) = go text (is_str (class_of C17 text))
      by (Err fault) = refl

  parts-changed : (ts : List Carrier) → map as_part (map f ts) ≡ map on_part (map as_part ts)
  parts-changed [] = refl
  parts-changed (t ∷ ts) = ap (λ ps. as_part (f t) ∷ ps) (parts-changed ts)

  operand-changed : (ts : List Carrier) → operand (map f ts) ≡ map on_part (operand ts)
  operand-changed [] = refl
  operand-changed (t ∷ ts) = ap (λ ps. as_part (f t) ∷ ps) (parts-changed ts)

  comma-changed : (given : Bool) (b : BodyToken) → comma_part given b ≡ on_part (comma_part given b)
  comma-changed true b = ap as_part (sym (plain-changed (of_body b)))
  comma-changed false b = refl

  part-changed : (as' : List Argument) (e : Element) → parts_of (map (changed_argument g) as') e ≡ mapped (map on_part) (parts_of as' e)
  part-changed as' (Word b) = ap (λ (t : Carrier). Ok (as_part t ∷ [])) (sym (plain-changed (of_body b)))
  part-changed as' Glue = refl
  part-changed as' Silent = refl
  part-changed as' (StringOf space n) =
      ap (λ (a : Argument). string_of space a.written >>= λ t. Ok (as_part t ∷ [])) (at-changed g as' n)
      ∙ ap (λ r. r >>= λ t. Ok (as_part t ∷ [])) (string-changed space (argument_at as' n).written) ∙ string-kept space (argument_at as' n).written
  part-changed as' (AsWritten space n) =
      ap (λ (a : Argument). Ok (operand (spaced space a.written))) (at-changed g as' n)
      ∙ ap (λ ts. Ok (operand ts)) (spaced-changed space (argument_at as' n).written) ∙ ap Ok (operand-changed (spaced space (argument_at as' n).written))
  part-changed as' (Expanded space n) =
      ap (λ (a : Argument). Ok (map as_part (spaced space a.expanded))) (at-changed g as' n)
      ∙ ap (λ ts. Ok (map as_part ts)) (spaced-changed space (argument_at as' n).expanded) ∙ ap Ok (parts-changed (spaced space (argument_at as' n).expanded))
  part-changed as' (Comma b n) =
      ap (λ (a : Argument). Ok (comma_part a.given b ∷ [])) (at-changed g as' n) ∙ ap (λ p. Ok (p ∷ [])) (comma-changed (argument_at as' n).given b)
  part-changed as' (Optional hash n) = refl
  part-changed as' (Kept space n) =
      ap (λ (a : Argument). Ok (operand (spaced space a.expanded))) (at-changed g as' n)
      ∙ ap (λ ts. Ok (operand ts)) (spaced-changed space (argument_at as' n).expanded) ∙ ap Ok (operand-changed (spaced space (argument_at as' n).expanded))
  part-changed as' Empty = refl
  part-changed as' (Made space text) = ap (λ (t : Carrier). Ok (as_part t ∷ [])) (sym (plain-changed (made_string space text)))

  all-changed : (as' : List Argument) (es : List Element) → all_parts (map (changed_argument g) as') es ≡ mapped (map on_part) (all_parts as' es)
  all-changed as' [] = refl
  all-changed as' (e ∷ es) =
      ap₂ (λ r s. r >>= λ ps. s >>= λ rest. Ok (ps ++ rest)) (part-changed as' e) (all-changed as' es) ∙ go (parts_of as' e) (all_parts as' es)
    where
      go : (r s : Result (List Part) ExpandFault) → (mapped (map on_part) r >>= λ ps. mapped (map on_part) s >>= λ rest. Ok (ps ++ rest)) ≡ mapped (map on_part) (r >>= λ ps. s >>= λ rest. Ok (ps ++ rest))
      go (Ok ps) (Ok rest) = ap Ok (sym (map-append on_part ps rest))
      go (Ok ps) (Err fault) = refl
      go (Err fault) s = refl

  pasted-changed : (a b : Option Carrier) → pasted rule (option_map f a) (option_map f b) ≡ mapped (option_map f) (pasted rule a b)
  pasted-changed None b = refl
  pasted-changed (Some a) None = refl
  pasted-changed (Some a) (Some b) = go (made_kind rule (a.spelling ++ b.spelling))
    where
      token : Names → Kind → Carrier
      token h kind = record { kind = kind; spelling = a.spelling ++ b.spelling; line = 0; space = a.space; hidden = h }

      go : (r : Result Kind ExpandFault) → ((r >>= λ kind. Ok (token (hidden_by_paste rule (g a) (g b)) kind)) >>= λ t. Ok (Some t))
          ≡ mapped (option_map f) ((r >>= λ kind. Ok (token (hidden_by_paste rule a.hidden b.hidden) kind)) >>= λ t. Ok (Some t))
      go (Ok kind) = ap (λ (h : Names). Ok (Some (token h kind))) (sym (of-paste (token no_names kind) a b))
      go (Err fault) = refl

  of-changed : (p : Option Carrier) → tokens_of (option_map f p) ≡ map f (tokens_of p)
  of-changed None = refl
  of-changed (Some t) = refl

  paste-changed : (joins : Bool) (p : Option Carrier) (ps : List Part) → paste_from rule joins (option_map f p) (map on_part ps) ≡ mapped (map f) (paste_from rule joins p ps)
  paste-changed joins p [] = ap Ok (of-changed p)
  paste-changed joins p (Paste ∷ ps) = paste-changed true p ps
  paste-changed false p (Piece q ∷ ps) =
      ap₂ (λ us r. r >>= λ ts. Ok (us ++ ts)) (of-changed p) (paste-changed false q ps) ∙ go (paste_from rule false q ps)
    where
      go : (r : Result (List Carrier) ExpandFault) → (mapped (map f) r >>= λ ts. Ok (map f (tokens_of p) ++ ts)) ≡ mapped (map f) (r >>= λ ts. Ok (tokens_of p ++ ts))
      go (Ok ts) = ap Ok (sym (map-append f (tokens_of p) ts))
      go (Err fault) = refl
  paste-changed true p (Piece q ∷ ps) = ap (λ r. r >>= λ x. paste_from rule false x (map on_part ps)) (pasted-changed p q) ∙ go (pasted rule p q) (λ x. paste-changed false x ps)
    where
      go : (r : Result (Option Carrier) ExpandFault) → ((x : Option Carrier) → paste_from rule false (option_map f x) (map on_part ps) ≡ mapped (map f) (paste_from rule false x ps)) →
          (mapped (option_map f) r >>= λ x. paste_from rule false x (map on_part ps)) ≡ mapped (map f) (r >>= λ x. paste_from rule false x ps)
      go (Ok x) h = h x
      go (Err fault) h = refl

  pub joined-changed : (as' : List Argument) (es : List Element) → joined rule (map (changed_argument g) as') es ≡ mapped (map f) (joined rule as' es)
  joined-changed as' es = ap (λ r. r >>= λ ps. paste_from rule false None ps) (all-changed as' es) ∙ go (all_parts as' es)
    where
      go : (r : Result (List Part) ExpandFault) → (mapped (map on_part) r >>= λ ps. paste_from rule false None ps) ≡ mapped (map f) (r >>= λ ps. paste_from rule false None ps)
      go (Ok ps) = paste-changed false None ps
      go (Err fault) = refl

  pub string-same : (space : Bool) (ts : List Carrier) → string_of space (map f ts) ≡ string_of space ts
  string-same space ts = string-changed space ts

---- places that stand ask for spellings and numbers alone

abbrev nothing : Carrier → Names
nothing t = no_names

abbrev none : Carrier → Carrier
none = changed nothing

module _ (g : Carrier → Names) where
  twice : (ts : List Carrier) → map none (map (changed g) ts) ≡ map none ts
  twice [] = refl
  twice (t ∷ ts) = ap (λ us. none t ∷ us) (twice ts)

  twice-argument : (as' : List Argument) → map (changed_argument nothing) (map (changed_argument g) as') ≡ map (changed_argument nothing) as'
  twice-argument [] = refl
  twice-argument (a ∷ as') =
      ap₂ (λ (b : Argument) (bs : List Argument). b ∷ bs)
      (ap₂ (λ (w e : List Carrier). record a { written = w; expanded = e }) (twice a.written) (twice a.expanded)) (twice-argument as')

  same-string : (as' : List Argument) (space : Bool) (es : List Element) → (joined ByContexts (map (changed_argument g) as') es >>= λ ts. string_of space ts) ≡ (joined ByContexts as' es >>= λ ts. string_of space ts)
  same-string as' space es =
      by (joined ByContexts (map (changed_argument g) as') es)
      ∙ ap (λ r. r >>= λ ts. string_of space ts)
      (sym (joined-changed ByContexts nothing (λ t. refl) (λ t s. refl) (λ t a b. refl) (map (changed_argument g) as') es)
      ∙ ap (λ bs. joined ByContexts bs es) (twice-argument as')
      ∙ joined-changed ByContexts nothing (λ t. refl) (λ t s. refl) (λ t a b. refl) as' es)
      ∙ sym (by (joined ByContexts as' es))
    where
      by : (r : Result (List Carrier) ExpandFault) → (r >>= λ ts. string_of space ts) ≡ (mapped (map none) r >>= λ ts. string_of space ts)
      by (Ok ts) = sym (string-same ByContexts nothing (λ t. refl) (λ t s. refl) (λ t a b. refl) space ts)
      by (Err fault) = refl

  standing-changed : (as' : List Argument) (hash : Option Bool) (es : List Element) → standing (map (changed_argument g) as') hash es ≡ standing as' hash es
  standing-changed as' None es = refl
  standing-changed as' (Some space) es =
      by (joined ByContexts (map (changed_argument g) as') es) ∙ ap (λ r. r >>= λ t. Ok (Made space t.spelling ∷ [])) (same-string as' space es) ∙ sym (by (joined ByContexts as' es))
    where
      by : (r : Result (List Carrier) ExpandFault) → (r >>= λ ts. string_of space ts >>= λ t. Ok (Made space t.spelling ∷ [])) ≡ ((r >>= λ ts. string_of space ts) >>= λ t. Ok (Made space t.spelling ∷ []))
      by (Ok ts) = refl
      by (Err fault) = refl

  has-changed : (as' : List Argument) (n : ℕ) → has_tokens (map (changed_argument g) as') n ≡ has_tokens as' n
  has-changed as' n = ap (λ (a : Argument). nat_lt 0 (length a.expanded)) (at-changed g as' n) ∙ ap (nat_lt 0) (length-map (argument_at as' n).expanded (changed g))

  stands-changed : (as' : List Argument) (e : Element) (es : List Element) → stands (map (changed_argument g) as') e es ≡ stands as' e es
  stands-changed as' (Word b) es = refl
  stands-changed as' Glue es = refl
  stands-changed as' Silent es = refl
  stands-changed as' (StringOf space n) es = refl
  stands-changed as' (AsWritten space n) es = refl
  stands-changed as' (Expanded space n) es = refl
  stands-changed as' (Comma b n) es = refl
  stands-changed as' (Optional hash n) es =
      ap (λ b. standing (map (changed_argument g) as') hash (if b then inside 0 (drop 1 es) else [])) (has-changed as' n)
      ∙ standing-changed as' hash (if has_tokens as' n then inside 0 (drop 1 es) else [])
  stands-changed as' (Kept space n) es = refl
  stands-changed as' Empty es = refl
  stands-changed as' (Made space text) es = refl

  chosen-changed : (as' : List Argument) (k : ℕ) (es : List Element) → chosen (map (changed_argument g) as') k es ≡ chosen as' k es
  chosen-changed as' k [] = refl
  chosen-changed as' (suc k) (e ∷ es) = chosen-changed as' k es
  chosen-changed as' zero (e ∷ es) = ap₂ (λ r s. r >>= λ cs. s >>= λ rest. Ok (cs ++ rest)) (stands-changed as' e es) (chosen-changed as' (goes_with e es) es)

  pub substituted-changed : (rule : Rule) → ((t : Carrier) → g (record t { hidden = no_names }) ≡ no_names) → ((t : Carrier) (s : Bool) → g (record t { space = s }) ≡ g t) →
      ((t a b : Carrier) → g (record t { hidden = hidden_by_paste rule a.hidden b.hidden }) ≡ hidden_by_paste rule (g a) (g b)) → (as' : List Argument) (es : List Element) →
      substituted rule (map (changed_argument g) as') es ≡ mapped (map (changed g)) (substituted rule as' es)
  substituted-changed rule made any-space of-paste as' es = ap (λ r. r >>= λ cs. joined rule (map (changed_argument g) as') cs) (chosen-changed as' 0 es) ∙ go (chosen as' 0 es)
    where
      go : (r : Result (List Element) ExpandFault) → (r >>= λ cs. joined rule (map (changed_argument g) as') cs) ≡ mapped (map (changed g)) (r >>= λ cs. joined rule as' cs)
      go (Ok cs) = joined-changed rule g made any-space of-paste as' cs
      go (Err fault) = refl
