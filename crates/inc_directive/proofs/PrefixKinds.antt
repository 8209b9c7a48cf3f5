-- The kind of a line by its prefix.
use Rattle.std.proofs.Common.{◌≡◌, ℕ, Bool, true, false, List, [], ◌∷◌, Option, Some, None, if◌then◌else◌, refl, ap, sym, ◌∙◌}
use Rattle.std.specs.Prelude.{is_some}
use Rattle.std.specs.Option.{option_map_or}
use Rattle.inc_token.specs.Prefixes.{Operand, Prefix, first_operand, prefix_after, prefix_of}
use Rattle.inc_token.specs.TokenLines.{Tok, include_name, is_hash}
use Rattle.inc_token.specs.declared.kinds.IncludeName.{IncludeName}
use Rattle.inc_directive.specs.declared.kinds.DirectiveKind.{DirectiveKind}
use Rattle.inc_text.specs.declared.languages.Language.{Language}
use Rattle.inc_directive.specs.LineKinds.{Text, include_or, target_of, directive_kind, line_kind, line_of_tokens, prefix_kind}

-- the operand does not count where the name is that of no include directive
kind-after_name : (by : Option IncludeName) (o : Option Operand) (other : DirectiveKind)
    → include_or by (target_of (if is_some by then o else None)) other ≡ include_or by (target_of o) other
kind-after_name (Some by) o other = refl
kind-after_name None o other = refl

prefix_kind-after : (language : Language) (line : ℕ) (ts : List Tok) → prefix_kind language (prefix_after language line ts) ≡ directive_kind language ts
prefix_kind-after language line [] = refl
prefix_kind-after language line (t ∷ ts) = kind-after_name (include_name language t.spelling) (first_operand ts) _

line-after : (language : Language) (line : ℕ) (ts : List Tok) → (prefix_after language line ts).line ≡ line
line-after language line [] = refl
line-after language line (t ∷ ts) = refl

kind-of_line : (language : Language) (line : ℕ) (ts : List Tok) (x : Bool)
    → option_map_or (prefix_kind language) (if x then Some (prefix_after language line ts) else None) Text ≡ (if x then directive_kind language ts else Text)
kind-of_line language line ts true = prefix_kind-after language line ts
kind-of_line language line ts false = refl

pub kind-prefix_of : (language : Language) (tokens : List Tok) → option_map_or (prefix_kind language) (prefix_of language tokens) Text ≡ line_kind language tokens
kind-prefix_of language [] = refl
kind-prefix_of language (t ∷ ts) = kind-of_line language t.line ts (is_hash t.spelling)

-- a line of text
pub text-kind : (language : Language) (tokens : List Tok) → prefix_of language tokens ≡ None → line_kind language tokens ≡ Text
text-kind language tokens none = sym (kind-prefix_of language tokens) ∙ ap (λ (o : Option Prefix). option_map_or (prefix_kind language) o Text) none

-- a directive
pub directive-kind : (language : Language) (tokens : List Tok) (p : Prefix) → Some p ≡ prefix_of language tokens → line_kind language tokens ≡ prefix_kind language p
directive-kind language tokens p is = sym (kind-prefix_of language tokens) ∙ ap (λ (o : Option Prefix). option_map_or (prefix_kind language) o Text) (sym is)

line-by : (language : Language) (line : ℕ) (ts : List Tok) (p : Prefix) (x : Bool) → Some p ≡ (if x then Some (prefix_after language line ts) else None) → line ≡ p.line
line-by language line ts p true is = let same : p ≡ prefix_after language line ts = cc in sym (line-after language line ts) ∙ ap (λ (q : Prefix). q.line) (sym same)
line-by language line ts p false is = cc

pub directive-line : (language : Language) (tokens : List Tok) (p : Prefix) → Some p ≡ prefix_of language tokens → line_of_tokens tokens ≡ p.line
directive-line language [] p is = cc
directive-line language (t ∷ ts) p is = line-by language t.line ts p (is_hash t.spelling) is
