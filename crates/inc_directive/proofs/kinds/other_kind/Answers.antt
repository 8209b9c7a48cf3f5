use Rattle.std.proofs.Common.{◌≡◌, ◌++◌, ℕ, List, Option, Some, None, find, bytes_eq, option_map, unwrap_or, refl, ap, sym, ◌∙◌}
use Rattle.std.specs.Option.{option_or}
use Rattle.std.proofs.lemmas.List.Folds.{find-append}
use Rattle.inc_text.specs.declared.languages.Language.{Language}
use Rattle.inc_directive.specs.declared.kinds.DirectiveKind.{DirectiveKind}
use Rattle.inc_directive.specs.LineKinds.{added_kinds, kind_in, named_kinds, other_kind, unnamed_kind}
use Rattle.inc_directive.proofs.kinds.other_kind.Goals as goal

-- a name that is not among the first of a list
none_before : (xs ys : List (List ℕ × DirectiveKind)) (name : List ℕ) → kind_in xs name ≡ None → kind_in (xs ++ ys) name ≡ kind_in ys name
none_before xs ys name none =
    ap (option_map (λ (p : List ℕ × DirectiveKind). p.1)) (find-append (λ (p : List ℕ × DirectiveKind). bytes_eq name p.0) xs ys)
    ∙ by (find (λ (p : List ℕ × DirectiveKind). bytes_eq name p.0) xs) none
  where
    by : (o : Option (List ℕ × DirectiveKind)) → option_map (λ (p : List ℕ × DirectiveKind). p.1) o ≡ None
        → option_map (λ (p : List ℕ × DirectiveKind). p.1) (option_or o (find (λ (p : List ℕ × DirectiveKind). bytes_eq name p.0) ys)) ≡ kind_in ys name
    by None e = refl
    by (Some p) e = cc

-- of a name that not each language knows
added_alone : (language : Language) (name : List ℕ) → kind_in named_kinds name ≡ None
    → unwrap_or (kind_in (added_kinds language) name) (unnamed_kind language name) ≡ other_kind language name
added_alone language name none =
    ap (λ (o : Option DirectiveKind). unwrap_or o (unnamed_kind language name)) (sym (none_before named_kinds (added_kinds language) name none))

pub returns-in-Gnu : goal.returns-in-Gnu
returns-in-Gnu c =
    c.gnu_kind.ensures
    ∙ ap (λ (l : Language). unwrap_or (kind_in (added_kinds l) c.args.name.now) (unnamed_kind l c.args.name.now)) (sym c.in-Gnu.is)
    ∙ added_alone c.args.language c.args.name.now (sym c.known_kind.ensures ∙ c.in-None.is)
