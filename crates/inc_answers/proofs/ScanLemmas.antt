-- The printed lines of directives, one more at a time.
use Rattle.std.proofs.Common.{◌≡◌, ℕ, suc, List, [], ◌∷◌, ◌++◌, Option, Some, None, length, refl, sym, ap, subst, ◌∙◌}
use Rattle.std.specs.Prelude.{filter, is_some, option_to_list, if◌then◌else◌}
use Rattle.std.specs.List.{concat, cons_option}
use Rattle.std.proofs.lemmas.List.{append_assoc, append-nil}
use Rattle.inc_directive.specs.FileDirectives.{Directive}
use Rattle.inc_directive.specs.LineKinds.{LineKind, Include, Other}
use Rattle.inc_directive.specs.declared.kinds.DirectiveKind.TheVariants.{Foreign}
use Rattle.inc_directive.specs.Removal.{is_removable}
use Rattle.inc_directive.specs.Parts.{is_inclusion}
use Rattle.inc_answers.specs.ScanText.{kind_text, entry_text, entry_of, entries}

with_entry : (o : Option (List ℕ)) (d : Directive) (ds : List Directive) → entry_of d ≡ o → concat (entries (d ∷ ds)) ≡ concat (option_to_list o) ++ concat (entries ds)
with_entry None d ds is = rw is refl
with_entry (Some text) d ds is = rw is (ap (λ (l : List ℕ). l ++ concat (entries ds)) (sym (append-nil text)))

-- the directives that are left begin with this one
pub entries_next : (sent all : List ℕ) (left : List Directive) (d : Directive) (ds : List Directive) → left ≡ d ∷ ds → sent ++ concat (entries left) ≡ all
    → (sent ++ concat (option_to_list (entry_of d))) ++ concat (entries ds) ≡ all
entries_next sent all left d ds is so_far =
    append_assoc sent _ _ ∙ ap (λ (l : List ℕ). sent ++ l) (sym (with_entry (entry_of d) d ds refl)) ∙ ap (λ (ds2 : List Directive). sent ++ concat (entries ds2)) (sym is) ∙ so_far

---- those that include are those with a printed line

text_included : (k : LineKind) → is_some (kind_text k) ≡ is_removable k
text_included (Include by target) = refl
text_included (Other Foreign) = refl
text_included _ = refl

-- what is said of the directives that include, and how many they are
pub record AreSaid (included all : List Directive) : Type 0 where
  pub said : entries included ≡ entries all
  pub count : length included ≡ length (entries all)

said_one : (o : Option (List ℕ)) (d : Directive) (included all : List Directive) → kind_text d.kind ≡ o → AreSaid included all
    → AreSaid (if is_some o then d ∷ included else included) (d ∷ all)
said_one None d included all is h =
    let none : entry_of d ≡ None = ap (entry_text d.line) is in
    record { said = rw none h.said; count = rw none h.count }
said_one (Some text) d included all is h =
    let some : entry_of d ≡ entry_text d.line (Some text) = ap (entry_text d.line) is in
    record { said = rw some (ap (cons_option (entry_text d.line (Some text))) h.said); count = rw some (ap suc h.count) }

pub are_said : (ds : List Directive) → AreSaid (filter is_inclusion ds) ds
are_said [] = record { said = refl; count = refl }
are_said (d ∷ ds) =
    subst (λ b. AreSaid (if b then d ∷ filter is_inclusion ds else filter is_inclusion ds) (d ∷ ds)) (text_included d.kind)
    (said_one (kind_text d.kind) d (filter is_inclusion ds) ds refl (are_said ds))
