-- An include by a name that is not defined names no header.
use Rattle.std.proofs.Common.{◌≡◌, ℕ, false, ◌&&◌, ◌==◌, List, ◌∷◌, Option, None, Result, Ok, Err, IfOk, bytes_eq, codes, refl, sym, ap, ◌∙◌, subst}
use Rattle.std.specs.Prelude.{ok_or, slice_index}
use Rattle.std.proofs.lemmas.Bool.{cond-false}
use Rattle.inc_text.specs.Ascii.{quotation_mark}
use Rattle.inc_token.specs.declared.kinds.Kind.{Kind}
use Rattle.inc_token.specs.declared.kinds.Kind.TheVariants.{Identifier}
use Rattle.inc_token.specs.TokenLines.{Tok}
use Rattle.inc_directive.specs.Groups.{FileLine}
use Rattle.inc_directive.specs.LineKinds.{ByName}
use Rattle.inc_macro.specs.Macros.{is_identifier_kind}
use Rattle.inc_macro.specs.Results.{◌>>=◌}
use Rattle.inc_macro.proofs.UndefinedNames.{Lacks}
use Rattle.inc_expand.specs.declared.faults.ExpandFault.{ExpandFault}
use Rattle.inc_expand.specs.declared.places.Mode.TheVariants.{Plain}
use Rattle.inc_expand.specs.Expansion.{Item, Surroundings, Meter, expansion, item_of, of_source}
use Rattle.inc_expand.proofs.UndefinedNames.{expansion_begins}
use Rattle.inc_pp.specs.declared.causes.Cause.{Cause}
use Rattle.inc_pp.specs.declared.causes.Cause.TheVariants.{BadInclude, Expand}
use Rattle.inc_pp.specs.Includes.{Header, header_in, header_of, is_str_kind}
use Rattle.inc_pp.specs.Runs.{with_meter}
use Rattle.inc_pp.specs.Sections.{operands}
use Rattle.inc_pp.specs.Tasks.{File, Here, State, caused, place_of}

-- tokens begin with this name, and what it is spelled like is no `<`
pub record BeginsWith (name : List ℕ) (ts : List Tok) : Type 0 where
  pub first : Tok
  pub more : List Tok
  pub are : ts ≡ first ∷ more
  pub kind : first.kind ≡ Identifier
  pub spelling : first.spelling ≡ name
  pub bracket : bytes_eq name (codes "<") ≡ false

-- items that begin with a name name no header
no_header : (i : Item) (is : List Item) → i.kind ≡ Identifier → bytes_eq i.spelling (codes "<") ≡ false → header_in (i ∷ is) ≡ None
no_header i is kind other =
    cond-false _ _ _ (ap (λ (k : Kind). is_str_kind k && (slice_index i.spelling 0 == quotation_mark)) kind)
    ∙ cond-false _ _ _ other

module _ (name : List ℕ) (f : File) (l : FileLine) (s : State) (h : Here) (begins : BeginsWith name (operands l)) (lacks : Lacks name s.table) where
  -- the items begin with the name
  abbrev Begins : List Item × Meter → Type 0
  Begins r = (more : List Item) × (r.0 ≡ item_of (of_source begins.first) ∷ more)

  abbrev here : Surroundings
  here = record { table = s.table; mode = Plain; place = place_of f h }

  none_in : (r : List Item × Meter) → Begins r → header_in r.0 ≡ None
  none_in r b =
      ap header_in b.1
      ∙ no_header (item_of (of_source begins.first)) b.0 begins.kind (ap (λ (n : List ℕ). bytes_eq n (codes "<")) begins.spelling ∙ begins.bracket)

  abbrev paired : State → Header → Result (Header × State) Cause
  paired after header = Ok (header, after)

  abbrev header_after : List Item × State → Result (Header × State) Cause
  header_after r = ok_or (header_in r.0) BadInclude >>= paired r.1

  abbrev after_expansion : List Item × Meter → Result (List Item × State) Cause
  after_expansion x = Ok (x.0, with_meter x.1 s)

  by_expansion : (r : Result (List Item × Meter) ExpandFault) → IfOk r Begins
      → IfOk ((caused Expand r >>= after_expansion) >>= header_after) (λ x. ⊥)
  by_expansion (Ok x) b =
      subst (λ (o : Option Header). IfOk (ok_or o BadInclude >>= paired (with_meter x.1 s)) (λ y. ⊥)) (sym (none_in x b)) tt
  by_expansion (Err fault) b = tt

  -- such an include stops
  pub no_header_by_name : IfOk (header_of (ByName name) f l s h) (λ r. ⊥)
  no_header_by_name =
      by_expansion (expansion here s.meter (operands l))
      (subst (λ (ts : List Tok). IfOk (expansion here s.meter ts) Begins) (sym begins.are)
      (expansion_begins here s.meter begins.first begins.more refl (ap is_identifier_kind begins.kind)
      (subst (λ (n : List ℕ). Lacks n s.table) (sym begins.spelling) lacks)))
