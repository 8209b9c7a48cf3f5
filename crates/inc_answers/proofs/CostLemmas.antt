-- What includes cost, by the sizes of the files that were read, and by those of a listing.
use Rattle.std.proofs.Common.{◌≡◌, ◌≢◌, inl, inr, ℕ, zero, suc, ◌<◌, ◌==◌, Bool, true, false, cond, List, [], ◌∷◌, Result, length, set, get_or, refl, sym, ap, ◌∙◌, subst, arith, length-set}
use Rattle.std.specs.Prelude.{replicate, slice_index_or}
use Rattle.std.specs.List.{list_any}
use Rattle.std.proofs.lemmas.Bool.{eqb-false, eqb-true, or_cases, or_parts}
use Rattle.std.proofs.lemmas.List.{get_or-set_same, get_or-set_other, length-replicate}
use Rattle.std.proofs.lemmas.List.Elements.{All-head, All-tail}
use Rattle.std.proofs.lemmas.List.FromFn.{get_or-map-range_with_len}
use Rattle.inc_text.specs.declared.devices.ReadFault.{ReadFault}
use Rattle.inc_lookup.specs.Given.{Given, Gave, Agrees, HoldsOfGiven}
use Rattle.inc_lookup.specs.Projects.{Layout, Listing, layout_of, bytes_at}
use Rattle.inc_lookup.proofs.GivenLemmas.{laid_count}
use Rattle.inc_graph.specs.IncludeGraph.{Graph}
use Rattle.inc_graph.specs.Members.{is_member}
use Rattle.inc_cost.specs.Costs.{Group}
use Rattle.inc_cost.proofs.SameWeights.{IsMet}
use Rattle.inc_answers.specs.CostText.{IsCostBy, IsCostFor, IsCostOf}
use Rattle.inc_answers.specs.FileSizes.{file_size, file_sizes, sizes}
use Rattle.inc_answers.specs.Known.{IsKnown}
use Rattle.inc_answers.specs.Printed.{Printed}
use Rattle.inc_answers.specs.Questions.{IsAnswerBy}
use Rattle.inc_answers.specs.Strictness.{Strict, strays_of}
use Rattle.inc_answers.specs.Terms.{Question}
use Rattle.inc_answers.specs.declared.sized_sources.SizedSources.{SizedSources}
use Rattle.inc_answers.proofs.StatedAnswers.{IsStated, stated_yes}
use Rattle.inc_answers.proofs.InnerSources.{gave_inner, holds_inner}
use Rattle.inc_answers.proofs.MetFiles.{header_unread, met_within, unread_never}
use Rattle.inc_answers.proofs.QuestionLemmas.{answer_all}
use Rattle.inc_answers.proofs.RankedSame.{ranked_same}
use Rattle.inc_answers.proofs.StrictLemmas.{unless_all}

---- sizes that are noted

pub size_by : (ns : List ℕ) (i : ℕ) → slice_index_or ns i 0 ≡ get_or ns i 0
size_by [] i = refl
size_by (n ∷ ns) zero = refl
size_by (n ∷ ns) (suc i) = size_by ns i

size_same : (ns : List ℕ) (i n : ℕ) → i < length ns → slice_index_or (set ns i n) i 0 ≡ n
size_same ns i n low = size_by (set ns i n) i ∙ get_or-set_same ns i n 0 low

size_other : (ns : List ℕ) (i j n : ℕ) → j ≢ i → slice_index_or (set ns i n) j 0 ≡ slice_index_or ns j 0
size_other ns i j n ne = size_by (set ns i n) j ∙ get_or-set_other ns i j n 0 ne ∙ sym (size_by ns j)

module _ {S : Type 0} (gives : S → ℕ → Result (List ℕ) ReadFault → S → Type 0) where
  sizes_long : (old new : SizedSources S) (given : List Given) → Gave (sizes gives) old given new → length new.sizes.items ≡ length old.sizes.items
  sizes_long old new [] h = ap (λ (k : SizedSources S). length k.sizes.items) (sym h)
  sizes_long old new (g ∷ gs) h =
      ap (λ (k : List ℕ). length k) h.2.1 ∙ length-set h.0.sizes.items g.file (length g.bytes) ∙ sizes_long old h.0 gs h.1

  -- of a file that was read its size is noted
  pub noted : (old new : SizedSources S) (given : List Given) (listing : Listing) (file : ℕ) → Gave (sizes gives) old given new → Agrees given listing
      → file < length old.sizes.items → list_any (λ (g : Given). g.file == file) given ≡ true → slice_index_or new.sizes.items file 0 ≡ length (bytes_at listing file)
  noted old new [] listing file h agrees low there = cc
  noted old new (g ∷ gs) listing file h agrees low there =
      noted_on (g.file == file) refl
      (λ among. noted old h.0 gs listing file h.1 (All-tail (λ (x : Given). bytes_at listing x.file ≡ x.bytes) g gs agrees) low among)
    where
      sized : slice_index_or new.sizes.items file 0 ≡ slice_index_or (set h.0.sizes.items g.file (length g.bytes)) file 0
      sized = ap (λ (k : List ℕ). slice_index_or k file 0) h.2.1

      own : bytes_at listing g.file ≡ g.bytes
      own = All-head (λ (x : Given). bytes_at listing x.file ≡ x.bytes) g gs agrees

      noted_on : (b : Bool) → (g.file == file) ≡ b
          → (list_any (λ (x : Given). x.file == file) gs ≡ true → slice_index_or h.0.sizes.items file 0 ≡ length (bytes_at listing file))
          → slice_index_or new.sizes.items file 0 ≡ length (bytes_at listing file)
      noted_on true is rest =
          let long : length h.0.sizes.items ≡ length old.sizes.items = sizes_long old h.0 gs h.1 in
          let same : g.file ≡ file = eqb-true g.file file is in
          let here : slice_index_or (set h.0.sizes.items g.file (length g.bytes)) g.file 0 ≡ length g.bytes = size_same h.0.sizes.items g.file (length g.bytes) (omega (arith, low, long, same)) in
          sized ∙ subst (λ i. slice_index_or (set h.0.sizes.items g.file (length g.bytes)) i 0 ≡ length g.bytes) same here
          ∙ ap (λ (bs : List ℕ). length bs) (sym own ∙ ap (bytes_at listing) same)
      noted_on false other rest =
          sized ∙ size_other h.0.sizes.items g.file file (length g.bytes) (λ e. eqb-false g.file file other (sym e))
          ∙ rest (elim (or_cases (g.file == file) (list_any (λ (x : Given). x.file == file) gs) there) [
            | inl here ↦ absurd (eqb-false g.file file other (eqb-true g.file file here))
            | inr later ↦ later
          ])

  -- and that of another file stays
  pub unnoted : (old new : SizedSources S) (given : List Given) (file : ℕ) → Gave (sizes gives) old given new → list_any (λ (g : Given). g.file == file) given ≡ false
      → slice_index_or new.sizes.items file 0 ≡ slice_index_or old.sizes.items file 0
  unnoted old new [] file h none = ap (λ (k : SizedSources S). slice_index_or k.sizes.items file 0) (sym h)
  unnoted old new (g ∷ gs) file h none =
      let parts = or_parts (g.file == file) (list_any (λ (x : Given). x.file == file) gs) none in
      ap (λ (k : List ℕ). slice_index_or k file 0) h.2.1 ∙ size_other h.0.sizes.items g.file file (length g.bytes) (λ e. eqb-false g.file file parts.0 (sym e))
      ∙ unnoted old h.0 gs file h.1 parts.1

no_size : (n file : ℕ) → slice_index_or (replicate n zero) file zero ≡ zero
no_size zero file = refl
no_size (suc n) zero = refl
no_size (suc n) (suc file) = no_size n file

sizes_at : (listing : Listing) (headers : List ℕ) (file : ℕ) → file < length listing.files → slice_index_or (file_sizes listing headers) file 0 ≡ file_size listing headers file
sizes_at listing headers file low =
    size_by (file_sizes listing headers) file ∙ get_or-map-range_with_len (file_size listing headers) 0 (length listing.files) file file 0 low (omega arith)

---- the costs of a listing

module _ {S : Type 0} (gives : S → ℕ → Result (List ℕ) ReadFault → S → Type 0) (old new : SizedSources S) (layout : Layout) (q : Question) (graph : Graph) (p : Printed) (n : ℕ)
    (none : old.sizes.items ≡ replicate n 0) (long : n ≡ length layout.paths) (known : IsKnown layout graph)
    (holds : HoldsOfGiven (sizes gives) old new layout (IsAnswerBy (λ l g r. g ≡ graph) q p)) where
  module _ (stated : IsStated p) where
    module _ (listing : Listing) (laid : layout_of listing ≡ layout) (agrees : Agrees holds.given listing) where
      by_header : (b : Bool) (f : ℕ) → IsMet graph f → is_member f graph.headers ≡ b → slice_index_or new.sizes.items f 0 ≡ cond b 0 (length (bytes_at listing f))
      by_header true f met there =
          unnoted gives old new holds.given f holds.gave (header_unread (sizes gives) old new layout q graph p known holds stated listing laid agrees f there) ∙ ap (λ (k : List ℕ). slice_index_or k f 0) none ∙ no_size n f
      by_header false f met other =
          by_given (list_any (λ (g : Given). g.file == f) holds.given) refl
        where
          by_given : (b : Bool) → list_any (λ (g : Given). g.file == f) holds.given ≡ b → slice_index_or new.sizes.items f 0 ≡ length (bytes_at listing f)
          by_given true there =
              let nothing : ℕ = 0 in
              noted gives old new holds.given listing f holds.gave agrees (omega (arith, met_within (sizes gives) old new layout q graph p known holds f met, long, ap (λ (l : List ℕ). length l) none, length-replicate n nothing)) there
          by_given false unread = absurd (unread_never (sizes gives) old new layout q graph p known holds stated f met other unread)

      pub sizes_same : (f : ℕ) → IsMet graph f → slice_index_or new.sizes.items f 0 ≡ slice_index_or (file_sizes listing graph.headers) f 0
      sizes_same f met =
          by_header (is_member f graph.headers) f met refl
          ∙ sym (sizes_at listing graph.headers f (omega (arith, met_within (sizes gives) old new layout q graph p known holds f met, laid_count layout listing laid)))

      pub cost_of : (most : ℕ) (groups : List Group) → IsCostFor new.sizes.items most groups layout graph p → IsCostOf most groups listing layout graph p
      cost_of most groups c =
          (c.0, ranked_same layout graph new.sizes.items (file_sizes listing graph.headers) sizes_same most groups c.0 c.1, c.2)

  -- the answer by the sizes that were noted is that of each listing that agrees
  pub of_sized : (most : ℕ) (groups : List Group) → Strict (strays_of q) (IsCostFor new.sizes.items most groups) layout graph p → HoldsOfGiven gives old.sources new.sources layout (IsCostBy most groups q p)
  of_sized most groups told = record {
    given = holds.given;
    gave = gave_inner gives (sizes gives) (λ (s : SizedSources S). s.sources) (λ older file bytes newer h. h.0) old new holds.given holds.gave;
    witness = holds.witness;
    laid_out = holds.laid_out;
    agrees = holds.agrees;
    every = λ listing laid agrees. (
      answer_all (λ l g r. g ≡ graph) (Strict (strays_of q) (IsCostOf most groups listing)) q listing p
          (λ g same. subst (λ (l : Layout). Strict (strays_of q) (IsCostOf most groups listing) l g p) (sym laid)
          (subst (λ (k : Graph). Strict (strays_of q) (IsCostOf most groups listing) layout k p) (sym same) (here listing laid agrees)))
          (holds.every listing laid agrees).0,
      (holds.every listing laid agrees).1,
    );
  }
    where
      here : (listing : Listing) → layout_of listing ≡ layout → Agrees holds.given listing → Strict (strays_of q) (IsCostOf most groups listing) layout graph p
      here listing laid agrees =
          unless_all layout (strays_of q graph) (IsCostFor new.sizes.items most groups layout graph) (IsCostOf most groups listing layout graph) p
          (λ c. cost_of (stated_yes p (ap (λ (r : Printed). r.end.kind) c.2)) listing laid agrees most groups c) told

-- where there is no graph
pub of_no_sized : {S : Type 0} (gives : S → ℕ → Result (List ℕ) ReadFault → S → Type 0) (old new : SizedSources S) (layout : Layout) (q : Question) (most : ℕ) (groups : List Group) (p : Printed)
    → HoldsOfGiven (sizes gives) old new layout (IsAnswerBy (λ l g r. ⊥) q p) → HoldsOfGiven gives old.sources new.sources layout (IsCostBy most groups q p)
of_no_sized gives old new layout q most groups p holds =
    holds_inner gives (sizes gives) (λ s. s.sources) (λ older file bytes newer h. h.0) old new layout (IsAnswerBy (λ l g r. ⊥) q p) (IsCostBy most groups q p) holds
    (λ given listing gave laid agrees is. (answer_all (λ l g r. ⊥) (Strict (strays_of q) (IsCostOf most groups listing)) q listing p (λ g none. absurd none) is.0, is.1))
