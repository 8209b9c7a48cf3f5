-- The document of costs, piece by piece.
use Rattle.std.proofs.Common.{◌≡◌, ◌∙◌, ℕ, ◌+◌, ◌<◌, List, [], ◌∷◌, ◌++◌, Option, Some, None, Result, Ok, Err, OnOk, ap, arith, get_or, length, map, refl, sym, take}
use Rattle.std.specs.Prelude.{flat_map, option_map, slice_get}
use Rattle.std.specs.List.{cons_option}
use Rattle.std.specs.Option.{option_map_or}
use Rattle.std.proofs.lemmas.List.{append_assoc}
use Rattle.inc_graph.specs.Cuts.{directives_of}
use Rattle.inc_graph.specs.IncludeGraph.{Edge, Graph}
use Rattle.inc_lookup.specs.declared.projects.DirectiveId.{DirectiveId}
use Rattle.inc_answers.specs.CostDocument.{below, led_edge}
use Rattle.inc_answers.specs.Documents.{Block, Led, Words}
use Rattle.inc_answers.proofs.WhyLemmas.{flat_map-more}

-- what is made of a number is added behind that of those before it
pub blocks_added : {A : Type 0} (f : ℕ → List A) (xs : List ℕ) (i x : ℕ) (start old new : List A) → i < length xs → x ≡ get_or xs i x → new ≡ old ++ f x
    → old ≡ start ++ flat_map f (take i xs) → new ≡ start ++ flat_map f (take (i + 1) xs)
blocks_added f xs i x start old new low at added so_far =
    added ∙ ap (λ l. l ++ f x) so_far ∙ append_assoc start (flat_map f (take i xs)) (f x)
    ∙ ap (λ l. start ++ l) (sym (flat_map-more f xs i x low at))

-- below a line, where there are some
pub made_below : (words places : List ℕ) (blocks old new : List Block) → 0 < length places → new ≡ (old ++ Words words ∷ []) ++ blocks → new ≡ old ++ below words places blocks
made_below words [] blocks old new some made = absurd (omega (arith, some))
made_below words (i ∷ is) blocks old new some made = made ∙ append_assoc old (Words words ∷ []) blocks

-- four pieces behind a line
pub four : {A : Type 0} (start first second third fourth last : List A) (x : A) (a b c d : List A) → start ≡ [] → first ≡ start ++ x ∷ [] → second ≡ first ++ a → third ≡ second ++ b
    → fourth ≡ third ++ c → last ≡ fourth ++ d → last ≡ x ∷ (a ++ b ++ c ++ d)
four start first second third fourth last x a b c d none one two three more end =
    end ∙ ap (λ l. l ++ d) (more ∙ ap (λ l. l ++ c) (three ∙ ap (λ l. l ++ b) (two ∙ ap (λ l. l ++ a) (one ∙ ap (λ l. l ++ x ∷ []) none))))

-- the same where what comes below may fail
pub ends_below : {T E : Type 0} (r : Result T E) (words places : List ℕ) (blocks old mid new : List Block) → 0 < length places → mid ≡ old ++ Words words ∷ []
    → OnOk r (new ≡ mid ++ blocks) → OnOk r (new ≡ old ++ below words places blocks)
ends_below (Ok x) words places blocks old mid new some line rest = made_below words places blocks old new some (rest ∙ ap (λ l. l ++ blocks) line)
ends_below (Err e) words places blocks old mid new some line rest = tt

-- the directive of an edge behind words, where the edge is there
led_one : (words : List ℕ) (o : Option Edge)
    → option_map_or (led_edge words) o [] ≡ map (Led words) (cons_option (option_map (λ (e : Edge). record { file = e.from; line = e.line }) o) [])
led_one words None = refl
led_one words (Some e) = refl

pub led_by : (g : Graph) (words : List ℕ) (i : ℕ) (d : DirectiveId) → directives_of g (i ∷ []) ≡ d ∷ [] → option_map_or (led_edge words) (slice_get g.edges i) [] ≡ Led words d ∷ []
led_by g words i d is = led_one words (slice_get g.edges i) ∙ ap (λ (ds : List DirectiveId). map (Led words) ds) is
