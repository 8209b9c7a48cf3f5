-- Lines of a drawn graph.
use Rattle.std.proofs.Common.{◌≡◌, ◌∙◌, ℕ, suc, ◌+◌, ◌<◌, Bool, true, false, List, [], ◌∷◌, ◌++◌, Option, Some, None, Result, Ok, Err, IfOk, add-one, ap, codes, cond, drop, length, refl, subst, sym}
use Rattle.std.specs.Global.{Vec}
use Rattle.std.specs.Prelude.{IfSome, slice_get}
use Rattle.std.proofs.lemmas.List.{append_assoc, drop_more}
use Rattle.std.proofs.lemmas.Option.{get_or_from_slice_get}
use Rattle.inc_graph.specs.FileSets.{AreFlags}
use Rattle.inc_graph.specs.IncludeGraph.{Edge, Graph}
use Rattle.inc_graph.specs.Members.{is_member}
use Rattle.inc_lookup.specs.Projects.{Layout}
use Rattle.inc_answers.specs.DotText.{Drawn, dot_text, drawn, edge_line, fixed_in, flagged, line_of, lines_from, look}

-- the line of the edge at a place, and those behind it
pub lines_next : (layout : Layout) (d : Drawn) (es : List Edge) (i : ℕ) (e : Edge) → i < length es → slice_get es i ≡ Some e
    → lines_from layout d i (drop i es) ≡ line_of layout d i e ++ lines_from layout d (i + 1) (drop (i + 1) es)
lines_next layout d es i e low at =
    let here : drop i es ≡ e ∷ drop (i + 1) es = drop_more es i e low ∙ ap (λ (x : Edge). x ∷ drop (i + 1) es) (get_or_from_slice_get es i e e at) in
    ap (lines_from layout d i) here ∙ ap (λ (n : ℕ). line_of layout d i e ++ lines_from layout d n (drop (i + 1) es)) (sym (add-one i))

-- a line more
pub line_put : (layout : Layout) (d : Drawn) (es : List Edge) (i : ℕ) (e : Edge) (text new all : List ℕ) → i < length es → slice_get es i ≡ Some e
    → new ≡ text ++ line_of layout d i e → text ++ lines_from layout d i (drop i es) ≡ all → new ++ lines_from layout d (i + 1) (drop (i + 1) es) ≡ all
line_put layout d es i e text new all low at added before =
    ap (λ (t : List ℕ). t ++ lines_from layout d (i + 1) (drop (i + 1) es)) added ∙ append_assoc text (line_of layout d i e) (lines_from layout d (i + 1) (drop (i + 1) es))
    ∙ ap (λ (t : List ℕ). text ++ t) (sym (lines_next layout d es i e low at)) ∙ before

-- flags and lists of the same edges draw the same
module _ (layout : Layout) (a b : Drawn) (edges : (i : ℕ) → a.edges i ≡ b.edges i) (removed : (i : ℕ) → a.removed i ≡ b.removed i) (fixed : (i : ℕ) → a.fixed i ≡ b.fixed i) where
  line_same : (i : ℕ) (e : Edge) → line_of layout a i e ≡ line_of layout b i e
  line_same i e =
      ap (λ (x : Bool). cond x (edge_line layout e (look (a.removed i) (a.fixed i))) []) (edges i)
      ∙ ap (λ (x : Bool). cond (b.edges i) (edge_line layout e (look x (a.fixed i))) []) (removed i)
      ∙ ap (λ (x : Bool). cond (b.edges i) (edge_line layout e (look (b.removed i) x)) []) (fixed i)

  lines_same : (i : ℕ) (es : List Edge) → lines_from layout a i es ≡ lines_from layout b i es
  lines_same i [] = refl
  lines_same i (e ∷ es) =
      ap (λ (t : List ℕ). t ++ lines_from layout a (suc i) es) (line_same i e) ∙ ap (λ (t : List ℕ). line_of layout b i e ++ t) (lines_same (suc i) es)

  pub dot_same : (g : Graph) → dot_text layout g a ≡ dot_text layout g b
  dot_same g = ap (λ (t : List ℕ). codes "digraph incut {\n" ++ t ++ codes "}\n") (lines_same 0 g.edges)

pub drawn_by : (layout : Layout) (g : Graph) (edges removed : List Bool) (es rs : List ℕ) (amounts : Option (List ℕ)) → AreFlags es edges → AreFlags rs removed
    → dot_text layout g (flagged (Some edges) removed amounts) ≡ dot_text layout g (drawn es rs amounts)
drawn_by layout g edges removed es rs amounts are gone =
    dot_same layout (flagged (Some edges) removed amounts) (drawn es rs amounts) are gone (λ i. refl) g

---- the line of an edge by what is known of it

pub line_drawn : (layout : Layout) (d : Drawn) (i : ℕ) (e : Edge) (l : List ℕ) → d.edges i ≡ true → l ≡ look (d.removed i) (d.fixed i) → edge_line layout e l ≡ line_of layout d i e
line_drawn layout d i e l is same =
    ap (λ (x : List ℕ). edge_line layout e x) same ∙ ap (λ (b : Bool). cond b (edge_line layout e (look (d.removed i) (d.fixed i))) []) (sym is)

pub line_skipped : (layout : Layout) (d : Drawn) (i : ℕ) (e : Edge) → d.edges i ≡ false → [] ≡ line_of layout d i e
line_skipped layout d i e is = ap (λ (b : Bool). cond b (edge_line layout e (look (d.removed i) (d.fixed i))) []) (sym is)

pub some_all : {A : Type 0} (o : Option A) (P Q : A → Type 0) → ((a : A) → P a → Q a) → IfSome o P → IfSome o Q
some_all None P Q f h = tt
some_all (Some a) P Q f h = f a h

---- what is drawn by flags is drawn by the lists of these edges

pub flags_empty : AreFlags [] []
flags_empty i = refl

pub drawn_as : {E : Type 0} (result : Result (Vec ℕ) E) (layout : Layout) (g : Graph) (edges removed : List Bool) (es rs : List ℕ) (amounts : Option (List ℕ))
    → AreFlags es edges → AreFlags rs removed → IfOk result (λ text. text.items ≡ dot_text layout g (flagged (Some edges) removed amounts))
    → IfOk result (λ text. text.items ≡ dot_text layout g (drawn es rs amounts))
drawn_as (Ok text) layout g edges removed es rs amounts are gone h = h ∙ drawn_by layout g edges removed es rs amounts are gone
drawn_as (Err e) layout g edges removed es rs amounts are gone h = tt
