-- The rules of a text, a line at a time, and faults.
use Rattle.std.proofs.Common.{◌≡◌, ℕ, ◌+◌, List, [], ◌∷◌, Result, Ok, Err, IfSome, sym, ap, ◌∙◌}
use Rattle.std.proofs.lemmas.List.{append-nil}
use Rattle.inc_rules.specs.Rules.{Fault, Rule, Rules, rules_from, with_line, with_more, words_of}
use Rattle.inc_rules.specs.Views.{IsFault, seen_fault}
use Rattle.inc_rules.specs.declared.rules.RuleFault.{RuleFault}
use Rattle.inc_rules.specs.declared.rules.RuleFault.TheVariants.{Malformed, NoMemory}

-- one line more, whose rule is added to those so far
pub line_on : (all : Rules) (done new : List Rule) (line : ℕ) (part : List ℕ) (behind rest : List (List ℕ)) → all ≡ with_more done (rules_from line behind) → behind ≡ part ∷ rest
    → ((more : Rules) → with_more done (with_line line (words_of part) more) ≡ with_more new more) → all ≡ with_more new (rules_from (line + 1) rest)
line_on all done new line part behind rest so_far step added =
    so_far ∙ ap (λ (ls : List (List ℕ)). with_more done (rules_from line ls)) step ∙ added (rules_from (line + 1) rest)

-- a line that has no rule
pub line_bad : (all : Rules) (done : List Rule) (line : ℕ) (part : List ℕ) (behind rest : List (List ℕ)) → all ≡ with_more done (rules_from line behind) → behind ≡ part ∷ rest
    → (f : RuleFault) → IfSome (seen_fault f) (λ (e : ℕ × Fault). (more : Rules) → with_line line (words_of part) more ≡ Err e) → IfSome (seen_fault f) (λ (e : ℕ × Fault). all ≡ Err e)
line_bad all done line part behind rest so_far step (Malformed n kind words) bad =
    so_far ∙ ap (λ (ls : List (List ℕ)). with_more done (rules_from line ls)) step ∙ ap (with_more done) (bad (rules_from (line + 1) rest))
line_bad all done line part behind rest so_far step NoMemory bad = tt

-- no line is left
pub text_end : (all : Rules) (done : List Rule) (line : ℕ) (behind : List (List ℕ)) → all ≡ with_more done (rules_from line behind) → behind ≡ [] → all ≡ Ok done
text_end all done line behind so_far none =
    so_far ∙ ap (λ (ls : List (List ℕ)). with_more done (rules_from line ls)) none ∙ ap (λ (rs : List Rule). Ok rs) (append-nil done)

-- a fault of a part of a line is one of the line
pub fault_on : {A B : Type 0} (f : RuleFault) (line : ℕ) (x : Result A Fault) (y : Result B Fault) → IsFault f line x → ((e : Fault) → x ≡ Err e → y ≡ Err e) → IsFault f line y
fault_on (Malformed n kind words) line x y told on = (told.0, on _ told.1)
fault_on NoMemory line x y told on = tt

pub told_fault : {A : Type 0} (f : RuleFault) (line : ℕ) (x : Result A Fault) (e : Fault) → IfSome (seen_fault f) (λ (t : ℕ × Fault). t ≡ (line, e)) → x ≡ Err e → IsFault f line x
told_fault (Malformed n kind words) line x e told is = (ap (λ (t : ℕ × Fault). t.0) told, is ∙ ap (λ (t : ℕ × Fault). Err t.1) (sym told))
told_fault NoMemory line x e told is = tt
