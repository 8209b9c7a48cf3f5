use Rattle.std.proofs.Common.{◌≡◌, ◌∙◌, Bool, Option, List, ap, map, refl, sym, Some}
use Rattle.std.specs.String.{string_bytes}
use Rattle.clap.specs.Words.{Row, Text, found_of, rows_of, subcommand_rows_of}
use Rattle.inc_args.specs.Meaning.{Asked, Languages, Meaning, meaning_of}
use Rattle.inc_args.proofs.Rows.{both_parts}
use Rattle.inc_args.proofs.reading.read_matches.Goals as goal

whole : Asked → Languages → (quiet follows : Bool) → Meaning
whole asked languages quiet follows = record { asked = asked; languages = languages; is_quiet = quiet; follows = follows }

all : (a b : Asked) (l m : Languages) (q r f h : Bool) → a ≡ b → l ≡ m → q ≡ r → f ≡ h → whole a l q f ≡ whole b m r h
all a b l m q r f h asked languages quiet follows = rw (asked, languages, quiet, follows) refl

pub returns-in_ok-read_request-in-Some : goal.returns-in_ok-read_request-in-Some
unfolding whole
returns-in_ok-read_request-in-Some c =
    let outer = rows_of (found_of c.args.matches.now) in
    let inner = rows_of (found_of c.in-Some.inner.now) in
    let sub : subcommand_rows_of c.args.matches.now ≡ Some (c.in-Some.name.now, inner) = both_parts _ _ _ _ c.in-Some.ensures.name c.in-Some.ensures.rows in
    all _ _ _ _ _ _ _ _ c.in_ok-read_request-in-Some.ensures c.read_languages.ensures c.is_given.ensures c.is_given-in-Some.ensures
    ∙ sym (ap (λ (s : Option (Text × List Row)). meaning_of outer s (map string_bytes c.args.compiler.now)) sub)
