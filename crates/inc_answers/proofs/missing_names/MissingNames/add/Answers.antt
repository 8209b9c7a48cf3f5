use Rattle.std.proofs.Common.{◌∙◌, ◌∷◌, [], List, ap, bytes_eq, map, sym}
use Rattle.std.specs.List.{list_any}
use Rattle.std.proofs.lemmas.List.{map-append}
use Rattle.inc_graph.specs.MissingLists.{Missing, missing_at}
use Rattle.inc_answers.specs.MissingNames.{counted_at, spelled}
use Rattle.inc_answers.specs.Views.{first_at, seen_name, seen_names}
use Rattle.inc_answers.specs.declared.missing_names.MissingName as code
use Rattle.inc_answers.proofs.MissingNameLemmas.{counted_keys, counted_there, keys_of, keys_same, named_last, was_not, was_there}
use Rattle.inc_answers.proofs.missing_names.MissingNames.add.Goals as goal

pub returns-in_ok-push-clause-names : goal.returns-in_ok-push-clause-names
returns-in_ok-push-clause-names c =
    let ms = c.args.missing.now in
    let keys = c.args.self.now.keys.keys in
    let key = c.new-key.result in
    ap (λ (l : List code.MissingName). map (seen_name ms) l) c.in_ok-push.ensures.items
    ∙ map-append (seen_name ms) c.args.self.now.names.items (first_at c.args.place ∷ [])
    ∙ named_last (seen_names ms c.args.self.now) (missing_at ms c.args.place) keys key c.requires.keyed (c.new-key.ensures ∙ ap (λ (x : Missing). spelled x.header) c.at.ensures)
    (was_not (list_any (bytes_eq key) keys) (sym c.in_ok-known.ensures.added ∙ c.if-is_new.true))

pub returns-else-is_new-clause-names : goal.returns-else-is_new-clause-names
returns-else-is_new-clause-names c =
    let ms = c.args.missing.now in
    let ns = seen_names ms c.args.self.now in
    let keys = c.args.self.now.keys.keys in
    let key = c.new-key.result in
    c.count.ensures.names ms ∙ ap (counted_at ns) c.in_ok-known.ensures.index
    ∙ counted_there ns (missing_at ms c.args.place) keys key c.requires.keyed (c.new-key.ensures ∙ ap (λ (x : Missing). spelled x.header) c.at.ensures)
    (was_there (list_any (bytes_eq key) keys) (sym c.in_ok-known.ensures.added ∙ c.if-is_new.false))

pub returns-else-is_new-clause-keyed : goal.returns-else-is_new-clause-keyed
returns-else-is_new-clause-keyed c =
    let ms = c.args.missing.now in
    let keys = c.args.self.now.keys.keys in
    let key = c.new-key.result in
    c.count.ensures.keys
    ∙ keys_same keys c.insert_full.new.self.keys key c.in_ok-known.ensures.keys (was_there (list_any (bytes_eq key) keys) (sym c.in_ok-known.ensures.added ∙ c.if-is_new.false))
    ∙ c.requires.keyed ∙ sym (counted_keys (seen_names ms c.args.self.now) c.in_ok-known.known) ∙ ap keys_of (sym (c.count.ensures.names ms))
