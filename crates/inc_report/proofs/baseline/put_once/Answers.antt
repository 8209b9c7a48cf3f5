use Rattle.std.proofs.Common.{◌∙◌, List, ℕ, ap, not, sym}
use Rattle.std.specs.Prelude.{bytes_eq}
use Rattle.std.specs.List.{list_any}
use Rattle.inc_lookup.specs.Projects.{with_path}
use Rattle.inc_report.proofs.BaselineLemmas.{text_more}
use Rattle.inc_report.proofs.baseline.put_once.Goals as goal

pub returns-in_ok-extend_from_slice-clause-text : goal.returns-in_ok-extend_from_slice-clause-text
returns-in_ok-extend_from_slice-clause-text c =
    let keys : List (List ℕ) = c.args.known.now.keys in
    text_more c.args.text.now.items c.extend_from_slice.new.self.items c.args.line.now keys c.insert.new.self.keys
    (ap (λ (k : List ℕ). not (list_any (bytes_eq k) keys)) (sym c.in_ok-key.ensures) ∙ sym c.in_ok-insert.ensures.added ∙ c.if-branch.true)
    (c.in_ok-insert.ensures.keys ∙ ap (with_path keys) c.in_ok-key.ensures)
    c.in_ok-extend_from_slice.ensures.items
