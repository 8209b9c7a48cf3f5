use Rattle.std.proofs.Common.{ℕ, add-one, arith, length, map, refl, subst, sym}
use Rattle.std.specs.Option.{option_or}
use Rattle.inc_answers.specs.DefinitionPlaces.{ArePlaced, kept_place, place_in}
use Rattle.inc_answers.specs.KeptFiles.{kept_at}
use Rattle.inc_answers.proofs.DefinitionLemmas.{file_at, file_there, placed_same}
use Rattle.inc_answers.proofs.definition_places.definition_places.Goals as goal
use Rattle.inc_answers.proofs.definition_places.definition_places.Goals.{in-Some+in_ok-note_file, in_default}

pub loop-place-preserved : goal.loop-place-preserved
loop-place-preserved c =
    let names = map (λ n. n.now) c.args.names.now in
    let kept = c.args.files.now in
    let language = c.args.language in
    let i = c.loop-place.place in
    let before = kept_place language kept i in
    let count = length c.args.project.now.paths in
    elim c.match-at.branch [
      | in-Some+in_ok-note_file w ↦
          let same = file_at i count w.in-Some.file c.at.result c.at.ensures w.in-Some.is in
          let here = subst (λ (f : ℕ). ArePlaced names (λ n. option_or (before n) (place_in language n f (kept_at kept f))) w.note_file.new.places.items) same (w.in_ok-note_file.ensures before c.loop-place.invariant) in
          rw w.places-is (subst (λ (k : ℕ). ArePlaced names (kept_place language kept k) w.note_file.new.places.items) (sym (add-one i)) (placed_same names _ _ w.note_file.new.places.items (λ name. refl) here))
      | in_default w ↦ absurd (file_there i count c.at.result (omega arith) c.at.ensures w.in_default.is)
    ]
