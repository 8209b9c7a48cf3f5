use Rattle.std.proofs.Common.{Option, ℕ, ap, map, option_map}
use Rattle.std.specs.Option.{option_or}
use Rattle.inc_directive.specs.FileDirectives.{directives_in}
use Rattle.inc_directive.specs.Parts.{lines_of_parts}
use Rattle.inc_answers.specs.DefinitionPlaces.{at_line}
use Rattle.inc_answers.proofs.DefinitionLemmas.{placed_same, read_line}
use Rattle.inc_answers.proofs.definition_places.note_bytes.Goals as goal

pub returns-in-Ok-read_lines : goal.returns-in-Ok-read_lines
returns-in-Ok-read_lines c = λ before are.
    let ls = lines_of_parts c.in-Ok-read_lines.found in
    placed_same (map (λ n. n.now) c.args.names.now) _ _ c.note_lines.new.places.items
    (λ name. ap (λ (o : Option ℕ). option_or (before name) (option_map (at_line c.args.file) o))
    (read_line c.args.language c.args.bytes.now c.in-Ok.text ls (directives_in ls) c.in-Ok.ensures.text c.in-Ok-read_lines.ensures.directives c.in-Ok-read_lines.ensures.lines name))
    (c.note_lines.ensures before are)
