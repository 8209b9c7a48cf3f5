-- How definitions see words, items and entries.
use Rattle.std.specs.Prelude.{ℕ, List, Bool, Option, Vec, map, option_map}
use Rattle.inc_build.specs.CompilerWords.{Item, Given, Standard, NoSystem, Listed, Told, Operand}
use Rattle.inc_build.specs.declared.compiler_words.Kind.{Kind}
use Rattle.std.specs.Borrow.{Bor}
use Rattle.inc_build.specs.Builds.{Build}
use Rattle.inc_build.specs.declared.builds.Build.{Build as BuildValue}
use Rattle.inc_build.specs.declared.builds.Use.{Use}
use Rattle.std.specs.Global.{Global}
use Rattle.inc_build.specs.Configurations.{Row}
use Rattle.inc_build.specs.declared.configurations.Row.{Row as RowValue}
use Rattle.inc_build.specs.Entries.{Entry}
use Rattle.inc_build.specs.Commands.{State}
use Rattle.inc_build.specs.declared.compiler_words.Item.{Item as ItemValue}
use Rattle.inc_build.specs.declared.compiler_words.Item.TheVariants as item
use Rattle.inc_build.specs.declared.entries.Entry.{Entry as EntryValue}
use Rattle.inc_build.specs.declared.commands.Walk.{Walk}
use Rattle.inc_build.specs.declared.commands.Word.{Word}
use Rattle.inc_build.specs.declared.commands.Word.TheVariants as word

abbrev pub seen_word : Word → List ℕ
seen_word (word.Lent bytes) = bytes.now
seen_word (word.Owned bytes) = bytes.items

abbrev pub seen_walk : Walk → State
seen_walk w = record { mode = w.mode; is_begun = w.is_begun; word = w.word.items }

abbrev pub seen_item : ItemValue → Item
seen_item (item.Given kind value) = Given kind value.now
seen_item (item.Standard name) = Standard name.now
seen_item item.NoSystem = NoSystem
seen_item (item.Listed path) = Listed path.now
seen_item (item.Told name) = Told name.now
seen_item (item.Operand bytes) = Operand bytes.now

abbrev pub seen_entry : EntryValue → Entry
seen_entry e = record { directory = e.directory.now; file = e.file.now; words = map seen_word e.words.items }

-- an option with what follows it in its word
abbrev pub seen_value : Kind × Bor (List ℕ) → Kind × List ℕ
seen_value v = (v.0, v.1.now)

-- what is kept of a word, and whether the next one is its value
abbrev pub seen_reading : Option ItemValue × Bool → Option Item × Bool
seen_reading r = (option_map seen_item r.0, r.1)

abbrev pub seen_row : RowValue → Row
seen_row r = record { kind = r.kind; path = r.path.items; name = r.name.items }

abbrev pub seen_rows : Vec RowValue Global → List Row
seen_rows rows = map seen_row rows.items

abbrev pub seen_uses : Vec Use Global → List Use
seen_uses uses = uses.items

abbrev pub seen_build : BuildValue → Build
seen_build b = record { texts = b.texts.keys; configurations = map seen_rows b.configurations.items; sources = b.sources.keys; uses = map seen_uses b.uses.items }
