-- Files that are to be read, by a name that other crates know too.
use Rattle.inc_pp.specs.Tasks.{Entry}

-- such a file, and how it comes to be read
abbrev pub FileToRead : Type 0
FileToRead = Entry
