-- What the devices over readers and writers of std hold.
use Rattle.std.specs.Prelude.{Bool}
use Rattle.inc_text.specs.declared.devices.Reading.{Reading}
use Rattle.inc_text.specs.declared.devices.Writing.{Writing}

abbrev pub reader_of : {R : Type 0} → Reading R → R
reader_of s = s.reader

abbrev pub has_read_fault : {R : Type 0} → Reading R → Bool
has_read_fault s = s.failed

abbrev pub writer_of : {W : Type 0} → Writing W → W
writer_of s = s.writer

abbrev pub has_write_fault : {W : Type 0} → Writing W → Bool
has_write_fault s = s.failed
