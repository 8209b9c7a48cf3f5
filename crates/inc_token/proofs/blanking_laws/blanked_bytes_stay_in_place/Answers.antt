use Rattle.inc_token.specs.Blanking.{ranges_of}
use Rattle.inc_token.proofs.BlankedBytes.{blanked-bytes, blanked-length, blanked-line_feeds}
use Rattle.inc_token.proofs.blanking_laws.blanked_bytes_stay_in_place.Goals as goal

pub returns-clause-length : goal.returns-clause-length
returns-clause-length c test lines source = blanked-length 0 (ranges_of test lines) source

pub returns-clause-line_feeds : goal.returns-clause-line_feeds
returns-clause-line_feeds c test lines source k = blanked-line_feeds 0 (ranges_of test lines) source k

pub returns-clause-bytes : goal.returns-clause-bytes
returns-clause-bytes c test lines source k = blanked-bytes 0 (ranges_of test lines) source k
