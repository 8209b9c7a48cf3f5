-- Bytes that are tested a vector at a time.
pub use Rattle.inc_text.proofs.Vectors.{joined, masked, one_byte, run_stops, run_through, twice}
