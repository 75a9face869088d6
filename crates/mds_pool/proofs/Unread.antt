-- Where nothing is read of a connection.
use Rattle.std.proofs.Common.{ℕ, List, [], Option, inl, arith}
use Rattle.std.proofs.KnownBytes.{Consumes-nil}
use Rattle.mds_face.specs.Reading.{ReadsNoFurther}

-- then nothing is read too far
pub reads_nothing : (a : Option (List ℕ)) → ReadsNoFurther a a
reads_nothing a = ([], Consumes-nil a, inl (omega arith))
