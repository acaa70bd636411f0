use Rattle.std.proofs.Common.{refl}
use Rattle.std.specs.Fmt.{digits}
use Rattle.listing.specs.Line.{line_of}
use Rattle.listing.proofs.longest_line.Goals as goal

pub returns : goal.returns
unfolding digits line_of
returns c = refl
