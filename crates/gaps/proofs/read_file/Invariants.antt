-- What is read fills the vector from its front, and is what the reader has lost.
use Rattle.std.proofs.Common.{◌≡◌, ◌-◌, ◌≤◌, take, vec_len}
use Rattle.std.specs.Io.KnownBytes.{Consumes}
use Rattle.gaps.proofs.read_file.Given as goal

abbrev pub invariant-loop-len : goal.invariant-loop-len
invariant-loop-len g l =
    (vec_len l.file ≡ 65537) × (l.len ≤ vec_len l.file) × Consumes (g.R.Read.remaining l.initial.input) (g.R.Read.remaining l.input) (take l.len l.file.items)

abbrev pub decreases-loop-len : goal.decreases-loop-len
decreases-loop-len g l = vec_len l.file - l.len
