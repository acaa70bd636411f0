use Rattle.std.proofs.Common.{◌≡◌, ℕ, ◌<◌, false, length, get_or, None}
use Rattle.timing.proofs.Chosen.{level}
use Rattle.timing.proofs.marks.choose.Given as goal

abbrev pub invariant-loop-k : goal.invariant-loop-k
invariant-loop-k g l =
    (length l.chosen ≡ length l.marks) ×
    ((j : ℕ) → j < l.k → get_or l.chosen j false ≡ level g.M.Mark.before (get_or l.marks j None) l.first)
