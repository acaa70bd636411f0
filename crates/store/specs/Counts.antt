-- What a numbering layer counts.
use Rattle.std.specs.Prelude.{ℕ}
use Rattle.grid.specs.Flows.{flow_in}
use Rattle.store.specs.declared.numbered.Numbered.{Numbered}

-- how many packets of flow (i, j) were taken since the last clear, modulo 2^64
abbrev pub counts : {S : Type 0} → Numbered S → ℕ → ℕ → ℕ
counts numbered = flow_in 0 numbered.taken
