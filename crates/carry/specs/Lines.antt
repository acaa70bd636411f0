-- The lines of a run.
use Rattle.std.specs.Prelude.{ℕ, zero, suc, cond, List, [], ◌++◌, nat_lt}
use Rattle.std.specs.List.{flat_map}
use Rattle.listing.specs.Line.{departure_text, full_text, peak_text, end_text, refusal_text}
use Rattle.law.specs.Step.{Plan, Switch}
use Rattle.replay.specs.Replay.{Replayed}
use Rattle.replay.specs.Events.{Event, left, turned_away, left_in, bytes_in}
use Rattle.runfile.specs.Numbers.{code}
use Rattle.runfile.specs.declared.fault.Fault.{Fault}

-- the `D` line of a packet that leaves, the `N` line of an arrival that finds the store full
abbrev pub event_line : Event → List ℕ
event_line (left d) = departure_text d
event_line (turned_away a) = full_text a.tick a.input a.output a.bytes

abbrev pub event_lines : List Event → List ℕ
event_lines events = flat_map event_line events

-- f 0, then f 1, and so on to f (n - 1)
unfoldable pub join_below : ℕ → (ℕ → List ℕ) → List ℕ
join_below zero f = []
join_below (suc n) f = join_below n f ++ f n

-- the `X` line of flow (i, j) if it is open, and those of all flows, by input and then by output
abbrev pub peak_of : Plan → Switch → ℕ → ℕ → List ℕ
peak_of plan s i j = cond (nat_lt 0 (plan.weight i j)) (peak_text i j (s.peak i j)) []

abbrev pub peak_lines : Plan → Switch → List ℕ
peak_lines plan s = join_below plan.ports (λ i. join_below plan.ports (λ j. peak_of plan s i j))

-- the `E` line of a run: its last tick, and the bytes of all that has left
abbrev pub last_line : {K : Type 0} → Replayed K → List ℕ
last_line x = end_text x.switch.clock (bytes_in (left_in x.log))

-- the `R` line of a refusal
abbrev pub refused_line : Fault → List ℕ
refused_line f = refusal_text (code f.cause).0 (code f.cause).1 f.place
