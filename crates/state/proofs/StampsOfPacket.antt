-- A packet that has its virtual times.
use Rattle.std.proofs.Common.{◌≡◌, ℕ, ◌*◌, ◌^◌, ◌<◌, cond, Some, None, Option}
use Rattle.std.proofs.lemmas.Bool.{lt-ltb, eq-eqb}
use Rattle.timing.specs.declared.Stamp.{Stamp}
use Rattle.timing.specs.Stamps.{SameFlow, IsStampOf, last_weight, scaled, scaled_finish}
use Rattle.timing.proofs.Stamped.{stamp_of_is_at}
use Rattle.store.specs.declared.packet.Incoming.{Incoming}
use Rattle.state.specs.Stamping.{stampable, incoming, finish_of, start_of}

pub made : (last : Option Stamp) (w a b W : ℕ) (start finish : Stamp) → (0 < w) × SameFlow w last → IsStampOf w (start_of last w a) start →
    scaled_finish W (scaled start) b < start.weight * 2 ^ 64 → IsStampOf start.weight (scaled_finish W (scaled start) b) finish →
    Some record { arrival = a; bytes = b; start = start; finish = finish } ≡ cond {A = Option Incoming} (stampable last w a b W) (Some (incoming last w a b W)) None
made last w a b W start finish (h, same) s fits f =
    let fits' : finish_of last w a b W < w * 2 ^ 64 = rw (s.same_scaled, s.same_weight) at fits in
    let f' : IsStampOf w (finish_of last w a b W) finish = rw (s.same_scaled, s.same_weight) at f in
    rw (lt-ltb 0 w h, eq-eqb (last_weight w last) w same, lt-ltb _ _ fits')
    (λ k. Some record { arrival = a; bytes = b; start = stamp_of_is_at w _ start h s k; finish = stamp_of_is_at w _ finish h f' k })
