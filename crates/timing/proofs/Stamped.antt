-- A stamp is known by its weight and its scaled value.
use Rattle.std.proofs.Common.{◌≡◌, ℕ, suc, pred, ◌/◌, ◌%◌, ◌<◌, sym, ap, ◌∙◌, arith}
use mathlib.Core.HLevel.{is_prop→PathP}
use native.Mathlib.Bridge.{le_prop}
use native.Mathlib.Nat.{div-add-mod}
use Rattle.timing.specs.declared.Stamp.{Stamp}
use Rattle.timing.specs.Stamps.{IsStampOf, scaled, stamp_at}

same_stamp : (a b : Stamp) → a.tick ≡ b.tick → a.numerator ≡ b.numerator → a.weight ≡ b.weight → a ≡ b
same_stamp a b t n w =
    λ k. record {
      tick = t k;
      numerator = n k;
      weight = w k;
      below = is_prop→PathP (λ i. n i < w i) (λ i. le_prop) a.below b.below k;
    }

pub not_zero : (w : ℕ) → 0 < w → suc (pred w) ≡ w
not_zero w h = omega arith

pub scaled_at : (w v : ℕ) → scaled (stamp_at w v) ≡ v
scaled_at w v = div-add-mod v (suc (pred w))

-- where it stands, it is the one stamp
pub stamp_of_is_at : (w v : ℕ) (s : Stamp) → 0 < w → IsStampOf w v s → s ≡ stamp_at w v
stamp_of_is_at w v s h e =
    let n = not_zero w h in
    same_stamp s (stamp_at w v) (e.same_tick ∙ ap (λ x. v / x) (sym n)) (e.same_numerator ∙ ap (λ x. v % x) (sym n)) (e.same_weight ∙ sym n)
