-- A weight and a scaled value determine the stamp.
use Rattle.std.proofs.Common.{◌≡◌, ℕ, ◌+◌, ◌*◌, ◌/◌, ◌%◌, ◌<◌, ◌≤◌, max, Bool, true, false, cond, Some, Option, refl, sym, ap, ◌∙◌, subst, mul_comm, arith}
use native.Mathlib.Nat.{div-add-mod}
use lib.Arith.{digits_div, digits_mod}
use Rattle.std.proofs.lemmas.Bool.{ltb-false, ltb-true}
use Rattle.std.proofs.Math.Nat.{le_of_mul-le-mul_right, lt_of_mul-lt-mul_right}
use Rattle.std.specs.Ordering.{ord_max}
use Rattle.timing.specs.Order.{earlier_is_before}
use Rattle.timing.specs.declared.Stamp.{Stamp}
use Rattle.timing.specs.Stamps.{SameFlow, IsStampOf, earlier, stamp_cmp, last_scaled, scaled, scaled_finish}

turned : (s : Stamp) → scaled s ≡ s.tick * s.weight + s.numerator
turned s = ap (λ n. n + s.numerator) (mul_comm s.weight s.tick)

pub tick_of : (s : Stamp) → s.tick ≡ scaled s / s.weight
tick_of s = sym (ap (λ n. n / s.weight) (turned s) ∙ digits_div s.tick s.below)

pub numerator_of : (s : Stamp) → s.numerator ≡ scaled s % s.weight
numerator_of s = sym (ap (λ n. n % s.weight) (turned s) ∙ digits_mod s.tick s.below)

pub is_stamp_of : (s : Stamp) (w v : ℕ) → s.weight ≡ w → scaled s ≡ v → IsStampOf w v s
is_stamp_of s w v p q =
    let t = tick_of s in
    let n = numerator_of s in
    record { same_weight = p; same_scaled = q; same_tick = cc; same_numerator = cc }

-- the later of a last finish and an arrival, of one weight
module _ (w v : ℕ) (f a : Stamp) (same : f.weight ≡ w) (arrived : IsStampOf w v a) where
  later_by : (t : Bool) → earlier a f ≡ t → IsStampOf w (max v (scaled f)) (cond t f a)
  later_by true e =
      let x = ap (λ n. scaled a * n) same in
      let y = ap (λ n. scaled f * n) arrived.same_weight in
      let l = ltb-true (scaled a * f.weight) (scaled f * a.weight) (sym (earlier_is_before a f) ∙ e) in
      let h : scaled a * w < scaled f * w = omega arith in
      let less = lt_of_mul-lt-mul_right w h in
      is_stamp_of f w _ same (omega (arith, arrived.same_scaled))
  later_by false e =
      let x = ap (λ n. scaled a * n) same in
      let y = ap (λ n. scaled f * n) arrived.same_weight in
      let l = ltb-false (scaled a * f.weight) (scaled f * a.weight) (sym (earlier_is_before a f) ∙ e) in
      let h : scaled f * w ≤ scaled a * w = omega arith in
      let pos : 0 < w = omega (arith, f.below) in
      let least = le_of_mul-le-mul_right {k = w} h pos in
      is_stamp_of a w _ arrived.same_weight (omega (arith, arrived.same_scaled))

  pub starts_later : (last : Option Stamp) (r : Stamp) → last ≡ Some f → r ≡ ord_max stamp_cmp f a → ((0 < w) × SameFlow w last) × IsStampOf w (max v (last_scaled last)) r
  starts_later last r is e =
      let P : Option Stamp → Type 0 = λ l. ((0 < w) × SameFlow w l) × IsStampOf w (max v (last_scaled l)) r in
      subst P (sym is) ((omega (arith, f.below), same), subst (IsStampOf w (max v (scaled f))) (sym e) (later_by (earlier a f) refl))

-- a stamp and a virtual length q + m / weight: the numerators are added and carried
module _ (s : Stamp) (W b q m : ℕ) (whole : q ≡ b * W / s.weight) (rest : m ≡ b * W % s.weight) where
  pub finished : s.weight * (s.tick + (q + (s.numerator + m) / s.weight)) + (s.numerator + m) % s.weight ≡ scaled_finish W (scaled s) b
  finished =
      let w = s.weight in
      omega (arith, ap (λ n. w * n) whole, div-add-mod (b * W) w, div-add-mod (s.numerator + m) w)
