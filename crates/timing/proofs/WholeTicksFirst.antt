-- Stamps stand by their whole ticks, and those of one tick by their numerators, each times the other's weight.
use Rattle.std.proofs.Common.{◌≡◌, ◌*◌, ◌<◌, Less, Equal, Greater, refl, ap, mul-le-mul_left, mul-le-mul_right, arith}
use Rattle.std.proofs.lemmas.Cmp.{ranked}
use Rattle.std.specs.declared.cmp.Ordering.{Ordering}
use Rattle.std.specs.Cmp.{nat_cmp_is}
use Rattle.std.specs.Ordering.{MatchOrdering, nat_cmp}
use Rattle.timing.specs.declared.Stamp.{Stamp}
use Rattle.timing.specs.Stamps.{scaled, stamp_cmp}

earlier_tick : (a b : Stamp) → a.tick < b.tick → scaled a * b.weight < scaled b * a.weight
earlier_tick a b h =
    let x = mul-le-mul_right b.weight a.below in
    let y = mul-le-mul_left (a.weight * b.weight) h in
    omega (arith, b.below)

module _ (a b : Stamp) where
  -- of two ticks
  pub by_tick : (t : Ordering) → t ≡ nat_cmp a.tick b.tick → (t ≡ Equal → ⊥) → t ≡ stamp_cmp a b
  by_tick Less e apart = nat_cmp_is (scaled a * b.weight) (scaled b * a.weight) Less (earlier_tick a b (ranked a.tick b.tick Less e))
  by_tick Equal e apart = absurd (apart refl)
  by_tick Greater e apart = nat_cmp_is (scaled a * b.weight) (scaled b * a.weight) Greater (earlier_tick b a (ranked a.tick b.tick Greater e))

  -- of one tick
  module _ (same : a.tick ≡ b.tick) where
    moved : (r : Ordering) → MatchOrdering r (a.numerator * b.weight < b.numerator * a.weight) (a.numerator * b.weight ≡ b.numerator * a.weight) (b.numerator * a.weight < a.numerator * b.weight) → MatchOrdering r (scaled a * b.weight < scaled b * a.weight) (scaled a * b.weight ≡ scaled b * a.weight) (scaled b * a.weight < scaled a * b.weight)
    moved Less h = omega (arith, ap (λ t. a.weight * b.weight * t) same)
    moved Equal h = omega (arith, ap (λ t. a.weight * b.weight * t) same)
    moved Greater h = omega (arith, ap (λ t. a.weight * b.weight * t) same)

    pub by_numerator : nat_cmp (a.numerator * b.weight) (b.numerator * a.weight) ≡ stamp_cmp a b
    by_numerator =
        let r = nat_cmp (a.numerator * b.weight) (b.numerator * a.weight) in
        nat_cmp_is (scaled a * b.weight) (scaled b * a.weight) r (moved r (ranked (a.numerator * b.weight) (b.numerator * a.weight) r refl))
