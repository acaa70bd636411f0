-- Stamps in the order of their exact fractions, and the laws of a mark for a total order.
use Rattle.std.specs.Prelude.{◌≡◌, ℕ, ◌*◌, ◌<◌, ◌≤◌, Bool, true, false, cond, nat_lt, ◌==◌, refl}
use Rattle.std.specs.Cmp.{IsTotalOrder, nat_cmp_is}
use Rattle.std.specs.declared.cmp.Ordering.{Ordering}
use Rattle.std.specs.Ordering.{MatchOrdering, is_gt, is_lt, nat_cmp, ordering_reverse}
use Rattle.std.proofs.Math.Nat.{le_of_mul-le-mul_left, lt_of_mul-lt-mul_left, mul-lt-mul_of_pos_left}
use Rattle.std.proofs.Common.{sym, ap, ◌∙◌, mul-le-mul_left, arith, Less, Equal, Greater}
use Rattle.std.proofs.lemmas.Bool.{le-ltb, ltb-false}
use Rattle.std.proofs.lemmas.Cmp.{nat_cmp_total, ranked, upto}
use Rattle.timing.specs.Marks.{less}
use Rattle.timing.specs.declared.Stamp.{Stamp}
use Rattle.timing.specs.Stamps.{earlier, fraction_before, fraction_cmp, scaled, stamp_cmp}

-- `less` of a total order has the two laws of a mark
module _ {M : Type 0} (cmp : M → M → Ordering) (total : IsTotalOrder cmp) where
  turned_less : (r : Ordering) → is_gt (ordering_reverse r) ≡ is_lt r
  turned_less Less = refl
  turned_less Equal = refl
  turned_less Greater = refl

  not_both : (r : Ordering) → is_lt r ≡ true → is_gt r ≡ false
  not_both Less h = refl
  not_both Equal h = refl
  not_both Greater h = sym h

  turned : (x y : M) → is_gt (cmp y x) ≡ less cmp x y
  turned x y = ap is_gt (total.antisymm y x) ∙ turned_less (cmp x y)

  pub less_asymmetric : (x y : M) → less cmp x y ≡ true → less cmp y x ≡ false
  less_asymmetric x y h = sym (turned y x) ∙ not_both (cmp x y) h

  pub less_negatively_transitive : (x y z : M) → less cmp x y ≡ false → less cmp y z ≡ false → less cmp x z ≡ false
  less_negatively_transitive x y z p q = sym (turned x z) ∙ upto total z y x (turned y z ∙ q) (turned x y ∙ p)

pub fraction_negatively_transitive : (u a v b w c : ℕ) → 0 < b → fraction_before u a v b ≡ false → fraction_before v b w c ≡ false → fraction_before u a w c ≡ false
fraction_negatively_transitive u a v b w c pos p q =
    let x = mul-le-mul_left c (ltb-false (u * b) (v * a) p) in
    let y = mul-le-mul_left a (ltb-false (v * c) (w * b) q) in
    let h : b * (w * a) ≤ b * (u * c) = omega arith in
    le-ltb (u * c) (w * a) (le_of_mul-le-mul_left {k = b} h pos)

-- of three fractions u / a, v / b and w / c
module _ (u a v b w c : ℕ) (a-pos : 0 < a) (b-pos : 0 < b) (c-pos : 0 < c) where
  fraction_trans : fraction_cmp u a v b ≡ Less → fraction_cmp v b w c ≡ Less → fraction_cmp u a w c ≡ Less
  fraction_trans p q =
      let x = mul-lt-mul_of_pos_left {k = c} (ranked (u * b) (v * a) Less (sym p)) c-pos in
      let y = mul-lt-mul_of_pos_left {k = a} (ranked (v * c) (w * b) Less (sym q)) a-pos in
      let h : b * (u * c) < b * (w * a) = omega arith in
      sym (nat_cmp_is (u * c) (w * a) Less (lt_of_mul-lt-mul_left b h))

  -- where u / a and v / b are equal
  module _ (same : u * b ≡ v * a) where
    along : (r : Ordering) → MatchOrdering r (v * c < w * b) (v * c ≡ w * b) (w * b < v * c) → MatchOrdering r (u * c < w * a) (u * c ≡ w * a) (w * a < u * c)
    along Less h =
        let x = ap (λ n. c * n) same in
        let y = mul-lt-mul_of_pos_left {k = a} h a-pos in
        let k : b * (u * c) < b * (w * a) = omega arith in
        lt_of_mul-lt-mul_left b k
    along Equal h =
        let x = ap (λ n. c * n) same in
        let y = ap (λ n. a * n) h in
        let up : b * (u * c) ≤ b * (w * a) = omega arith in
        let down : b * (w * a) ≤ b * (u * c) = omega arith in
        let p = le_of_mul-le-mul_left {k = b} up b-pos in
        let q = le_of_mul-le-mul_left {k = b} down b-pos in
        omega arith
    along Greater h =
        let x = ap (λ n. c * n) same in
        let y = mul-lt-mul_of_pos_left {k = a} h a-pos in
        let k : b * (w * a) < b * (u * c) = omega arith in
        lt_of_mul-lt-mul_left b k

    fraction_congr : fraction_cmp u a w c ≡ fraction_cmp v b w c
    fraction_congr =
        let r = fraction_cmp v b w c in
        sym (nat_cmp_is (u * c) (w * a) r (along r (ranked (v * c) (w * b) r refl)))

weighted : (s : Stamp) → 0 < s.weight
weighted s = omega (arith, s.below)

pub stamp_cmp_total : IsTotalOrder stamp_cmp
stamp_cmp_total =
    record {
      antisymm = λ x y. nat_cmp_total.antisymm (scaled x * y.weight) (scaled y * x.weight);
      trans = λ x y z. fraction_trans (scaled x) x.weight (scaled y) y.weight (scaled z) z.weight (weighted x) (weighted y) (weighted z);
      congr = λ x y z e. fraction_congr (scaled x) x.weight (scaled y) y.weight (scaled z) z.weight (weighted x) (weighted y) (weighted z) (ranked (scaled x * y.weight) (scaled y * x.weight) Equal (sym e));
    }

is_less : (t e : Bool) → is_lt (cond t Less (cond e Equal Greater)) ≡ t
is_less true e = refl
is_less false true = refl
is_less false false = refl

pub nat_less : (m n : ℕ) → is_lt (nat_cmp m n) ≡ nat_lt m n
nat_less m n = is_less (nat_lt m n) (m == n)

-- a stands before b where its exact fraction is less
pub earlier_is_before : (a b : Stamp) → earlier a b ≡ fraction_before (scaled a) a.weight (scaled b) b.weight
earlier_is_before a b = nat_less (scaled a * b.weight) (scaled b * a.weight)

pub earlier_negatively_transitive : (x y z : Stamp) → earlier x y ≡ false → earlier y z ≡ false → earlier x z ≡ false
earlier_negatively_transitive x y z p q =
    earlier_is_before x z
    ∙ fraction_negatively_transitive (scaled x) x.weight (scaled y) y.weight (scaled z) z.weight (weighted y) (sym (earlier_is_before x y) ∙ p) (sym (earlier_is_before y z) ∙ q)

pub earlier_asymmetric : (x y : Stamp) → earlier x y ≡ true → earlier y x ≡ false
earlier_asymmetric = less_asymmetric stamp_cmp stamp_cmp_total
