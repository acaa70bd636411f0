-- The service of a flow whose share does not change: up to tick t a line has carried w * t of it.
use Rattle.std.proofs.Common.{◌≡◌, ℕ, ◌+◌, ◌-◌, ◌*◌, ◌<◌, ◌≤◌, cond, ltb, List, [], ◌∷◌, map, sum_by, sum, count_by, ap, ⊎_elim, mul-le-mul_right, mul-le-mul_left, arith}
use native.Mathlib.Nat.{le_of_mul-le-mul_left}
use Rattle.std.proofs.lemmas.List.Sums.{sum_by-cons}
use Rattle.std.proofs.lemmas.Bool.{cases_lt, ltb-true, ltb-false}
use Rattle.std.specs.List.{AllByRecursion}
use Rattle.law.specs.Queues.{Queued, finish}
use Rattle.law.specs.Port.{Within}
use Rattle.law.proofs.Service.{Carried, Service, IsService, OnOneLine}
use Rattle.law.proofs.PortSteps.{DueBy, InTime}
use Rattle.law.proofs.Lists.{sum_by_map}

abbrev pub at_share : ℕ → Carried
at_share w num den = w * num

abbrev pub constant : ℕ → Service
constant w = record { carried = at_share w; is_open = ltb 0 w }

pub constant_is : (W w : ℕ) → w ≤ W → IsService W (at_share w) (ltb 0 w)
constant_is W w h =
    record {
      serves = record {
        scales = λ num den k. omega arith;
        at_seal = omega arith;
        rises = λ a b den l. mul-le-mul_left w l;
        slow = λ a b den l. slow a b l;
      };
      moves = λ o.
          let pos = ltb-true 0 w o in
          record {
            strict = λ a b den some l. le_of_mul-le-mul_left {k = w} l pos;
            reaches = λ f. (f, w, pos, omega arith);
          };
      rests = λ o num den. omega (arith, mul-le-mul_right num (ltb-false 0 w o));
    }
  where
    slow : (a b : ℕ) → a ≤ b → w * b + W * a ≤ w * a + W * b
    slow a b l =
        let z : a + (b - a) ≡ b = omega arith in
        omega (arith, mul-le-mul_right (b - a) h, ap (λ (v : ℕ). w * v) z, ap (λ (v : ℕ). W * v) z)

-- flows of these weights
pub constants_are : (W : ℕ) (weights : List ℕ) → sum weights ≤ W → AllByRecursion (λ v. IsService W v.carried v.is_open) (map constant weights)
constants_are W [] h = tt
constants_are W (w ∷ ws) h =
    let e = sum_by-cons (λ (x : ℕ). x) w ws in
    (constant_is W w (omega arith), constants_are W ws (omega arith))

constants_sum : (num den : ℕ) (weights : List ℕ) → sum_by (λ (v : Service). v.carried num den) (map constant weights) ≡ sum weights * num
constants_sum num den [] = omega arith
constants_sum num den (w ∷ ws) =
    omega (
      arith,
      constants_sum num den ws,
      sum_by-cons (λ (v : Service). v.carried num den) (constant w) (map constant ws),
      ap (λ v. v * num) (sum_by-cons (λ (x : ℕ). x) w ws),
    )

pub on_one_line : (W : ℕ) (weights : List ℕ) → sum weights ≤ W → OnOneLine W (map constant weights)
on_one_line W weights h =
    record {
      each = constants_are W weights h;
      together = λ a b den l.
          let z : a + (b - a) ≡ b = omega arith in
          omega (
            arith,
            constants_sum a den weights,
            constants_sum b den weights,
            mul-le-mul_right (b - a) h,
            ap (λ (v : ℕ). sum weights * v) z,
            ap (λ (v : ℕ). W * v) z,
          );
    }

pub constants_open : (weights : List ℕ) → count_by (λ (v : Service). v.is_open) (map constant weights) ≡ count_by (λ w. ltb 0 w) weights
constants_open weights = omega (arith, sum_by_map (λ (v : Service). cond v.is_open 1 0) constant weights)

pub in_time : (c w f e : ℕ) → Within c w f e → InTime c (at_share w) f e
in_time c w f e h =
    ⊎_elim
    (λ (l : c < e). let z : (e - c) + c ≡ e = omega arith in omega (arith, ap (λ (v : ℕ). w * v) z))
    (λ (l : e ≤ c). let z : e - c ≡ 0 = omega arith in omega (arith, ap (λ (v : ℕ). w * v) z))
    (cases_lt c e)

pub within : (c w f e : ℕ) → InTime c (at_share w) f e → Within c w f e
within c w f e h =
    let far : e ≤ e - c + c = omega arith in
    omega (arith, mul-le-mul_left w far)

-- of two packets, one that finishes no later than another is due as soon
pub due_before : (W v w : ℕ) (a b : Queued) → 0 < w → finish W a * w ≤ finish W b * v → (num den : ℕ) → 0 < den → DueBy W num den (at_share w) b → DueBy W num den (at_share v) a
due_before W v w a b pos h num den some d =
    le_of_mul-le-mul_left {k = w} (omega (arith, mul-le-mul_right den h, mul-le-mul_left v d)) pos
