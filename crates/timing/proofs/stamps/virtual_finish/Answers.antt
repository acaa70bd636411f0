use Rattle.std.proofs.Common.{◌≡◌, ◌+◌, ◌*◌, ◌/◌, ◌%◌, ◌^◌, ◌<◌, ◌≤◌, sym, refl, ap, subst, mod-lt, mul-le-mul_left, arith}
use Rattle.timing.proofs.Scaled.{finished, is_stamp_of}
use Rattle.timing.proofs.stamps.virtual_finish.Goals as goal
use Rattle.timing.specs.Stamps.{Given, scaled, scaled_finish}

pub returns-in_err-tick : goal.returns-in_err-tick
returns-in_err-tick c =
    let s = c.args.start in
    let W = c.args.parts in
    let b = c.args.bytes in
    let v = scaled_finish W (scaled s) b in
    let length = c.in_ok-ticks.ensures.1 in
    let e = finished s W b _ _ (ap (λ p. p.0) length) (ap (λ p. p.1) length) in
    let d : (c.from.result + c.from-2.result) / c.from-weight.result ≡ (c.args.start.numerator + c.in_ok-ticks.part) / c.args.start.weight = cc in
    let t : 2 ^ 64 ≤ s.tick + (c.in_ok-ticks.ticks + (s.numerator + c.in_ok-ticks.part) / s.weight) = omega (arith, c.in_err-tick.ensures) in
    subst (λ o. Given o (v < s.weight * 2 ^ 64) s.weight v) (sym c.from_residual-in_err-tick.ensures)
    (λ h. omega (arith, e, mul-le-mul_left s.weight t))

pub returns : goal.returns
returns c =
    let s = c.args.start in
    let w = s.weight in
    let length = c.in_ok-ticks.ensures.1 in
    let sum = c.in_ok-tick.ensures in
    let d : (c.from.result + c.from-2.result) / c.from-weight.result ≡ (s.numerator + c.in_ok-ticks.part) / w = cc in
    let r : (c.from.result + c.from-2.result) % c.from-weight.result ≡ (s.numerator + c.in_ok-ticks.part) % w = cc in
    let e = finished s c.args.parts c.args.bytes _ _ (ap (λ p. p.0) length) (ap (λ p. p.1) length) in
    let tick : c.in_ok-tick.tick ≡ s.tick + (c.in_ok-ticks.ticks + (s.numerator + c.in_ok-ticks.part) / w) = omega (arith, sum.1) in
    let f = ap (λ t. w * t) tick in
    let k : 0 < w = omega (arith, s.below) in
    let t : c.in_ok-tick.tick + 1 ≤ 2 ^ 64 = omega (arith, sum.0, sum.1) in
    (omega (arith, mul-le-mul_left w t, mod-lt (s.numerator + c.in_ok-ticks.part) k), is_stamp_of _ w _ refl (omega arith))
