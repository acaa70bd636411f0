-- A packet is ready at t just where the first tick from which on it may start has come by t.
use Rattle.std.proofs.Common.{◌≡◌, ℕ, ◌+◌, ◌*◌, ◌<◌, ◌≤◌, max, cond, ◌&&◌, leb, Some, None, Option, sym, refl, ap, ◌∙◌, ⊎_elim, mul-le-mul_left, arith}
use native.Mathlib.Nat.{le_dest}
use Rattle.std.proofs.lemmas.Bool.{cases_lt, lt-ltb, le-ltb, lt-leb, le-leb}
use Rattle.timing.specs.Stamps.{scaled}
use Rattle.timing.specs.declared.Stamp.{Stamp}
use Rattle.store.specs.declared.packet.Packet.{Packet}
use Rattle.state.specs.Ready.{tick_from, across_from, out_after, out_from, mark_from}
use Rattle.state.specs.Crosses.{mark_across}
use Rattle.state.specs.Sends.{mark_out, crossed_by_tick}

-- a virtual time that has not come
stamp_late : (s : Stamp) (t : ℕ) → t < tick_from s → s.weight * t < scaled s
stamp_late s t h =
    ⊎_elim
    (λ (some : 0 < s.numerator).
    let from : tick_from s ≡ s.tick + 1 = ap (λ b. s.tick + cond b 1 0) (lt-ltb 0 s.numerator some) in
    let le : s.weight * t ≤ s.weight * s.tick = mul-le-mul_left s.weight (omega (arith, h, from)) in
    omega (arith, le, some))
    (λ (none : s.numerator ≤ 0).
    let from : tick_from s ≡ s.tick + 0 = ap (λ b. s.tick + cond b 1 0) (le-ltb 0 s.numerator none) in
    let le : s.weight * (t + 1) ≤ s.weight * s.tick = mul-le-mul_left s.weight (omega (arith, h, from)) in
    omega (arith, le, s.below))
    (cases_lt 0 s.numerator)

-- a virtual time that has come
stamp_come : (s : Stamp) (t : ℕ) → tick_from s ≤ t → scaled s ≤ s.weight * t
stamp_come s t h =
    ⊎_elim
    (λ (some : 0 < s.numerator).
    let from : tick_from s ≡ s.tick + 1 = ap (λ b. s.tick + cond b 1 0) (lt-ltb 0 s.numerator some) in
    let le : s.weight * (s.tick + 1) ≤ s.weight * t = mul-le-mul_left s.weight (omega (arith, h, from)) in
    omega (arith, le, s.below))
    (λ (none : s.numerator ≤ 0).
    let from : tick_from s ≡ s.tick + 0 = ap (λ b. s.tick + cond b 1 0) (le-ltb 0 s.numerator none) in
    let le : s.weight * s.tick ≤ s.weight * t = mul-le-mul_left s.weight (omega (arith, h, from)) in
    omega (arith, le, none))
    (cases_lt 0 s.numerator)

-- L ticks after a virtual time, by whole ticks and by scaled numbers
stamp_by : (s : Stamp) (L t : ℕ) → leb (tick_from s + L) t ≡ leb (scaled s + s.weight * L) (s.weight * t)
stamp_by s L t =
    ⊎_elim
    (λ (l : t < L).
    let le : s.weight * (t + 1) ≤ s.weight * L = mul-le-mul_left s.weight (omega (arith, l)) in
    lt-leb (tick_from s + L) t (omega (arith, l)) ∙ sym (lt-leb (scaled s + s.weight * L) (s.weight * t) (omega (arith, le, s.below))))
    (λ (l : L ≤ t).
    let (d, e) = le_dest l in
    let is : s.weight * t ≡ s.weight * (L + d) = ap (λ n. s.weight * n) (sym e) in
    ⊎_elim
    (λ (late : d < tick_from s).
    lt-leb (tick_from s + L) t (omega (arith, late, e)) ∙ sym (lt-leb (scaled s + s.weight * L) (s.weight * t) (omega (arith, stamp_late s d late, is))))
    (λ (come : tick_from s ≤ d).
    le-leb (tick_from s + L) t (omega (arith, come, e)) ∙ sym (le-leb (scaled s + s.weight * L) (s.weight * t) (omega (arith, stamp_come s d come, is))))
    (cases_lt d (tick_from s)))
    (cases_lt t L)

stamp_now : (s : Stamp) (t : ℕ) → leb (tick_from s) t ≡ leb (scaled s) (s.weight * t)
stamp_now s t =
    ⊎_elim
    (λ (late : t < tick_from s). lt-leb (tick_from s) t late ∙ sym (lt-leb (scaled s) (s.weight * t) (stamp_late s t late)))
    (λ (come : tick_from s ≤ t). le-leb (tick_from s) t come ∙ sym (le-leb (scaled s) (s.weight * t) (stamp_come s t come)))
    (cases_lt t (tick_from s))

leb_max : (a b t : ℕ) → leb (max a b) t ≡ (leb a t && leb b t)
leb_max a b t =
    ⊎_elim
    (λ (l : t < a). lt-leb (max a b) t (omega (arith, l)) ∙ sym (ap (λ v. v && leb b t) (lt-leb a t l)))
    (λ (l : a ≤ t).
    ⊎_elim
    (λ (m : t < b). lt-leb (max a b) t (omega (arith, m)) ∙ sym (λ k. le-leb a t l k && lt-leb b t m k))
    (λ (m : b ≤ t). le-leb (max a b) t (omega (arith, l, m)) ∙ sym (λ k. le-leb a t l k && le-leb b t m k))
    (cases_lt t b))
    (cases_lt t a)

-- at an input
pub ready_across : (t : ℕ) (o : Option Packet) → mark_from t o (across_from o) ≡ mark_across t o
ready_across t None = refl
ready_across t (Some p) = ap (λ b. cond b (Some p.finish) None) (stamp_now p.start t)

ready_crossed : (L t : ℕ) (p : Packet) (across : Option ℕ) →
    mark_from t (Some p) (out_after L p across) ≡ cond (crossed_by_tick t p.bytes across && leb (scaled p.start + p.start.weight * L) (p.start.weight * t)) (Some p.finish) None
ready_crossed L t p None = refl
ready_crossed L t p (Some u) =
    ap (λ b. cond b (Some p.finish) None) (leb_max (u + p.bytes) (tick_from p.start + L) t ∙ ap (λ b. leb (u + p.bytes) t && b) (stamp_by p.start L t))

-- and at an output
pub ready_out : (L t : ℕ) (o : Option Packet) → mark_from t o (out_from L o) ≡ mark_out L t o
ready_out L t None = refl
ready_out L t (Some p) = ready_crossed L t p p.crossing

-- before the tick there is no mark
pub not_ready : (t : ℕ) (o : Option Packet) (from : Option ℕ) → ((x : ℕ) → from ≡ Some x → t < x) → mark_from t o from ≡ None
not_ready t None from h = refl
not_ready t (Some p) None h = refl
not_ready t (Some p) (Some x) h = ap (λ b. cond b (Some p.finish) None) (lt-leb x t (h x refl))

-- from it on there is one
pub is_ready : (t x : ℕ) (p : Packet) (from : Option ℕ) → from ≡ Some x → x ≤ t → mark_from t (Some p) from ≡ Some p.finish
is_ready t x p from e l = ap (mark_from t (Some p)) e ∙ ap (λ b. cond b (Some p.finish) None) (le-leb x t l)
