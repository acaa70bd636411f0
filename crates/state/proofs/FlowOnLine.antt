-- How a flow stands at a line (`IsOnLine`): after a start on it, and after a tick.
use Rattle.std.proofs.Common.{◌≡◌, ℕ, ◌+◌, ◌<◌, ◌≤◌, Bool, true, false, cond, ◌&&◌, eqb, ltb, leb, List, [], ◌∷◌, ◌++◌, length, get_or, sym, refl, ap, ◌∙◌, ⊎_elim, arith}
use Rattle.std.proofs.lemmas.List.{length_push}
use Rattle.std.proofs.Math.Seq.{get_or-append_seam}
use Rattle.std.proofs.lemmas.Bool.{cases_lt, cases_Bool, lt-ltb, le-ltb, ltb-true, ltb-false, le-leb, lt-leb, eq-eqb, ne_eqb, true≢false, and_parts, and_right}
use Rattle.std.specs.List.{AllByRecursion}
use Rattle.timing.specs.Fluid.{Accepted}
use Rattle.law.specs.Journeys.{ended}
use Rattle.law.specs.Runs.{no_packet}
use Rattle.law.proofs.EndedPackets.{ended_more_starts, ended_later, ended_le_starts}
use Rattle.state.specs.Shows.{IsOnLine}
use Rattle.state.proofs.FlowOverTick.{ended_next}

-- a line that is free now carries nothing
pub line_free : (t : ℕ) (ps : List Accepted) (vs : List ℕ) (mine : Bool) (until : ℕ) → IsOnLine t ps vs mine until → until ≤ t → length vs ≡ ended t ps vs
line_free t ps vs mine until o l =
    let e : (mine && ltb t until) ≡ false = and_right mine (ltb t until) (le-ltb t until l) in
    let c : length vs ≡ ended t ps vs + 0 = o.count ∙ ap (λ v. ended t ps vs + cond v 1 0) e in
    omega (arith, c)

-- a flow that is not on the line
pub off_line : (t : ℕ) (ps : List Accepted) (vs : List ℕ) (mine : Bool) (until : ℕ) → length vs ≡ ended t ps vs → (mine && ltb t until) ≡ false → IsOnLine t ps vs mine until
off_line t ps vs mine until c e =
    record {
      count = let z : ended t ps vs ≡ ended t ps vs + 0 = omega arith in c ∙ z ∙ ap (λ v. ended t ps vs + cond v 1 0) (sym e);
      ends = λ x. absurd (true≢false (sym x ∙ e));
    }

-- what starts on a line that was free
pub line_starts : (t : ℕ) (ps : List Accepted) (vs : List ℕ) (mine : Bool) (until until' : ℕ) → AllByRecursion (λ p. 0 < p.bytes) ps → mine ≡ true → length vs ≡ ended t ps vs →
    until' ≡ t + (get_or ps (length vs) no_packet).bytes → t < until' → IsOnLine t ps (vs ++ t ∷ []) mine until'
line_starts t ps vs mine until until' some is c u busy =
    let same = ended_more_starts t ps vs some in
    let on : (mine && ltb t until') ≡ true = rw (is, lt-ltb t until' busy) in
    let n : ended t ps (vs ++ t ∷ []) ≡ length vs = same ∙ sym c in
    record {
      count = length_push vs t ∙ (let z : length vs + 1 ≡ ended t ps (vs ++ t ∷ []) + 1 = omega (arith, n) in z) ∙ ap (λ v. ended t ps (vs ++ t ∷ []) + cond v 1 0) (sym on);
      ends = λ _. (λ k. get_or (vs ++ t ∷ []) (n k) 0 + (get_or ps (n k) no_packet).bytes) ∙ ap (λ v. v + (get_or ps (length vs) no_packet).bytes) (get_or-append_seam vs t [] 0) ∙ sym u;
    }

-- over a tick: what has ended
pub line_ends : (t : ℕ) (ps : List Accepted) (vs : List ℕ) (mine : Bool) (until : ℕ) → length vs ≤ length ps → IsOnLine t ps vs mine until →
    ended (t + 1) ps vs ≡ ended t ps vs + cond (mine && eqb until (t + 1)) 1 0
line_ends t ps vs mine until long o =
    ⊎_elim
    (λ (on : (mine && ltb t until) ≡ true).
    let both = and_parts mine (ltb t until) on in
    let busy = ltb-true t until both.1 in
    let one : length vs ≡ ended t ps vs + 1 = o.count ∙ ap (λ v. ended t ps vs + cond v 1 0) on in
    let next = ended_next t ps vs (ended t ps vs) no_packet refl one (omega (arith, one, long)) in
    let same : leb (get_or vs (ended t ps vs) 0 + (get_or ps (ended t ps vs) no_packet).bytes) (t + 1) ≡ (mine && eqb until (t + 1)) =
    ap (λ n. leb n (t + 1)) (o.ends on)
    ∙ ⊎_elim
    (λ (l : t + 1 < until). lt-leb until (t + 1) l ∙ sym (and_right mine (eqb until (t + 1)) (ne_eqb until (t + 1) (λ z. omega (arith, z, l)))))
    (λ (l : until ≤ t + 1). let z : until ≡ t + 1 = omega (arith, l, busy) in le-leb until (t + 1) l ∙ sym (rw (both.0, eq-eqb until (t + 1) z)))
    (cases_lt (t + 1) until) in
    next ∙ ap (λ v. ended t ps vs + cond v 1 0) same)
    (λ (off : (mine && ltb t until) ≡ false).
    let none : length vs ≡ ended t ps vs + 0 = o.count ∙ ap (λ v. ended t ps vs + cond v 1 0) off in
    let stays : ended (t + 1) ps vs ≡ ended t ps vs + 0 = omega (arith, none, ended_later t ps vs, ended_le_starts (t + 1) ps vs) in
    let same : (mine && eqb until (t + 1)) ≡ false = not_now mine off in
    stays ∙ ap (λ v. ended t ps vs + cond v 1 0) (sym same))
    (cases_Bool (mine && ltb t until))
  where
    not_now : (m : Bool) → (m && ltb t until) ≡ false → (m && eqb until (t + 1)) ≡ false
    not_now true e = ne_eqb until (t + 1) (λ z. let l = ltb-false t until e in omega (arith, z, l))
    not_now false e = refl

-- and what the line carries then
pub line_ticks : (t : ℕ) (ps : List Accepted) (vs : List ℕ) (mine : Bool) (until : ℕ) → length vs ≤ length ps → IsOnLine t ps vs mine until → IsOnLine (t + 1) ps vs mine until
line_ticks t ps vs mine until long o =
    let moved = line_ends t ps vs mine until long o in
    ⊎_elim
    (λ (on : (mine && ltb (t + 1) until) ≡ true).
    let both = and_parts mine (ltb (t + 1) until) on in
    let later = ltb-true (t + 1) until both.1 in
    let now-on : (mine && ltb t until) ≡ true = rw (both.0, lt-ltb t until (omega (arith, later))) in
    let not-yet : (mine && eqb until (t + 1)) ≡ false = and_right mine (eqb until (t + 1)) (ne_eqb until (t + 1) (λ z. omega (arith, z, later))) in
    let same : ended (t + 1) ps vs ≡ ended t ps vs = moved ∙ (let z : ended t ps vs + 0 ≡ ended t ps vs = omega arith in ap (λ v. ended t ps vs + cond v 1 0) not-yet ∙ z) in
    record {
      count = o.count ∙ (λ k. sym same k + cond ((now-on ∙ sym on) k) 1 0);
      ends = λ _. (λ k. get_or vs (same k) 0 + (get_or ps (same k) no_packet).bytes) ∙ o.ends now-on;
    })
    (λ (off : (mine && ltb (t + 1) until) ≡ false). off_line (t + 1) ps vs mine until (all_ended off) off)
    (cases_Bool (mine && ltb (t + 1) until))
  where
    split : (m : Bool) → (m && ltb (t + 1) until) ≡ false → length vs ≡ ended t ps vs + cond (m && ltb t until) 1 0 → ended (t + 1) ps vs ≡ ended t ps vs + cond (m && eqb until (t + 1)) 1 0 → length vs ≡ ended (t + 1) ps vs
    split true e c m =
        let le = ltb-false (t + 1) until e in
        ⊎_elim
        (λ (l : t < until).
        let z : until ≡ t + 1 = omega (arith, le, l) in
        let c' : length vs ≡ ended t ps vs + 1 = c ∙ ap (λ v. ended t ps vs + cond v 1 0) (lt-ltb t until l) in
        let m' : ended (t + 1) ps vs ≡ ended t ps vs + 1 = m ∙ ap (λ v. ended t ps vs + cond v 1 0) (eq-eqb until (t + 1) z) in
        c' ∙ sym m')
        (λ (l : until ≤ t).
        let c' : length vs ≡ ended t ps vs + 0 = c ∙ ap (λ v. ended t ps vs + cond v 1 0) (le-ltb t until l) in
        let m' : ended (t + 1) ps vs ≡ ended t ps vs + 0 = m ∙ ap (λ v. ended t ps vs + cond v 1 0) (ne_eqb until (t + 1) (λ z. omega (arith, z, l))) in
        c' ∙ sym m')
        (cases_lt t until)
    split false e c m = c ∙ sym m

    all_ended : (mine && ltb (t + 1) until) ≡ false → length vs ≡ ended (t + 1) ps vs
    all_ended off = split mine off o.count (line_ends t ps vs mine until long o)
