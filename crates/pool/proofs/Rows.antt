-- Laws of the packets of cells in a row. Assumes nothing.
use Rattle.std.proofs.Common.{◌≡◌, ℕ, zero, suc, ◌+◌, ◌<◌, true, List, [], ◌∷◌, ◌++◌, length, drop, is_some, Some, None, Option, sym, refl, ap, ◌∙◌, append_assoc, append-nil, add-one, arith}
use Rattle.std.specs.List.{slice_get}
use Rattle.std.proofs.lemmas.Bool.{true≢false}
use Rattle.store.specs.declared.packet.Packet.{Packet}
use Rattle.store.specs.Stored.{noted, started_across}
use Rattle.pool.specs.Held.{packets_of, packets_below}

pub some_of : {X : Type 0} (o : Option X) → is_some o ≡ true → (x : X) × (o ≡ Some x)
some_of (Some x) h = (x, refl)
some_of None h = absurd (true≢false (sym h))

-- the list of a row that begins with the packet p
below_first : (n : ℕ) (f : ℕ → Option Packet) (p : Packet) → f 0 ≡ Some p → packets_below (suc n) f ≡ p ∷ packets_below n (λ k. f (suc k))
unfolding packets_below
below_first n f p e = ap (λ (o : Option Packet). packets_of o ++ packets_below n (λ k. f (suc k))) e

pub below_none : (f : ℕ → Option Packet) → packets_below 0 f ≡ []
unfolding packets_below
below_none f = refl

pub below_same : (n : ℕ) (f g : ℕ → Option Packet) → ((k : ℕ) → k < n → f k ≡ g k) → packets_below n f ≡ packets_below n g
unfolding packets_below
below_same zero f g same = refl
below_same (suc n) f g same =
    let first = same 0 (omega arith) in
    let rest = below_same n (λ k. f (suc k)) (λ k. g (suc k)) (λ k h. same (suc k) (omega arith)) in
    cc

push : (n : ℕ) (f : ℕ → Option Packet) → packets_below (suc n) f ≡ packets_below n f ++ packets_of (f n)
unfolding packets_below
push zero f = append-nil (packets_of (f 0))
push (suc n) f =
    ap (λ (ps : List Packet). packets_of (f 0) ++ ps) (push n (λ k. f (suc k)))
    ∙ sym (append_assoc (packets_of (f 0)) (packets_below n (λ k. f (suc k))) (packets_of (f (suc n))))

pub below_push : (n : ℕ) (f : ℕ → Option Packet) → packets_below (n + 1) f ≡ packets_below n f ++ packets_of (f n)
unfolding packets_below
below_push n f = rw add-one (push n f)

module _ (n : ℕ) (f : ℕ → Option Packet) (full : (k : ℕ) → k < suc n → is_some (f k) ≡ true) where
  first_of : (p : Packet) × (f 0 ≡ Some p)
  first_of = some_of (f 0) (full 0 (omega arith))

  rest_full : (k : ℕ) → k < n → is_some (f (suc k)) ≡ true
  rest_full k h = full (suc k) (omega arith)

  split : packets_below (suc n) f ≡ first_of.0 ∷ packets_below n (λ k. f (suc k))
  split = below_first n f first_of.0 first_of.1

pub below_length : (n : ℕ) (f : ℕ → Option Packet) → ((k : ℕ) → k < n → is_some (f k) ≡ true) → length (packets_below n f) ≡ n
below_length zero f full = ap length (below_none f)
below_length (suc n) f full =
    ap length (split n f full) ∙ ap suc (below_length n (λ k. f (suc k)) (rest_full n f full))

pub below_nth : (n : ℕ) (f : ℕ → Option Packet) → ((k : ℕ) → k < n → is_some (f k) ≡ true) → (k : ℕ) → k < n → slice_get (packets_below n f) k ≡ f k
below_nth zero f full k h = absurd (omega arith)
below_nth (suc n) f full zero h = ap (λ (ps : List Packet). slice_get ps 0) (split n f full) ∙ sym (first_of n f full).1
below_nth (suc n) f full (suc k) h =
    ap (λ (ps : List Packet). slice_get ps (suc k)) (split n f full) ∙ below_nth n (λ k. f (suc k)) (rest_full n f full) k (omega arith)

pub below_drop : (n : ℕ) (f : ℕ → Option Packet) → ((k : ℕ) → k < suc n → is_some (f k) ≡ true) → drop 1 (packets_below (suc n) f) ≡ packets_below n (λ k. f (suc k))
below_drop n f full = ap (drop 1) (split n f full)

-- a row of which the k-th packet alone starts to cross
pub below_noted : (n : ℕ) (f g : ℕ → Option Packet) → ((k : ℕ) → k < n → is_some (f k) ≡ true) → (k t : ℕ) (p : Packet) → k < n → f k ≡ Some p → g k ≡ Some (started_across t p) → ((m : ℕ) → m < n → (m ≡ k → ⊥) → g m ≡ f m) → packets_below n g ≡ noted k t (packets_below n f)
below_noted zero f g full k t p h was is other = absurd (omega arith)
below_noted (suc n) f g full zero t p h was is other =
    let rest = below_same n (λ k. g (suc k)) (λ k. f (suc k)) (λ k lt. other (suc k) (omega arith) (λ (e : suc k ≡ 0). omega arith)) in
    below_first n g (started_across t p) is ∙ ap (λ (ps : List Packet). started_across t p ∷ ps) rest ∙ sym (ap (noted 0 t) (below_first n f p was))
below_noted (suc n) f g full (suc k) t p h was is other =
    let first = other 0 (omega arith) (λ (e : 0 ≡ suc k). omega arith) ∙ (first_of n f full).1 in
    let rest = below_noted n (λ k. f (suc k)) (λ k. g (suc k)) (rest_full n f full) k t p (omega arith) was is (λ m lt ne. other (suc m) (omega arith) (λ (e : suc m ≡ suc k). ne (omega arith))) in
    below_first n g (first_of n f full).0 first ∙ ap (λ (ps : List Packet). (first_of n f full).0 ∷ ps) rest ∙ sym (ap (noted (suc k) t) (split n f full))
