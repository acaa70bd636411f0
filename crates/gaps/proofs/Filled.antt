-- A buffer that reads fill from its front: its filled part is what the reader lost.
use Rattle.std.proofs.Common.{◌≡◌, ℕ, ◌+◌, ◌≤◌, List, [], ◌++◌, take, drop, length, Some, None, Option, IfSome, IfOk, Result, Ok, Err, refl, sym, ap, ◌∙◌, subst, append_assoc, append-nil}
use Rattle.std.proofs.lemmas.List.{take-append-le, drop_at, take_at, take_all}
use Rattle.std.proofs.Math.Seq.{take-add}
use Rattle.std.specs.Io.{ReadsAtMost}
use Rattle.std.specs.Io.KnownBytes.{Consumes, IsAtEnd, ReadConsumes}

pub nothing_lost : (a : Option (List ℕ)) → Consumes a a []
nothing_lost None = tt
nothing_lost (Some xs) = refl

lost_twice : (a b c : Option (List ℕ)) (bs cs : List ℕ) → Consumes a b bs → Consumes b c cs → Consumes a c (bs ++ cs)
lost_twice None b c bs cs p q = tt
lost_twice (Some xs) None c bs cs p q = absurd p
lost_twice (Some xs) (Some ys) None bs cs p q = absurd q
lost_twice (Some xs) (Some ys) (Some zs) bs cs p q = p ∙ ap (λ l. bs ++ l) q ∙ sym (append_assoc bs cs zs)

-- what was read into the part stands behind the front
pub behind_front : {E : Type 0} (a b : Option (List ℕ)) (r : Result ℕ E) (front part rest : List ℕ) (at : ℕ) → length front ≡ at → ReadsAtMost r part → ReadConsumes a b r part
    → IfOk r (λ n. Consumes a b (take n (drop at (front ++ (part ++ rest)))))
behind_front a b (Ok n) front part rest at long fits read =
    subst (Consumes a b) (sym (ap (take n) (drop_at front (part ++ rest) at long) ∙ take-append-le n part rest fits.0)) read.0
behind_front a b (Err e) front part rest at long fits read = tt

-- xs was filled up to f, and ys has that front and n bytes more
pub filled_more : (a b c : Option (List ℕ)) (xs ys : List ℕ) (f n : ℕ) → take f ys ≡ take f xs → Consumes a b (take f xs) → Consumes b c (take n (drop f ys)) → Consumes a c (take (f + n) ys)
filled_more a b c xs ys f n front before read =
    subst (Consumes a c) (ap (λ l. l ++ take n (drop f ys)) (sym front) ∙ sym (take-add f n ys)) (lost_twice a b c (take f xs) (take n (drop f ys)) before read)

-- at its end the reader gave all that it had, here no more than n bytes
pub filled_to_end : (n : ℕ) (a b : Option (List ℕ)) (bs : List ℕ) → Consumes a b bs → IsAtEnd b → length bs ≤ n → IfSome a (λ xs. bs ≡ take n xs)
filled_to_end n None b bs p q h = tt
filled_to_end n (Some xs) None bs p q h = absurd p
filled_to_end n (Some xs) (Some ys) bs p q h = sym (ap (take n) (p ∙ ap (λ l. bs ++ l) q ∙ append-nil bs) ∙ take_all n bs h)

-- n bytes are the first n
pub filled_whole : (n : ℕ) (a b : Option (List ℕ)) (bs : List ℕ) → Consumes a b bs → length bs ≡ n → IfSome a (λ xs. bs ≡ take n xs)
filled_whole n None b bs p h = tt
filled_whole n (Some xs) None bs p h = absurd p
filled_whole n (Some xs) (Some ys) bs p h = sym (ap (take n) p ∙ take_at bs ys n h)
