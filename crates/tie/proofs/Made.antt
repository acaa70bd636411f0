-- The array that `array::from_fn` makes of a closure that no call changes.
use Rattle.std.proofs.Common.{◌≡◌, ℕ, zero, suc, ◌+◌, ◌<◌, ◌≤◌, List, map, get_or, ◌∙◌, subst, ⊎_elim, arith}
use Rattle.std.specs.Array.{IsFromFnResult, IsFromFnResultFrom}
use Rattle.std.specs.Fn.{Called}
use Rattle.std.specs.List.{range_with_len}
use Rattle.std.proofs.lemmas.Bool.{cases_lt}
use Rattle.std.proofs.lemmas.List.FromFn.{fill_by_all}
use denote.Param.Members.{Mut}

-- a call at i gives h i
module _ {F B : Type 0} (g : Mut F (ℕ × Unit {0}) B) (h : ℕ → B) (f : F) (gives : (i : ℕ) (y : B) (q : F) → Called g f (i, tt) y q → (q ≡ f) × (y ≡ h i)) where
  made_at : (ys : List B) (n i k : ℕ) (d : B) → IsFromFnResultFrom g f ys i n → i ≤ k → k < i + n → get_or ys k d ≡ h k
  made_at ys zero i k d made low high = absurd (omega arith)
  made_at ys (suc n) i k d made low high =
      let call = gives i made.1 made.0 made.3 in
      let rest = subst (λ q. IsFromFnResultFrom g q ys (i + 1) n) call.0 made.4 in
      ⊎_elim
      (λ (more : i < k). made_at ys n (i + 1) k d rest (omega arith) (omega arith))
      (λ (last : k ≤ i). let same : i ≡ k = omega arith in subst (λ j. get_or ys j d ≡ h j) same (made.2.1 d ∙ call.1))
      (cases_lt i k)

  pub made_from_fn : (ys : List B) (n : ℕ) (d : B) → IsFromFnResult g f ys n → ys ≡ map h (range_with_len 0 n)
  made_from_fn ys n d made = fill_by_all h ys n d made.long (λ k l. made_at ys n 0 k d made.each (omega arith) (omega arith))
