-- A fold over the numbers from 0 on gives what a recursion on their count gives.
use Rattle.std.proofs.Common.{◌≡◌, ℕ, zero, suc, ◌+◌, ◌-◌, List, map, fold, sym, ap, ◌∙◌, add-zero, arith}
use Rattle.std.specs.List.{range_with_len}
use Rattle.std.specs.Fn.{Called}
use Rattle.std.specs.Iterator.{Drains}
use Rattle.std.specs.Iterator.Adapters.{map_source, map_callee}
use Rattle.std.specs.declared.iter.Map.{Map}
use Rattle.std.specs.declared.ops.Range.{Range}
use Rattle.std.proofs.iter.Yields.{nat_range_steps, gives_Drains}
use Rattle.std.proofs.lemmas.Iterator.{YieldsList-from_range, YieldsList-from_map, maps}
use Rattle.std.proofs.lemmas.List.{map-id}
use denote.Param.Members.{Mut}

-- h takes f from each count to the next
module _ {B : Type 0} (h : B → ℕ → B) (f : ℕ → B) (step : (k : ℕ) → f (k + 1) ≡ h (f k) k) where
  counted_from : (a n : ℕ) → fold h (f a) (range_with_len a n) ≡ f (a + n)
  counted_from a zero = ap f (sym (add-zero a))
  counted_from a (suc n) =
      let e : a + 1 + n ≡ a + suc n = omega arith in
      ap (λ b. fold h b (range_with_len (a + 1) n)) (sym (step a)) ∙ counted_from (a + 1) n ∙ ap f e

  pub counted : (n : ℕ) → fold h (f 0) (range_with_len 0 n) ≡ f n
  counted n = let e : 0 + n ≡ n = omega arith in counted_from 0 n ∙ ap f e

-- what `map` over the numbers below n gives, at such a closure
pub mapped : {F X : Type 0} (g : Mut F (ℕ × Unit {0}) X) (h : ℕ → X) {f : F} (n : ℕ) (s : Map (Range ℕ) F) (xs : List X) → Drains (maps nat_range_steps g) s xs → map_source s ≡ record { start = 0; end = n } → map_callee s ≡ f →
    ((x : ℕ) (r : X) (q : F) → Called g f (x, tt) r q → (q ≡ f) × (r ≡ h x)) → xs ≡ map h (range_with_len 0 n)
mapped {X = X} g h n s xs drains from closure gives =
    let whole : n - 0 ≡ n = omega arith in
    sym (map-id xs) ∙ gives_Drains (maps nat_range_steps g) (λ (x : X). x) xs (map h (range_with_len 0 n)) s (YieldsList-from_map g h (YieldsList-from_range 0 n n from whole) closure gives).runs drains
