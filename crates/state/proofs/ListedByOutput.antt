-- What a step lists is what each output lets go, one after another.
use Rattle.std.proofs.Common.{◌≡◌, ℕ, zero, suc, ◌+◌, ◌≤◌, false, cond, eqb, List, [], ◌∷◌, ◌++◌, Some, None, Option, sym, refl, ap, ◌∙◌, add-one, arith}
use Rattle.std.proofs.lemmas.List.{append-nil}
use Rattle.std.proofs.lemmas.Grind.{flat_map-append}
use Rattle.std.proofs.lemmas.Bool.{ne_eqb}
use Rattle.std.specs.List.{range_with_len, flat_map}
use Rattle.law.proofs.Lists.{counting_parts}
use Rattle.departure.specs.declared.Departure.{Departure}
use Rattle.state.specs.State.{State}
use Rattle.state.specs.Finishes.{ends_at, leaving, finished_with, listed_with, finish_to, listed_to}

with_keeps : (o : Option Departure) (st : State) (n j : ℕ) → eqb j n ≡ false → ((finished_with o st n).sending j ≡ st.sending j) × ((finished_with o st n).clock ≡ st.clock)
with_keeps None st n j e = (refl, refl)
with_keeps (Some d) st n j e = (ap (λ v. cond v None (st.sending j)) e, refl)

finish_keeps : (st : State) (n j : ℕ) → n ≤ j → ((finish_to n st).sending j ≡ st.sending j) × ((finish_to n st).clock ≡ st.clock)
unfolding finish_to
finish_keeps st zero j l = (refl, refl)
finish_keeps st (suc n) j l =
    let before = finish_keeps st n j (omega (arith, l)) in
    let here = with_keeps (leaving (finish_to n st) n) (finish_to n st) n j (ne_eqb j n (λ e. omega (arith, e, l))) in
    (here.0 ∙ before.0, here.1 ∙ before.1)

pub leaving_kept : (st : State) (n : ℕ) → leaving (finish_to n st) n ≡ leaving st n
leaving_kept st n = let k = finish_keeps st n n (omega arith) in λ x. ends_at (k.1 x) (k.0 x)

-- the list of a step is that of each output's line, in order
pub listed_joined : (st : State) (n : ℕ) → listed_to n st ≡ flat_map (λ j. listed_with (leaving st j)) (range_with_len 0 n)
unfolding listed_to
listed_joined st zero = refl
listed_joined st (suc n) =
    let g : ℕ → List Departure = λ j. listed_with (leaving st j) in
    (λ x. listed_joined st n x ++ listed_with (leaving_kept st n x))
    ∙ ap (λ zs. flat_map g (range_with_len 0 n) ++ zs) (sym (append-nil (g n)))
    ∙ sym (flat_map-append g (range_with_len 0 n) (n ∷ []))
    ∙ ap (flat_map g) (ap (λ k. range_with_len 0 n ++ k ∷ []) (z) ∙ counting_parts 0 n 1 ∙ ap (range_with_len 0) (add-one n))
  where
    z : n ≡ 0 + n
    z = omega arith
