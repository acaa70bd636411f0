-- From when on each port may start something (`across_due`, `out_due`): what changes of one flow changes the ticks of its two
-- ports alone, and before that tick a port starts nothing. Assumes nothing.
use Rattle.std.proofs.Common.{◌≡◌, ℕ, ◌<◌, Bool, true, false, cond, ◌&&◌, eqb, List, length, get_or, set, Option, sym, refl, ap, ◌∙◌, subst, ⊎_elim, arith, [], replicate, None, suc, zero}
use Rattle.std.specs.List.{slice_get}
use Rattle.std.proofs.lemmas.Bool.{cases_eq, ne_eqb}
use Rattle.std.proofs.lemmas.List.{get_or-set_same, get_or-set_other, get_or-replicate}
use Rattle.grid.specs.Flows.{with_flow}
use Rattle.store.specs.declared.packet.Packet.{Packet}
use Rattle.state.specs.declared.line.Ledger.{Ledger}
use Rattle.plan.specs.declared.fault.TheConstants.{LAST_TICK}
use Rattle.state.specs.Ready.{across_from, out_from}
use Rattle.state.specs.Due.{sooner_of, first_of, across_due, out_due, TellsAcross, TellsOut}

-- the first of the same ticks is the same
pub first_alike : (f g : ℕ → Option ℕ) → ((k : ℕ) → f k ≡ g k) → (n : ℕ) → first_of f n ≡ first_of g n
first_alike f g same n = λ k. first_of (λ j. same j k) n

-- a table, of which the entry of flow (a, c) may have been replaced, is as it was in any other row or column
pub other_row : {X : Type 0} (b : Bool) (table : ℕ → ℕ → X) (a c : ℕ) (x : X) (i j : ℕ) → (i ≡ a → ⊥) → cond {A = ℕ → ℕ → X} b (with_flow table a c x) table i j ≡ table i j
other_row true table a c x i j ne = rw (ne_eqb i a ne) refl
other_row false table a c x i j ne = refl

and_false : (b : Bool) → (b && false) ≡ false
and_false true = refl
and_false false = refl

pub other_column : {X : Type 0} (b : Bool) (table : ℕ → ℕ → X) (a c : ℕ) (x : X) (i j : ℕ) → (j ≡ c → ⊥) → cond {A = ℕ → ℕ → X} b (with_flow table a c x) table i j ≡ table i j
other_column true table a c x i j ne = ap (λ b. cond (eqb i a && b) x (table i j)) (ne_eqb j c ne) ∙ ap (λ b. cond b x (table i j)) (and_false (eqb i a))
other_column false table a c x i j ne = refl

module _ (b : Bool) (lists after : ℕ → ℕ → List Packet) (a c : ℕ) (xs : List Packet) (is : after ≡ cond {A = ℕ → ℕ → List Packet} b (with_flow lists a c xs) lists) (row : List ℕ) (long : length row ≡ 16) where
  -- with the tick of input a worked out anew, a row tells those of all inputs
  pub across_kept : (ledgers later : ℕ → ℕ → Ledger) (l : Ledger) → later ≡ with_flow ledgers a c l → a < 16 → TellsAcross lists ledgers row → TellsAcross after later (set row a (across_due after later a))
  across_kept ledgers later l changed inside tells i hi =
      ⊎_elim
      (λ (here : i ≡ a). subst (λ k. get_or (set row a (across_due after later a)) k 0 ≡ across_due after later k) (sym here) (get_or-set_same row a (across_due after later a) 0 (omega (arith, long, inside))))
      (λ (ne : i ≡ a → ⊥).
      get_or-set_other row a i (across_due after later a) 0 ne
      ∙ tells i hi
      ∙ first_alike (λ j. across_from (slice_get (lists i j) (ledgers i j).under_way)) (λ j. across_from (slice_get (after i j) (later i j).under_way))
      (λ j. sym (λ k. across_from (slice_get (list_is j ne k) (ledger_is j ne k).under_way))) 16)
      (cases_eq i a)
    where
      list_is : (j : ℕ) → (i ≡ a → ⊥) → after i j ≡ lists i j
      list_is j ne = ap (λ (t : ℕ → ℕ → List Packet). t i j) is ∙ other_row b lists a c xs i j ne

      ledger_is : (j : ℕ) → (i ≡ a → ⊥) → later i j ≡ ledgers i j
      ledger_is j ne = ap (λ (t : ℕ → ℕ → Ledger). t i j) changed ∙ other_row true ledgers a c l i j ne

  -- and that of output c
  pub out_kept : (L : ℕ) → c < 16 → TellsOut L lists row → TellsOut L after (set row c (out_due L after c))
  out_kept L inside tells j hj =
      ⊎_elim
      (λ (here : j ≡ c). subst (λ k. get_or (set row c (out_due L after c)) k 0 ≡ out_due L after k) (sym here) (get_or-set_same row c (out_due L after c) 0 (omega (arith, long, inside))))
      (λ (ne : j ≡ c → ⊥).
      get_or-set_other row c j (out_due L after c) 0 ne
      ∙ tells j hj
      ∙ first_alike (λ i. out_from L (slice_get (lists i j) 0)) (λ i. out_from L (slice_get (after i j) 0)) (λ i. sym (ap (λ ps. out_from L (slice_get ps 0)) (list_is i ne))) 16)
      (cases_eq j c)
    where
      list_is : (i : ℕ) → (j ≡ c → ⊥) → after i j ≡ lists i j
      list_is i ne = ap (λ (t : ℕ → ℕ → List Packet). t i j) is ∙ other_column b lists a c xs i j ne

-- with nothing stored nothing is due
first_none : (f : ℕ → Option ℕ) → ((k : ℕ) → f k ≡ None) → (n : ℕ) → first_of f n ≡ LAST_TICK
unfolding first_of
first_none f none zero = refl
first_none f none (suc n) = ap (sooner_of (first_of f n)) (none n) ∙ first_none f none n

none_stored : (lists : ℕ → ℕ → List Packet) → lists ≡ (λ _ _. []) → (i j k : ℕ) → slice_get (lists i j) k ≡ None
none_stored lists empty i j k = ap (λ (t : ℕ → ℕ → List Packet). slice_get (t i j) k) empty

pub none_across : (lists : ℕ → ℕ → List Packet) (ledgers : ℕ → ℕ → Ledger) → lists ≡ (λ _ _. []) → TellsAcross lists ledgers (replicate 16 LAST_TICK)
none_across lists ledgers empty i hi =
    get_or-replicate 16 i LAST_TICK 0 hi
    ∙ sym (first_none (λ j. across_from (slice_get (lists i j) (ledgers i j).under_way)) (λ j. ap across_from (none_stored lists empty i j (ledgers i j).under_way)) 16)

pub none_out : (L : ℕ) (lists : ℕ → ℕ → List Packet) → lists ≡ (λ _ _. []) → TellsOut L lists (replicate 16 LAST_TICK)
none_out L lists empty j hj =
    get_or-replicate 16 j LAST_TICK 0 hj
    ∙ sym (first_none (λ i. out_from L (slice_get (lists i j) 0)) (λ i. ap (out_from L) (none_stored lists empty i j 0)) 16)
