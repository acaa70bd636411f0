use Rattle.std.proofs.Common.{◌≡◌, ℕ, zero, suc, ◌+◌, ◌%◌, Bool, false, cond, List, map, get_or, Some, refl, sym, ap, ◌∙◌, subst, add-zero, arith, MatchOption, rules, tests}
use Rattle.std.specs.List.{find, range_with_len}
use Rattle.std.proofs.lemmas.Iterator.{YieldsList-from_map, YieldsList-from_range}
use Rattle.std.proofs.lemmas.Iterator.Search.{find_from_yields_List}
use Rattle.std.proofs.lemmas.Iterator.Adapters.{option_map_id}
use Rattle.tie.specs.Rounds.{first_law}
use Rattle.tie.proofs.positions.first_tied.Goals as goal
use Rattle.tie.specs.Positions.{FirstTied, Untied, first_from, first_round}

module _ (ties : List Bool) (p : ℕ) where
  found : (n a : ℕ) → find (λ k. get_or ties k false) (map (λ s. (p % 16 + s) % 16) (range_with_len a n)) ≡ first_round n (p + a) ties
  unfolding first_round
  found zero a = refl
  found (suc n) a =
      let here : (p % 16 + a) % 16 ≡ (p + a) % 16 = omega arith in
      let next : p + (a + 1) ≡ (p + a) + 1 = omega arith in
      ap (λ k. cond (get_or ties k false) (Some k) (find (λ k. get_or ties k false) (map (λ s. (p % 16 + s) % 16) (range_with_len (a + 1) n)))) here
      ∙ ap (λ r. cond (get_or ties ((p + a) % 16) false) (Some ((p + a) % 16)) r) (found n (a + 1) ∙ ap (λ q. first_round n q ties) next)

pub returns : goal.returns
returns c =
    let ties = c.args.tied.now in
    let p = c.args.pointer in
    let value : c.find.result ≡ first_from p ties =
    sym (option_map_id c.find.result)
    ∙ find_from_yields_List (λ k. get_or ties k false) _ _ c.find.result c.find.ensures.ran
    (YieldsList-from_map _ (λ s. (p % 16 + s) % 16) (YieldsList-from_range 0 16 16 (cc) refl) c.map.ensures.closure (λ x r q k. search rules))
    (λ x b q k. search (rules, tests))
    ∙ found ties p 16 0
    ∙ ap (λ q. first_from q ties) (add-zero p) in
    record { value = value; law = subst (λ v. MatchOption v (Untied ties) (FirstTied p ties)) (sym value) (first_law ties p) }
