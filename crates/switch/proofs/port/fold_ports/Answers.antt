use Rattle.std.proofs.Common.{◌≡◌, ℕ, ◌-◌, List, [], ◌∷◌, fold, sym, refl, ap, ◌∙◌, rules, arith}
use Rattle.std.specs.List.{range_with_len}
use Rattle.std.proofs.iter.Yields.{nat_range_steps}
use Rattle.std.proofs.lemmas.Fn.{fold_over}
use Rattle.std.proofs.lemmas.Iterator.{YieldsList-from_range}
use Rattle.std.proofs.lemmas.List.Sums.{fold-append}
use Rattle.switch.proofs.port.fold_ports.Goals as goal

pub returns : goal.returns
returns g c h gives =
    let n = c.args.ports in
    let a = c.args.first in
    let whole : n - 0 ≡ n = omega arith in
    fold_over nat_range_steps (λ x. x) _ (λ (xs : List ℕ) (b : g.row.T.Denot). b ≡ fold h a xs) _
    (λ xs b x r f before call.
    let step : r ≡ h b x = search rules in
    (step ∙ ap (λ t. h t x) before ∙ sym (fold-append h a xs (x ∷ [])), search rules))
    record { start = 0; end = n } (range_with_len 0 n) a c.fold.result (YieldsList-from_range 0 n n refl whole).runs refl c.fold.ensures.ran
