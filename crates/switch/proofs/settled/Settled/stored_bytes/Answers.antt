use Rattle.std.proofs.Common.{◌≡◌, ◌+◌, ◌-◌, ◌^◌, ◌<◌, fold, take, take_all, sym, ap, ◌∙◌, subst, rules, arith}
use Rattle.std.specs.List.{slice_get, range_with_len}
use Rattle.std.proofs.lemmas.Iterator.{YieldsList-from_range}
use Rattle.std.proofs.lemmas.Iterator.Adapters.{fits_from_length, at_most_from_yields_List}
use Rattle.std.proofs.lemmas.List.Folds.{fold-map}
use Rattle.std.proofs.lemmas.List.FromFn.{length-range_with_len}
use Rattle.state.specs.Reports.{lengths}
use Rattle.state.specs.State.{bytes_in}
use Rattle.state.proofs.ReportRight.{lengths_more}
use Rattle.switch.proofs.Counted.{counted, mapped}
use Rattle.switch.proofs.settled.Settled.stored_bytes.Goals as goal

pub sum-requires-clause-fits : goal.sum-requires-clause-fits
sum-requires-clause-fits g c =
    let n = c.count.result in
    let whole : n - 0 ≡ n = omega arith in
    fits_from_length _ _ (2 ^ 64) (2 ^ 128) (at_most_from_yields_List (YieldsList-from_range {s = c.map.result.iter} 0 n n c.map.ensures.source whole) (omega (arith, length-range_with_len 0 n))) c.map.ensures.closure (omega arith) (λ x r q k. search rules)

pub returns-clause-value : goal.returns-clause-value
unfolding lengths
returns-clause-value g c =
    let list = g.S.Store.lists c.args.self.now.running.store.store c.args.flow.input c.args.flow.output in
    let n = c.count.result in
    let ran = c.sum.ensures.ran in
    ran.2 ∙ ap (fold (λ t x. t + x) 0) (mapped _ (λ k. bytes_in (slice_get list k)) n c.map.result ran.0 (ran.1 tt) c.map.ensures.source c.map.ensures.closure (λ x r q k. search rules))
    ∙ fold-map (λ t x. t + x) (λ k. bytes_in (slice_get list k)) 0 (range_with_len 0 n)
    ∙ counted (λ t k. t + bytes_in (slice_get list k)) (λ k. lengths (take k list)) (lengths_more list) n
    ∙ ap lengths (take_all n list (omega arith))

pub returns-clause-bound : goal.returns-clause-bound
returns-clause-bound g c =
    let n = c.count.result in
    let whole : n - 0 ≡ n = omega arith in
    let p = c.sum.ensures.runs tt in
    subst (λ k. k < 2 ^ 96) (sym p.3) (fits_from_length _ _ (2 ^ 64) (2 ^ 96) (at_most_from_yields_List (YieldsList-from_range {s = c.map.result.iter} 0 n n c.map.ensures.source whole) (omega (arith, length-range_with_len 0 n))) c.map.ensures.closure (omega arith) (λ x r q k. search rules) p.0 p.0.seen p.1)
