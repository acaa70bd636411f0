use Rattle.std.proofs.Common.{ℕ, Option, ◌∙◌, rules}
use Rattle.std.specs.List.{slice_get}
use Rattle.state.specs.Due.{sooner_of, first_of}
use Rattle.state.specs.Ready.{out_from}
use Rattle.state.proofs.NextEvent.{first_more}
use Rattle.switch.proofs.Counted.{counted}
use Rattle.switch.proofs.due.out_due.Goals as goal

pub returns : goal.returns
unfolding first_of
returns g c =
    let tick : ℕ → Option ℕ = λ i. out_from c.args.longest (slice_get (g.S.Store.lists c.args.store.now.store i c.args.output.index) 0) in
    let h : ℕ → ℕ → ℕ = λ next i. sooner_of next (tick i) in
    c.fold_ports.ensures h (λ next port r k. search rules) ∙ counted h (first_of tick) (first_more tick) 16
