use Rattle.std.proofs.Common.{ℕ, Option, ◌∙◌, rules}
use Rattle.std.specs.List.{slice_get}
use Rattle.state.specs.Due.{sooner_of, first_of}
use Rattle.state.specs.Ready.{across_from}
use Rattle.state.specs.State.{ledger_in}
use Rattle.state.proofs.NextEvent.{first_more}
use Rattle.switch.proofs.Counted.{counted}
use Rattle.switch.proofs.due.across_due.Goals as goal

pub returns : goal.returns
unfolding first_of
returns g c =
    let i = c.args.input.index in
    let tick : ℕ → Option ℕ = λ j. across_from (slice_get (g.S.Store.lists c.args.store.now.store i j) (ledger_in c.args.ledgers.now i j).under_way) in
    let h : ℕ → ℕ → ℕ = λ next j. sooner_of next (tick j) in
    c.fold_ports.ensures h (λ next port r k. search rules) ∙ counted h (first_of tick) (first_more tick) 16
