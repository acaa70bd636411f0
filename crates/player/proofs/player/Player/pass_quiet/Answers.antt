use Rattle.std.proofs.Common.{◌≡◌, [], refl, sym, arith, eqb}
use Rattle.std.proofs.lemmas.Bool.{eq-eqb, ne_eqb, cond-true, cond-false}
use Rattle.player.specs.Plays.{left_now, kind_with}
use Rattle.player.proofs.QuietTicks.{plays_quiet}
use Rattle.player.proofs.player.Player.pass_quiet.Goals as goal

-- some ticks are passed
pub returns-then-ticks-gt0 : goal.returns-then-ticks-gt0
returns-then-ticks-gt0 g c =
    let some : c.pass_quiet-ticks.result ≡ 0 → ⊥ = λ none. omega (arith, none, c.if-ticks-gt0.true) in (
      c.pass_quiet-ticks.ensures.ticks,
      sym (cond-false (eqb c.pass_quiet-ticks.result 0) _ [] (ne_eqb c.pass_quiet-ticks.result 0 some)),
      λ plan first x plays.
          plays_quiet g.S.Store.lists g.S.Store.size (kind_with g.S.NamedStore.sign g.R.TieRule.answer g.R.NamedRule.next first) g.R.TieRule.told g.met.R.NamedRule.keeps_next g.met.R.TieRule.picks_tied
          c.args.self.now _ c.args.limit c.pass_quiet-ticks.result c.pass_quiet-ticks.ensures refl refl plan x plays,
    )

-- none is
pub returns-else-ticks-gt0 : goal.returns-else-ticks-gt0
returns-else-ticks-gt0 g c =
    let none : c.pass_quiet-ticks.result ≡ 0 = omega (arith, c.if-ticks-gt0.false) in (
      c.pass_quiet-ticks.ensures.ticks,
      sym (cond-true (eqb c.pass_quiet-ticks.result 0) (left_now c.args.self.now) [] (eq-eqb c.pass_quiet-ticks.result 0 none)),
      λ plan first x plays.
          plays_quiet g.S.Store.lists g.S.Store.size (kind_with g.S.NamedStore.sign g.R.TieRule.answer g.R.NamedRule.next first) g.R.TieRule.told g.met.R.NamedRule.keeps_next g.met.R.TieRule.picks_tied
          c.args.self.now _ c.args.limit c.pass_quiet-ticks.result c.pass_quiet-ticks.ensures refl refl plan x plays,
    )
