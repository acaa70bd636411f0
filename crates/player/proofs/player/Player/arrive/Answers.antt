use Rattle.std.proofs.Common.{refl}
use Rattle.std.proofs.lemmas.Result.{err_from_is_err_and}
use Rattle.player.specs.Plays.{kind_with}
use Rattle.player.proofs.Offered.{plays_accepted, plays_refused}
use Rattle.player.proofs.player.Player.arrive.Goals as goal

pub returns : goal.returns
returns g c plan first x plays t =
    let kind = kind_with g.S.NamedStore.sign g.R.TieRule.answer g.R.NamedRule.next first in
    plays_accepted g.S.Store.lists g.S.Store.full g.S.Store.size kind g.met.S.NamedStore.signs c.args.self.now _ c.args.input c.args.output c.args.bytes t c.in_ok-arrive.field-0
    c.in_ok-arrive.ensures refl refl plan x plays

pub returns-in_err-arrive : goal.returns-in_err-arrive
returns-in_err-arrive g c plan first x plays t =
    let p = err_from_is_err_and c.from_residual.result c.from_residual.ensures.1 in
    rw (p.1, p.2)
    (plays_refused g.S.Store.lists g.S.Store.full g.S.Store.size g.S.NamedStore.sign g.R.TieRule.answer g.R.NamedRule.next first g.met.S.NamedStore.signs c.args.self.now _ c.args.input c.args.output c.args.bytes t refl refl
    c.in_err-arrive.field-0.0 c.in_err-arrive.ensures plan x plays)
