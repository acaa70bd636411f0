use Rattle.std.proofs.Common.{ℕ, sym, ap, ◌∙◌}
use Rattle.timing.proofs.Served.{last_finish_push}
use Rattle.timing.specs.Stamps.{scaled_finish, scaled_start}
use Rattle.timing.proofs.flow.Stamper.accept.Goals as goal

pub returns-clause-history : goal.returns-clause-history
returns-clause-history c =
    let w = c.args.self.now.weight in
    let W = c.args.parts in
    let a = c.args.arrival in
    let b = c.args.bytes in
    λ ps h _.
    c.in_ok-finish.ensures.1.same_scaled
    ∙ ap (λ (v : ℕ). scaled_finish W v b) (c.in_ok-start.ensures.1.same_scaled ∙ ap (scaled_start w a) h)
    ∙ sym (last_finish_push W w ps 0 record { arrival = a; bytes = b })
