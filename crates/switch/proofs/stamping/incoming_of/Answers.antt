use Rattle.state.proofs.StampsOfPacket.{made}
use Rattle.switch.proofs.stamping.incoming_of.Goals as goal

pub returns : goal.returns
returns c =
    let b = c.in_ok-start.ensures in
    let d = c.in_ok-finish.ensures in
    made c.args.last c.args.weight c.args.arrival c.args.bytes c.args.parts c.in_ok-start.start c.in_ok-finish.finish b.0 b.1 d.0 d.1
