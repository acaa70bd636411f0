use Rattle.std.proofs.Common.{◌++◌, Err, subst}
use Rattle.carry.specs.declared.stop.Stop.{Stop}
use Rattle.carry.specs.Booked.{Lists}
use Rattle.carry.specs.Carries.{Leaves}
use Rattle.carry.specs.Lines.{refused_line}
use Rattle.carry.proofs.Grows.{append_then}
use Rattle.carry.proofs.run.list.Goals as goal

pub returns-in-Err-Refused : goal.returns-in-Err-Refused
returns-in-Err-Refused c =
    let out = c.args.out.now in
    let mid = c.play_file.new.out in
    let line = refused_line c.in-Err-Refused.fault in
    let l = subst (λ (stop : Stop). Leaves (Lists c.args.file.now) out mid (Err stop)) c.in-Err-Refused.field-0-is c.in-Err-Refused.ensures in
    (l.0 ++ line, l.1, append_then l.0 line _ _ _ _ _ _ _ l.2 c.push_refusal.ensures)
