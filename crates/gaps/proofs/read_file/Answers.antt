use Rattle.std.proofs.Common.{rules, ◌≡◌, ◌+◌, ◌++◌, length, take, drop, arith, ◌∙◌}
use Rattle.std.proofs.lemmas.List.{take_at, take_all, length-take-le, places}
use Rattle.gaps.proofs.Filled.{nothing_lost, filled_more, filled_to_end, filled_whole}
use Rattle.gaps.proofs.read_file.Goals as goal

pub loop-len-init : goal.loop-len-init
loop-len-init g c = (c.in_ok-file.ensures.len, omega arith, nothing_lost _)

pub loop-len-preserved : goal.loop-len-preserved
loop-len-preserved g c =
    let before = c.loop-len.invariant in
    let buf = c.read_at.new.buf in
    let long : length buf ≡ c.loop-len.file.len = cc in
    let whole : take c.loop-len.file.len (buf ++ drop (length buf) c.loop-len.file.items) ≡ buf = take_at buf _ c.loop-len.file.len long in
    let read = c.in_ok-n.ensures in
    let same : take c.loop-len.len buf ≡ take c.loop-len.len c.loop-len.file.items = cc in
    let more = filled_more _ _ _ c.loop-len.file.items buf c.loop-len.len c.in_ok-n.n same before.2 read.ok in
    (before.0, omega (arith, read.fits, long), rw whole more)

pub returns-then-n-eq0 : goal.returns-then-n-eq0
returns-then-n-eq0 g c =
    let before = c.loop-len.invariant in
    let buf = c.read_at.new.buf in
    let long : length buf ≡ c.loop-len.file.len = cc in
    let whole : take c.loop-len.file.len (buf ++ drop (length buf) c.loop-len.file.items) ≡ buf = take_at buf _ c.loop-len.file.len long in
    let read = c.in_ok-n.ensures in
    let none : c.in_ok-n.n ≡ 0 = c.if-n-eq0.true in
    let same : take c.loop-len.len buf ≡ take c.loop-len.len c.loop-len.file.items = cc in
    let more = filled_more _ _ _ c.loop-len.file.items buf c.loop-len.len c.in_ok-n.n same before.2 read.ok in
    let length_is = length-take-le (c.loop-len.len + c.in_ok-n.n) buf read.fits in
    let all = filled_to_end 65537 _ _ (take (c.loop-len.len + c.in_ok-n.n) buf) more (read.end none) (omega (arith, length_is, read.fits, long, before.0)) in
    let k : c.loop-len.len + c.in_ok-n.n ≡ c.loop-len.len = omega (arith, none) in
    rw (c.truncate.ensures.items, whole) (rw k at all)

pub returns : goal.returns
returns g c =
    let before = c.loop-len.invariant in
    let long : length c.loop-len.file.items ≡ c.loop-len.file.len = search (rules, places) in
    let whole : take c.loop-len.len c.loop-len.file.items ≡ c.loop-len.file.items = take_all _ _ (omega (arith, long)) in
    filled_whole 65537 _ _ c.loop-len.file.items (rw whole at before.2) (long ∙ before.0)
