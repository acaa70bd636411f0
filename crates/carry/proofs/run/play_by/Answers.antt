use Rattle.std.proofs.Common.{◌≡◌, sym, ap, ◌∙◌, subst}
use Rattle.plan.specs.declared.table.Plan.{Plan}
use Rattle.tie.specs.declared.rules.Lowest.{Lowest}
use Rattle.tie.specs.declared.rules.Turn.{Turn}
use Rattle.tie.specs.declared.rules.Longest.{Longest}
use Rattle.replay.specs.Kinds.{Kind}
use Rattle.replay.specs.Named.{lowest_kind, turn_kind, longest_kind}
use Rattle.runfile.specs.Order.{Running}
use Rattle.runfile.specs.declared.body.RuleKind.{RuleKind}
use Rattle.player.specs.Plays.{kind_with}
use Rattle.carry.specs.Booked.{BooksAt}
use Rattle.carry.specs.Carries.{Leaves, ListsBy}
use Rattle.carry.specs.Traffic.{ListsAs}
use Rattle.carry.proofs.run.play_by.Goals as goal

pub returns-in-Lowest : goal.returns-in-Lowest
returns-in-Lowest g c file h booked =
    let sign = g.S.NamedStore.sign in
    let out = c.args.out.now in
    let after = c.play.new.out in
    let r = c.play.result in
    let over = c.over.ensures in
    let kind = ap (λ (rule : Lowest). kind_with sign (lowest_kind sign).answer (lowest_kind sign).next rule) over.rule_kept in
    let played = c.play.ensures file h (subst (λ (plan : Plan). BooksAt (Running 0) file h plan c.args.rest) (sym over.plan_is) booked) in
    subst (λ (rule : RuleKind). Leaves (ListsBy sign rule h file) out after r) (sym c.in-Lowest.is)
    (subst (λ (k : Kind Lowest). Leaves (ListsAs k h file) out after r) kind played)

pub returns-in-Turn : goal.returns-in-Turn
returns-in-Turn g c file h booked =
    let sign = g.S.NamedStore.sign in
    let out = c.args.out.now in
    let after = c.play-in-Turn.new.out in
    let r = c.play-in-Turn.result in
    let over = c.over-in-Turn.ensures in
    let first : c.new.result ≡ (turn_kind sign).first = λ k. record { pointers = c.new.ensures.value k } in
    let kind = ap (λ (rule : Turn). kind_with sign (turn_kind sign).answer (turn_kind sign).next rule) (over.rule_kept ∙ first) in
    let played = c.play-in-Turn.ensures file h (subst (λ (plan : Plan). BooksAt (Running 0) file h plan c.args.rest) (sym over.plan_is) booked) in
    subst (λ (rule : RuleKind). Leaves (ListsBy sign rule h file) out after r) (sym c.in-Turn.is)
    (subst (λ (k : Kind Turn). Leaves (ListsAs k h file) out after r) kind played)

pub returns-in-Longest : goal.returns-in-Longest
returns-in-Longest g c file h booked =
    let sign = g.S.NamedStore.sign in
    let out = c.args.out.now in
    let after = c.play-in-Longest.new.out in
    let r = c.play-in-Longest.result in
    let over = c.over-in-Longest.ensures in
    let kind = ap (λ (rule : Longest). kind_with sign (longest_kind sign).answer (longest_kind sign).next rule) over.rule_kept in
    let played = c.play-in-Longest.ensures file h (subst (λ (plan : Plan). BooksAt (Running 0) file h plan c.args.rest) (sym over.plan_is) booked) in
    subst (λ (rule : RuleKind). Leaves (ListsBy sign rule h file) out after r) (sym c.in-Longest.is)
    (subst (λ (k : Kind Longest). Leaves (ListsAs k h file) out after r) kind played)
