-- The invariant of a port: what its flows can still ask of it by a deadline never exceeds what it can carry by then.
use Rattle.std.proofs.Common.{◌≡◌, ℕ, ◌+◌, ◌-◌, ◌*◌, ◌<◌, ◌≤◌, max, Bool, true, cond, leb, ◌⊎◌, List, [], ◌∷◌, length, sum_by, count_by}
use Rattle.std.specs.List.{AllByRecursion}
use Rattle.law.specs.Queues.{Queued, finish}
use Rattle.law.specs.Port.{Side, lateness}
use Rattle.law.proofs.Service.{Carried, IsService}
use Rattle.law.proofs.PortSteps.{ServedFlow, ServedPort, served_flow_at}

-- The packets of a flow, as they wait: the flow is open, each has 1 to L bytes, none starts before the one before it
-- finishes, and none finishes after the last one accepted. The first starts at low or later.
abbrev pub Chain : ℕ → ℕ → Bool → ℕ → List Queued → ℕ → Type 0
Chain W L o low [] last = low ≤ last
Chain W L o low (a ∷ more) last =
    (o ≡ true) × (0 < a.bytes) × (a.bytes ≤ L) × (low ≤ a.start) × Chain W L o (finish W a) more last

abbrev pub Chained : ℕ → ℕ → ServedFlow → Type 0
Chained W L f = Chain W L f.is_open 0 f.waiting f.last

abbrev pub HasService : ℕ → ServedFlow → Type 0
HasService W f = IsService W f.carried f.is_open

-- A deadline is the fraction x = num / den, den not 0.
-- What a flow can still ask of the port by x, in W-ths of a byte times den, from packets here and still to come: nothing
-- where its head finishes after x; otherwise what the line carries of it up to x, from the start of its head, or, where
-- none waits, from the clock or the last finish.
abbrev pub claim_of : ℕ → ℕ → ℕ → ℕ → Carried → List Queued → ℕ → ℕ
claim_of W num den t c [] last = c num den - max (c t 1 * den) (last * den)
claim_of W num den t c (a ∷ more) last = cond (leb (finish W a * den) (c num den)) (c num den - a.start * den) 0

abbrev pub claim : ℕ → ℕ → ℕ → ℕ → ServedFlow → ℕ
claim W num den t f = claim_of W num den t f.carried f.waiting f.last

-- there is a head, and its virtual finish is x or earlier
abbrev pub Due : ℕ → ℕ → ℕ → Carried → List Queued → Type 0
Due W num den c [] = ⊥
Due W num den c (a ∷ more) = finish W a * den ≤ c num den

-- how many ticks ago a deadline may be
abbrev pub reach : Side → ℕ → ℕ
reach Side.input L = 1
reach Side.output L = L

-- what a flow that is not ready may claim beyond its share of the time up to the deadline, in bytes
abbrev pub extra : Side → ℕ → ℕ
extra Side.input L = 0
extra Side.output L = L

-- the deadlines that count: those no longer ago, and those of a head
abbrev pub Counts : Side → ℕ → ℕ → ℕ → ℕ → ServedPort → Type 0
Counts side W L num den q =
    (q.clock * den ≤ num + reach side L * den)
    ⊎ ((k : ℕ) × (k < length q.flows) × Due W num den (served_flow_at q k).carried (served_flow_at q k).waiting)

-- the port's sending and all claims by x fit into the time up to x and the lateness
abbrev pub FitsBy : ℕ → ℕ → ℕ → ℕ → ServedPort → Type 0
FitsBy c W num den q =
    W * den * (q.clock + q.left) + sum_by (claim W num den q.clock) q.flows ≤ W * num + W * den * c

-- all flows together get no more than W by tick
abbrev pub Together : ℕ → List ServedFlow → Type 0
Together W fs = (a b den : ℕ) → a ≤ b → sum_by (λ (f : ServedFlow). f.carried b den) fs + W * a ≤ sum_by (λ (f : ServedFlow). f.carried a den) fs + W * b

-- what every moment of a port keeps, with n open flows at the most
pub record Sound (side : Side) (W L n : ℕ) (q : ServedPort) : Type 0 where
  pub chains : AllByRecursion (Chained W L) q.flows
  pub services : AllByRecursion (HasService W) q.flows
  pub shares : Together W q.flows
  pub few_open : count_by (λ f. f.is_open) q.flows ≤ n
  pub fits : (num den : ℕ) → 0 < den → Counts side W L num den q → FitsBy (lateness side L n) W num den q
