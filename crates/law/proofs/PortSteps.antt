-- The port of specs/Port with any service of a flow in place of w × t: the same words, with Served before each.
use Rattle.std.specs.Prelude.{◌≡◌, ℕ, ◌+◌, ◌-◌, ◌*◌, ◌<◌, ◌≤◌, max, Bool, true, false, ◌⊎◌, List, [], ◌∷◌, ◌++◌, map, length, slice_index_or, slice_set}
use Rattle.std.specs.List.{AllByRecursion}
use Rattle.law.specs.Queues.{Queued, finish}
use Rattle.law.specs.Port.{Side, Head}
use Rattle.law.proofs.Service.{Carried, Service}

-- a flow as the port sees it: its service, its packets that wait, oldest first, and the scaled virtual finish of the last
-- packet accepted, 0 where there is none
pub record ServedFlow : Type 0 where
  pub carried : Carried
  pub is_open : Bool
  pub waiting : List Queued
  pub last : ℕ

-- the flows of the port, the ticks left of what it sends (0: it is free), and the clock
pub record ServedPort : Type 0 where
  pub flows : List ServedFlow
  pub left : ℕ
  pub clock : ℕ

-- a flow to which nothing has come
abbrev pub served_unused : Service → ServedFlow
served_unused v = record { carried = v.carried; is_open = v.is_open; waiting = []; last = 0 }

abbrev pub closed : Service
closed = record { carried = λ _ _. 0; is_open = false }

abbrev pub served_flow_at : ServedPort → ℕ → ServedFlow
served_flow_at q k = slice_index_or q.flows k (served_unused closed)

-- a head that is not ready at tick t: at an input its virtual start is still to come; at an output its virtual finish was
-- less than L ticks ago
abbrev pub ServedUnready : Side → ℕ → ℕ → ℕ → Carried → Queued → Type 0
ServedUnready Side.input W L t carried p = carried t 1 < p.start
ServedUnready Side.output W L t carried p = carried (t + 1 - L) 1 ≤ finish W p

-- before anything has come, with these services
pub record ServedOpened (services : List Service) (q : ServedPort) : Type 0 where
  pub flows_are : q.flows ≡ map served_unused services
  pub left_is : q.left ≡ 0
  pub clock_is : q.clock ≡ 0

-- a packet of b bytes accepted at tick t
abbrev pub served_stamped : ℕ → ℕ → ServedFlow → Queued
served_stamped t b f = record { start = max (f.carried t 1) f.last; bytes = b }

abbrev pub served_accepting : ℕ → ℕ → ℕ → ServedFlow → ServedFlow
served_accepting W t b f =
    record { carried = f.carried; is_open = f.is_open; waiting = f.waiting ++ served_stamped t b f ∷ []; last = finish W (served_stamped t b f) }

-- a packet of b bytes comes to flow k, which is open
pub record ServedArrives (W L k b : ℕ) (p q : ServedPort) : Type 0 where
  pub among : k < length p.flows
  pub is_open : (served_flow_at p k).is_open ≡ true
  pub some_bytes : 0 < b
  pub not_long : b ≤ L
  pub flows_are : q.flows ≡ slice_set p.flows k (served_accepting W p.clock b (served_flow_at p k))
  pub left_is : q.left ≡ p.left
  pub clock_is : q.clock ≡ p.clock

-- a tick of a port that is sending
pub record ServedSends (p q : ServedPort) : Type 0 where
  pub flows_are : q.flows ≡ p.flows
  pub left_is : q.left + 1 ≡ p.left
  pub clock_is : q.clock ≡ p.clock + 1

-- a tick of a free port that takes nothing: no head is ready
pub record ServedIdles (side : Side) (W L : ℕ) (p q : ServedPort) : Type 0 where
  pub free : p.left ≡ 0
  pub none_ready : AllByRecursion (λ f. Head (ServedUnready side W L p.clock f.carried) f.waiting) p.flows
  pub flows_are : q.flows ≡ p.flows
  pub left_is : q.left ≡ 0
  pub clock_is : q.clock ≡ p.clock + 1

-- the virtual finish of a is num / den or earlier
abbrev pub DueBy : ℕ → ℕ → ℕ → Carried → Queued → Type 0
DueBy W num den carried a = finish W a * den ≤ carried num den

-- head a of service c may be taken before head b of service d: b is not ready, or its virtual finish is no earlier
abbrev pub ServedPrecedes : Side → ℕ → ℕ → ℕ → Carried → Queued → Carried → Queued → Type 0
ServedPrecedes side W L t c a d b = ServedUnready side W L t d b ⊎ ((num den : ℕ) → 0 < den → DueBy W num den d b → DueBy W num den c a)

-- flow f without the oldest packet
abbrev pub served_taking : List Queued → ServedFlow → ServedFlow
served_taking rest f = record { carried = f.carried; is_open = f.is_open; waiting = rest; last = f.last }

-- a tick of a free port that takes the head a of flow k
pub record ServedTakes (side : Side) (W L k : ℕ) (a : Queued) (p q : ServedPort) : Type 0 where
  pub free : p.left ≡ 0
  pub among : k < length p.flows
  pub rest : List Queued
  pub is_head : (served_flow_at p k).waiting ≡ a ∷ rest
  pub first : AllByRecursion (λ f. Head (ServedPrecedes side W L p.clock (served_flow_at p k).carried a f.carried) f.waiting) p.flows
  pub flows_are : q.flows ≡ slice_set p.flows k (served_taking rest (served_flow_at p k))
  pub left_is : q.left + 1 ≡ a.bytes
  pub clock_is : q.clock ≡ p.clock + 1

-- tick e is at most c ticks after the virtual finish, at which a line has carried f
abbrev pub InTime : ℕ → Carried → ℕ → ℕ → Type 0
InTime c carried f e = carried (e - c) 1 ≤ f
