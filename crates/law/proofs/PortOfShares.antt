-- A port whose flows have shares is one of any service: it keeps the invariant, and each packet passes it on time.
use Rattle.std.proofs.Common.{◌≡◌, ℕ, ◌+◌, ◌*◌, ◌<◌, ◌≤◌, ltb, List, [], ◌∷◌, map, length, set, sum, refl, sym, ap, ◌∙◌, subst, inl, inr, arith}
use Rattle.std.specs.List.{AllByRecursion}
use Rattle.std.proofs.ByRecursion.{All-from_get_or, All-weaker}
use Rattle.std.proofs.lemmas.List.{get_or-map, length-map, map-set}
use Rattle.std.proofs.lemmas.Simd.{map-map}
use Rattle.std.proofs.lemmas.Bool.{ltb-true, lt-ltb}
use Rattle.law.specs.Queues.{Queued, finish}
use Rattle.law.specs.Port.{Flow, Port, Side, Head, Unready, Precedes, Opened, Arrives, Sends, Idles, Takes, Taken, PortRun, Within, OnTime, unused, flow_at, accepting, taking, lateness, open_count}
use Rattle.law.proofs.Service.{Carried}
use Rattle.law.proofs.PortSteps.{ServedFlow, ServedPort, ServedUnready, ServedPrecedes, ServedOpened, ServedArrives, ServedSends, ServedIdles, ServedTakes, InTime, served_unused, closed, served_flow_at, served_accepting, served_taking}
use Rattle.law.proofs.ConstantShare.{at_share, constant, constants_open, on_one_line, in_time, within, due_before}
use Rattle.law.proofs.PortInvariant.{Chain, Chained, Sound}
use Rattle.law.proofs.PortInvariantKept.{opened_sound, arrives_sound, sends_sound, idles_sound, takes_sound}
use Rattle.law.proofs.PortOnTime.{head_within, flow_within}

-- a flow and a port with shares, as such of any service
abbrev served_flow : Flow → ServedFlow
served_flow f = record { carried = at_share f.weight; is_open = ltb 0 f.weight; waiting = f.waiting; last = f.last }

abbrev served_port : Port → ServedPort
served_port q = record { flows = map served_flow q.flows; left = q.left; clock = q.clock }

module _ (p : Port) (k : ℕ) (among : k < length p.flows) where
  flow_is : served_flow_at (served_port p) k ≡ served_flow (flow_at p k)
  flow_is = get_or-map served_flow p.flows k (unused 0) (served_unused closed) among

  among_is : k < length (map served_flow p.flows)
  among_is = rw length-map among

  -- flow k is replaced by g of it, which is h of it with any service
  replaced : (q : Port) (g : Flow → Flow) (h : ServedFlow → ServedFlow) → ((f : Flow) → served_flow (g f) ≡ h (served_flow f)) → q.flows ≡ set p.flows k (g (flow_at p k)) → map served_flow q.flows ≡ set (map served_flow p.flows) k (h (served_flow_at (served_port p) k))
  replaced q g h same e =
      ap (map served_flow) e
      ∙ map-set served_flow p.flows k (g (flow_at p k))
      ∙ ap (set (map served_flow p.flows) k) (same (flow_at p k) ∙ ap h (sym flow_is))

-- what is said of a head
head_weaker : (P Q : Queued → Type 0) → ((a : Queued) → P a → Q a) → (ps : List Queued) → Head P ps → Head Q ps
head_weaker P Q f [] h = tt
head_weaker P Q f (a ∷ ps) h = f a h

served_unready : (side : Side) (W L t w : ℕ) (a : Queued) → Unready side W L t w a → ServedUnready side W L t (at_share w) a
served_unready Side.input W L t w a u = u
served_unready Side.output W L t w a u = in_time L w (finish W a) (t + 1) u

served_precedes : (side : Side) (W L t v w : ℕ) (a b : Queued) → 0 < w → Precedes side W L t v a w b → ServedPrecedes side W L t (at_share v) a (at_share w) b
served_precedes side W L t v w a b pos (inl u) = inl (served_unready side W L t w b u)
served_precedes side W L t v w a b pos (inr h) = inr (due_before W v w a b pos h)

module _ (side : Side) (W L t : ℕ) where
  unready_heads : (fs : List Flow) → AllByRecursion (λ f. Head (Unready side W L t f.weight) f.waiting) fs → AllByRecursion (λ f. Head (ServedUnready side W L t f.carried) f.waiting) (map served_flow fs)
  unready_heads [] h = tt
  unready_heads (f ∷ fs) h =
      (head_weaker _ (ServedUnready side W L t (at_share f.weight)) (served_unready side W L t f.weight) f.waiting h.0, unready_heads fs h.1)

  -- a flow that has a packet is open
  preceded_heads : (v : ℕ) (a : Queued) (fs : List Flow) → AllByRecursion (Chained W L) (map served_flow fs) → AllByRecursion (λ f. Head (Precedes side W L t v a f.weight) f.waiting) fs → AllByRecursion (λ f. Head (ServedPrecedes side W L t (at_share v) a f.carried) f.waiting) (map served_flow fs)
  preceded_heads v a [] c h = tt
  preceded_heads v a (f ∷ fs) c h = (head f.waiting c.0 h.0, preceded_heads v a fs c.1 h.1)
    where
      head : (ps : List Queued) → Chain W L (ltb 0 f.weight) 0 ps f.last → Head (Precedes side W L t v a f.weight) ps → Head (ServedPrecedes side W L t (at_share v) a (at_share f.weight)) ps
      head [] d g = tt
      head (b ∷ more) d g = served_precedes side W L t v f.weight a b (ltb-true 0 f.weight d.0) g

-- the steps of a port with shares are steps of it with any service
served_opened : (weights : List ℕ) (q : Port) → Opened weights q → ServedOpened (map constant weights) (served_port q)
served_opened weights q o =
    record {
      flows_are = ap (map served_flow) o.flows_are ∙ map-map served_flow unused weights ∙ sym (map-map served_unused constant weights);
      left_is = o.left_is;
      clock_is = o.clock_is;
    }

served_arrives : (W L k b : ℕ) (p q : Port) → Arrives W L k b p q → ServedArrives W L k b (served_port p) (served_port q)
served_arrives W L k b p q a =
    record {
      among = among_is p k a.among;
      is_open = ap (λ (f : ServedFlow). f.is_open) (flow_is p k a.among) ∙ lt-ltb 0 (flow_at p k).weight a.is_open;
      some_bytes = a.some_bytes;
      not_long = a.not_long;
      flows_are = replaced p k a.among q (accepting W p.clock b) (served_accepting W p.clock b) (λ f. refl) a.flows_are;
      left_is = a.left_is;
      clock_is = a.clock_is;
    }

served_sends : (p q : Port) → Sends p q → ServedSends (served_port p) (served_port q)
served_sends p q a = record { flows_are = ap (map served_flow) a.flows_are; left_is = a.left_is; clock_is = a.clock_is }

served_idles : (side : Side) (W L : ℕ) (p q : Port) → Idles side W L p q → ServedIdles side W L (served_port p) (served_port q)
served_idles side W L p q a =
    record {
      free = a.free;
      none_ready = unready_heads side W L p.clock p.flows a.none_ready;
      flows_are = ap (map served_flow) a.flows_are;
      left_is = a.left_is;
      clock_is = a.clock_is;
    }

served_takes : (side : Side) (W L k : ℕ) (a : Queued) (p q : Port) → AllByRecursion (Chained W L) (map served_flow p.flows) → Takes side W L k a p q → ServedTakes side W L k a (served_port p) (served_port q)
served_takes side W L k a p q chains m =
    let is-flow = flow_is p k m.among in
    record {
      free = m.free;
      among = among_is p k m.among;
      rest = m.rest;
      is_head = ap (λ (f : ServedFlow). f.waiting) is-flow ∙ m.is_head;
      first =
          subst (λ (c : Carried). AllByRecursion (λ f. Head (ServedPrecedes side W L p.clock c a f.carried) f.waiting) (map served_flow p.flows))
          (ap (λ (f : ServedFlow). f.carried) (sym is-flow)) (preceded_heads side W L p.clock (flow_at p k).weight a p.flows chains m.first);
      flows_are = replaced p k m.among q (taking m.rest) (served_taking m.rest) (λ f. refl) m.flows_are;
      left_is = m.left_is;
      clock_is = m.clock_is;
    }

-- what the invariant gives
module _ (side : Side) (W L n : ℕ) (q : Port) (s : Sound side W L n (served_port q)) where
  -- each packet that waits can still be on time
  waiting_within : AllByRecursion (λ f. AllByRecursion (λ a. Within (lateness side L n) f.weight (finish W a) (q.clock + q.left + a.bytes)) f.waiting) q.flows
  waiting_within =
      All-from_get_or (λ f. AllByRecursion (λ a. Within (lateness side L n) f.weight (finish W a) (q.clock + q.left + a.bytes)) f.waiting) q.flows (unused 0)
      (λ k among.
      let w = (flow_at q k).weight in
      let here = subst (λ (f : ServedFlow). AllByRecursion (λ a. InTime (lateness side L n) f.carried (finish W a) (q.clock + q.left + a.bytes)) f.waiting)
      (flow_is q k among) (flow_within side W L n (served_port q) s k (among_is q k among)) in
      All-weaker _ (λ a. Within (lateness side L n) w (finish W a) (q.clock + q.left + a.bytes))
      (λ a. within (lateness side L n) w (finish W a) (q.clock + q.left + a.bytes)) (flow_at q k).waiting here)

  -- a packet is on time when it is taken
  taken_within : (k : ℕ) (a : Queued) (r : Port) → Takes side W L k a q r → Within (lateness side L n) (flow_at q k).weight (finish W a) (q.clock + a.bytes)
  taken_within k a r m =
      let w = (flow_at q k).weight in
      let is-flow = flow_is q k m.among in
      let head = head_within side W L n (served_port q) s k a m.rest (among_is q k m.among) (ap (λ (f : ServedFlow). f.waiting) is-flow ∙ m.is_head) in
      let here = subst (λ (c : Carried). InTime (lateness side L n) c (finish W a) (q.clock + q.left + a.bytes)) (ap (λ (f : ServedFlow). f.carried) is-flow) head in
      omega (arith, within (lateness side L n) w (finish W a) (q.clock + q.left + a.bytes) here, ap (λ (l : ℕ). w * l) m.free)

module _ (side : Side) (W L : ℕ) (weights : List ℕ) (some : 0 < L) (fits : sum weights ≤ W) where
  abbrev n : ℕ
  n = open_count weights

  -- every run keeps the invariant, and has taken each packet on time
  run_sound : {log : List Taken} {q : Port} → PortRun side W L weights log q → Sound side W L n (served_port q) × AllByRecursion (λ x. Within (lateness side L n) x.weight x.finish_at x.end) log
  run_sound (PortRun.opened {q} o) = (
    opened_sound W L side n (map constant weights) (served_port q) (on_one_line W weights fits) (omega (arith, constants_open weights)) (served_opened weights q o),
    tt,
  )
  run_sound (PortRun.arrives {log} {p} {q} k b r a) =
      let before = run_sound r in
      (arrives_sound W L side n k b (served_port p) (served_port q) before.0 (served_arrives W L k b p q a), before.1)
  run_sound (PortRun.sends {log} {p} {q} r a) =
      let before = run_sound r in
      (sends_sound W L side n (served_port p) (served_port q) before.0 (served_sends p q a), before.1)
  run_sound (PortRun.idles {log} {p} {q} r a) =
      let before = run_sound r in
      (idles_sound side W L n (served_port p) (served_port q) some before.0 (served_idles side W L p q a), before.1)
  run_sound (PortRun.takes {log} {p} {q} k a r m) =
      let before = run_sound r in (
        takes_sound side W L n k a (served_port p) (served_port q) before.0 (served_takes side W L k a p q before.0.chains m),
        (taken_within side W L n p before.0 k a q m, before.1),
      )

  pub run_on_time : (log : List Taken) (q : Port) → PortRun side W L weights log q → OnTime (lateness side L n) W log q
  run_on_time log q r =
      let sound = run_sound r in
      record { taken = sound.1; waiting = waiting_within side W L n q sound.0 }
