-- A question carries every run on: the numbers answered are those of the law.
use Rattle.std.proofs.Common.{◌≡◌, ℕ, ◌+◌, ◌-◌, ◌*◌, ◌^◌, ◌<◌, ◌≤◌, min, Bool, true, false, cond, List, ◌∷◌, length, Some, None, Ok, Err, Option, Result, sym, refl, ap, ◌∙◌, subst, mul-le-mul, arith}
use Rattle.plan.specs.Numbers.{port_number}
use Rattle.plan.specs.Refusals.{port_refusal, unless}
use Rattle.plan.specs.Weights.{weight_of}
use Rattle.plan.specs.declared.fault.PortFault.{PortFault}
use Rattle.plan.specs.declared.fault.PortFault.TheVariants as fault
use Rattle.plan.specs.declared.fault.TheConstants.{LAST_TICK}
use Rattle.plan.proofs.Refused.{port_granted}
use Rattle.timing.specs.Fluid.{accepted_bytes, last_finish, fluid}
use Rattle.timing.specs.Stamps.{last_scaled}
use Rattle.timing.proofs.Served.{closed, fluid_le}
use Rattle.law.specs.Journeys.{departed, crossed}
use Rattle.law.specs.Plans.{plan_of}
use Rattle.law.specs.Runs.{Call, ask, Answer, answered, refused, Run, asks, no_ask, numbers}
use Rattle.law.specs.Runs as law
use Rattle.law.specs.Step.{Switch}
use Rattle.law.proofs.SwitchInvariant.{weight_fits}
use Rattle.state.specs.declared.numbers.Numbers.{Numbers}
use Rattle.state.specs.State.{State}
use Rattle.state.specs.Lines.{carries, to_output, from_input}
use Rattle.state.specs.Asks.{numbers_of, ask_answer, as_told, ask_told, AskLeads}
use Rattle.state.specs.Shows.{Moment, CarriesOn}
use Rattle.state.proofs.ExactTotals.{accepted_exact, started_exact, departed_exact}
use Rattle.state.proofs.FlowTakesPacket.{last_known}
use Rattle.state.proofs.ShownFlows.{plan_bookable, flow_in_plan, length_listed, invariant, keeps, accepted_fits}

-- packets that wait at the input: P accepted, d departed, c started across, so u under way
waiting_in : (stored P d u c : ℕ) → stored ≡ P - d → c ≡ d + u → stored - u ≡ P - c
waiting_in stored P d u c a b = omega arith

-- and at the output: n started across, of which c have wholly crossed and x is crossing, and m started out, of which d have departed and y is leaving
waiting_out : (u d c x y n : ℕ) → n ≡ d + u → n ≡ c + x → (m : ℕ) → m ≡ d + y → u - (x + y) ≡ c - m
waiting_out u d c x y n a b m e = omega arith

module _ {M : ℕ} {st : State} {log : List (Call × Answer)} {s : Switch} (now : Moment M st log s) (i j : ℕ) (hi : i < st.plan.size.ports) (hj : j < st.plan.size.ports) where
  fluid_exact : min (2 ^ 64 - 1) (st.plan.size.parts * (st.ledgers i j).accepted - (last_scaled (st.ledgers i j).last - weight_of st.plan i j * st.clock)) ≡ fluid st.plan.size.parts (weight_of st.plan i j) s.clock 0 (s.flow i j).accepted
  fluid_exact =
      let W = st.plan.size.parts in
      let w = weight_of st.plan i j in
      let f = s.flow i j in
      let l = st.ledgers i j in
      let shows = now.shows.flows i j in
      let share = weight_fits (plan_of st.plan) (plan_bookable st.plan) log s (invariant now) i j hi hj in
      let few : st.plan.size.parts ≤ 10000 = st.plan.size.few_parts in
      let low : w ≤ 10000 = omega (arith, share, few) in
      let soon : s.clock ≤ LAST_TICK = omega (arith, now.shows.early) in
      let early : w * s.clock ≤ 10000 * LAST_TICK = mul-le-mul low soon in
      let last : last_scaled l.last ≡ last_finish W w 0 f.accepted = ap last_scaled shows.last_is ∙ last_known W w f.accepted in
      let amount : W * l.accepted ≡ W * accepted_bytes f.accepted = ap (λ n. W * n) (accepted_exact shows (accepted_fits now i j)) in
      ap (λ t. min (2 ^ 64 - 1) (W * l.accepted - (last_scaled l.last - w * t))) now.shows.clock_is
      ∙ omega (arith, last, amount, closed W w s.clock f.accepted 0 shows.arrived_by, fluid_le W w s.clock f.accepted 0, early)

  numbers_exact : as_told (numbers_of st i j (weight_of st.plan i j)) ≡ numbers (plan_of st.plan) s i j
  numbers_exact =
      let f = s.flow i j in
      let l = st.ledgers i j in
      let shows = now.shows.flows i j in
      let fits = accepted_fits now i j in
      let across : ℕ → ℕ = λ t. cond (carries to_output t j (st.crossing i)) 1 0 in
      let out : ℕ → ℕ = λ t. cond (carries from_input t i (st.sending j)) 1 0 in
      let now-out = ap (λ t. l.under_way - (across t + out t)) now.shows.clock_is
      ∙ waiting_out l.under_way (departed s.clock f) (crossed s.clock f) (across s.clock) (out s.clock) (length f.crossings) shows.under_way_is (now.shows.across_now i j hi hj).count (length f.sendings) (now.shows.out_now i j hi hj).count in
      λ k. record {
        weight = weight_of st.plan i j;
        waiting_at_input = waiting_in (length (st.lists i j)) (length f.accepted) (departed s.clock f) l.under_way (length f.crossings) (length_listed now.shows i j) shows.under_way_is k;
        waiting_at_output = now-out k;
        held_bytes = started_exact shows fits k - departed_exact shows fits k;
        peak_bytes = shows.peak_is k;
        accepted_in_all = accepted_exact shows fits k;
        started_in_all = started_exact shows fits k;
        departed_in_all = departed_exact shows fits k;
        fluid_amount = fluid_exact k;
      }

ask_as : (M : ℕ) (st : State) (i j : ℕ) (o : Option PortFault) → port_refusal st.plan.size.ports i j ≡ o →
    let r : Result Numbers PortFault = unless o (numbers_of st i j (weight_of st.plan i j)) in
    CarriesOn (AskLeads (plan_of st.plan) i j r) M st st (ask i j) (ask_told r)
ask_as M st i j None e = λ log s m.
    let ports = flow_in_plan st.plan i j (port_granted st.plan.size.ports i j e) in
    let right = numbers_exact m i j ports.0 ports.1 in
    let m' : Moment M st ((ask i j, answered (as_told (numbers_of st i j (weight_of st.plan i j)))) ∷ log) s = record {
      run = subst (λ (n : law.Numbers). Run (plan_of st.plan) M ((ask i j, answered n) ∷ log) s) (sym right) (asks i j m.run e);
      shows = m.shows;
    } in
    (s, (refl, right), m', keeps m')
ask_as M st i j (Some f) e = λ log s m.
    let m' : Moment M st ((ask i j, refused (port_number f)) ∷ log) s = record { run = no_ask i j f m.run e; shows = m.shows } in
    (s, refl, m', keeps m')

-- a question carries every run on
pub ask_carries : (M : ℕ) (st : State) (i j : ℕ) (r : Result Numbers PortFault) → r ≡ ask_answer st i j → CarriesOn (AskLeads (plan_of st.plan) i j r) M st st (ask i j) (ask_told r)
ask_carries M st i j r e =
    subst (λ (x : Result Numbers PortFault). CarriesOn (AskLeads (plan_of st.plan) i j x) M st st (ask i j) (ask_told x)) (sym e)
    (ask_as M st i j (port_refusal st.plan.size.ports i j) refl)

-- the answer, from the weight that the code has read, and where it has not
pub weight_read : {X : Type 0} (b : Bool) (v w : ℕ) (f : ℕ → X) (x : X) → cond b (Ok v) (Err fault.Port) ≡ Ok w → x ≡ f w → Ok x ≡ unless (cond b None (Some fault.Port)) (f v)
weight_read true v w f x e h = let same : v ≡ w = cc in ap Ok (h ∙ ap f (sym same))
weight_read false v w f x e h = absurd (cc)
