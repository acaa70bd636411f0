-- A question about the numbers of a flow.
use Rattle.std.specs.Prelude.{◌≡◌, ℕ, ◌+◌, ◌-◌, ◌*◌, ◌^◌, min, cond, length, Ok, Err, Result}
use Rattle.timing.specs.Stamps.{last_scaled}
use Rattle.plan.specs.Numbers.{port_number}
use Rattle.plan.specs.Refusals.{port_refusal, unless}
use Rattle.plan.specs.Weights.{weight_of}
use Rattle.plan.specs.declared.fault.PortFault.{PortFault}
use Rattle.law.specs.Step.{Plan, Switch}
use Rattle.law.specs.Runs.{Answer, answered, refused, numbers}
use Rattle.law.specs.Runs as law
use Rattle.state.specs.declared.numbers.Numbers.{Numbers}
use Rattle.state.specs.State.{State}
use Rattle.state.specs.Lines.{to_output, from_input, carries}

-- how many packets of flow (i, j) the lines of i and j carry now: one each, where they carry one of this flow
abbrev pub on_lines : State → ℕ → ℕ → ℕ
on_lines st i j = cond (carries to_output st.clock j (st.crossing i)) 1 0 + cond (carries from_input st.clock i (st.sending j)) 1 0

-- The numbers of flow (i, j), whose weight is w. Those waiting at the input have not started across; those waiting at the output
-- have wholly crossed and not started out.
abbrev pub numbers_of : State → ℕ → ℕ → ℕ → Numbers
numbers_of st i j w =
    let l = st.ledgers i j in
    record {
      weight = w;
      waiting_in = length (st.lists i j) - l.under_way;
      waiting_out = l.under_way - on_lines st i j;
      held = l.started - l.departed;
      peak = l.peak;
      accepted = l.accepted;
      started = l.started;
      departed = l.departed;
      fluid = min (2 ^ 64 - 1) (st.plan.size.parts * l.accepted - (last_scaled l.last - w * st.clock));
    }

-- what a question answers
abbrev pub ask_answer : State → ℕ → ℕ → Result Numbers PortFault
ask_answer st i j = unless (port_refusal st.plan.size.ports i j) (numbers_of st i j (weight_of st.plan i j))

-- the numbers and the answer, as the law has them
abbrev pub as_told : Numbers → law.Numbers
as_told n =
    record {
      weight = n.weight;
      waiting_at_input = n.waiting_in;
      waiting_at_output = n.waiting_out;
      held_bytes = n.held;
      peak_bytes = n.peak;
      accepted_in_all = n.accepted;
      started_in_all = n.started;
      departed_in_all = n.departed;
      fluid_amount = n.fluid;
    }

abbrev pub ask_told : Result Numbers PortFault → Answer
ask_told (Ok n) = answered (as_told n)
ask_told (Err e) = refused (port_number e)

-- A question in a run that has come to switch s: it leads nowhere, and the numbers answered are those of s.
abbrev pub AskLeads : Plan → ℕ → ℕ → Result Numbers PortFault → Switch → Switch → Type 0
AskLeads plan i j (Ok n) s next = (next ≡ s) × (as_told n ≡ numbers plan s i j)
AskLeads plan i j (Err e) s next = next ≡ s
