-- A start across as the code makes it: its input is below 16, and the state after it is the one stated.
use Rattle.std.proofs.Common.{◌≡◌, ℕ, ◌+◌, ◌-◌, ◌%◌, ◌^◌, ◌<◌, max, Bool, cond, ltb, List, length, Some, sym, ap, ◌∙◌}
use Rattle.std.specs.List.{slice_get}
use Rattle.std.proofs.lemmas.Option.{slice_get_within}
use Rattle.std.proofs.lemmas.Bool.{lt-ltb}
use Rattle.grid.specs.Flows.{with_flow}
use Rattle.store.specs.Stored.{noted}
use Rattle.store.specs.declared.packet.Packet.{Packet}
use Rattle.state.specs.declared.line.Ledger.{Ledger}
use Rattle.state.specs.State.{State}
use Rattle.state.specs.Crosses.{next_across, crossed_with, starting}
use Rattle.state.specs.Lines.{with_line, Line, busy}

-- the state after a start, from the parts that the code has at hand
pub crossed_is : (st : State) (i j : ℕ) (l : Ledger) (p : Packet) (peak : ℕ) (ok : Bool) (lines : ℕ → Line ℕ) (ledgers : ℕ → ℕ → Ledger) (lists : ℕ → ℕ → List Packet) (counts : ℕ → ℕ → ℕ) →
    lines ≡ with_line st.crossing i (busy j ((st.clock + p.bytes) % 2 ^ 64)) →
    ledgers ≡ with_flow st.ledgers i j record l { started = (l.started + p.bytes) % 2 ^ 64; peak = peak; under_way = (l.under_way + 1) % 2 ^ 64 } →
    l ≡ st.ledgers i j → next_across st i j ≡ Some p → peak ≡ max l.peak ((l.started + p.bytes) % 2 ^ 64 - l.departed) →
    ok ≡ ltb l.under_way (length (st.lists i j)) →
    lists ≡ cond ok (with_flow st.lists i j (noted l.under_way st.clock (st.lists i j))) st.lists → counts ≡ st.counts →
    ◌≡◌ {A = State} record st { crossing = lines; ledgers = ledgers; lists = lists; counts = counts } (crossed_with (next_across st i j) st i j)
crossed_is st i j l p peak ok lines ledgers lists counts ne de le is pe oe li ce =
    let there : l.under_way < length (st.lists i j) = slice_get_within (st.lists i j) l.under_way p (ap (λ (x : Ledger). slice_get (st.lists i j) x.under_way) le ∙ is) in
    let noted-there = li ∙ ap (λ t. cond t (with_flow st.lists i j (noted l.under_way st.clock (st.lists i j))) st.lists) (oe ∙ lt-ltb _ _ there) in
    let line = with_line st.crossing i (busy j ((st.clock + p.bytes) % 2 ^ 64)) in
    (λ k. record st { crossing = ne k; ledgers = de k; lists = noted-there k; counts = ce k })
    ∙ (λ k. record st {
      crossing = line;
      ledgers = with_flow st.ledgers i j record l { started = (l.started + p.bytes) % 2 ^ 64; peak = pe k; under_way = (l.under_way + 1) % 2 ^ 64 };
      lists = with_flow st.lists i j (noted l.under_way st.clock (st.lists i j));
    })
    ∙ (λ k. record st {
      crossing = line;
      ledgers = with_flow st.ledgers i j (starting p.bytes (le k));
      lists = with_flow st.lists i j (noted (le k).under_way st.clock (st.lists i j));
    })
    ∙ (λ k. crossed_with (sym is k) st i j)
