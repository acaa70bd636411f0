-- The end of a step as the code makes it: what leaves by one output, and the list written output by output.
use Rattle.std.proofs.Common.{◌≡◌, ℕ, zero, suc, ◌+◌, ◌-◌, ◌%◌, ◌^◌, ◌<◌, ◌≤◌, Bool, true, false, cond, eqb, ltb, List, [], ◌∷◌, ◌++◌, length, drop, set, Some, None, Option, sym, refl, ap, ◌∙◌, subst, add-one, arith, length-append}
use Rattle.std.proofs.lemmas.Bool.{ltb-true}
use Rattle.std.proofs.lemmas.List.{append-nil}
use Rattle.grid.specs.Flows.{with_flow}
use Rattle.store.specs.declared.packet.Packet.{Packet}
use Rattle.state.specs.declared.line.Ledger.{Ledger}
use Rattle.departure.specs.declared.Departure.{Departure}
use Rattle.state.specs.State.{State}
use Rattle.state.specs.Finishes.{ends_at, leaving, finished, finished_with, listed_with, finish_to, listed_to}
use Rattle.state.specs.Lines.{with_line, Line}

guarded : (a b : Bool) (x y : Departure) → cond a (cond b (Some x) None) None ≡ Some y → (b ≡ true) × (x ≡ y)
guarded true true x y e = (refl, cc)
guarded true false x y e = absurd (cc)
guarded false b x y e = absurd (cc)

-- what leaves comes from an input that the switch may have
pub ends_within : (t : ℕ) (line : Line Departure) (d : Departure) → ends_at t line ≡ Some d → d.input < 16
ends_within t None d e = absurd (cc)
ends_within t (Some b) d e =
    let g = guarded (eqb b.until t) (ltb b.load.input 16) b.load d e in
    subst (λ (x : Departure). x.input < 16) g.1 (ltb-true b.load.input 16 g.0)

-- the state after a packet has left, from the parts that the code has at hand
pub finished_is : (st : State) (j : ℕ) (d : Departure) (l : Ledger) (less : ℕ) (ok : Bool) (sending : ℕ → Line Departure) (ledgers : ℕ → ℕ → Ledger) (lists : ℕ → ℕ → List Packet) (counts : ℕ → ℕ → ℕ) →
    leaving st j ≡ Some d → l ≡ st.ledgers d.input j → less ≡ l.under_way - 1 → sending ≡ with_line st.sending j None →
    ledgers ≡ with_flow st.ledgers d.input j record l { departed = (l.departed + d.bytes) % 2 ^ 64; under_way = less } →
    ok ≡ ltb 0 (length (st.lists d.input j)) → lists ≡ cond ok (with_flow st.lists d.input j (drop 1 (st.lists d.input j))) st.lists → counts ≡ st.counts →
    ◌≡◌ {A = State} record st { sending = sending; ledgers = ledgers; lists = lists; counts = counts } (finished st j)
finished_is st j d l less ok sending ledgers lists counts is le ue se de oe li ce =
    let dropped = li ∙ ap (λ v. cond v (with_flow st.lists d.input j (drop 1 (st.lists d.input j))) st.lists) oe in
    (λ k. record st { sending = se k; ledgers = de k; lists = dropped k; counts = ce k })
    ∙ (λ k. record st {
      sending = with_line st.sending j None;
      ledgers = with_flow st.ledgers d.input j record (le k) { departed = ((le k).departed + d.bytes) % 2 ^ 64; under_way = (ue ∙ ap (λ (x : Ledger). x.under_way - 1) le) k };
      lists = cond (ltb 0 (length (st.lists d.input j))) (with_flow st.lists d.input j (drop 1 (st.lists d.input j))) st.lists;
    })
    ∙ (λ k. finished_with (sym is k) st j)

-- a list whose front is written
pub write_next : {X : Type 0} (ls xs : List X) (x : X) → length ls < length xs → set (ls ++ drop (length ls) xs) (length ls) x ≡ (ls ++ x ∷ []) ++ drop (length ls + 1) xs
write_next [] [] x h = absurd (omega arith)
write_next [] (y ∷ xs) x h = refl
write_next (l ∷ ls) [] x h = absurd (omega arith)
write_next (l ∷ ls) (y ∷ xs) x h = ap (λ zs. l ∷ zs) (write_next ls xs x (omega arith)) ∙ ap (λ n. l ∷ ((ls ++ x ∷ []) ++ drop n (y ∷ xs))) e
  where
    e : suc (length ls + 1) ≡ suc (length ls) + 1
    e = omega arith

-- one output more
pub finish_more : (n : ℕ) (st : State) → finish_to (n + 1) st ≡ finished (finish_to n st) n
unfolding finish_to
finish_more n st = ap (λ m. finish_to m st) (add-one n)

pub listed_more : (n : ℕ) (st : State) (o : Option Departure) → leaving (finish_to n st) n ≡ o → listed_to (n + 1) st ≡ listed_to n st ++ listed_with o
unfolding listed_to
listed_more n st o e = ap (λ m. listed_to m st) (add-one n) ∙ ap (λ (x : Option Departure). listed_to n st ++ listed_with x) e

-- the parts of a list being written, after one output more
pub written_as : (count' count : ℕ) (out' out : List Departure) (n : ℕ) (xs : List Departure) (st : State) → count' ≡ count → out' ≡ out → (count ≤ n) × (count ≡ length (listed_to n st)) × (out ≡ listed_to n st ++ drop count xs) →
    (count' ≤ n) × (count' ≡ length (listed_to n st)) × (out' ≡ listed_to n st ++ drop count' xs)
written_as count' count out' out n xs st me oe t =
    (subst (λ m. m ≤ n) (sym me) t.0, me ∙ t.1, oe ∙ t.2 ∙ ap (λ m. listed_to n st ++ drop m xs) (sym me))

pub written_none : (n count : ℕ) (out xs : List Departure) (st : State) → (count ≤ n) × (count ≡ length (listed_to n st)) × (out ≡ listed_to n st ++ drop count xs) → leaving (finish_to n st) n ≡ None →
    (count ≤ n + 1) × (count ≡ length (listed_to (n + 1) st)) × (out ≡ listed_to (n + 1) st ++ drop count xs)
written_none n count out xs st (a, b, c) e =
    let same : listed_to (n + 1) st ≡ listed_to n st = listed_more n st None e ∙ append-nil (listed_to n st) in
    (omega (arith, a), b ∙ ap length (sym same), c ∙ ap (λ (ls : List Departure). ls ++ drop count xs) (sym same))

pub written_some : (n count : ℕ) (d : Departure) (out xs : List Departure) (st : State) → (count ≤ n) × (count ≡ length (listed_to n st)) × (out ≡ listed_to n st ++ drop count xs) → n < length xs → leaving (finish_to n st) n ≡ Some d →
    (count + 1 ≤ n + 1) × (count + 1 ≡ length (listed_to (n + 1) st)) × (set out count d ≡ listed_to (n + 1) st ++ drop (count + 1) xs)
written_some n count d out xs st (a, b, c) room e =
    let same : listed_to (n + 1) st ≡ listed_to n st ++ d ∷ [] = listed_more n st (Some d) e in
    let fits : length (listed_to n st) < length xs = omega (arith, a, b, room) in
    let wrote = write_next (listed_to n st) xs d fits in (
      omega (arith, a),
      omega (arith, b, ap length same, length-append (listed_to n st) (d ∷ [])),
      (λ k. set (c k) count d) ∙ (λ k. set (listed_to n st ++ drop (b k) xs) (b k) d) ∙ wrote ∙ (λ k. sym same k ++ drop (sym b k + 1) xs),
    )

with_few : (o : Option Departure) → length (listed_with o) ≤ 1
with_few None = omega arith
with_few (Some d) = omega arith

-- at most one departure for each output
pub listed_few : (n : ℕ) (st : State) → length (listed_to n st) ≤ n
unfolding listed_to
listed_few zero st = omega arith
listed_few (suc n) st = omega (arith, length-append (listed_to n st) (listed_with (leaving (finish_to n st) n)), with_few (leaving (finish_to n st) n), listed_few n st)
