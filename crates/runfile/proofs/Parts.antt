-- What an item that was read says of the bytes that it was read from. Assumes nothing.
use Rattle.std.proofs.Common.{◌≡◌, ℕ, ◌-◌, ◌<◌, ◌≤◌, Bool, true, false, cond, eqb, ltb, leb, List, [], ◌∷◌, ◌++◌, length, take, drop, Some, None, Ok, Err, Option, Result, sym, refl, ap, ◌∙◌, subst, ⊎_elim, arith}
use Rattle.std.proofs.lemmas.List.{take-append-drop, length-append, length-take-le}
use Rattle.std.proofs.lemmas.Bool.{leb-true, ltb-false, cases_Bool, cond-true, cond-false}
use Rattle.runfile.specs.Records.{Part, body_length, part_of, first_record}
use Rattle.runfile.specs.Order.{Item, head, share, seal, arrival, end, Phase, Running, Ended, item_of, with_rest, placed, item_in, next_item}
use Rattle.runfile.specs.Bodies.{arrival_of}
use Rattle.runfile.specs.declared.body.Arrival.{Arrival}
use Rattle.runfile.specs.declared.fault.Cause.{Cause}
use Rattle.runfile.specs.declared.fault.Cause.TheVariants.{Read}
use Rattle.runfile.specs.declared.fault.ReadFault.TheVariants.{OutOfOrder, EarlyTick}
use Rattle.runfile.specs.declared.fault.Fault.{Fault}

pub err≢ok : {T E : Type 0} {y : E} {x : T} → Err y ≡ Ok x → ⊥
err≢ok e = let z : ◌≡◌ {A = ℕ} 0 1 = cc in omega arith

-- a part stands at the front of the bytes: its kind, its body of the kind's length, and the rest
pub record Front (bytes : List ℕ) (p : Part) : Type 0 where
  pub split : bytes ≡ p.kind ∷ (p.body ++ p.rest)
  pub size : body_length p.kind ≡ Some (length p.body)

part_ok : (n at kind : ℕ) (more : List ℕ) (size : Option ℕ) → size ≡ body_length kind → (p : Part) → part_of n at kind more size ≡ Ok p → Front (kind ∷ more) p
part_ok n at kind more None s p e = absurd (err≢ok e)
part_ok n at kind more (Some size) s p e =
    ⊎_elim
    (λ (t : leb size (length more) ≡ true).
    let long = leb-true size (length more) t in
    let made : Part = record { kind = kind; place = at; body = take size more; rest = drop size more } in
    let same : ◌≡◌ {A = Result Part Fault} (Ok made) (Ok p) = sym (cond-true _ _ _ t) ∙ e in
    let is : made ≡ p = cc in
    let front : Front (kind ∷ more) made =
    record {
      split = ap (λ xs. kind ∷ xs) (sym (take-append-drop size more));
      size = sym s ∙ ap (λ k. Some k) (sym (length-take-le size more long));
    } in
    subst (λ (q : Part). Front (kind ∷ more) q) is front)
    (λ (t : leb size (length more) ≡ false). absurd (err≢ok (sym (cond-false _ _ _ t) ∙ e)))
    (cases_Bool (leb size (length more)))

pub front_of : (n : ℕ) (bytes : List ℕ) (p : Part) → first_record n bytes ≡ Ok p → Front bytes p
front_of n [] p e = absurd (err≢ok e)
front_of n (kind ∷ more) p e = part_ok n (n - length (kind ∷ more)) kind more (body_length kind) refl p e

-- what a pair in an `Ok` holds
pub both_parts : {A B E : Type 0} {a c : A} {b d : B} → ◌≡◌ {A = Result (A × B) E} (Ok (a, b)) (Ok (c, d)) → (a ≡ c) × (b ≡ d)
both_parts {A} {B} {E} {a} {c} {b} {d} e =
    let q : ◌≡◌ {A = A × B} (a, b) (c, d) = cc in (ap (λ (x : A × B). x.0) q, ap (λ (x : A × B). x.1) q)

with_rest_ok : (n : ℕ) (j : Item) (rest : List ℕ) (i : Item) (left : List ℕ) → with_rest n j rest ≡ Ok (i, left) → (j ≡ i) × (rest ≡ left)
with_rest_ok n (head h) rest i left e = both_parts e
with_rest_ok n (share s) rest i left e = both_parts e
with_rest_ok n seal rest i left e = both_parts e
with_rest_ok n (arrival a) rest i left e = both_parts e
with_rest_ok n end [] i left e = both_parts e
with_rest_ok n end (b ∷ bs) i left e = absurd (err≢ok e)

placed_ok : (n : ℕ) (p : Part) (r : Result Item Cause) (i : Item) (left : List ℕ) → placed n p r ≡ Ok (i, left) → (r ≡ Ok i) × (p.rest ≡ left)
placed_ok n p (Err c) i left e = absurd (err≢ok e)
placed_ok n p (Ok j) i left e = let q = with_rest_ok n j p.rest i left e in (ap (λ k. Ok k) q.0, q.1)

-- an item was read from a part, and the bytes left are those behind the part
pub record From (n : ℕ) (phase : Phase) (bytes : List ℕ) (i : Item) (left : List ℕ) : Type 0 where
  pub part : Part
  pub front : Front bytes part
  pub means : item_of phase part.kind part.body ≡ Ok i
  pub rest : part.rest ≡ left

item_ok : (n : ℕ) (phase : Phase) (bytes : List ℕ) (r : Result Part Fault) → first_record n bytes ≡ r → (i : Item) (left : List ℕ) → item_in n phase r ≡ Ok (i, left) → From n phase bytes i left
item_ok n phase bytes (Err f) is i left e = absurd (err≢ok e)
item_ok n phase bytes (Ok p) is i left e =
    let q = placed_ok n p (item_of phase p.kind p.body) i left e in
    record { part = p; front = front_of n bytes p is; means = q.0; rest = q.1 }

pub from_next : (n : ℕ) (phase : Phase) (bytes : List ℕ) (i : Item) (left : List ℕ) → next_item n phase bytes ≡ Ok (i, left) → From n phase bytes i left
from_next n phase bytes i left e = item_ok n phase bytes (first_record n bytes) refl i left e

-- nothing is left behind the end
end_rest : (n : ℕ) (j : Item) (rest : List ℕ) (left : List ℕ) → with_rest n j rest ≡ Ok (end, left) → left ≡ []
end_rest n (head h) rest left e = absurd (let d = (both_parts e).0 in let z : ◌≡◌ {A = ℕ} 0 1 = cc in omega arith)
end_rest n (share s) rest left e = absurd (let d = (both_parts e).0 in let z : ◌≡◌ {A = ℕ} 0 1 = cc in omega arith)
end_rest n seal rest left e = absurd (let d = (both_parts e).0 in let z : ◌≡◌ {A = ℕ} 0 1 = cc in omega arith)
end_rest n (arrival a) rest left e = absurd (let d = (both_parts e).0 in let z : ◌≡◌ {A = ℕ} 0 1 = cc in omega arith)
end_rest n end [] left e = sym (both_parts e).1
end_rest n end (b ∷ bs) left e = absurd (err≢ok e)

end_placed : (n : ℕ) (p : Part) (r : Result Item Cause) (left : List ℕ) → placed n p r ≡ Ok (end, left) → left ≡ []
end_placed n p (Err c) left e = absurd (err≢ok e)
end_placed n p (Ok j) left e = end_rest n j p.rest left e

end_item : (n : ℕ) (phase : Phase) (r : Result Part Fault) (left : List ℕ) → item_in n phase r ≡ Ok (end, left) → left ≡ []
end_item n phase (Err f) left e = absurd (err≢ok e)
end_item n phase (Ok p) left e = end_placed n p (item_of phase p.kind p.body) left e

pub end_is_last : (n : ℕ) (phase : Phase) (bytes left : List ℕ) → next_item n phase bytes ≡ Ok (end, left) → left ≡ []
end_is_last n phase bytes left e = end_item n phase (first_record n bytes) left e

-- nothing is read once the end is read
pub ended_none : (n : ℕ) (bytes : List ℕ) (i : Item) (left : List ℕ) → next_item n Ended bytes ≡ Ok (i, left) → ⊥
ended_none n bytes i left e = err≢ok (from_next n Ended bytes i left e).means

-- an arrival is no earlier than the clock
arrival_means : (clock kind : ℕ) (body : List ℕ) (b : Arrival) → item_of (Running clock) kind body ≡ Ok (arrival b) → clock ≤ b.tick
arrival_means clock kind body b e = go (eqb kind 4) (ltb (arrival_of body).tick clock) refl (eqb kind 5) e
  where
    go : (four early : Bool) → ltb (arrival_of body).tick clock ≡ early → (five : Bool) →
        cond four (cond early (Err (Read EarlyTick)) (Ok (arrival (arrival_of body)))) (cond five (Ok end) (Err (Read OutOfOrder))) ≡ Ok (arrival b) → clock ≤ b.tick
    go true true l five e = absurd (err≢ok e)
    go true false l five e = let same : (arrival_of body).tick ≡ b.tick = cc in omega (arith, same, ltb-false (arrival_of body).tick clock l)
    go false early l true e = absurd (let z : ◌≡◌ {A = ℕ} 0 1 = cc in omega arith)
    go false early l false e = absurd (err≢ok e)

pub arrival_after : (n clock : ℕ) (bytes : List ℕ) (b : Arrival) (left : List ℕ) → next_item n (Running clock) bytes ≡ Ok (arrival b, left) → clock ≤ b.tick
arrival_after n clock bytes b left e =
    let f = from_next n (Running clock) bytes (arrival b) left e in
    arrival_means clock f.part.kind f.part.body b f.means

-- each item takes at least a byte
pub shorter : (n : ℕ) (phase : Phase) (bytes : List ℕ) (i : Item) (left : List ℕ) → next_item n phase bytes ≡ Ok (i, left) → length left < length bytes
shorter n phase bytes i left e =
    let f = from_next n phase bytes i left e in
    let a = ap length f.front.split in
    let b = length-append f.part.body f.part.rest in
    let c = ap length f.rest in
    omega arith
