-- Where an item may stand, and what an arrival was read from. Assumes nothing.
use Rattle.std.proofs.Common.{◌≡◌, ℕ, ◌+◌, ◌^◌, ◌<◌, ◌≤◌, Bool, true, false, cond, eqb, ltb, List, [], ◌∷◌, ◌++◌, length, Some, None, Ok, Err, Option, Result, refl, ap, subst, arith}
use Rattle.std.proofs.lemmas.Bool.{ltb-false, eqb-true}
use Rattle.std.proofs.lemmas.List.{length-append}
use Rattle.runfile.specs.Bodies.{head_of, share_of, arrival_of}
use Rattle.runfile.specs.File.{AreBytes}
use Rattle.runfile.specs.Records.{body_length}
use Rattle.runfile.specs.Order.{Item, head, share, seal, arrival, end, Phase, Opening, Booking, Running, Ended, head_item, item_of, next_item}
use Rattle.runfile.specs.declared.body.Head.{Head}
use Rattle.runfile.specs.declared.body.Arrival.{Arrival}
use Rattle.runfile.specs.declared.fault.Cause.{Cause}
use Rattle.runfile.specs.declared.fault.Cause.TheVariants.{Read}
use Rattle.runfile.specs.declared.fault.ReadFault.TheVariants.{OutOfOrder, EarlyTick}
use Rattle.runfile.proofs.Parts.{err≢ok, from_next}
use Rattle.runfile.proofs.Bytes.{bytes_left, sized}

abbrev pub MayStand : Phase → Item → Type 0
MayStand phase (head h) = phase ≡ Opening
MayStand phase (share s) = phase ≡ Booking
MayStand phase seal = phase ≡ Booking
MayStand phase (arrival a) = (clock : ℕ) × (phase ≡ Running clock) × (clock ≤ a.tick)
MayStand phase end = (clock : ℕ) × (phase ≡ Running clock)

-- an item that is told stands as it does
told : (phase : Phase) (j i : Item) → MayStand phase j → ◌≡◌ {A = Result Item Cause} (Ok j) (Ok i) → MayStand phase i
told phase j i h e = let same : j ≡ i = cc in subst (λ (k : Item). MayStand phase k) same h

module _ (body : List ℕ) (i : Item) where
  opening : (one : Bool) (o : Option Head) → cond one (head_item o) (Err (Read OutOfOrder)) ≡ Ok i → MayStand Opening i
  opening true None e = absurd (err≢ok e)
  opening true (Some h) e = told Opening (head h) i refl e
  opening false o e = absurd (err≢ok e)

  booking : (two three : Bool) → cond two (Ok (share (share_of body))) (cond three (Ok seal) (Err (Read OutOfOrder))) ≡ Ok i → MayStand Booking i
  booking true three e = told Booking (share (share_of body)) i refl e
  booking false true e = told Booking seal i refl e
  booking false false e = absurd (err≢ok e)

  running : (clock : ℕ) (four early five : Bool) → ltb (arrival_of body).tick clock ≡ early →
      cond four (cond early (Err (Read EarlyTick)) (Ok (arrival (arrival_of body)))) (cond five (Ok end) (Err (Read OutOfOrder))) ≡ Ok i → MayStand (Running clock) i
  running clock true true five l e = absurd (err≢ok e)
  running clock true false five l e = told (Running clock) (arrival (arrival_of body)) i (clock, refl, ltb-false (arrival_of body).tick clock l) e
  running clock false early true l e = told (Running clock) end i (clock, refl) e
  running clock false early false l e = absurd (err≢ok e)

item_stands : (phase : Phase) (kind : ℕ) (body : List ℕ) (i : Item) → item_of phase kind body ≡ Ok i → MayStand phase i
item_stands Opening kind body i e = opening body i (eqb kind 1) (head_of body) e
item_stands Booking kind body i e = booking body i (eqb kind 2) (eqb kind 3) e
item_stands (Running clock) kind body i e = running body i clock (eqb kind 4) (ltb (arrival_of body).tick clock) (eqb kind 5) refl e
item_stands Ended kind body i e = absurd (err≢ok e)

pub next_stands : (n : ℕ) (phase : Phase) (bytes : List ℕ) (i : Item) (left : List ℕ) → next_item n phase bytes ≡ Ok (i, left) → MayStand phase i
next_stands n phase bytes i left e = let f = from_next n phase bytes i left e in item_stands phase f.part.kind f.part.body i f.means

-- an arrival is read from a record of its kind
arrival_kind : (clock kind : ℕ) (body : List ℕ) (a : Arrival) → item_of (Running clock) kind body ≡ Ok (arrival a) → (kind ≡ 4) × (arrival_of body ≡ a)
arrival_kind clock kind body a e = go (eqb kind 4) refl (ltb (arrival_of body).tick clock) (eqb kind 5) e
  where
    go : (four : Bool) → eqb kind 4 ≡ four → (early five : Bool) →
        cond four (cond early (Err (Read EarlyTick)) (Ok (arrival (arrival_of body)))) (cond five (Ok end) (Err (Read OutOfOrder))) ≡ Ok (arrival a) → (kind ≡ 4) × (arrival_of body ≡ a)
    go true k true five e = absurd (err≢ok e)
    go true k false five e = (eqb-true kind 4 k, cc)
    go false k early true e = absurd (let z : ◌≡◌ {A = ℕ} 0 1 = cc in omega arith)
    go false k early false e = absurd (err≢ok e)

-- it takes eight bytes, and its tick three of them
early_tick : (body : List ℕ) → length body ≡ 7 → AreBytes body → (arrival_of body).tick < 2 ^ 24
early_tick (a ∷ b ∷ c ∷ more) l (pa, (pb, (pc, rest))) = omega arith
early_tick [] l all = absurd (omega arith)
early_tick (a ∷ []) l all = absurd (omega arith)
early_tick (a ∷ b ∷ []) l all = absurd (omega arith)

pub arrival_read : (n clock : ℕ) (bytes : List ℕ) (a : Arrival) (left : List ℕ) → next_item n (Running clock) bytes ≡ Ok (arrival a, left) →
    (length left + 8 ≡ length bytes) × (AreBytes bytes → a.tick < 2 ^ 24)
arrival_read n clock bytes a left e =
    let f = from_next n (Running clock) bytes (arrival a) left e in
    let known = arrival_kind clock f.part.kind f.part.body a f.means in
    let body : length f.part.body ≡ 7 = sized f.part.kind 7 f.part.body f.front.size (ap body_length known.0) in
    let all = ap length f.front.split in
    let joined = length-append f.part.body f.part.rest in
    let rest = ap length f.rest in (
      omega arith,
      λ bytes-all.
          let whole : AreBytes (f.part.kind ∷ (f.part.body ++ f.part.rest)) = subst AreBytes f.front.split bytes-all in
          subst (λ (b : Arrival). b.tick < 2 ^ 24) known.1 (early_tick f.part.body body (bytes_left f.part.body f.part.rest whole.1)),
    )
