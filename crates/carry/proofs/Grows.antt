-- Laws of a text that is appended, piece by piece, to a vector. Assumes nothing.
use Rattle.std.proofs.Common.{◌≡◌, ℕ, ◌+◌, ◌<◌, Bool, true, false, cond, ◌&&◌, ltb, List, [], ◌++◌, length, get_or, take, drop, Ok, Err, Result, sym, refl, ap, ◌∙◌, subst, arith}
use Rattle.std.proofs.lemmas.List.{append-nil, append_assoc, take_all, take_more, take-take, take-append-drop, length-append, flat_map_more}
use Rattle.std.proofs.lemmas.Grind.{flat_map-append}
use Rattle.std.specs.List.{flat_map}
use Rattle.std.proofs.lemmas.Bool.{both_ways, lt-ltb}
use Rattle.plan.specs.Weights.{weight_of, has_flow}
use Rattle.plan.specs.declared.table.Plan.{Plan}
use Rattle.plan.specs.declared.fault.PortFault.{PortFault}
use Rattle.plan.specs.declared.fault.PortFault.TheVariants.{Port}
use Rattle.carry.specs.Lines.{join_below}
use Rattle.carry.specs.Lists.{Appends}
use Rattle.carry.proofs.Joins.{join_none, join_more, join_front}

-- nothing
pub append_none : (before : List ℕ) (room : ℕ) → Appends [] before before room room true
append_none before room =
    record {
      done = λ _. sym (append-nil before);
      short = λ e. absurd (both_ways true e refl);
      keeps = take_all (length before) before (omega arith);
      grows = omega arith;
    }

-- a piece fails, and so does the text that begins with it
pub append_fails : (s t a b : List ℕ) (room more : ℕ) → Appends s a b room more false → Appends (s ++ t) a b room more false
append_fails s t a b room more h =
    record {
      done = λ e. absurd (both_ways false refl e);
      short = λ _. omega (arith, h.short refl, length-append s t);
      keeps = h.keeps;
      grows = h.grows;
    }

-- one piece after another
pub append_then : (s t a b c : List ℕ) (room more most : ℕ) (ok : Bool) → Appends s a b room more true → Appends t b c more most ok → Appends (s ++ t) a c room most ok
append_then s t a b c room more most ok first next =
    let is = first.done refl in
    let long = ap length is ∙ length-append a s in
    record {
      done = λ e. next.done e ∙ ap (λ (xs : List ℕ). xs ++ t) is ∙ append_assoc a s t;
      short = λ e. omega (arith, next.short e, first.grows, length-append s t);
      keeps =
          sym (take-take (length a) (length b) c (omega arith))
          ∙ ap (λ (xs : List ℕ). take (length a) xs) next.keeps
          ∙ first.keeps;
      grows = omega (arith, first.grows, next.grows);
    }

-- the pieces of a numbered text, one after another
module _ (f : ℕ → List ℕ) (a b c : List ℕ) (room more most k : ℕ) (first : Appends (join_below k f) a b room more true) where
  pub pieces_more : Appends (f k) b c more most true → Appends (join_below (k + 1) f) a c room most true
  pieces_more next =
      subst (λ (xs : List ℕ). Appends xs a c room most true) (sym (join_more k f))
      (append_then (join_below k f) (f k) a b c room more most true first next)

  pub pieces_fail : (n : ℕ) → k < n → Appends (f k) b c more most false → Appends (join_below n f) a c room most false
  pieces_fail n h next =
      let rest = join_front (k + 1) n f (omega arith) in
      let here = append_then (join_below k f) (f k) a b c room more most false first next in
      let sofar = subst (λ (xs : List ℕ). Appends xs a c room most false) (sym (join_more k f)) here in
      subst (λ (xs : List ℕ). Appends xs a c room most false) (sym rest.1) (append_fails (join_below (k + 1) f) rest.0 a c room most sofar)

pub pieces_none : (f : ℕ → List ℕ) (a : List ℕ) (room : ℕ) → Appends (join_below 0 f) a a room room true
pieces_none f a room = subst (λ (xs : List ℕ). Appends xs a a room room true) (sym (join_none f)) (append_none a room)

-- the lines of the things of a list, one after another
module _ {X : Type 0} (f : X → List ℕ) (xs : List X) (a b c : List ℕ) (room more most k : ℕ) (d : X) (within : k < length xs) (first : Appends (flat_map f (take k xs)) a b room more true) where
  pub each_fails : Appends (f (get_or xs k d)) b c more most false → Appends (flat_map f xs) a c room most false
  each_fails next =
      let here : flat_map f (take k xs) ++ f (get_or xs k d) ≡ flat_map f (take (k + 1) xs) = flat_map_more f [] (take k xs) (get_or xs k d) ∙ ap (λ ys. flat_map f ys) (sym (take_more xs k d within)) in
      let all : flat_map f (take (k + 1) xs) ++ flat_map f (drop (k + 1) xs) ≡ flat_map f xs = sym (flat_map-append f (take (k + 1) xs) (drop (k + 1) xs)) ∙ ap (λ ys. flat_map f ys) (take-append-drop (k + 1) xs) in
      let sofar = subst (λ (ys : List ℕ). Appends ys a c room most false) here (append_then (flat_map f (take k xs)) (f (get_or xs k d)) a b c room more most false first next) in
      subst (λ (ys : List ℕ). Appends ys a c room most false) all (append_fails (flat_map f (take (k + 1) xs)) (flat_map f (drop (k + 1) xs)) a c room most sofar)

-- a plan's answer for a flow that it has
open_answer : {E : Type 0} (x : E) (a b told is : Bool) → ◌≡◌ {A = Result Bool E} (Ok told) (cond (a && b) (Ok is) (Err x)) → a ≡ true → b ≡ true → told ≡ is
open_answer x true true told is e ha hb = cc
open_answer x true false told is e ha hb = absurd (both_ways false refl hb)
open_answer x false b told is e ha hb = absurd (both_ways false refl ha)

pub told_open : (p plan : Plan) → p ≡ plan → (i j : ℕ) → i < plan.size.ports → j < plan.size.ports → (told : Bool) →
    ◌≡◌ {A = Result Bool PortFault} (Ok told) (cond (has_flow p i j) (Ok (ltb 0 (weight_of p i j))) (Err Port)) → ltb 0 (weight_of plan i j) ≡ told
told_open p plan same i j hi hj told e =
    let there = subst (λ (q : Plan). ◌≡◌ {A = Result Bool PortFault} (Ok told) (cond (has_flow q i j) (Ok (ltb 0 (weight_of q i j))) (Err Port))) same e in
    sym (open_answer Port (ltb i plan.size.ports) (ltb j plan.size.ports) told (ltb 0 (weight_of plan i j)) there (lt-ltb i plan.size.ports hi) (lt-ltb j plan.size.ports hj))
