-- What a call that is not refused says of its arguments.
use Rattle.std.proofs.Common.{◌≡◌, ℕ, ◌<◌, ◌≤◌, Bool, true, false, cond, ◌&&◌, ◌||◌, eqb, ltb, Some, None, Option, refl, arith}
use Rattle.std.proofs.lemmas.Bool.{ltb-true, ltb-false, eqb-false}
use Rattle.law.specs.Step.{Plan}
use Rattle.plan.specs.Refusals.{arrive_refusal}
use Rattle.plan.specs.declared.fault.ArriveFault.{ArriveFault}
use Rattle.plan.specs.declared.fault.ArriveFault.TheVariants as fault

-- an arrival that is lawful
pub record Lawful (plan : Plan) (i j b : ℕ) : Type 0 where
  pub input_in : i < plan.ports
  pub output_in : j < plan.ports
  pub some_bytes : 0 < b
  pub not_long : b ≤ plan.longest
  pub is_open : 0 < plan.weight i j

tests : (a c d e f : Bool) → cond {A = Option ArriveFault} (a && c) (cond (d || e) (Some fault.Length) (cond f (Some fault.Closed) None)) (Some fault.Port) ≡ None → (a ≡ true) × (c ≡ true) × (d ≡ false) × (e ≡ false) × (f ≡ false)
tests false c d e f h = absurd (cc)
tests true false d e f h = absurd (cc)
tests true true true e f h = absurd (cc)
tests true true false true f h = absurd (cc)
tests true true false false true h = absurd (cc)
tests true true false false false h = (refl, refl, refl, refl, refl)

pub lawful : (plan : Plan) (i j b : ℕ) → arrive_refusal plan.ports plan.longest plan.weight i j b ≡ None → Lawful plan i j b
lawful plan i j b h =
    let t = tests (ltb i plan.ports) (ltb j plan.ports) (ltb b 1) (ltb plan.longest b) (eqb (plan.weight i j) 0) h in
    let least = ltb-false b 1 t.2 in
    let nonzero = eqb-false (plan.weight i j) 0 t.4 in
    record {
      input_in = ltb-true i plan.ports t.0;
      output_in = ltb-true j plan.ports t.1;
      some_bytes = omega arith;
      not_long = ltb-false plan.longest b t.3;
      is_open = omega (arith, nonzero);
    }
