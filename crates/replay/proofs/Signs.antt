-- The signs of the named stores fit the sizes that these state. Assumes nothing.
use Rattle.std.proofs.Common.{ℕ, ◌*◌, ◌<◌, ◌≤◌, mul-le-mul, arith}
use Rattle.std.proofs.lemmas.Bool.{leb-true, leb-false}
use Rattle.store.specs.declared.meaning.TheConstants.{MOST_STORED}
use Rattle.law.specs.Journeys.{inside}
use Rattle.law.specs.Step.{Plan, Switch}
use Rattle.law.specs.Runs.{all_inside}
use Rattle.law.specs.Promises.{Bookable}
use Rattle.replay.specs.Kinds.{SignFits, rings_sign, pool_sign}
use Rattle.replay.specs.Laws.{SignsFit}
use Rattle.replay.proofs.Sums.{flows_most, flows_part}

module _ (plan : Plan) (bookable : Bookable plan) where
  one_flow : (s : Switch) (i j : ℕ) → i < plan.ports → j < plan.ports → inside s.clock (s.flow i j) ≤ all_inside plan s
  one_flow s i j hi hj = flows_part plan (λ a c. inside s.clock (s.flow a c)) i j hi hj

  few : (n : ℕ) → n ≤ 16 → n * (n * 2) < MOST_STORED
  few n h = omega (arith, mul-le-mul h h)

  rings_fit : SignFits plan 2 2 rings_sign
  rings_fit =
      record {
        up = λ s i j hi hj e. omega (arith, leb-true 2 (inside s.clock (s.flow i j)) e, one_flow s i j hi hj);
        down = λ s i j hi hj e held. (
          omega (arith, leb-false 2 (inside s.clock (s.flow i j)) e),
          omega (arith, few plan.ports bookable.few_ports, flows_most plan (λ a c. inside s.clock (s.flow a c)) 2 held),
        );
      }

  pool_fits : SignFits plan 512 512 pool_sign
  pool_fits =
      record {
        up = λ s i j hi hj e. leb-true 512 (all_inside plan s) e;
        down = λ s i j hi hj e held. let l = leb-false 512 (all_inside plan s) e in (omega (arith, l, one_flow s i j hi hj), omega (arith, l));
      }

pub signs_fit : SignsFit
signs_fit plan bookable = (rings_fit plan bookable, pool_fits plan bookable)
