use Rattle.std.proofs.Common.{◌≡◌, ◌+◌, ◌-◌, List, ℕ, ◌∷◌, ◌++◌, sym, ap, ◌∙◌, arith, length-set}
use Rattle.std.proofs.lemmas.List.{drop-set}
use Rattle.std.specs.List.{flat_map}
use Rattle.listing.proofs.Digits.{length_most}
use Rattle.listing.proofs.Fields.{feed_last, last_left, none_left}
use Rattle.listing.specs.declared.TheConstants.{LONGEST_LINE}
use Rattle.listing.specs.Line.{field, line_of}
use Rattle.listing.proofs.compose.Goals as goal

pub loop-n-init : goal.loop-n-init
loop-n-init c =
    let long = length-set c.args.bytes.now (LONGEST_LINE - 1) 10 in
    record {
      room = (omega arith, omega arith, long);
      text = ap (λ (xs : List ℕ). flat_map field c.args.fields.now ++ xs) (feed_last c.args.bytes.now (LONGEST_LINE - 1) (omega arith));
    }

pub write_decimal-at-requires : goal.write_decimal-at-requires
write_decimal-at-requires c =
    let most = length_most c.in-Some.n.now (omega arith) in
    record { room = (omega (arith, c.in-Some.ensures.cases), omega arith) }

pub overflow_sub-at-in-Some : goal.overflow_sub-at-in-Some
overflow_sub-at-in-Some c =
    let most = length_most c.in-Some.n.now (omega arith) in
    omega (arith, c.in-Some.ensures.cases)

pub loop-n-preserved : goal.loop-n-preserved
loop-n-preserved c =
    let most = length_most c.in-Some.n.now (omega arith) in
    let left = c.in-Some.ensures.cases in
    let at = c.write_decimal-at.result in
    let bytes = c.write_decimal-at.new.bytes in
    let long = length-set bytes (at - 1) 32 in
    let e : at - 1 + 1 ≡ at = omega arith in
    record {
      room = (omega arith, omega arith, omega arith);
      text = rw (drop-set bytes (at - 1) 32 (omega arith), e, c.write_decimal-at.ensures.written) (sym (last_left c.in-Some.before.now _ c.in-Some.n.now) ∙ (rw left.0 at c.loop-n.invariant.text));
    }

pub returns-clause-written : goal.returns-clause-written
unfolding line_of
returns-clause-written c =
    let l = c.loop-n in
    let e : l.at - 1 + 1 ≡ l.at = omega arith in
    rw (drop-set l.bytes (l.at - 1) c.args.letter (omega arith), e)
    (ap (λ (xs : List ℕ). c.args.letter ∷ xs) (sym (none_left l.left.now _ c.in_default.ensures.cases) ∙ l.invariant.text))
