-- What the code reads off a result that is chosen by a test.
use Rattle.std.proofs.Common.{◌≡◌, Bool, true, false, cond, Ok, Err, refl}

-- what the choice says of the test
pub ok_cond : {X E : Type 0} (b : Bool) (x y : X) (e : E) → cond b (Ok x) (Err e) ≡ Ok y → (b ≡ true) × (x ≡ y)
ok_cond true x y e h = (refl, cc)
ok_cond false x y e h = absurd (cc)
