-- A replay goes on, and so do its lines. Assumes nothing.
use Rattle.std.proofs.Common.{◌≡◌, ℕ, zero, suc, ◌+◌, ◌-◌, ◌<◌, ◌≤◌, Bool, true, false, List, [], ◌∷◌, ◌++◌, map, sym, refl, ap, ◌∙◌, subst, add-one, arith}
use Rattle.std.proofs.lemmas.Bool.{cond_both}
use Rattle.std.proofs.lemmas.List.{append-nil, append_assoc}
use Rattle.std.proofs.lemmas.Grind.{flat_map-append}
use Rattle.law.specs.Promises.{clock_of}
use Rattle.law.specs.Runs.{leaves, all_inside}
use Rattle.law.specs.Step.{Plan}
use Rattle.replay.specs.Kinds.{Kind}
use Rattle.replay.specs.Replay.{Arrival, Replayed, next_switch, run_tick, run_ticks, offered, run_out}
use Rattle.replay.specs.Events.{Event, left, turned_away, events_of}
use Rattle.replay.proofs.Steps.{ticks_none, ticks_last, ticks_more, out_goes_on, out_ticks}
use Rattle.carry.specs.Lines.{event_line, event_lines}
use Rattle.carry.specs.Lists.{Appends}
use Rattle.carry.specs.Playing.{Tells}
use Rattle.carry.proofs.Grows.{append_fails, append_then}

-- y has the events of x, and maybe more
abbrev pub Extends : {K : Type 0} → Replayed K → Replayed K → Type 0
Extends x y = (more : List Event) × (events_of y.log ≡ events_of x.log ++ more)

pub lines_append : (es fs : List Event) → event_lines (es ++ fs) ≡ event_lines es ++ event_lines fs
lines_append es fs = flat_map-append event_line es fs

module _ {K : Type 0} where
  extends_itself : (x : Replayed K) → Extends x x
  extends_itself x = ([], sym (append-nil (events_of x.log)))

  pub extends_then : (x y z : Replayed K) → Extends x y → Extends y z → Extends x z
  extends_then x y z a b = (a.0 ++ b.0, b.1 ∙ ap (λ (es : List Event). es ++ b.0) a.1 ∙ append_assoc (events_of x.log) a.0 b.0)

  -- where the lines of x do not fit, those of y do not
  pub tells_none : (x y : Replayed K) (before after : List ℕ) (room more : ℕ) → Extends x y → Tells x before after room more false → Tells y before after room more false
  tells_none x y before after room more e t =
      subst (λ (text : List ℕ). Appends text before after room more false) (sym (ap event_lines e.1 ∙ lines_append (events_of x.log) e.0))
      (append_fails (event_lines (events_of x.log)) (event_lines e.0) before after room more t)

  -- the same events, the same lines
  pub tells_same : (x y : Replayed K) → events_of y.log ≡ events_of x.log → (before out : List ℕ) (room more : ℕ) (ok : Bool) → Tells x before out room more ok → Tells y before out room more ok
  tells_same x y e before out room more ok t = subst (λ (es : List Event). Appends (event_lines es) before out room more ok) (sym e) t

  -- the lines of what is new, appended
  pub tells_more : (x y : Replayed K) (es : List Event) → events_of y.log ≡ events_of x.log ++ es → (before out after : List ℕ) (room more most : ℕ) (ok : Bool) →
      Tells x before out room more true → Appends (event_lines es) out after more most ok → Tells y before after room most ok
  tells_more x y es e before out after room more most ok t s =
      subst (λ (text : List ℕ). Appends text before after room most ok) (sym (ap event_lines e ∙ lines_append (events_of x.log) es))
      (append_then (event_lines (events_of x.log)) (event_lines es) before out after room more most ok t s)

module _ {K : Type 0} (plan : Plan) (kind : Kind K) where
  tick_extends : (x : Replayed K) → Extends x (run_tick plan kind x)
  tick_extends x = (map left (leaves plan (next_switch plan kind x.switch x.kept) x.switch.clock (x.switch.clock + 1)), refl)

  pub ticks_extend : (n : ℕ) (x : Replayed K) → Extends x (run_ticks plan kind n x)
  unfolding run_ticks
  ticks_extend zero x = extends_itself x
  ticks_extend (suc n) x = extends_then x (run_tick plan kind x) (run_ticks plan kind n (run_tick plan kind x)) (tick_extends x) (ticks_extend n (run_tick plan kind x))

  -- more ticks extend fewer
  pub ticks_extend_on : (k n : ℕ) (x : Replayed K) → k ≤ n → Extends (run_ticks plan kind k x) (run_ticks plan kind n x)
  ticks_extend_on k n x h =
      let parts : k + (n - k) ≡ n = omega arith in
      subst (Extends (run_ticks plan kind k x)) (sym (ticks_more plan kind k (n - k) x) ∙ ap (λ m. run_ticks plan kind m x) parts) (ticks_extend (n - k) (run_ticks plan kind k x))

  pub out_extends : (n : ℕ) (x : Replayed K) → Extends x (run_out plan kind n x)
  out_extends n x = let t = out_ticks plan kind n x in subst (Extends x) (sym t.2) (ticks_extend t.0 x)

  -- a tick of the end, where something is inside
  pub out_onward : (n k : ℕ) (x y : Replayed K) → k < n → (all_inside plan y.switch ≡ 0 → ⊥) → run_out plan kind n x ≡ run_out plan kind (n - k) y → run_out plan kind n x ≡ run_out plan kind (n - (k + 1)) (run_tick plan kind y)
  out_onward n k x y h some e =
      let one : n - k ≡ n - (k + 1) + 1 = omega arith in
      e ∙ ap (λ m. run_out plan kind m y) one ∙ out_goes_on plan kind (n - (k + 1)) y some

  -- the same of k ticks, where something is inside before each of them
  pub out_on : (k n : ℕ) (x : Replayed K) → k ≤ n → ((m : ℕ) → m < k → all_inside plan (run_ticks plan kind m x).switch ≡ 0 → ⊥) →
      run_out plan kind n x ≡ run_out plan kind (n - k) (run_ticks plan kind k x)
  out_on zero n x h some =
      let all : n ≡ n - 0 = omega arith in
      ap (λ m. run_out plan kind m x) all ∙ ap (run_out plan kind (n - 0)) (sym (ticks_none plan kind x))
  out_on (suc k) n x h some =
      let y = run_ticks plan kind k x in
      let last : run_tick plan kind y ≡ run_ticks plan kind (suc k) x = sym (ticks_last plan kind k x) ∙ ap (λ m. run_ticks plan kind m x) (add-one k) in
      let left : n - (k + 1) ≡ n - suc k = omega arith in
      out_onward n k x y (omega arith) (some k (omega arith)) (out_on k n x (omega arith) (λ m l. some m (omega (arith, l))))
      ∙ ap (λ m. run_out plan kind m (run_tick plan kind y)) left ∙ ap (run_out plan kind (n - suc k)) last

  pub offered_extends : (a : Arrival) (x : Replayed K) → Extends x (offered plan kind a x)
  offered_extends a x =
      cond_both (kind.sign plan x.switch a.input a.output) _ _ (Extends x)
      (λ _. (turned_away record { tick = clock_of x.log; input = a.input; output = a.output; bytes = a.bytes } ∷ [], refl))
      (λ _. ([], refl))
