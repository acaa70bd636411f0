-- The first cells, the last cells and the lengths of queues, and what a move of a cell writes to them. Assumes nothing.
use Rattle.std.proofs.Common.{◌≡◌, ℕ, ◌+◌, ◌-◌, ◌<◌, ◌⊎◌, List, length, get_or, set, sym, refl, ap, ◌∙◌, ⊎_elim, inl, inr, arith}
use Rattle.std.proofs.lemmas.List.{length-map, length-set, map-set, set-get_or}
use Rattle.std.proofs.Math.ListN.{get_or-map}
use Rattle.std.proofs.Math.Seq.{map-set_same}
use Rattle.grid.specs.Flows.{sum_below}
use Rattle.pool.specs.Queues.{first_cells, last_cells, lengths, counts_after}
use Rattle.pool.specs.declared.links.Links.{Links}
use Rattle.pool.specs.declared.links.Queue.{Queue}
use Rattle.pool.proofs.Shifts as shifts
use Rattle.pool.proofs.Shifts.{Wrote, After}

abbrev pub empty : Queue
empty = record { first = 0; last = 0; count = 0 }

pub first_at : (queues : List Queue) (q : ℕ) → get_or (first_cells queues) q 0 ≡ (get_or queues q empty).first
first_at queues q = get_or-map (λ (x : Queue). x.first) queues q empty

pub last_at : (queues : List Queue) (q : ℕ) → get_or (last_cells queues) q 0 ≡ (get_or queues q empty).last
last_at queues q = get_or-map (λ (x : Queue). x.last) queues q empty

pub length_at : (queues : List Queue) (q : ℕ) → get_or (lengths queues) q 0 ≡ (get_or queues q empty).count
length_at queues q = get_or-map (λ (x : Queue). x.count) queues q empty

-- what other links keep, and where each cell went, by a move of a cell
abbrev pub LinksAfter : (links : Links) (next' : List ℕ) (queues' : List Queue) (from to : ℕ) → Type 0
LinksAfter links next' queues' =
    After links.next (first_cells links.queues) (last_cells links.queues) (lengths links.queues) next' (first_cells queues') (last_cells queues') (lengths queues')

module _ (links : Links) (from to : ℕ) where
  -- the queue that a cell leaves
  abbrev pub source : Queue
  source = get_or links.queues from empty

  -- the links.queues without it
  abbrev pub left : List Queue
  left = set links.queues from (record { first = get_or links.next source.first 0; last = source.last; count = source.count - 1 })

  -- the queue that it comes to
  abbrev pub target : Queue
  target = get_or left to empty

  -- the links.queues with it there, where the first cell of that queue is then f
  abbrev pub joined : ℕ → List Queue
  joined f = set left to (record { first = f; last = source.first; count = target.count + 1 })

  firsts_left : first_cells left ≡ set (first_cells links.queues) from (get_or links.next (get_or (first_cells links.queues) from 0) 0)
  firsts_left = map-set (λ (x : Queue). x.first) links.queues from _ ∙ ap (λ (c : ℕ). set (first_cells links.queues) from (get_or links.next c 0)) (sym (first_at links.queues from))

  pub lasts_left : last_cells left ≡ last_cells links.queues
  lasts_left = map-set_same (λ (x : Queue). x.last) links.queues from _ empty refl

  pub lengths_left : lengths left ≡ set (lengths links.queues) from (get_or (lengths links.queues) from 0 - 1)
  lengths_left = map-set (λ (x : Queue). x.count) links.queues from _ ∙ ap (λ (n : ℕ). set (lengths links.queues) from (n - 1)) (sym (length_at links.queues from))

  -- what a move writes to the links, and the first cell of the queue to: behind nothing, or behind the last
  abbrev pub Links_wrote : (next' : List ℕ) (f : ℕ) → Type 0
  Links_wrote next' f =
      ((target.count ≡ 0) × (next' ≡ links.next) × (f ≡ source.first)) ⊎ ((0 < target.count) × (next' ≡ set links.next target.last source.first) × (f ≡ target.first))

  module _ (other : from ≡ to → ⊥) where
    pub target_count : target.count ≡ get_or (lengths links.queues) to 0
    target_count =
        sym (length_at left to) ∙ ap (λ (ns : List ℕ). get_or ns to 0) lengths_left ∙ shifts.count_before (lengths links.queues) from to other

    pub target_last : target.last ≡ get_or (last_cells links.queues) to 0
    target_last = sym (last_at left to) ∙ ap (λ (cs : List ℕ). get_or cs to 0) lasts_left

    lasts_joined : (f : ℕ) → last_cells (joined f) ≡ set (last_cells links.queues) to (get_or (first_cells links.queues) from 0)
    lasts_joined f =
        map-set (λ (x : Queue). x.last) left to _
        ∙ ap (λ (cs : List ℕ). set cs to source.first) lasts_left
        ∙ ap (set (last_cells links.queues) to) (sym (first_at links.queues from))

    pub lengths_joined : (f : ℕ) → lengths (joined f) ≡ counts_after (lengths links.queues) from to
    lengths_joined f =
        map-set (λ (x : Queue). x.count) left to _
        ∙ ap (λ (ns : List ℕ). set ns to (target.count + 1)) lengths_left
        ∙ ap (λ (n : ℕ). set (set (lengths links.queues) from (get_or (lengths links.queues) from 0 - 1)) to (n + 1)) target_count

    firsts_joined : (f : ℕ) → first_cells (joined f) ≡ set (set (first_cells links.queues) from (get_or links.next (get_or (first_cells links.queues) from 0) 0)) to f
    firsts_joined f = map-set (λ (x : Queue). x.first) left to _ ∙ ap (λ (cs : List ℕ). set cs to f) firsts_left

    firsts_kept : first_cells (joined target.first) ≡ set (first_cells links.queues) from (get_or links.next (get_or (first_cells links.queues) from 0) 0)
    firsts_kept =
        map-set (λ (x : Queue). x.first) left to _
        ∙ ap (set (first_cells left) to) (sym (first_at left to))
        ∙ set-get_or (first_cells left) to 0
        ∙ firsts_left

    wrote : (next' : List ℕ) (f : ℕ) → Links_wrote next' f → Wrote links.next (first_cells links.queues) (last_cells links.queues) (lengths links.queues) next' (first_cells (joined f)) from to
    wrote next' f way =
        ⊎_elim
        (λ w. inl (
          sym target_count ∙ w.0,
          w.1,
          firsts_joined f ∙ ap (set (set (first_cells links.queues) from (get_or links.next (get_or (first_cells links.queues) from 0) 0)) to) (w.2 ∙ sym (first_at links.queues from)),
        ))
        (λ w. inr (
          omega (arith, w.0, target_count),
          w.1 ∙ ap (λ (c : ℕ). set links.next c source.first) target_last ∙ ap (set links.next (get_or (last_cells links.queues) to 0)) (sym (first_at links.queues from)),
          ap (λ (c : ℕ). first_cells (joined c)) w.2 ∙ firsts_kept,
        ))
        way

    module _ (hf : from < 257) (ht : to < 257) (some : 0 < get_or (lengths links.queues) from 0) where
      long_lengths : length (lengths links.queues) ≡ 257
      long_lengths = length-map links.queues (λ q. q.count) ∙ links.long

      pub joined_long : (f : ℕ) → length (joined f) ≡ 257
      joined_long f = length-set left to _ ∙ length-set links.queues from _ ∙ links.long

      pub joined_total : (f : ℕ) → sum_below 257 (λ q. get_or (lengths (joined f)) q 0) ≡ 512
      joined_total f =
          ap (λ (ns : List ℕ). sum_below 257 (λ q. get_or ns q 0)) (lengths_joined f)
          ∙ shifts.total_kept (lengths links.queues) from to long_lengths hf ht other some
          ∙ links.total

      pub joined_after : (next' : List ℕ) (f : ℕ) → length links.next ≡ 512 → Links_wrote next' f → LinksAfter links next' (joined f) from to
      joined_after next' f long-next way =
          rw (lasts_joined f, lengths_joined f)
          (shifts.after (lengths links.queues) from to long_lengths hf ht other some links.next (first_cells links.queues) (last_cells links.queues)
          long-next (length-map links.queues (λ q. q.first) ∙ links.long) (length-map links.queues (λ q. q.last) ∙ links.long)
          next' (first_cells (joined f)) links.nexts links.firsts links.lasts (wrote next' f way) links.queued links.places links.ended)
