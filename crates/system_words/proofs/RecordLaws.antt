-- Laws of memories and records as words: what a loop has read or stored so far.
use mathlib.Core.Path.{◌≡◌, refl, sym, ap, ◌∙◌}
use mathlib.Core.List.{List, ◌++◌}
use Prim.Native.Nat.{ℕ, zero, suc, ◌+◌, ◌-◌, ◌%◌, ◌≤◌, ◌<◌, min}
use native.Mathlib.Omega.{arith}
use native.Mathlib.Numerals.{add-one}
use lib.ListN.{length, get_or, set, take, drop, replicate, length-set}
use lib.Dec.{eqb, ltb}
use lib.Seq.{ext_get_or, get_or-set_same, get_or-set_other}
use borrow.Author.Tests.{eqb-true, eqb-false, ltb-true, ltb-false}
use Rattle.array.specs.Index.{fill, from}
use Rattle.array.proofs.TestLaws.{split}
use Rattle.array.proofs.PlacedLaws.{placed-length, placed-in, placed-before, placed-after, part-back}
use Rattle.array.specs.Code.{placed}
use Rattle.plan.specs.Limits.{most_nodes, most_cells, most_actuators}
use Rattle.memory.specs.declared.Memory.{Memory}
use Rattle.memory.specs.Node.{zero_memory}
use Rattle.system.specs.declared.Seen.{Seen}
use Rattle.system.specs.declared.System.{System}
use Rattle.system.specs.Frame.{memory_of, good_of}
use Rattle.system_words.specs.Words.{memory_count, memory_at, stored_from, memory_words, with_memory, node_at, good_at, handed_at, good_in, system_of_words, with_memories, with_system}

-- ---- stored word after word

module _ (f : ℕ → ℕ) (at : ℕ) (l : List ℕ) where
  pub stored-none : stored_from f at 0 l ≡ l
  unfolding stored_from
  stored-none = refl

  pub stored_more : {now next : List ℕ} (k : ℕ) → now ≡ stored_from f at k l → next ≡ set now (at + k) (f k) → next ≡ stored_from f at (k + 1) l
  unfolding stored_from
  stored_more k e h = rw (add-one k, ← e) h

  pub stored-length : (k : ℕ) → length (stored_from f at k l) ≡ length l
  unfolding stored_from
  stored-length zero = refl
  stored-length (suc k) = length-set (stored_from f at k l) (at + k) (f k) ∙ stored-length k

  pub stored-kept : (k : ℕ) {now : List ℕ} → now ≡ stored_from f at k l → length now ≡ length l
  stored-kept k e = ap length e ∙ stored-length k

  -- the first word, then the others
  stored-first : (n : ℕ) → stored_from (λ k. f (suc k)) (at + 1) n (set l at (f 0)) ≡ stored_from f at (suc n) l
  unfolding stored_from
  stored-first zero = let e : at + 0 ≡ at = omega arith in rw e
  stored-first (suc n) = let e : at + 1 + n ≡ at + suc n = omega arith in rw (stored-first n, e)

  pub stored-in : (n k : ℕ) → k < n → at + n ≤ length l → get_or (stored_from f at n l) (at + k) 0 ≡ f k
  unfolding stored_from
  stored-in zero k h r = absurd (omega arith)
  stored-in (suc n) k h r =
      split (eqb k n)
      (λ t. rw (eqb-true k n t) (get_or-set_same (stored_from f at n l) (at + n) (f n) 0 (omega (arith, stored-length n))))
      (λ t.
      get_or-set_other (stored_from f at n l) (at + n) (at + k) (f n) 0 (λ e. eqb-false k n t (omega arith))
      ∙ stored-in n k (omega (arith, eqb-false k n t)) (omega arith))

  pub stored-out : (n i : ℕ) → ((k : ℕ) → k < n → i ≡ at + k → ⊥) → get_or (stored_from f at n l) i 0 ≡ get_or l i 0
  unfolding stored_from
  stored-out zero i h = refl
  stored-out (suc n) i h =
      get_or-set_other (stored_from f at n l) (at + n) i (f n) 0 (h n (omega arith)) ∙ stored-out n i (λ k b. h k (omega arith))

-- as a part that is copied
module _ (v : List ℕ) (at : ℕ) (l : List ℕ) (room : at + length v ≤ length l) where
  stored-placed : stored_from (λ k. get_or v k 0) at (length v) l ≡ placed l at v
  stored-placed =
      let long : length (stored_from (λ k. get_or v k 0) at (length v) l) ≡ length l = stored-length _ at l (length v) in
      ext_get_or 0 (stored_from (λ k. get_or v k 0) at (length v) l) (placed l at v) (long ∙ sym (placed-length l at v room))
      (λ i h.
      split (ltb i at)
      (λ t. let b : i < at = ltb-true i at t in stored-out _ at l (length v) i (λ k c e. omega arith) ∙ sym (placed-before l at v room i b))
      (λ t.
      let b : at ≤ i = ltb-false i at t in
      split (ltb (i - at) (length v))
      (λ u.
      let c : i - at < length v = ltb-true _ _ u in
      let e : at + (i - at) ≡ i = omega arith in
      rw e at (stored-in (λ k. get_or v k 0) at l (length v) (i - at) c room ∙ sym (placed-in l at v room (i - at) c)))
      (λ u.
      let c : length v ≤ i - at = ltb-false _ _ u in
      let e : at + length v + (i - (at + length v)) ≡ i = omega arith in
      stored-out _ at l (length v) i (λ k d f. omega arith) ∙ sym (rw e at (placed-after l at v room (i - (at + length v)))))))

-- ---- a memory

pub memory-made :
    (ws : List ℕ) (at : ℕ) {counter : ℕ} {cells : List ℕ} →
    counter ≡ get_or ws at 0 % 65536 →
    cells ≡ from 0 ws (at + 1) most_cells →
    ◌≡◌ {A = Memory} (record { counter = counter; cells = cells }) (memory_at ws at)
unfolding memory_at
memory-made ws at e f = λ i. record { counter = e i; cells = f i }

pub memory-put : (m : Memory) (at : ℕ) (ws : List ℕ) → stored_from (λ d. get_or m.cells d 0) (at + 1) most_cells (set ws at m.counter) ≡ with_memory m at ws
unfolding memory_words with_memory
memory-put m at ws = stored-first (λ k. get_or (memory_words m) k 0) at ws most_cells

pub memory_copied :
    (m : Memory) (at : ℕ) (ws part : List ℕ) {now : List ℕ} →
    now ≡ set ws at m.counter →
    length m.cells ≡ most_cells →
    at + 1 + most_cells ≤ length now →
    part ≡ m.cells →
    take (at + 1) now ++ (part ++ drop (at + 1 + most_cells - (at + 1)) (drop (at + 1) now)) ≡ with_memory m at ws
memory_copied m at ws part {now} e long room f =
    part-back now m.cells part (at + 1) (at + 1 + most_cells - (at + 1)) f (omega arith)
    ∙ sym (stored-placed m.cells (at + 1) now (omega arith))
    ∙ rw (long, e) (memory-put m at ws)

-- ---- a system

pub good-read : (ws : List ℕ) (j : ℕ) {w r : ℕ} → w ≡ get_or ws (good_at + j) 0 → r ≡ min w 65535 → r ≡ good_in ws j
unfolding good_in
good-read ws j e h = h ∙ rw e

pub system-made :
    (ws : List ℕ) {zero : Memory} {memories : List Memory} {good : List ℕ} {seen : Seen} →
    zero ≡ zero_memory →
    memories ≡ fill (λ j. memory_at ws (node_at j)) most_nodes (replicate most_nodes zero) →
    good ≡ fill (good_in ws) most_nodes (replicate most_nodes 0) →
    seen.handed ≡ from 0 ws handed_at most_actuators →
    ◌≡◌ {A = System} (record { memories = memories; good = good; seen = seen }) (system_of_words ws)
unfolding system_of_words
system-made ws {zero} {memories} e f g s =
    let node : memories ≡ fill (λ j. memory_at ws (node_at j)) most_nodes (replicate most_nodes zero_memory) = rw e at f in
    λ i. record { memories = node i; good = g i; seen = record { handed = s i } }

module _ (sys : System) (ws : List ℕ) where
  pub memories-none : with_memories sys 0 ws ≡ ws
  unfolding with_memories
  memories-none = refl

  pub memories-more :
      {now next : List ℕ} {m : Memory} (j : ℕ) → now ≡ with_memories sys j ws → m ≡ memory_of sys j → next ≡ with_memory m (node_at j) now →
      next ≡ with_memories sys (j + 1) ws
  unfolding with_memories
  memories-more j e f h = rw (add-one j, ← e, ← f) h

  pub system-put :
      (n : ℕ) {now next : List ℕ} → now ≡ stored_from (good_of sys) good_at n (with_memories sys n ws) →
      next ≡ stored_from (λ a. get_or sys.seen.handed a 0) handed_at most_actuators now → next ≡ with_system n sys ws
  unfolding with_system
  system-put n e h = h ∙ rw e

  pub memories-length : (j : ℕ) → length (with_memories sys j ws) ≡ length ws
  unfolding with_memories with_memory
  memories-length zero = refl
  memories-length (suc j) = stored-length _ (node_at j) (with_memories sys j ws) memory_count ∙ memories-length j
