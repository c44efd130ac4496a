-- Records and words undo each other: a record is read back from its words, and words whose counters and good counts are below 2^16 are those of the record that they are read to.
use mathlib.Core.Path.{◌≡◌, refl, sym, subst, ◌∙◌}
use mathlib.Core.List.{List}
use Prim.Native.Nat.{ℕ, zero, suc, ◌+◌, ◌-◌, ◌/◌, ◌%◌, ◌^◌, ◌≤◌, ◌<◌, min}
use native.Mathlib.Omega.{arith}
use native.Mathlib.Nat.{mod-eq_of_lt}
use lib.Dec.{eqb, ltb}
use lib.ListN.{length, get_or, length-replicate, get_or-replicate}
use lib.Seq.{ext_get_or}
use borrow.Author.Tests.{eqb-true, eqb-false, ltb-true, ltb-false}
use Rattle.array.specs.Index.{fill, from}
use Rattle.array.proofs.TestLaws.{split}
use Rattle.array.proofs.PlacesLaws.{fill-length, fill-in, fill-out, fill_is, fill-from, from-length, from_at}
use Rattle.plan.specs.Limits.{most_nodes, most_cells, most_actuators}
use Rattle.memory.specs.declared.Memory.{Memory}
use Rattle.memory.specs.Node.{zero_memory}
use Rattle.system.specs.declared.System.{System}
use Rattle.system.specs.System.{zero_system}
use Rattle.system.specs.Frame.{memory_of, good_of, handed_of}
use Rattle.system_words.specs.Words.{memory_count, memory_at, memory_words, stored_from, with_memory, node_at, good_at, handed_at, system_count, good_in, system_of_words, with_memories, with_system}
use Rattle.system_words.proofs.RecordLaws.{stored-length, stored-in, stored-out, memories-length}

-- ---- a memory

-- one that a node can have: a counter of 16 bits, 32 cells
pub record Fits (m : Memory) : Type 0 where
  pub counter : m.counter < 2 ^ 16
  pub cells : length m.cells ≡ most_cells

-- words that hold a memory from a place on
abbrev pub HeldAt : List ℕ → ℕ → Memory → Type 0
HeldAt ws at m = (k : ℕ) → k < memory_count → get_or ws (at + k) 0 ≡ get_or (memory_words m) k 0

module _ (ws : List ℕ) (at : ℕ) where
  pub memory-read : (m : Memory) → Fits m → HeldAt ws at m → memory_at ws at ≡ m
  unfolding memory_at memory_words
  memory-read m fits held =
      let here : at + 0 ≡ at = omega arith in
      let counter : get_or ws at 0 % 2 ^ 16 ≡ m.counter = rw (rw here at (held 0 (omega arith))) (mod-eq_of_lt fits.counter) in
      let cells : from 0 ws (at + 1) most_cells ≡ m.cells =
      ext_get_or 0 (from 0 ws (at + 1) most_cells) m.cells (from-length 0 ws (at + 1) most_cells ∙ sym fits.cells)
      (λ c h.
      let l : c < most_cells = omega (arith, from-length 0 ws (at + 1) most_cells) in
      let e : at + 1 + c ≡ at + suc c = omega arith in
      from_at 0 ws (at + 1) most_cells c l ∙ rw e (held (suc c) (omega arith))) in
      rw (counter, cells)

  -- words with a counter below 2^16
  module _ (low : get_or ws at 0 < 2 ^ 16) where
    pub memory-low : HeldAt ws at (memory_at ws at)
    unfolding memory_at memory_words
    memory-low zero h = let here : at + 0 ≡ at = omega arith in rw here (sym (mod-eq_of_lt low))
    memory-low (suc c) h = let e : at + 1 + c ≡ at + suc c = omega arith in rw (← e) (sym (from_at 0 ws (at + 1) most_cells c (omega arith)))

  pub memory-fits : Fits (memory_at ws at)
  unfolding memory_at
  memory-fits = record { counter = omega arith; cells = from-length 0 ws (at + 1) most_cells }

  memory-length : (m : Memory) → length (with_memory m at ws) ≡ length ws
  unfolding with_memory
  memory-length m = stored-length _ at ws memory_count

  pub memory-held : (m : Memory) → at + memory_count ≤ length ws → HeldAt (with_memory m at ws) at m
  unfolding with_memory
  memory-held m room k h = stored-in (λ c. get_or (memory_words m) c 0) at ws memory_count k h room

-- a memory's own words
module _ (ws : List ℕ) (long : length ws ≡ memory_count) where
  -- record to words to record
  pub memory-back : (m : Memory) → Fits m → memory_at (with_memory m 0 ws) 0 ≡ m
  memory-back m fits = memory-read (with_memory m 0 ws) 0 m fits (memory-held ws 0 m (omega arith))

  -- words to record to words
  pub memory-words-back : get_or ws 0 0 < 2 ^ 16 → with_memory (memory_at ws 0) 0 ws ≡ ws
  memory-words-back low =
      let m = memory_at ws 0 in
      let size : length (with_memory m 0 ws) ≡ memory_count = memory-length ws 0 m ∙ long in
      ext_get_or 0 (with_memory m 0 ws) ws (size ∙ sym long) (λ k h.
      let l : k < memory_count = omega arith in
      let z : 0 + k ≡ k = omega arith in
      rw z at (memory-held ws 0 m (omega arith) k l ∙ sym (memory-low ws 0 low k l)))

-- ---- a system

-- a record of seven nodes and eight actuators that a system can have
pub record Shaped (sys : System) : Type 0 where
  pub memories : length sys.memories ≡ most_nodes
  pub good : length sys.good ≡ most_nodes
  pub handed : length sys.seen.handed ≡ most_actuators
  pub fits : (j : ℕ) → j < most_nodes → Fits (memory_of sys j)
  pub low : (j : ℕ) → j < most_nodes → good_of sys j < 2 ^ 16

-- words that hold a record
pub record Held (ws : List ℕ) (sys : System) : Type 0 where
  pub long : length ws ≡ system_count
  pub shaped : Shaped sys
  pub memories : (j : ℕ) → j < most_nodes → HeldAt ws (node_at j) (memory_of sys j)
  pub counts : (j : ℕ) → j < most_nodes → get_or ws (good_at + j) 0 ≡ good_of sys j
  pub remembered : (a : ℕ) → a < most_actuators → get_or ws (handed_at + a) 0 ≡ handed_of sys a

-- they are read to it
pub held-read : {ws : List ℕ} {sys : System} → Held ws sys → system_of_words ws ≡ sys
unfolding system_of_words good_in
held-read {ws} {sys} h =
    let memories : fill (λ j. memory_at ws (node_at j)) most_nodes zero_system.memories ≡ sys.memories =
    fill_is _ most_nodes zero_system.memories sys.memories zero_memory (length-replicate most_nodes zero_memory) h.shaped.memories
    (λ j l. memory-read ws (node_at j) (memory_of sys j) (h.shaped.fits j l) (h.memories j l)) in
    let good : fill (λ j. min (get_or ws (good_at + j) 0) 65535) most_nodes zero_system.good ≡ sys.good =
    fill_is _ most_nodes zero_system.good sys.good 0 (length-replicate {A = ℕ} most_nodes 0) h.shaped.good
    (λ j l. omega (arith, h.counts j l, h.shaped.low j l)) in
    let handed : from 0 ws handed_at most_actuators ≡ sys.seen.handed =
    sym (fill-from 0 ws handed_at most_actuators sys.seen.handed h.shaped.handed)
    ∙ fill_is _ most_actuators sys.seen.handed sys.seen.handed 0 h.shaped.handed h.shaped.handed h.remembered in
    rw (memories, good, handed)

-- and no others hold it
pub held_same : {ws vs : List ℕ} {sys : System} → Held ws sys → Held vs sys → ws ≡ vs
held_same {ws} {vs} {sys} h g =
    ext_get_or 0 ws vs (h.long ∙ sym g.long)
    (λ i l.
    split (ltb i good_at)
    (λ t.
    let few : i / 33 < most_nodes = omega (arith, ltb-true i good_at t) in
    let at : node_at (i / 33) + i % 33 ≡ i = omega arith in
    rw at at (h.memories (i / 33) few (i % 33) (omega arith) ∙ sym (g.memories (i / 33) few (i % 33) (omega arith))))
    (λ t. split (ltb i handed_at)
    (λ u.
    let few : i - good_at < most_nodes = omega (arith, ltb-false i good_at t, ltb-true i handed_at u) in
    let at : good_at + (i - good_at) ≡ i = omega (arith, ltb-false i good_at t) in
    rw at at (h.counts (i - good_at) few ∙ sym (g.counts (i - good_at) few)))
    (λ u.
    let few : i - handed_at < most_actuators = omega (arith, h.long, ltb-false i handed_at u) in
    let at : handed_at + (i - handed_at) ≡ i = omega (arith, ltb-false i handed_at u) in
    rw at at (h.remembered (i - handed_at) few ∙ sym (g.remembered (i - handed_at) few)))))

-- words whose counters and good counts are below 2^16 hold the record that they are read to
pub record Low (ws : List ℕ) : Type 0 where
  pub long : length ws ≡ system_count
  pub counter : (j : ℕ) → j < most_nodes → get_or ws (node_at j) 0 < 2 ^ 16
  pub count : (j : ℕ) → j < most_nodes → get_or ws (good_at + j) 0 < 2 ^ 16

pub low_held : {ws : List ℕ} → Low ws → Held ws (system_of_words ws)
unfolding system_of_words good_in
low_held {ws} h =
    record {
      long = h.long;
      shaped =
          record {
            memories = fill-length _ most_nodes zero_system.memories ∙ length-replicate most_nodes zero_memory;
            good = fill-length _ most_nodes zero_system.good ∙ length-replicate {A = ℕ} most_nodes 0;
            handed = from-length 0 ws handed_at most_actuators;
            fits = λ j l. rw (node j l) (memory-fits ws (node_at j));
            low = λ j l. rw (count j l) (omega arith);
          };
      memories = λ j l. rw (node j l) (memory-low ws (node_at j) (h.counter j l));
      counts = λ j l. rw (count j l) (omega (arith, h.count j l));
      remembered = λ a l. sym (from_at 0 ws handed_at most_actuators a l);
    }
  where
    node : (j : ℕ) → j < most_nodes → get_or (fill (λ k. memory_at ws (node_at k)) most_nodes zero_system.memories) j zero_memory ≡ memory_at ws (node_at j)
    node j l = fill-in _ most_nodes zero_system.memories j zero_memory l (omega (arith, length-replicate most_nodes zero_memory))

    count : (j : ℕ) → j < most_nodes → get_or (fill (λ k. min (get_or ws (good_at + k) 0) 65535) most_nodes zero_system.good) j 0 ≡ min (get_or ws (good_at + j) 0) 65535
    count j l = fill-in _ most_nodes zero_system.good j 0 l (omega (arith, length-replicate {A = ℕ} most_nodes 0))

-- ---- a record's first n nodes and what the plane remembers, stored

module _ (sys : System) (ws : List ℕ) (long : length ws ≡ system_count) where
  memories-in : (n j : ℕ) → n ≤ most_nodes → j < n → HeldAt (with_memories sys n ws) (node_at j) (memory_of sys j)
  unfolding with_memories with_memory
  memories-in zero j few l k h = absurd (omega arith)
  memories-in (suc n) j few l k h =
      split (eqb j n)
      (λ t. rw (eqb-true j n t) (stored-in _ (node_at n) (with_memories sys n ws) memory_count k h (omega (arith, memories-length sys ws n))))
      (λ t.
      let d : j < n = omega (arith, eqb-false j n t) in
      stored-out _ (node_at n) (with_memories sys n ws) memory_count (node_at j + k) (λ i b e. omega arith) ∙ memories-in n j (omega arith) d k h)

  memories-out : (n i : ℕ) → node_at n ≤ i → get_or (with_memories sys n ws) i 0 ≡ get_or ws i 0
  unfolding with_memories with_memory
  memories-out zero i l = refl
  memories-out (suc n) i l = stored-out _ (node_at n) (with_memories sys n ws) memory_count i (λ k b e. omega arith) ∙ memories-out n i (omega arith)

  -- the words before the remembered ones
  abbrev counted : ℕ → List ℕ
  counted n = stored_from (good_of sys) good_at n (with_memories sys n ws)

  counted-length : (n : ℕ) → length (counted n) ≡ system_count
  counted-length n = stored-length (good_of sys) good_at (with_memories sys n ws) n ∙ memories-length sys ws n ∙ long

  -- the words hold the record, if those past the nodes did
  pub stored-held :
      (n : ℕ) → n ≤ most_nodes → Shaped sys →
      ((j : ℕ) → n ≤ j → j < most_nodes → HeldAt ws (node_at j) (memory_of sys j) × (get_or ws (good_at + j) 0 ≡ good_of sys j)) →
      Held (with_system n sys ws) sys
  unfolding with_system
  stored-held n few shaped past =
      record {
        long = stored-length (handed_of sys) handed_at (counted n) most_actuators ∙ counted-length n;
        shaped = shaped;
        memories = λ j l k h.
            stored-out (handed_of sys) handed_at (counted n) most_actuators (node_at j + k) (λ i b e. omega arith)
            ∙ stored-out (good_of sys) good_at (with_memories sys n ws) n (node_at j + k) (λ i b e. omega arith)
            ∙ split (ltb j n)
            (λ t. memories-in n j few (ltb-true j n t) k h)
            (λ t. memories-out n (node_at j + k) (omega (arith, ltb-false j n t)) ∙ (past j (ltb-false j n t) l).0 k h);
        counts = λ j l.
            stored-out (handed_of sys) handed_at (counted n) most_actuators (good_at + j) (λ i b e. omega arith)
            ∙ split (ltb j n)
            (λ t. stored-in (good_of sys) good_at (with_memories sys n ws) n j (ltb-true j n t) (omega (arith, memories-length sys ws n)))
            (λ t.
            stored-out (good_of sys) good_at (with_memories sys n ws) n (good_at + j) (λ i b e. omega (arith, ltb-false j n t))
            ∙ memories-out n (good_at + j) (omega arith)
            ∙ (past j (ltb-false j n t) l).1);
        remembered = λ a l. stored-in (handed_of sys) handed_at (counted n) most_actuators a l (omega (arith, counted-length n));
      }

  -- record to words to record
  pub system-back : Shaped sys → system_of_words (with_system most_nodes sys ws) ≡ sys
  system-back shaped = held-read (stored-held most_nodes (omega arith) shaped (λ j a b. absurd (omega arith)))

-- words to record to words
pub system-words-back : {ws : List ℕ} → Low ws → (n : ℕ) → n ≤ most_nodes → with_system n (system_of_words ws) ws ≡ ws
system-words-back {ws} low n few =
    let h : Held ws (system_of_words ws) = low_held low in
    held_same (stored-held (system_of_words ws) ws low.long n few h.shaped (λ j a l. (h.memories j l, h.counts j l))) h

-- ---- a record whose first n nodes and first m remembered values are others, stored over its words

filled_at : {A : Type 0} (P : A → Type 0) (f : ℕ → A) (n : ℕ) (l : List A) (j : ℕ) (d : A) → j < length l → P (f j) → P (get_or l j d) → P (get_or (fill f n l) j d)
filled_at P f n l j d r new old =
    split (ltb j n) (λ t. subst P (sym (fill-in f n l j d (ltb-true j n t) r)) new) (λ t. subst P (sym (fill-out f n l j d (ltb-false j n t))) old)

module _ (sys : System) (f : ℕ → Memory) (g : ℕ → ℕ) (n : ℕ) (v : ℕ → ℕ) (m : ℕ) where
  abbrev filled : System
  filled = record { memories = fill f n sys.memories; good = fill g n sys.good; seen = record { handed = fill v m sys.seen.handed } }

  pub filled-shaped : ((j : ℕ) → j < most_nodes → Fits (f j)) → ((j : ℕ) → g j < 2 ^ 16) → Shaped sys → Shaped filled
  filled-shaped fits low h =
      record {
        memories = fill-length f n sys.memories ∙ h.memories;
        good = fill-length g n sys.good ∙ h.good;
        handed = fill-length v m sys.seen.handed ∙ h.handed;
        fits = λ j l. filled_at Fits f n sys.memories j zero_memory (omega (arith, h.memories)) (fits j l) (h.fits j l);
        low = λ j l. filled_at (λ (x : ℕ). x < 2 ^ 16) g n sys.good j 0 (omega (arith, h.good)) (low j) (h.low j l);
      }

  pub filled-held : {ws : List ℕ} → Held ws sys → Shaped filled → n ≤ most_nodes → Held (with_system n filled ws) filled
  filled-held {ws} h shaped few =
      stored-held filled ws h.long n few shaped
      (λ j a l. (
        subst (HeldAt ws (node_at j)) (sym (fill-out f n sys.memories j zero_memory a)) (h.memories j l),
        h.counts j l ∙ sym (fill-out g n sys.good j 0 a),
      ))

pub zero-shaped : Shaped zero_system
zero-shaped =
    record {
      memories = length-replicate most_nodes zero_memory;
      good = length-replicate {A = ℕ} most_nodes 0;
      handed = length-replicate {A = ℕ} most_actuators 0;
      fits = λ j l. subst Fits (sym (get_or-replicate most_nodes j zero_memory zero_memory l)) (record { counter = omega arith; cells = length-replicate {A = ℕ} most_cells 0 });
      low = λ j l. rw (get_or-replicate {A = ℕ} most_nodes j 0 0 l) (omega arith);
    }
