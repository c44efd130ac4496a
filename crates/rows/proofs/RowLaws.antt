-- Laws of rows: a row by its words, one row stored, a loop over rows, a record in rows, and rows that are the same.
use mathlib.Core.Path.{◌≡◌, refl, sym, ap, ◌∙◌, subst}
use mathlib.Core.Bool.{Bool, true, false, ◌&&◌}
use mathlib.Core.List.{List, ◌++◌}
use Prim.Native.Nat.{ℕ, suc, ◌+◌, ◌-◌, ◌*◌, ◌%◌, ◌≤◌, ◌<◌, min}
use native.Mathlib.Omega.{arith}
use native.Mathlib.Nat.{not-suc-le-zero}
use native.Mathlib.Numerals.{add-one}
use lib.Dec.{eqb, ltb}
use lib.ListN.{length, get_or, set, take, drop, length-take, length-drop}
use lib.Seq.{ext_get_or, get_or-take, get_or-drop, get_or-set_same, get_or-set_other, length-take-le, take_at, drop_at}
use borrow.Author.Tests.{eq-eqb, ne_eqb, eqb-true, eqb-false, ltb-true, ltb-false}
use borrow.Rule.Slice.PartMut.{put_mid, same_len_mid}
use Rattle.array.specs.Index.{how_many, all_below, fill}
use Rattle.array.specs.Code.{placed}
use Rattle.array.proofs.TestLaws.{split, and-false-right, and_both}
use Rattle.array.proofs.IndexLaws.{all_below-more, all_below-fails, how_many-same}
use Rattle.array.proofs.LoopLaws.{all-passed}
use Rattle.array.proofs.PlacesLaws.{fill-length, fill-in}
use Rattle.array.proofs.PlacedLaws.{placed-before, placed-after, part-back}
use Rattle.plan.specs.declared.Plan.{Plan}
use Rattle.plan.specs.Limits.{most_nodes, most_cells, most_actuators}
use Rattle.task.specs.Task.{run_tasks}
use Rattle.memory.specs.declared.Memory.{Memory}
use Rattle.memory.specs.Node.{zero_memory, computed}
use Rattle.memory.proofs.StepLaws.{computed-is}
use Rattle.system.specs.declared.Seen.{Seen}
use Rattle.system.specs.declared.System.{System}
use Rattle.system.specs.Frame.{memory_of}
use Rattle.system.specs.CountCalls.{same_memory}
use Rattle.rows.specs.Code.{row_of, memory_in, seen_words, Rows, Stored, Through, same_row}

-- ---- a row by its words

pub row_at : (cells : List ℕ) (r c : ℕ) → c < most_cells → get_or (row_of cells r) c 0 ≡ get_or cells (most_cells * r + c) 0
unfolding row_of
row_at cells r c l = get_or-take most_cells (drop (most_cells * r) cells) c 0 l ∙ get_or-drop (most_cells * r) cells c 0

pub row-length : (cells : List ℕ) (r : ℕ) → most_cells * r + most_cells ≤ length cells → length (row_of cells r) ≡ most_cells
unfolding row_of
row-length cells r l = length-take-le most_cells (drop (most_cells * r) cells) (rw length-drop (omega arith))

row-long : (s : List ℕ) (r : ℕ) → length (row_of s r) ≡ min most_cells (length s - most_cells * r)
unfolding row_of
row-long s r = length-take most_cells (drop (most_cells * r) s) ∙ rw length-drop

pub row_same : (a b : List ℕ) (r : ℕ) → length a ≡ length b → ((d : ℕ) → d < most_cells → get_or a (most_cells * r + d) 0 ≡ get_or b (most_cells * r + d) 0) → row_of a r ≡ row_of b r
row_same a b r e h =
    ext_get_or 0 (row_of a r) (row_of b r) (row-long a r ∙ rw e (sym (row-long b r)))
    (λ d l. let m : d < most_cells = omega (arith, row-long a r) in row_at a r d m ∙ h d m ∙ sym (row_at b r d m))

-- as a part of the words
pub row-part : (cells : List ℕ) (r : ℕ) → take (most_cells * r + most_cells - most_cells * r) (drop (most_cells * r) cells) ≡ row_of cells r
unfolding row_of
row-part cells r = let e : most_cells * r + most_cells - most_cells * r ≡ most_cells = omega arith in rw e

-- a word of a row and one of the single controller's
module _ (cells : List ℕ) (r c : ℕ) {a : ℕ} (at : a ≡ most_cells * r) (l : c < most_cells) where
  word-here : get_or (row_of cells r) c 0 ≡ get_or cells (a + c) 0
  word-here = row_at cells r c l ∙ ap (λ (n : ℕ). get_or cells (n + c) 0) (sym at)

  word_first : get_or (row_of cells 0) c 0 ≡ get_or cells c 0
  word_first = row_at cells 0 c l ∙ ap (λ (n : ℕ). get_or cells n 0) (let z : most_cells * 0 + c ≡ c = omega arith in z)

  pub words_same : get_or cells (a + c) 0 ≡ get_or cells c 0 → get_or (row_of cells r) c 0 ≡ get_or (row_of cells 0) c 0
  words_same e = word-here ∙ e ∙ sym word_first

  pub words-differ : (get_or cells (a + c) 0 ≡ get_or cells c 0 → ⊥) → get_or (row_of cells r) c 0 ≡ get_or (row_of cells 0) c 0 → ⊥
  words-differ f e = f (sym word-here ∙ e ∙ word_first)

-- two memories of rows
pub memory-eq : {a b : ℕ} {s t : List ℕ} → a ≡ b → s ≡ t → ◌≡◌ {A = Memory} (record { counter = a; cells = s }) (record { counter = b; cells = t })
memory-eq e f = λ i. record { counter = e i; cells = f i }

-- ---- one row lent and back

module _ (cells part : List ℕ) (r : ℕ) {a k : ℕ} (at : a ≡ most_cells * r) (size : k ≡ most_cells) (fits : most_cells * r + most_cells ≤ length cells) (long : length part ≡ most_cells) where
  pub lent_length : length (put_mid a k cells part) ≡ length cells
  lent_length = same_len_mid a k cells part (long ∙ sym (length-take-le k (drop a cells) (rw length-drop (omega arith)) ∙ size))

  pub lent-here : row_of (put_mid a k cells part) r ≡ part
  unfolding row_of
  lent-here =
      ap (λ (n : ℕ). take most_cells (drop n (put_mid a k cells part))) (sym at)
      ∙ ap (take most_cells) (drop_at (take a cells) (part ++ drop k (drop a cells)) a (length-take-le a cells (omega arith)))
      ∙ take_at part (drop k (drop a cells)) most_cells long

  pub lent_other : (q : ℕ) → (q ≡ r → ⊥) → row_of (put_mid a k cells part) q ≡ row_of cells q
  lent_other q ne =
      row_same (put_mid a k cells part) cells q lent_length
      (λ d l. ap (λ (s : List ℕ). get_or s (most_cells * q + d) 0) (part-back cells part part a k refl (long ∙ sym size)) ∙ by d l (ltb q r) refl)
    where
      room : a + length part ≤ length cells
      room = omega arith

      by : (d : ℕ) → d < most_cells → (b : Bool) → ltb q r ≡ b → get_or (placed cells a part) (most_cells * q + d) 0 ≡ get_or cells (most_cells * q + d) 0
      by d l true t = let m : q < r = ltb-true q r t in placed-before cells a part room (most_cells * q + d) (omega arith)
      by d l false t =
          let m : r ≤ q = ltb-false q r t in
          let i : ℕ = most_cells * q + d - (a + length part) in
          let e : a + length part + i ≡ most_cells * q + d = omega (arith, ne) in
          subst (λ (n : ℕ). get_or (placed cells a part) n 0 ≡ get_or cells n 0) e (placed-after cells a part room i)

-- ---- a loop over rows

module _ (f : ℕ → Memory → Memory) (counters₀ cells₀ : List ℕ) where
  pub through-none : Through 0 f counters₀ cells₀ counters₀ cells₀
  through-none = record { done = λ q l. absurd (not-suc-le-zero l); left = λ q l. refl }

  module _ {k : ℕ} {counters cells : List ℕ} (h : Through k f counters₀ cells₀ counters cells) where
    pub through-next : {counters' cells' : List ℕ} → Stored counters cells k (f k (memory_in counters cells k)) counters' cells' → Through (k + 1) f counters₀ cells₀ counters' cells'
    through-next {counters'} {cells'} s =
        record {
          done = λ q l. split (eqb q k)
              (λ t. rw (eqb-true q k t) (s.here ∙ ap (f k) (h.left k (omega arith))))
              (λ t. s.others q (eqb-false q k t) ∙ h.done q (omega (arith, eqb-false q k t)));
          left = λ q l. s.others q (λ e. omega arith) ∙ h.left q (omega arith);
        }

    pub through-kept : ((m : Memory) → f k m ≡ m) → Through (k + 1) f counters₀ cells₀ counters cells
    through-kept e =
        record {
          done = λ q l. split (eqb q k)
              (λ t. rw (eqb-true q k t) (h.left k (omega arith) ∙ sym (e (memory_in counters₀ cells₀ k))))
              (λ t. h.done q (omega (arith, eqb-false q k t)));
          left = λ q l. h.left q (omega arith);
        }

    pub through_same : {counters' cells' : List ℕ} → counters' ≡ counters → cells' ≡ cells → Through k f counters₀ cells₀ counters' cells'
    through_same {counters'} {cells'} e g =
        subst (λ (s : List ℕ). Through k f counters₀ cells₀ counters' s) (sym g)
        (subst (λ (s : List ℕ). Through k f counters₀ cells₀ s cells) (sym e) h)

    pub through-all : {n : ℕ} → k ≡ n → Through n f counters₀ cells₀ counters cells
    through-all e = rw e at h

-- two passes in a row
pub through-then :
    {n : ℕ} {f g : ℕ → Memory → Memory} {counters cells counters₁ cells₁ counters₂ cells₂ : List ℕ} →
    Through n f counters cells counters₁ cells₁ →
    Through n g counters₁ cells₁ counters₂ cells₂ →
    Through n (λ q m. g q (f q m)) counters cells counters₂ cells₂
through-then {n} {f} {g} s t = record { done = λ q l. t.done q l ∙ ap (g q) (s.done q l); left = λ q l. t.left q l ∙ s.left q l }

-- ---- one row stored: its counter, and its part

pub stored_row :
    (counters cells part : List ℕ) (r x : ℕ) {a k : ℕ} →
    a ≡ most_cells * r →
    k ≡ most_cells →
    r < length counters →
    most_cells * r + most_cells ≤ length cells →
    length part ≡ most_cells →
    Stored counters cells r (record { counter = x; cells = part }) (set counters r x) (put_mid a k cells part)
stored_row counters cells part r x at size l fits long =
    record {
      here = memory-eq (get_or-set_same counters r x 0 l) (lent-here cells part r at size fits long);
      others = λ q ne. memory-eq (get_or-set_other counters r q x 0 ne) (lent_other cells part r at size fits long q ne);
    }

pub stored-memory :
    (m : Memory) (counters cells part : List ℕ) (r : ℕ) {a k : ℕ} →
    a ≡ most_cells * r →
    k ≡ most_cells →
    r < length counters →
    most_cells * r + most_cells ≤ length cells →
    length m.cells ≡ most_cells →
    part ≡ m.cells →
    Stored counters cells r m (set counters r m.counter) (put_mid a k cells part)
stored-memory m counters cells part r at size l fits long e =
    let n : length part ≡ most_cells = ap length e ∙ long in
    let s = stored_row counters cells part r m.counter at size l fits n in
    record { here = s.here ∙ memory-eq refl e; others = s.others }

-- ---- a record taken apart, and put together

module _ (memories : List Memory) where
  -- the first n memories stand in their rows
  pub record Unpacked (n : ℕ) (counters cells : List ℕ) : Type 0 where
    pub nodes : (j : ℕ) → j < n → memory_in counters cells (suc j) ≡ get_or memories j zero_memory

  pub unpacked-none : (counters cells : List ℕ) → Unpacked 0 counters cells
  unpacked-none counters cells = record { nodes = λ j l. absurd (not-suc-le-zero l) }

  pub unpacked-next :
      {counters cells counters' cells' : List ℕ} {m : Memory} (n : ℕ) →
      Unpacked n counters cells →
      Stored counters cells (n + 1) m counters' cells' →
      m ≡ get_or memories n zero_memory →
      Unpacked (n + 1) counters' cells'
  unpacked-next {counters} {cells} {counters'} {cells'} {m} n h s e =
      record {
        nodes = λ j l.
            split (eqb j n)
            (λ t. rw (eqb-true j n t) (subst (λ (r : ℕ). memory_in counters' cells' r ≡ m) (add-one n) s.here ∙ e))
            (λ t. s.others (suc j) (λ z. eqb-false j n t (omega (arith, add-one n))) ∙ h.nodes j (omega (arith, eqb-false j n t)));
      }

pub rows-unpacked :
    (sys : System) {counters cells good seen : List ℕ} {n : ℕ} →
    length sys.memories ≡ most_nodes →
    length sys.seen.handed ≡ most_actuators →
    good ≡ sys.good →
    seen ≡ seen_words sys.seen →
    Unpacked sys.memories n counters cells →
    n ≡ most_nodes →
    Rows sys counters cells good seen
rows-unpacked sys l m e f h z = record { node-is = λ j k. h.nodes j (omega arith); good-is = e; seen-is = f; count = l; seen-count = m }

-- a system stays where the single controller's row is stored
pub rows-beside :
    {sys : System} {counters cells good seen counters' cells' good' seen' : List ℕ} {m : Memory} →
    Rows sys counters cells good seen →
    Stored counters cells 0 m counters' cells' →
    good' ≡ good →
    seen' ≡ seen →
    Rows sys counters' cells' good' seen'
rows-beside h s e f = record { node-is = λ j l. s.others (suc j) (λ z. omega arith) ∙ h.node-is j l; good-is = e ∙ h.good-is; seen-is = f ∙ h.seen-is; count = h.count; seen-count = h.seen-count }

pub seen-long : {sys : System} {counters cells good seen : List ℕ} → Rows sys counters cells good seen → length seen ≡ most_actuators
seen-long h = ap length h.seen-is ∙ h.seen-count

pub packed-is :
    (counters cells good words : List ℕ) (seen : Seen) (start memories : List Memory) →
    words ≡ seen_words seen →
    length start ≡ most_nodes →
    memories ≡ fill (λ j. memory_in counters cells (j + 1)) most_nodes start →
    (sys : System) → Rows sys counters cells good words →
    ◌≡◌ {A = System} (record { memories = memories; good = good; seen = seen }) sys
packed-is counters cells good words seen start memories w n e sys h =
    let long : length memories ≡ most_nodes = ap length e ∙ fill-length (λ j. memory_in counters cells (j + 1)) most_nodes start ∙ n in
    let same : memories ≡ sys.memories =
    ext_get_or zero_memory memories sys.memories (long ∙ sym h.count)
    (λ j l.
    ap (λ (s : List Memory). get_or s j zero_memory) e
    ∙ fill-in (λ j. memory_in counters cells (j + 1)) most_nodes start j zero_memory (omega arith) (omega arith)
    ∙ ap (memory_in counters cells) (add-one j)
    ∙ h.node-is j (omega arith)) in
    let handed : seen.handed ≡ sys.seen.handed = sym w ∙ h.seen-is in
    λ i. record { memories = same i; good = h.good-is i; seen = record { handed = handed i } }

-- ---- a row that runs its tasks

-- a part changed by f
pub row-changed :
    (cells part : List ℕ) (r : ℕ) {a k : ℕ} →
    a ≡ most_cells * r →
    k ≡ most_cells →
    most_cells * r + most_cells ≤ length cells →
    length part ≡ most_cells →
    (f : List ℕ → List ℕ) →
    part ≡ f (take k (drop a cells)) →
    row_of (put_mid a k cells part) r ≡ f (row_of cells r)
unfolding row_of
row-changed cells part r {a} {k} at size fits long f e = lent-here cells part r at size fits long ∙ e ∙ ap f (rw (at, size))

pub computed-stored :
    (p : Plan) (sensors counters cells cells' : List ℕ) (r : ℕ) →
    r < length counters →
    row_of cells' r ≡ run_tasks p (get_or counters r 0 % p.frames) sensors p.task_count (row_of cells r) →
    ((q : ℕ) → (q ≡ r → ⊥) → row_of cells' q ≡ row_of cells q) →
    Stored counters cells r (computed p sensors (memory_in counters cells r)) (set counters r ((get_or counters r 0 % p.frames + 1) % p.frames)) cells'
computed-stored p sensors counters cells cells' r l e h =
    record {
      here = memory-eq (get_or-set_same counters r _ 0 l) refl ∙ computed-is p sensors (memory_in counters cells r) e;
      others = λ q ne. memory-eq (get_or-set_other counters r q _ 0 ne) (h q ne);
    }

-- ---- rows that are the same

-- two memories by their counters and first cells
abbrev same : ℕ → Memory → Memory → Bool
same count m s = eqb m.counter s.counter && all_below (λ c. eqb (get_or m.cells c 0) (get_or s.cells c 0)) count

module _ (count : ℕ) (m s : Memory) where
  pub same-counter : (m.counter ≡ s.counter → ⊥) → false ≡ same count m s
  same-counter h = rw (ne_eqb m.counter s.counter h)

  pub same-cell : (c : ℕ) → c < count → (get_or m.cells c 0 ≡ get_or s.cells c 0 → ⊥) → false ≡ same count m s
  same-cell c l h = sym (and-false-right (eqb m.counter s.counter) (all_below-fails (λ c. eqb (get_or m.cells c 0) (get_or s.cells c 0)) count c l (ne_eqb _ _ h)))

  pub same-all : {c : ℕ} → m.counter ≡ s.counter → all_below (λ c. eqb (get_or m.cells c 0) (get_or s.cells c 0)) c ≡ true → c ≡ count → true ≡ same count m s
  same-all {c} e h k = sym (and_both (eq-eqb _ _ e) (all-passed _ h k))

  pub same_more : (c : ℕ) → all_below (λ c. eqb (get_or m.cells c 0) (get_or s.cells c 0)) c ≡ true → get_or m.cells c 0 ≡ get_or s.cells c 0 → all_below (λ c. eqb (get_or m.cells c 0) (get_or s.cells c 0)) (c + 1) ≡ true
  same_more c h e = all_below-more (λ c. eqb (get_or m.cells c 0) (get_or s.cells c 0)) c h (eq-eqb _ _ e)

same-is : (p : Plan) (a b c d : Memory) {count : ℕ} → count ≡ p.cells → a ≡ c → b ≡ d → same count a b ≡ same_memory p c d
unfolding same_memory
same-is p a b c d e f g = rw (e, f, g)

-- the count over rows is the count over memories
pub equal_is :
    (p : Plan) (sys : System) (single : Memory) (counters cells good seen : List ℕ) {count : ℕ} (n : ℕ) →
    Rows sys counters cells good seen →
    memory_in counters cells 0 ≡ single →
    count ≡ p.cells →
    n ≤ most_nodes →
    how_many (λ j. same_row count counters cells (j + 1)) n ≡ how_many (λ i. same_memory p (memory_of sys i) single) n
unfolding same_row
equal_is p sys single counters cells good seen n h e k few =
    how_many-same _ _ n
    (λ j l. rw (add-one j) (same-is p (memory_in counters cells (suc j)) (memory_in counters cells 0) (memory_of sys j) single k (h.node-is j (omega arith)) e))
