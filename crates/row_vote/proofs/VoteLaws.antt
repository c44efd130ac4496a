-- Laws of the vote on rows: column by column, and that the columns and the counters give each row's vote.
use Rattle.std.specs.Prelude.{Option, None, Some, unwrap_or}
use Rattle.std.proofs.lemmas.Option.{same_Some}
use mathlib.Core.Path.{◌≡◌, refl, sym, ap, ◌∙◌}
use mathlib.Core.Bool.{Bool, true, false, cond}
use mathlib.Core.List.{List}
use Prim.Native.Nat.{ℕ, zero, suc, ◌+◌, ◌-◌, ◌≤◌, ◌<◌}
use native.Mathlib.Omega.{arith}
use native.Mathlib.Nat.{mod-lt}
use lib.Dec.{eqb, ltb}
use lib.ListN.{length, get_or}
use lib.Seq.{ext_get_or}
use borrow.Author.Tests.{eqb-true, eqb-false, ltb-true, ltb-false, lt-ltb, le-ltb}
use Rattle.array.specs.Index.{fill}
use Rattle.array.specs.Bit.{bit}
use Rattle.array.proofs.TestLaws.{split, clash, and-false-right}
use Rattle.array.proofs.PlacesLaws.{fill-length, fill-in, fill-out}
use Rattle.plan.specs.declared.Sizes.{Sizes}
use Rattle.plan.specs.Limits.{most_nodes, most_cells}
use Rattle.ballot.specs.Majority.{majority}
use Rattle.ballot.proofs.MajorityLaws.{no-some}
use Rattle.memory.specs.declared.Memory.{Memory}
use Rattle.rows.specs.Code.{word_count, word_place, row_of, memory_in, Through}
use Rattle.rows.proofs.RowLaws.{row_at, row-length, row_same, memory-eq}
use Rattle.row_counter.specs.Code.{Put, frame_before, agreed_frame, counter_after}
use Rattle.row_word.specs.Code.{fault_word, is_good, good_only, heard_word}
use Rattle.row_counter.proofs.PutLaws.{put-idle}
use Rattle.row_counter.proofs.HeardLaws.{counter-settled}
use Rattle.row_word.proofs.HeardLaws.{heard-same, heard-agreement}
use Rattle.row_vote.specs.Code.{voted_at, sent_word, voted_by, takes, word_after, word_agreement, sent_frame, voted_row, voted_word}

-- ---- the frame that is agreed

-- a frame is agreed only where a counter that is one is decided
pub agreed-some : (frames : ℕ) (o : Option ℕ) {r : ℕ} → Some r ≡ agreed_frame frames o → (x : ℕ) × (o ≡ Some x) × (x < frames) × (r ≡ frame_before frames x)
unfolding agreed_frame
agreed-some frames None e = absurd (no-some (sym e))
agreed-some frames (Some x) {r} e =
    split (ltb x frames)
    (λ t. (x, refl, ltb-true x frames t, same_Some r (frame_before frames x) (e ∙ rw t)))
    (λ t. absurd (no-some (sym (e ∙ rw t))))

pub agreed-small : (frames : ℕ) (o : Option ℕ) {r : ℕ} → 0 < frames → Some r ≡ agreed_frame frames o → r < frames
agreed-small frames o pos e = let a = agreed-some frames o e in rw a.3 (mod-lt (a.0 + frames - 1) pos)

-- and then every good node votes in it
pub frame-agreed :
    (s : Sizes) (mask : ℕ) (faults counters : List ℕ) {r : ℕ} →
    Some r ≡ agreed_frame s.frames (majority (good_only mask (λ j. get_or counters (suc j) 0)) s.nodes) →
    (i : ℕ) → r ≡ frame_before s.frames (counter_after s mask faults counters i)
frame-agreed s mask faults counters e i =
    let a = agreed-some s.frames _ e in
    a.3 ∙ ap (frame_before s.frames) (sym (counter-settled s mask faults i counters a.0 a.1 a.2))

-- ---- column by column

module _ (votes : List Bool) (s : Sizes) (mask : ℕ) (faults : List ℕ) (sent frame : ℕ → ℕ) (cells : List ℕ) where
  abbrev voted : ℕ → ℕ → ℕ → ℕ
  voted = voted_word votes s mask faults sent frame cells

  abbrev old : ℕ → ℕ → ℕ
  old q d = get_or cells (word_place q d) 0

  abbrev pub Voting : ℕ → List ℕ → Type 0
  Voting k now = (q d : ℕ) → d < most_cells → get_or now (word_place q d) 0 ≡ voted k q d

  voted-first : (k d : ℕ) → voted k zero d ≡ old zero d
  unfolding voted_word
  voted-first k d = refl

  voted-not : (k q d : ℕ) → k ≤ d → voted k q d ≡ old q d
  unfolding voted_word
  voted-not k zero d l = refl
  voted-not k (suc i) d l = rw (le-ltb d k l)

  voted-past : (k i d : ℕ) → s.nodes ≤ i → voted k (suc i) d ≡ old (suc i) d
  unfolding voted_word
  voted-past k i d l = rw (le-ltb i s.nodes l, and-false-right (ltb d k) refl)

  voted-left : (k i d : ℕ) → takes votes mask frame d i ≡ false → voted k (suc i) d ≡ old (suc i) d
  unfolding voted_word
  voted-left k i d t = rw (t, and-false-right (ltb i s.nodes) refl, and-false-right (ltb d k) refl)

  voted-taken : (k i d : ℕ) → d < k → i < s.nodes → takes votes mask frame d i ≡ true → voted k (suc i) d ≡ word_after votes s mask faults sent cells d i
  unfolding voted_word
  voted-taken k i d l h t = rw (lt-ltb d k l, lt-ltb i s.nodes h, t)

  -- in the other columns nothing changes
  voted-other : (k q d : ℕ) → (d ≡ k → ⊥) → voted k q d ≡ voted (k + 1) q d
  unfolding voted_word
  voted-other k zero d f = refl
  voted-other k (suc i) d f =
      split (ltb d k)
      (λ t. rw (t, lt-ltb d (k + 1) (omega (arith, ltb-true d k t))))
      (λ t. rw (t, le-ltb d (k + 1) (omega (arith, ltb-false d k t, f))))

  pub voting-none : Voting 0 cells
  voting-none q d l = sym (voted-not 0 q d (omega arith))

  module _ (c : ℕ) (l : c < most_cells) (now : List ℕ) (h : Voting c now) where
    -- the column is as it was at the start
    column-still : (q : ℕ) → get_or now (word_place q c) 0 ≡ old q c
    column-still q = h q c l ∙ voted-not c q c (omega arith)

    word-still : (i : ℕ) → word_after votes s mask faults sent now c i ≡ word_after votes s mask faults sent cells c i
    unfolding word_after
    word-still i =
        rw (
          column-still (suc i),
          heard-same mask s.nodes (sent_word votes sent now c) (sent_word votes sent cells c) (λ j k. rw (column-still (suc j))) (fault_word s mask faults (suc c) i),
        )

    pub agreement-still : (i : ℕ) → word_agreement votes s mask faults sent now c i ≡ word_agreement votes s mask faults sent cells c i
    unfolding word_agreement
    agreement-still i =
        heard-agreement mask s.nodes (sent_word votes sent now c) (sent_word votes sent cells c) (λ j k. rw (column-still (suc j))) (fault_word s mask faults (suc c) i)

    module _ (next : List ℕ) (p : Put (λ i. word_place (suc i) c) (takes votes mask frame c) (word_after votes s mask faults sent now c) s.nodes now next) where
      -- a word of another column, or of no node's row
      elsewhere : (q d : ℕ) → d < most_cells → (d ≡ c → ⊥) → get_or next (word_place q d) 0 ≡ get_or now (word_place q d) 0
      elsewhere q d m f = p.others (word_place q d) (λ j k t e. f (omega arith))

      untaken : (q : ℕ) → ((j : ℕ) → j < s.nodes → takes votes mask frame c j ≡ true → q ≡ suc j → ⊥) → get_or next (word_place q c) 0 ≡ get_or now (word_place q c) 0
      untaken q f = p.others (word_place q c) (λ j k t e. f j k t (omega arith))

      here : (q : ℕ) → get_or next (word_place q c) 0 ≡ voted (c + 1) q c
      here zero = untaken zero (λ j k t e. omega arith) ∙ column-still zero ∙ sym (voted-first (c + 1) c)
      here (suc i) =
          split (ltb i s.nodes)
          (λ t.
          split (takes votes mask frame c i)
          (λ u. p.here i (ltb-true _ _ t) u ∙ word-still i ∙ sym (voted-taken (c + 1) i c (omega arith) (ltb-true _ _ t) u))
          (λ u. untaken (suc i) (λ j k v e. let z : i ≡ j = omega arith in clash v (rw z at u)) ∙ column-still (suc i) ∙ sym (voted-left (c + 1) i c u)))
          (λ t. untaken (suc i) (λ j k v e. omega (arith, ltb-false i s.nodes t)) ∙ column-still (suc i) ∙ sym (voted-past (c + 1) i c (ltb-false _ _ t)))

      pub voting-next : Voting (c + 1) next
      voting-next q d m =
          split (eqb d c)
          (λ t. rw (eqb-true d c t) (here q))
          (λ t. elsewhere q d m (eqb-false d c t) ∙ h q d m ∙ voted-other c q d (eqb-false d c t))

    -- no node votes on it
    pub voting-skip : ((i : ℕ) → i < s.nodes → takes votes mask frame c i ≡ false) → Voting (c + 1) now
    voting-skip f = voting-next now (put-idle _ _ _ s.nodes now (λ j k t. absurd (clash t (f j k))))

-- ---- the rows after the vote

module _
    (votes : List Bool) (s : Sizes) (mask : ℕ) (faults : List ℕ) (few : s.nodes ≤ most_nodes) (narrow : s.cells ≤ most_cells)
    (counters cells counters' cells' : List ℕ) (size : length cells ≡ word_count) (size' : length cells' ≡ word_count)
    (sent frame : ℕ → ℕ)
    (sent_is : (j : ℕ) → j < s.nodes → sent j ≡ frame_before s.frames (get_or counters (suc j) 0))
    (frame_is : (i : ℕ) → i < s.nodes → bit mask i ≡ false → frame i ≡ frame_before s.frames (counter_after s mask faults counters i))
    (counted : Put suc (is_good mask) (counter_after s mask faults counters) s.nodes counters counters')
    (columns : Voting votes s mask faults sent frame cells s.cells cells')
  where
    abbrev row : ℕ → Memory
    row q = memory_in counters cells q

    -- a row that takes nothing stays
    row_stays : (q : ℕ) → ((d : ℕ) → voted_word votes s mask faults sent frame cells s.cells q d ≡ get_or cells (word_place q d) 0) → row_of cells' q ≡ row_of cells q
    row_stays q f = row_same cells' cells q (size' ∙ sym size) (λ d l. columns q d l ∙ f d)

    good-row :
        (i : ℕ) → i < s.nodes → bit mask i ≡ false →
        memory_in counters' cells' (suc i)
        ≡ voted_by votes s (heard_word s mask faults (λ j. get_or counters (suc j) 0) 0 i) (λ c. heard_word s mask faults (sent_word votes (sent_frame votes s mask faults counters cells) cells c) (suc c) i) (row (suc i))
    unfolding voted_by counter_after word_after
    good-row i l t =
        memory-eq (counted.here i l (rw t))
        (ext_get_or 0 (row_of cells' (suc i)) (fill after s.cells (row_of cells (suc i)))
        (long' ∙ sym (fill-length after s.cells (row_of cells (suc i)) ∙ long))
        (λ d h. let m : d < most_cells = omega (arith, long') in row_at cells' (suc i) d m ∙ columns (suc i) d m ∙ by d m (ltb d s.cells) refl))
      where
        long : length (row_of cells (suc i)) ≡ most_cells
        long = row-length cells (suc i) (omega (arith, size))

        long' : length (row_of cells' (suc i)) ≡ most_cells
        long' = row-length cells' (suc i) (omega (arith, size'))

        words : ℕ → ℕ → Option ℕ
        words c = heard_word s mask faults (sent_word votes (sent_frame votes s mask faults counters cells) cells c) (suc c) i

        after : ℕ → ℕ
        after c =
            cond (voted_at votes (frame_before s.frames (counter_after s mask faults counters i)) c)
            (unwrap_or (majority (words c) s.nodes) (get_or (row_of cells (suc i)) c 0))
            (get_or (row_of cells (suc i)) c 0)

        word-is : (d : ℕ) → d < most_cells → word_after votes s mask faults sent cells d i ≡ unwrap_or (majority (words d) s.nodes) (get_or (row_of cells (suc i)) d 0)
        word-is d m =
            rw (
              heard-same mask s.nodes (sent_word votes sent cells d) (sent_word votes (sent_frame votes s mask faults counters cells) cells d) (λ j k. rw (sent_is j k)) (fault_word s mask faults (suc d) i),
              row_at cells (suc i) d m,
            )

        takes-is : (d : ℕ) → takes votes mask frame d i ≡ voted_at votes (frame_before s.frames (counter_after s mask faults counters i)) d
        takes-is d = rw (t, frame_is i l t)

        by : (d : ℕ) → d < most_cells → (b : Bool) → ltb d s.cells ≡ b → voted_word votes s mask faults sent frame cells s.cells (suc i) d ≡ get_or (fill after s.cells (row_of cells (suc i))) d 0
        by d m true u =
            split (takes votes mask frame d i)
            (λ v. voted-taken votes s mask faults sent frame cells s.cells i d (ltb-true _ _ u) l v ∙ word-is d m ∙ sym (filled d u ∙ rw (sym (takes-is d) ∙ v)))
            (λ v. voted-left votes s mask faults sent frame cells s.cells i d v ∙ sym (row_at cells (suc i) d m) ∙ sym (filled d u ∙ rw (sym (takes-is d) ∙ v)))
          where
            filled : (d : ℕ) → ltb d s.cells ≡ true → get_or (fill after s.cells (row_of cells (suc i))) d 0 ≡ after d
            filled d u = fill-in after s.cells (row_of cells (suc i)) d 0 (ltb-true _ _ u) (omega (arith, long, ltb-true d s.cells u))
        by d m false u =
            voted-not votes s mask faults sent frame cells s.cells (suc i) d (ltb-false _ _ u)
            ∙ sym (row_at cells (suc i) d m)
            ∙ sym (fill-out after s.cells (row_of cells (suc i)) d 0 (ltb-false _ _ u))

    bad-row : (i : ℕ) → i < s.nodes → bit mask i ≡ true → memory_in counters' cells' (suc i) ≡ row (suc i)
    bad-row i l t =
        memory-eq (counted.others (suc i) (λ j k g e. let z : i ≡ j = omega arith in clash (rw (← z) at g) (rw t)))
        (row_stays (suc i) (λ d. voted-left votes s mask faults sent frame cells s.cells i d (rw t)))

    row-voted : (q : ℕ) → q < s.nodes + 1 → memory_in counters' cells' q ≡ voted_row votes s mask faults counters cells q (row q)
    unfolding voted_row
    row-voted zero l =
        memory-eq (counted.others 0 (λ j k g e. omega arith)) (row_stays 0 (λ d. voted-first votes s mask faults sent frame cells s.cells d))
    row-voted (suc i) l = split (bit mask i) (λ t. rw t (bad-row i (omega arith) t)) (λ t. rw t (good-row i (omega arith) t))

    row-left : (q : ℕ) → s.nodes + 1 ≤ q → memory_in counters' cells' q ≡ row q
    row-left zero l = absurd (omega arith)
    row-left (suc i) l =
        memory-eq (counted.others (suc i) (λ j k g e. omega arith))
        (row_stays (suc i) (λ d. voted-past votes s mask faults sent frame cells s.cells i d (omega arith)))

    pub rows-voted : Through (s.nodes + 1) (voted_row votes s mask faults counters cells) counters cells counters' cells'
    rows-voted = record { done = row-voted; left = row-left }
