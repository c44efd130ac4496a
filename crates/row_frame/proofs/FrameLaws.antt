-- Laws of a frame on rows: what every node hears is what its mailbox says, and the phases give the record of the definitions.
use Rattle.std.specs.Prelude.{Option, Some, unwrap_or}
use mathlib.Core.Path.{◌≡◌, refl, sym, ap, ◌∙◌, subst}
use mathlib.Core.Bool.{Bool, true, false, cond}
use mathlib.Core.List.{List}
use Prim.Native.Nat.{ℕ, suc, ◌+◌, ◌^◌, ◌≤◌, ◌<◌}
use native.Mathlib.Omega.{arith}
use lib.Dec.{eqb, ltb}
use lib.ListN.{length, get_or}
use lib.Seq.{ext_get_or}
use borrow.Author.Tests.{eqb-true, eqb-false, ltb-true, ltb-false, lt-ltb, le-ltb}
use Rattle.array.specs.Index.{fill, lesser, least}
use Rattle.array.specs.Bit.{bit}
use Rattle.array.specs.Word.{be}
use Rattle.array.proofs.TestLaws.{split}
use Rattle.array.proofs.LeastLaws.{least-same}
use Rattle.array.proofs.PlacesLaws.{fill-length, fill-in, fill-out, fill-same}
use Rattle.plan.specs.declared.Plan.{Plan}
use Rattle.plan.specs.declared.Sizes.{Sizes}
use Rattle.plan.specs.Limits.{most_nodes, most_frames, most_cells, most_actuators}
use Rattle.plan.specs.Known.{period}
use Rattle.plan.specs.Tables.{voted_in}
use Rattle.plan.specs.Accepted.{accepted}
use Rattle.plan.specs.Sizes.{sizes_with, sizes_of}
use Rattle.plan.proofs.AcceptedLaws.{Shape, shape-of-accepted}
use Rattle.plan_period.proofs.AnswerLaws.{period-small}
use Rattle.ballot.specs.Majority.{majority, agreement, or_own}
use Rattle.ballot.proofs.MajorityLaws.{majority-same}
use Rattle.ballot.proofs.AgreementLaws.{agreement-same}
use Rattle.ballot.proofs.PlaneLaws.{plane-same}
use Rattle.memory.specs.declared.Memory.{Memory}
use Rattle.memory.specs.Size.{pattern_size, cell_at, bin_size}
use Rattle.memory.specs.Node.{zero_memory, computed, message_of, bin_of, before, sent_cell, counter_from, cell_from, counter_in, cell_in, voted_counter, voted_cell, voted, vote_agreement, setpoint}
use Rattle.memory.proofs.MessageLaws.{bin-length, counter_from-message, cell_from-message, counter_from-part, cell_from-part, counter_in-bin, cell_in-bin}
use Rattle.memory.proofs.NodeLaws.{computed-small, computed-length, computed-past}
use Rattle.system.specs.declared.System.{System}
use Rattle.system.specs.Fault.{fault_at, fault_message_at, fault_memory, fault_message}
use Rattle.system.specs.Counts.{good_after}
use Rattle.system.specs.Frame.{memory_of, computed_by, heard, mailbox_of, memory_after, put_out, handed_on, system_after, agreement_by, frame_agreement}
use Rattle.system.proofs.FaultLaws.{fault_message-length}
use Rattle.faults.specs.Code.{Small}
use Rattle.faults.proofs.LayoutLaws.{small-of-shape}
use Rattle.rows.specs.Code.{word_place, memory_in, seen_words, Rows, Stored, Through}
use Rattle.rows.proofs.RowLaws.{row_at, memory-eq}
use Rattle.row_word.specs.Code.{is_good, heard_word}
use Rattle.row_counter.specs.Code.{frame_before, counter_after, counter_agreement}
use Rattle.row_vote.specs.Code.{voted_at, sent_word, voted_by, word_agreement, sent_frame, voted_row, row_agreement}
use Rattle.row_plane.specs.Code.{put_from, handed_from}
use Rattle.row_frame.specs.Code.{ran, spoiled, closed_row}

-- ---- the numbers of an accepted plan

pub sizes-are : (p : Plan) {r : ℕ} {s : Sizes} → r ≡ period p → s ≡ sizes_with p r → s ≡ sizes_of p
sizes-are p h e = e ∙ ap (sizes_with p) h

module _ (p : Plan) (accept : accepted p ≡ true) (s : Sizes) (e : s ≡ sizes_of p) where
  pub sizes-small : Small s × (0 < s.nodes) × (0 < s.frames) × (s.frames ≤ most_frames) × (s.period < 65536)
  sizes-small =
      let h : Shape p = shape-of-accepted p accept in
      subst (λ (z : Sizes). Small z × (0 < z.nodes) × (0 < z.frames) × (z.frames ≤ most_frames) × (z.period < 65536)) (sym e)
      (small-of-shape p h, omega (arith, h.nodes-low), h.frames-pos, h.frames-le, period-small p accept refl)

  pub table_fits : (a : ℕ) → a < s.actuators → get_or p.actuator_cell a 0 < most_cells
  table_fits =
      let h : Shape p = shape-of-accepted p accept in
      subst (λ (z : Sizes). (a : ℕ) → a < z.actuators → get_or p.actuator_cell a 0 < most_cells) (sym e)
      (λ a l. omega (arith, h.actuator a l, h.cells-le))

-- ---- the rows that run their tasks

module _ (p : Plan) (sensors : List ℕ) (first : ℕ) where
  pub ran-not : (q : ℕ) (m : Memory) → q < first → ran p sensors first q m ≡ m
  unfolding ran
  ran-not q m l = rw (lt-ltb q first l)

  pub ran-is : (q : ℕ) (m : Memory) → first ≤ q → ran p sensors first q m ≡ computed p sensors m
  unfolding ran
  ran-is q m l = rw (le-ltb q first l)

  -- before the first of them
  pub through-first : (counters cells : List ℕ) → Through first (ran p sensors first) counters cells counters cells
  through-first counters cells = record { done = λ q l. sym (ran-not q (memory_in counters cells q) l); left = λ q l. refl }

  pub ran-stored :
      (counters cells counters' cells' : List ℕ) (r : ℕ) → first ≤ r →
      Stored counters cells r (computed p sensors (memory_in counters cells r)) counters' cells' →
      Stored counters cells r (ran p sensors first r (memory_in counters cells r)) counters' cells'
  ran-stored counters cells counters' cells' r l h =
      record { here = h.here ∙ sym (ran-is r (memory_in counters cells r) l); others = h.others }

  -- row 0 is computed where they start with it
  pub ran-single : (m : Memory) → ran p sensors first 0 m ≡ cond (eqb first 0) (computed p sensors m) m
  ran-single m =
      split (eqb first 0)
      (λ t. rw t (ran-is 0 m (omega (arith, eqb-true first 0 t))))
      (λ t. rw t (ran-not 0 m (omega (arith, eqb-false first 0 t))))

-- ---- a bad node

-- what its fault leaves does not depend on its tasks
fault-computed : (p : Plan) → Shape p → (faults sensors : List ℕ) (i : ℕ) (m : Memory) → fault_memory (sizes_of p) faults i (computed p sensors m) ≡ fault_memory (sizes_of p) faults i m
unfolding fault_memory
fault-computed p s faults sensors i m = memory-eq refl cells
  where
    read : ℕ → ℕ
    read c = be pattern_size faults (fault_at (sizes_of p) i + cell_at c)

    long : length (fill read p.cells (computed p sensors m).cells) ≡ length m.cells
    long = fill-length read p.cells (computed p sensors m).cells ∙ computed-length p sensors m

    cells : fill read p.cells (computed p sensors m).cells ≡ fill read p.cells m.cells
    cells =
        ext_get_or 0 (fill read p.cells (computed p sensors m).cells) (fill read p.cells m.cells)
        (long ∙ sym (fill-length read p.cells m.cells))
        (λ c h.
        split (ltb c p.cells)
        (λ t.
        fill-in read p.cells (computed p sensors m).cells c 0 (ltb-true _ _ t) (omega (arith, long, computed-length p sensors m))
        ∙ sym (fill-in read p.cells m.cells c 0 (ltb-true _ _ t) (omega (arith, long))))
        (λ t.
        fill-out read p.cells (computed p sensors m).cells c 0 (ltb-false _ _ t)
        ∙ computed-past p sensors m s c (ltb-false _ _ t)
        ∙ sym (fill-out read p.cells m.cells c 0 (ltb-false _ _ t))))

-- ---- a vote by the words heard is the vote on the mailbox

voted-by :
    (p : Plan) (m : Memory) (box : List ℕ) (counters : ℕ → Option ℕ) (words : ℕ → ℕ → Option ℕ) →
    ((j : ℕ) → j < p.nodes → counters j ≡ counter_in p box j) →
    ((c j : ℕ) → c < p.cells → j < p.nodes → words c j ≡ cell_in p box c j) →
    voted_by p.voted (sizes_of p) counters words m ≡ voted p m box
unfolding voted_by voted voted_counter voted_cell before voted_in
voted-by p m box counters words e f =
    rw (majority-same counters (counter_in p box) p.nodes e)
    (memory-eq refl
    (fill-same _ _ p.cells m.cells
    (λ c l. rw (majority-same (words c) (cell_in p box c) p.nodes (λ j k. f c j l k)))))

-- and so is its agreement
agreed-by :
    (p : Plan) (m : Memory) (box : List ℕ) (counters : ℕ → Option ℕ) (words : ℕ → ℕ → Option ℕ) →
    ((j : ℕ) → j < p.nodes → counters j ≡ counter_in p box j) →
    ((c j : ℕ) → c < p.cells → j < p.nodes → words c j ≡ cell_in p box c j) →
    lesser (agreement counters p.nodes)
    (least (voted_at p.voted (frame_before p.frames (or_own p.frames m.counter (majority counters p.nodes)))) (λ c. agreement (words c) p.nodes) p.cells)
    ≡ vote_agreement p m box
unfolding vote_agreement voted_counter before voted_in
agreed-by p m box counters words e f =
    rw (majority-same counters (counter_in p box) p.nodes e, agreement-same counters (counter_in p box) p.nodes e)
    (ap (lesser (agreement (counter_in p box) p.nodes))
    (least-same _ _ _ _ p.cells (λ c l. refl) (λ c l t. agreement-same (words c) (cell_in p box c) p.nodes (λ j k. f c j l k))))

-- ---- the frame after its tasks

module _
    (p : Plan) (accept : accepted p ≡ true) (sys : System) (sensors : List ℕ) (mask : ℕ) (faults : List ℕ) (counters cells : List ℕ)
    (ran-node : (j : ℕ) → j < p.nodes → memory_in counters cells (suc j) ≡ computed p sensors (memory_of sys j))
    (bounded : (i : ℕ) → get_or cells i 0 < 2 ^ 64)
  where
    abbrev shape : Shape p
    shape = shape-of-accepted p accept

    abbrev own : ℕ → Memory
    own j = computed p sensors (memory_of sys j)

    own-counter : (j : ℕ) → j < p.nodes → get_or counters (suc j) 0 ≡ (own j).counter
    own-counter j l = ap (λ (m : Memory). m.counter) (ran-node j l)

    own-word : (j c : ℕ) → j < p.nodes → c < most_cells → get_or cells (word_place (suc j) c) 0 ≡ get_or (own j).cells c 0
    own-word j c l k = sym (row_at cells (suc j) c k) ∙ ap (λ (m : Memory). get_or m.cells c 0) (ran-node j l)

    -- ---- what node i hears of node j

    module _ (i : ℕ) where
      abbrev bin : ℕ → List ℕ
      bin = heard p sys sensors mask faults i

      bin-sizes : (j : ℕ) → length (bin j) ≡ bin_size p
      unfolding heard computed_by
      bin-sizes j = split (bit mask j) (λ t. rw t (fault_message-length (sizes_of p) faults j i)) (λ t. rw t (bin-length p (own j)))

      bin-good : (j : ℕ) → bit mask j ≡ false → bin j ≡ bin_of (message_of p (own j))
      unfolding heard computed_by
      bin-good j t = rw t

      bin-bad : (j : ℕ) → bit mask j ≡ true → bin j ≡ fault_message (sizes_of p) faults j i
      unfolding heard
      bin-bad j t = rw t

      counter-heard : (j : ℕ) → j < p.nodes → heard_word (sizes_of p) mask faults (λ k. get_or counters (suc k) 0) 0 i j ≡ counter_in p (mailbox_of p sys sensors mask faults i) j
      unfolding mailbox_of fault_message
      counter-heard j l =
          split (bit mask j)
          (λ t. rw t
          (counter_from-part p.cells faults (fault_message_at (sizes_of p) j i)
          ∙ sym (counter_in-bin p bin p.nodes bin-sizes j l ∙ ap (λ (b : List ℕ). counter_from b 0) (bin-bad j t))))
          (λ t. rw t
          (ap Some (own-counter j l)
          ∙ sym (counter_in-bin p bin p.nodes bin-sizes j l ∙ ap (λ (b : List ℕ). counter_from b 0) (bin-good j t)
          ∙ counter_from-message p (own j) (omega (arith, computed-small p sensors (memory_of sys j) shape.frames-pos, shape.frames-le)))))

      sent_is : (c j : ℕ) → c < p.cells → j < p.nodes → sent_word p.voted (sent_frame p.voted (sizes_of p) mask faults counters cells) cells c j ≡ sent_cell p (own j) c
      unfolding sent_cell before voted_in
      sent_is c j k l = rw (own-counter j l, own-word j c l (omega (arith, shape.cells-le)))

      word-heard :
          (c j : ℕ) → c < p.cells → j < p.nodes →
          heard_word (sizes_of p) mask faults (sent_word p.voted (sent_frame p.voted (sizes_of p) mask faults counters cells) cells c) (suc c) i j ≡ cell_in p (mailbox_of p sys sensors mask faults i) c j
      unfolding mailbox_of fault_message
      word-heard c j k l =
          split (bit mask j)
          (λ t. rw t
          (cell_from-part p.cells faults (fault_message_at (sizes_of p) j i) c k
          ∙ sym (cell_in-bin p bin p.nodes bin-sizes j l c k ∙ ap (λ (b : List ℕ). cell_from b c 0) (bin-bad j t))))
          (λ t. rw t
          (ap Some (sent_is c j k l)
          ∙ sym (cell_in-bin p bin p.nodes bin-sizes j l c k ∙ ap (λ (b : List ℕ). cell_from b c 0) (bin-good j t)
          ∙ cell_from-message p (own j) c k (rw (← (own-word j c l (omega (arith, shape.cells-le)))) (bounded (word_place (suc j) c))))))

    -- ---- the rows after it

    row-after : (i : ℕ) → closed_row p.voted (sizes_of p) mask faults counters cells (suc i) (own i) ≡ memory_after p sys sensors mask faults i
    unfolding spoiled voted_row memory_after computed_by
    row-after i =
        split (bit mask i)
        (λ t. rw t (fault-computed p shape faults sensors i (memory_of sys i)))
        (λ t. rw t
        (voted-by p (own i) (mailbox_of p sys sensors mask faults i)
        (heard_word (sizes_of p) mask faults (λ j. get_or counters (suc j) 0) 0 i)
        (λ c. heard_word (sizes_of p) mask faults (sent_word p.voted (sent_frame p.voted (sizes_of p) mask faults counters cells) cells c) (suc c) i)
        (counter-heard i) (word-heard i)))

    -- ---- the agreement

    agreement-after : (i : ℕ) → i < p.nodes → row_agreement p.voted (sizes_of p) mask faults counters cells i ≡ agreement_by p sys sensors mask faults i
    unfolding row_agreement counter_agreement counter_after word_agreement agreement_by computed_by
    agreement-after i l =
        rw (own-counter i l)
        (agreed-by p (own i) (mailbox_of p sys sensors mask faults i)
        (heard_word (sizes_of p) mask faults (λ j. get_or counters (suc j) 0) 0 i)
        (λ c. heard_word (sizes_of p) mask faults (sent_word p.voted (sent_frame p.voted (sizes_of p) mask faults counters cells) cells c) (suc c) i)
        (counter-heard i) (word-heard i))

    pub frame-agreed :
        {r : ℕ} → r ≡ unwrap_or (least (is_good mask) (row_agreement p.voted (sizes_of p) mask faults counters cells) p.nodes) 0 →
        r ≡ frame_agreement p sys sensors mask faults
    unfolding frame_agreement
    frame-agreed h =
        h ∙ ap (λ (o : Option ℕ). unwrap_or o 0) (least-same (is_good mask) (is_good mask) _ _ p.nodes (λ i l. refl) (λ i l t. agreement-after i l))

    module _ (counters' cells' : List ℕ) (closed : Through (p.nodes + 1) (closed_row p.voted (sizes_of p) mask faults counters cells) counters cells counters' cells') where
      node-after : (i : ℕ) → i < p.nodes → memory_in counters' cells' (suc i) ≡ memory_after p sys sensors mask faults i
      node-after i l = closed.done (suc i) (omega arith) ∙ ap (closed_row p.voted (sizes_of p) mask faults counters cells (suc i)) (ran-node i l) ∙ row-after i

      put_is : (a j : ℕ) → a < p.actuators → j < p.nodes → put_from (sizes_of p) mask faults cells' (get_or p.actuator_cell a 0) a j ≡ put_out p sys sensors mask faults a j
      unfolding put_out setpoint
      put_is a j l k =
          split (bit mask j)
          (λ t. rw t)
          (λ t. rw t
          (ap Some
          (sym (row_at cells' (suc j) (get_or p.actuator_cell a 0) (omega (arith, shape.actuator a l, shape.cells-le)))
          ∙ ap (λ (m : Memory). get_or m.cells (get_or p.actuator_cell a 0) 0) (node-after j k))))

      handed-after :
          (seen seen' : List ℕ) → seen ≡ seen_words sys.seen →
          seen' ≡ fill (handed_from p.actuator_cell (sizes_of p) mask faults cells' seen) p.actuators seen →
          seen' ≡ fill (handed_on p sys sensors mask faults) p.actuators sys.seen.handed
      unfolding handed_on
      handed-after seen seen' same h =
          h
          ∙ rw same
          (fill-same _ _ p.actuators sys.seen.handed
          (λ a l. plane-same (put_from (sizes_of p) mask faults cells' (get_or p.actuator_cell a 0) a) (put_out p sys sensors mask faults a) p.nodes _ (λ j k. put_is a j l k)))

      pub rows-after :
          ((j : ℕ) → p.nodes ≤ j → j < most_nodes → memory_in counters cells (suc j) ≡ memory_of sys j) →
          length sys.memories ≡ most_nodes →
          (good good' : List ℕ) → good ≡ sys.good →
          good' ≡ fill (good_after (period p) mask good) p.nodes good →
          length sys.seen.handed ≡ most_actuators →
          (seen seen' : List ℕ) → seen ≡ seen_words sys.seen →
          seen' ≡ fill (handed_from p.actuator_cell (sizes_of p) mask faults cells' seen) p.actuators seen →
          Rows (system_after p sys sensors mask faults) counters' cells' good' seen'
      unfolding system_after
      rows-after past count good good' same h seen-count seen seen' seen_same k =
          record {
            node-is = λ j l.
                split (ltb j p.nodes)
                (λ t. node-after j (ltb-true _ _ t) ∙ sym (fill-in (memory_after p sys sensors mask faults) p.nodes sys.memories j zero_memory (ltb-true _ _ t) (omega (arith, count))))
                (λ t. closed.left (suc j) (omega (arith, ltb-false j p.nodes t)) ∙ past j (ltb-false _ _ t) l ∙ sym (fill-out (memory_after p sys sensors mask faults) p.nodes sys.memories j zero_memory (ltb-false _ _ t)));
            good-is = h ∙ rw same;
            seen-is = handed-after seen seen' seen_same k;
            count = fill-length (memory_after p sys sensors mask faults) p.nodes sys.memories ∙ count;
            seen-count = fill-length (handed_on p sys sensors mask faults) p.actuators sys.seen.handed ∙ seen-count;
          }

-- ---- the whole frame

-- row 0 neither votes nor fails
closed-single : (votes : List Bool) (s : Sizes) (mask : ℕ) (faults counters cells : List ℕ) (m : Memory) → closed_row votes s mask faults counters cells 0 m ≡ m
unfolding spoiled voted_row
closed-single votes s mask faults counters cells m = refl

-- the rows have run their tasks, and `close` has made the rest of them
pub framed :
    (p : Plan) → accepted p ≡ true → (s : Sizes) → s ≡ sizes_of p →
    (first : ℕ) → first ≤ 1 → (sensors : List ℕ) (mask : ℕ) (faults : List ℕ)
    (counters cells counters₁ cells₁ counters₂ cells₂ good good' seen seen' : List ℕ) (agreed : ℕ) →
    Through (p.nodes + 1) (ran p sensors first) counters cells counters₁ cells₁ →
    ((i : ℕ) → get_or cells₁ i 0 < 2 ^ 64) →
    Through (s.nodes + 1) (closed_row p.voted s mask faults counters₁ cells₁) counters₁ cells₁ counters₂ cells₂ →
    seen' ≡ fill (handed_from p.actuator_cell s mask faults cells₂ seen) s.actuators seen →
    good' ≡ fill (good_after s.period mask good) s.nodes good →
    agreed ≡ unwrap_or (least (is_good mask) (row_agreement p.voted s mask faults counters₁ cells₁) s.nodes) 0 →
    ((sys : System) → Rows sys counters cells good seen → Rows (system_after p sys sensors mask faults) counters₂ cells₂ good' seen' × (agreed ≡ frame_agreement p sys sensors mask faults))
    × (memory_in counters₂ cells₂ 0 ≡ cond (eqb first 0) (computed p sensors (memory_in counters cells 0)) (memory_in counters cells 0))
framed p accept s e first few sensors mask faults counters cells counters₁ cells₁ counters₂ cells₂ good good' seen seen' agreed tasks bounded =
    subst
    (λ (z : Sizes).
    Through (z.nodes + 1) (closed_row p.voted z mask faults counters₁ cells₁) counters₁ cells₁ counters₂ cells₂ →
    seen' ≡ fill (handed_from p.actuator_cell z mask faults cells₂ seen) z.actuators seen →
    good' ≡ fill (good_after z.period mask good) z.nodes good →
    agreed ≡ unwrap_or (least (is_good mask) (row_agreement p.voted z mask faults counters₁ cells₁) z.nodes) 0 →
    ((sys : System) → Rows sys counters cells good seen → Rows (system_after p sys sensors mask faults) counters₂ cells₂ good' seen' × (agreed ≡ frame_agreement p sys sensors mask faults))
    × (memory_in counters₂ cells₂ 0 ≡ cond (eqb first 0) (computed p sensors (memory_in counters cells 0)) (memory_in counters cells 0)))
    (sym e)
    (λ closed puts counts least-is. (
      (λ sys rows. (
        rows-after p accept sys sensors mask faults counters₁ cells₁ (node sys rows) bounded counters₂ cells₂ closed (past sys rows) rows.count good good' rows.good-is counts
            rows.seen-count seen seen' rows.seen-is puts,
        frame-agreed p accept sys sensors mask faults counters₁ cells₁ (node sys rows) bounded least-is,
      )),
      alone closed ∙ tasks.done 0 (omega arith) ∙ ran-single p sensors first (memory_in counters cells 0),
    ))
  where
    few-nodes : p.nodes ≤ most_nodes
    few-nodes = (shape-of-accepted p accept).nodes-high

    node : (sys : System) → Rows sys counters cells good seen → (j : ℕ) → j < p.nodes → memory_in counters₁ cells₁ (suc j) ≡ computed p sensors (memory_of sys j)
    node sys rows j l =
        tasks.done (suc j) (omega arith)
        ∙ ran-is p sensors first (suc j) (memory_in counters cells (suc j)) (omega arith)
        ∙ ap (computed p sensors) (rows.node-is j (omega (arith, few-nodes)))

    past : (sys : System) → Rows sys counters cells good seen → (j : ℕ) → p.nodes ≤ j → j < most_nodes → memory_in counters₁ cells₁ (suc j) ≡ memory_of sys j
    past sys rows j l k = tasks.left (suc j) (omega arith) ∙ rows.node-is j k

    alone : Through (p.nodes + 1) (closed_row p.voted (sizes_of p) mask faults counters₁ cells₁) counters₁ cells₁ counters₂ cells₂ → memory_in counters₂ cells₂ 0 ≡ memory_in counters₁ cells₁ 0
    alone closed = closed.done 0 (omega arith) ∙ closed-single p.voted (sizes_of p) mask faults counters₁ cells₁ (memory_in counters₁ cells₁ 0)
