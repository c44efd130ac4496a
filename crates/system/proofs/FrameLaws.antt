-- One frame that is not refused, beside the single controller: what holds of each node by its good count, and that the plane hands on
-- the single's setpoints.
use Rattle.std.specs.Prelude.{Some}
use mathlib.Core.Path.{◌≡◌, refl, sym, subst, ◌∙◌}
use mathlib.Core.Bool.{Bool, true, false}
use mathlib.Core.List.{List}
use Prim.Native.Nat.{ℕ, zero, suc, ◌+◌, ◌*◌, ◌%◌, ◌≤◌, ◌<◌, min}
use native.Mathlib.Omega.{arith}
use native.Mathlib.Nat.{mod-eq_of_lt, mod-add-mod}
use lib.Dec.{eqb, ltb}
use lib.ListN.{length, get_or}
use borrow.Author.Tests.{ltb-true, ltb-false, eqb-true, eqb-false}
use Rattle.array.specs.Index.{how_many}
use Rattle.array.proofs.TestLaws.{split, clash}
use Rattle.array.proofs.PlacesLaws.{fill-in}
use Rattle.plan.specs.declared.Plan.{Plan}
use Rattle.plan.specs.Known.{none_known, known, period}
use Rattle.plan.specs.Sizes.{sizes_of}
use Rattle.plan.specs.Accepted.{accepted}
use Rattle.plan.proofs.AcceptedLaws.{Shape, shape-of-accepted, period-of-accepted}
use Rattle.plan.proofs.KnownLaws.{known-first, known_next, none-known}
use Rattle.plan.proofs.PeriodLaws.{all_known-at, period-reached}
use Rattle.memory.specs.declared.Memory.{Memory}
use Rattle.memory.specs.Size.{bin_size}
use Rattle.memory.specs.Node.{zero_memory, computed, before, message_of, bin_of, voted, setpoint}
use Rattle.ballot.proofs.MajorityLaws.{holders-least}
use Rattle.ballot.proofs.PlaneLaws.{plane-of-most}
use Rattle.task.proofs.TaskLaws.{Agree, Bounded}
use Rattle.memory.proofs.MessageLaws.{bin-length}
use Rattle.memory.proofs.NodeLaws.{memory-same, computed-small, computed-next, computed-length, computed-past, computed-bounded}
use Rattle.memory.proofs.AgreementLaws.{holding-agreement}
use Rattle.memory.proofs.VoteLaws.{Holding, hold-of-messages, MostHold, most-of-holding, most-counter, most-agree, most-own, frame-agree, vote-length, vote-past, before-computed}
use Rattle.system.specs.declared.System.{System}
use Rattle.system.specs.Fault.{bad}
use Rattle.system.specs.Counts.{count_after, good_after}
use Rattle.system.specs.Frame.{memory_of, good_of, handed_of, computed_by, heard, mailbox_of, memory_after, put_out, handed_on, system_after, agreement_by}
use Rattle.system.proofs.FaultLaws.{fault_memory-length, fault_memory-past, fault_message-length}
use Rattle.system.proofs.RecoveryLaws.{SameRecovery, recovery-sym, known_same, period-same}

-- ---- the single controller's memory between frames

pub record Single (p : Plan) (s : Memory) : Type 0 where
  pub counter : s.counter < p.frames
  pub size : p.cells ≤ length s.cells
  pub bounded : Bounded s.cells

pub single-next : (p : Plan) → Shape p → (sensors : List ℕ) (s : Memory) → Bounded sensors → Single p s → Single p (computed p sensors s)
single-next p shape sensors s patterns single =
    record {
      counter = computed-small p sensors s shape.frames-pos;
      size = omega (arith, single.size, computed-length p sensors s);
      bounded = computed-bounded p sensors s shape patterns single.bounded;
    }

-- ---- a node by its good count c, beside the single controller's memory s

-- good for c frames after a bad one. The single controller ran plan frame `first` in the first of them: c frames later its counter is first + c.
pub record Recovering (p : Plan) (s m : Memory) (c : ℕ) : Type 0 where
  pub first : ℕ
  pub first_small : first < p.frames
  pub ran : s.counter ≡ (first + c) % p.frames
  -- the counter is the single's, and so is each cell known after c good frames
  pub counter : m.counter ≡ s.counter
  pub agree : Agree (known p first c) m.cells s.cells

pub record Node (p : Plan) (s m : Memory) (c : ℕ) : Type 0 where
  pub most : c ≤ period p
  pub size : length m.cells ≡ length s.cells
  -- past C nothing differs
  pub past : (x : ℕ) → p.cells ≤ x → get_or m.cells x 0 ≡ get_or s.cells x 0
  pub whole : c ≡ period p → m ≡ s
  pub part : 0 < c → c < period p → Recovering p s m c

-- the single's memory itself
pub node-whole : (p : Plan) (s : Memory) → Node p s s (period p)
node-whole p s =
    record { most = omega arith; size = refl; past = λ x l. refl; whole = λ e. refl; part = λ a b. absurd (omega arith) }

-- a node that has recovered for R frames has the single's memory
pub recovered-whole :
    (p : Plan) → accepted p ≡ true → (s m : Memory) →
    length m.cells ≡ length s.cells →
    ((x : ℕ) → p.cells ≤ x → get_or m.cells x 0 ≡ get_or s.cells x 0) →
    Recovering p s m (period p) →
    m ≡ s
recovered-whole p accept s m size past r = memory-same m s r.counter size (λ x l. at x (ltb x p.cells) refl)
  where
    at : (x : ℕ) (b : Bool) → ltb x p.cells ≡ b → get_or m.cells x 0 ≡ get_or s.cells x 0
    at x true t =
        r.agree x (all_known-at p (period p) (period-reached p (period-of-accepted p accept)) r.first x r.first_small (ltb-true _ _ t))
    at x false t = past x (ltb-false _ _ t)

-- ---- what is heard

pub heard-length :
    (p : Plan) (sys : System) (sensors : List ℕ) (mask : ℕ) (faults : List ℕ) (i j : ℕ) →
    length (heard p sys sensors mask faults i j) ≡ bin_size p
unfolding heard
heard-length p sys sensors mask faults i j =
    split (bad mask j) (λ e. rw e (fault_message-length (sizes_of p) faults j i)) (λ e. rw e (bin-length p _))

-- ---- one frame

pub memory-after :
    (p : Plan) (sys : System) (sensors : List ℕ) (mask : ℕ) (faults : List ℕ) → p.nodes ≤ length sys.memories →
    (i : ℕ) → i < p.nodes → memory_of (system_after p sys sensors mask faults) i ≡ memory_after p sys sensors mask faults i
unfolding system_after
memory-after p sys sensors mask faults room i l =
    fill-in (memory_after p sys sensors mask faults) p.nodes sys.memories i zero_memory l (omega (arith, room))

-- more than half of the nodes are good in a frame with this mask, and begin it with the single's memory
pub record MostWork (p : Plan) (sys : System) (s : Memory) (mask : ℕ) : Type 0 where
  pub work : ℕ → Bool
  pub good : (j : ℕ) → j < p.nodes → work j ≡ true → bad mask j ≡ false
  pub holds : (j : ℕ) → j < p.nodes → work j ≡ true → memory_of sys j ≡ s
  pub half : p.nodes < 2 * how_many work p.nodes

module _
    (p : Plan) (accept : accepted p ≡ true) (sys : System) (s : Memory) (sensors : List ℕ) (mask : ℕ) (faults : List ℕ)
    (single : Single p s) (patterns : Bounded sensors) (most : MostWork p sys s mask)
  where
    abbrev shape : Shape p
    shape = shape-of-accepted p accept

    -- the single's memory, node i's and its mailbox: before the frame, and after compute
    abbrev s' : Memory
    s' = computed p sensors s

    abbrev old : ℕ → Memory
    old i = memory_of sys i

    abbrev run : ℕ → Memory
    run i = computed p sensors (old i)

    abbrev box : ℕ → List ℕ
    box i = mailbox_of p sys sensors mask faults i

    small : s'.counter < p.frames
    small = computed-small p sensors s shape.frames-pos

    run-frame : before p s'.counter ≡ s.counter
    run-frame = before-computed p sensors s shape.frames-pos ∙ mod-eq_of_lt single.counter

    sends : (i j : ℕ) → j < p.nodes → most.work j ≡ true → heard p sys sensors mask faults i j ≡ bin_of (message_of p s')
    unfolding heard computed_by
    sends i j l w = rw (most.good j l w, most.holds j l w)

    box-hold : (i : ℕ) → Holding p (box i) s' (how_many most.work p.nodes)
    unfolding mailbox_of
    box-hold i =
        let next : Single p s' = single-next p shape sensors s patterns single in
        hold-of-messages p shape s' small next.bounded
        (heard p sys sensors mask faults i) (heard-length p sys sensors mask faults i)
        most.work (sends i)

    box-most : (i : ℕ) → MostHold p (box i) s'
    box-most i = most-of-holding p (box i) s' (how_many most.work p.nodes) most.half (box-hold i)

    -- each node that votes agrees with at least as many
    pub agreement-least : (i : ℕ) → how_many most.work p.nodes ≤ agreement_by p sys sensors mask faults i
    unfolding agreement_by computed_by
    agreement-least i = holding-agreement p (run i) (box i) s' (how_many most.work p.nodes) small most.half (box-hold i)

    -- a node with the single's memory has it after the frame
    vote-whole : (i : ℕ) → voted p s' (box i) ≡ s'
    vote-whole i = most-own p (box i) s' (box-most i) small (omega (arith, single.size, computed-length p sensors s))

    -- ---- a good node with a count k below R

    module _ (i k : ℕ) (node : Node p s (old i) k) (l : k < period p) where
      abbrev new : Memory
      new = voted p (run i) (box i)

      run-size : length (run i).cells ≡ length s'.cells
      run-size = computed-length p sensors (old i) ∙ node.size ∙ sym (computed-length p sensors s)

      few : p.cells ≤ length (run i).cells
      few = omega (arith, single.size, node.size, computed-length p sensors (old i))

      new-counter : new.counter ≡ s'.counter
      new-counter = most-counter p (box i) s' (box-most i) small (run i) few

      new-size : length new.cells ≡ length s'.cells
      new-size = vote-length p (run i) (box i) ∙ run-size

      new-past : (x : ℕ) → p.cells ≤ x → get_or new.cells x 0 ≡ get_or s'.cells x 0
      new-past x xl =
          vote-past p (run i) (box i) x xl ∙ computed-past p sensors (old i) shape x xl
          ∙ node.past x xl ∙ sym (computed-past p sensors s shape x xl)

    -- one good frame more is known
    grows : (i k : ℕ) → Node p s (old i) k → k < period p → Recovering p s' (voted p (run i) (box i)) (suc k)
    grows i zero node l =
        record {
          first = s.counter;
          first_small = single.counter;
          ran = computed-next p sensors s single.counter;
          counter = new-counter i 0 node l;
          agree = rw (known-first p s.counter) (rw run-frame at
              (most-agree p (box i) s' (box-most i) small (run i) (few i 0 node l) none_known (λ x e. absurd (clash e (none-known x)))));
        }
    grows i (suc k) node l =
        let b : Recovering p s (old i) (suc k) = node.part (omega arith) l in
        let frame : s.counter % p.frames ≡ (b.first + suc k) % p.frames = mod-eq_of_lt single.counter ∙ b.ran in
        let sum : b.first + suc k + 1 ≡ b.first + suc (suc k) = omega arith in
        record {
          first = b.first;
          first_small = b.first_small;
          ran = computed-next p sensors s single.counter ∙ rw (b.ran, mod-add-mod, sum);
          counter = new-counter i (suc k) node l;
          agree = rw (known_next p b.first k, ← frame)
              (frame-agree p sensors (old i) s (box i) (known p b.first (suc k)) shape.frames-pos
              (omega (arith, single.size, node.size)) node.size (box-most i) b.counter b.agree);
        }

    part-node : (i k : ℕ) → Node p s (old i) k → k < period p → Node p s' (voted p (run i) (box i)) (suc k)
    part-node i k node l =
        let r : Recovering p s' (voted p (run i) (box i)) (suc k) = grows i k node l in
        record {
          most = l;
          size = new-size i k node l;
          past = new-past i k node l;
          whole = λ e. recovered-whole p accept s' _ (new-size i k node l) (new-past i k node l) (rw e at r);
          part = λ a b. r;
        }

    -- ---- every node

    -- a good node that has not recovered yet takes in the vote
    good-part :
        (i : ℕ) → bad mask i ≡ false →
        Node p s (old i) (good_of sys i) →
        good_of sys i < period p →
        Node p s' (memory_after p sys sensors mask faults i) (good_after (period p) mask sys.good i)
    unfolding memory_after computed_by good_after count_after
    good-part i good node l =
        let n : min (period p) (good_of sys i + 1) ≡ suc (good_of sys i) = omega arith in
        rw (good, n) (part-node i (good_of sys i) node l)

    good-node :
        (i : ℕ) → bad mask i ≡ false →
        Node p s (old i) (good_of sys i) →
        Node p s' (memory_after p sys sensors mask faults i) (good_after (period p) mask sys.good i)
    unfolding memory_after computed_by good_after count_after
    good-node i good node =
        split (eqb k (period p))
        (λ t.
        let e : k ≡ period p = eqb-true k (period p) t in
        let n : min (period p) (k + 1) ≡ period p = omega arith in
        let w : voted p (run i) (box i) ≡ s' = rw (node.whole e) (vote-whole i) in
        rw (good, n) (subst (λ (m : Memory). Node p s' m (period p)) (sym w) (node-whole p s')))
        (λ t. good-part i good node (omega (arith, node.most, eqb-false k (period p) t)))
      where
        k : ℕ
        k = good_of sys i

    bad-node :
        (i : ℕ) → bad mask i ≡ true →
        Node p s (old i) (good_of sys i) →
        Node p s' (memory_after p sys sensors mask faults i) (good_after (period p) mask sys.good i)
    unfolding memory_after good_after count_after
    bad-node i e node =
        rw e
        (record {
          most = omega arith;
          size = fault_memory-length (sizes_of p) faults i (old i) ∙ node.size ∙ sym (computed-length p sensors s);
          past = λ x l. fault_memory-past (sizes_of p) faults i (old i) x l ∙ node.past x l ∙ sym (computed-past p sensors s shape x l);
          whole = λ z. absurd (omega (arith, period-of-accepted p accept));
          part = λ a b. absurd (omega arith);
        })

    pub node-after :
        (i : ℕ) →
        Node p s (old i) (good_of sys i) →
        Node p s' (memory_after p sys sensors mask faults i) (good_after (period p) mask sys.good i)
    node-after i node = split (bad mask i) (λ e. bad-node i e node) (λ e. good-node i e node)

    -- ---- the plane

    work-after : (j : ℕ) → j < p.nodes → most.work j ≡ true → memory_after p sys sensors mask faults j ≡ s'
    unfolding memory_after computed_by
    work-after j l w = rw (most.good j l w, most.holds j l w) (vote-whole j)

    work-puts : (a j : ℕ) → j < p.nodes → most.work j ≡ true → put_out p sys sensors mask faults a j ≡ Some (setpoint p s' a)
    unfolding put_out
    work-puts a j l w = rw (most.good j l w, work-after j l w)

    -- whatever is remembered
    pub handed-single : (a : ℕ) → handed_on p sys sensors mask faults a ≡ setpoint p s' a
    unfolding handed_on
    handed-single a =
        plane-of-most (put_out p sys sensors mask faults a) p.nodes (handed_of sys a) (setpoint p s' a)
        (omega (arith, most.half, holders-least most.work (put_out p sys sensors mask faults a) p.nodes (setpoint p s' a) (work-puts a)))

-- ---- a plan with the same recovery: what holds beside p holds beside q, so a frame of q keeps what holds beside p

module _ (p q : Plan) (same : SameRecovery p q) where
  pub single-same : {s : Memory} → Single p s → Single q s
  single-same single =
      record { counter = omega (arith, single.counter, same.frames); size = omega (arith, single.size, same.cells); bounded = single.bounded }

  pub most_work-same : {sys : System} {s : Memory} {mask : ℕ} → MostWork p sys s mask → MostWork q sys s mask
  most_work-same most =
      record {
        work = most.work;
        good = λ j l. most.good j (omega (arith, same.nodes));
        holds = λ j l. most.holds j (omega (arith, same.nodes));
        half = rw same.nodes at most.half;
      }

  recovering-same : {s m : Memory} {c : ℕ} → Recovering p s m c → Recovering q s m c
  recovering-same {s} {m} {c} r =
      record {
        first = r.first;
        first_small = omega (arith, r.first_small, same.frames);
        ran = r.ran ∙ rw same.frames;
        counter = r.counter;
        agree = rw (known_same p q same r.first c) at r.agree;
      }

  pub node-same : {s m : Memory} {c : ℕ} → Node p s m c → Node q s m c
  node-same node =
      record {
        most = omega (arith, node.most, period-same p q same);
        size = node.size;
        past = λ x l. node.past x (omega (arith, same.cells));
        whole = λ e. node.whole (omega (arith, period-same p q same));
        part = λ a b. recovering-same (node.part a (omega (arith, period-same p q same)));
      }

pub node-after-same :
    (p q : Plan) → SameRecovery p q → accepted q ≡ true → (sys : System) (s : Memory) (sensors : List ℕ) (mask : ℕ) (faults : List ℕ) →
    Single p s → Bounded sensors → MostWork p sys s mask →
    (i : ℕ) → Node p s (memory_of sys i) (good_of sys i) →
    Node p (computed q sensors s) (memory_after q sys sensors mask faults i) (good_after (period q) mask sys.good i)
node-after-same p q same accept sys s sensors mask faults single patterns most i node =
    node-same q p (recovery-sym same)
    (node-after q accept sys s sensors mask faults (single-same p q same single) patterns (most_work-same p q same most) i (node-same p q same node))
