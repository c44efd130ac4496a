-- Laws of the vote: what more than half of the bins say is taken, and nothing else changes.
use Rattle.std.specs.Prelude.{Some}
use mathlib.Core.Path.{◌≡◌, sym, ap, ◌∙◌}
use mathlib.Core.Bool.{Bool, true, false}
use mathlib.Core.List.{List, []}
use mathlib.Core.Logic.{◌⊎◌, inl, inr, ⊎_elim}
use Prim.Native.Nat.{ℕ, ◌+◌, ◌-◌, ◌*◌, ◌%◌, ◌≤◌, ◌<◌}
use native.Mathlib.Omega.{arith}
use native.Mathlib.Nat.{mod-eq_of_lt, mod-lt, mod-add-mod, add-mod_right}
use lib.Dec.{ltb}
use lib.ListN.{length, get_or}
use borrow.Author.Tests.{ltb-true, ltb-false, lt-ltb}
use Rattle.array.specs.Index.{how_many, joined}
use Rattle.array.proofs.TestLaws.{split}
use Rattle.array.proofs.PlacesLaws.{fill-length, fill-in, fill-out}
use Rattle.plan.specs.declared.Plan.{Plan}
use Rattle.plan.specs.Known.{know_tasks, know_voted, know_frame}
use Rattle.plan.specs.Tables.{voted_in}
use Rattle.plan.proofs.AcceptedLaws.{Shape}
use Rattle.plan.proofs.KnownLaws.{voted-not, voted-past}
use Rattle.memory.specs.declared.Memory.{Memory}
use Rattle.ballot.specs.Majority.{holders, or_own}
use Rattle.memory.specs.Size.{bin_size}
use Rattle.memory.specs.Node.{computed, before, message_of, bin_of, counter_in, cell_in, voted_counter, voted_cell, voted}
use Rattle.ballot.proofs.MajorityLaws.{holders-least, majority-of-most}
use Rattle.task.proofs.TaskLaws.{Agree, Bounded}
use Rattle.memory.proofs.NodeLaws.{memory-same, computed-small, computed-length, computed-agree}
use Rattle.memory.proofs.MessageLaws.{sent_cell-voted, counter_from-message, cell_from-message, counter_in-bin, cell_in-bin}

-- ---- the frame before a counter

module _ (p : Plan) where
  -- the frame before the counter that follows g is g
  pub before-next : (g : ℕ) → g < p.frames → before p ((g + 1) % p.frames) ≡ g
  unfolding before
  before-next g l =
      let a : (g + 1) % p.frames + p.frames - 1 ≡ (g + 1) % p.frames + (p.frames - 1) = omega arith in
      let b : g + 1 + (p.frames - 1) ≡ g + p.frames = omega arith in
      rw (a, mod-add-mod, b, add-mod_right) (mod-eq_of_lt l)

  -- so the frame before the counter that compute leaves is the one that it ran
  pub before-computed : (sensors : List ℕ) (m : Memory) → 0 < p.frames → before p (computed p sensors m).counter ≡ m.counter % p.frames
  unfolding computed
  before-computed sensors m l = before-next (m.counter % p.frames) (mod-lt m.counter l)

-- ---- the vote of a memory on a mailbox

module _ (p : Plan) (m : Memory) (box : List ℕ) where
  pub vote-length : length (voted p m box).cells ≡ length m.cells
  unfolding voted
  vote-length = fill-length _ p.cells m.cells

  -- cells from C on stay
  pub vote-past : (c : ℕ) → p.cells ≤ c → get_or (voted p m box).cells c 0 ≡ get_or m.cells c 0
  unfolding voted
  vote-past c l = fill-out _ p.cells m.cells c 0 l

  -- the counter that more than half of the bins hold
  pub vote-counter : (v : ℕ) → v < p.frames → p.nodes < 2 * holders (counter_in p box) p.nodes v → (voted p m box).counter ≡ v
  unfolding voted voted_counter or_own
  vote-counter v l h = rw (majority-of-most (counter_in p box) p.nodes v h, lt-ltb v p.frames l)

  module _ (size : p.cells ≤ length m.cells) (g : ℕ) (frame : before p (voted p m box).counter ≡ g) where
    pub vote-cell : (c : ℕ) → c < p.cells → get_or (voted p m box).cells c 0 ≡ voted_cell p m box g c
    unfolding voted
    vote-cell c l = rw frame (fill-in (voted_cell p m box g) p.cells m.cells c 0 l (omega arith))

    -- a voted cell takes the value that more than half of the bins hold
    pub vote-taken :
        (c v : ℕ) →
        c < p.cells →
        voted_in p g c ≡ true →
        p.nodes < 2 * holders (cell_in p box c) p.nodes v →
        get_or (voted p m box).cells c 0 ≡ v
    unfolding voted_cell
    vote-taken c v l t h = vote-cell c l ∙ rw (t, majority-of-most (cell_in p box c) p.nodes v h)

    -- a cell that is not voted stays
    pub vote-kept : (c : ℕ) → voted_in p g c ≡ false → get_or (voted p m box).cells c 0 ≡ get_or m.cells c 0
    unfolding voted_cell
    vote-kept c t =
        split (ltb c p.cells) (λ l. vote-cell c (ltb-true _ _ l) ∙ rw t) (λ l. vote-past c (ltb-false _ _ l))

-- ---- a mailbox in which k bins, or more, hold what one memory s sends

pub record Holding (p : Plan) (box : List ℕ) (s : Memory) (k : ℕ) : Type 0 where
  pub counter : k ≤ holders (counter_in p box) p.nodes s.counter
  pub cell :
      (c : ℕ) → c < p.cells → voted_in p (before p s.counter) c ≡ true →
      k ≤ holders (cell_in p box c) p.nodes (get_or s.cells c 0)

-- ---- a mailbox in which more than half of the bins are made of the message of one memory s

pub record MostHold (p : Plan) (box : List ℕ) (s : Memory) : Type 0 where
  pub counter : p.nodes < 2 * holders (counter_in p box) p.nodes s.counter
  pub cell :
      (c : ℕ) → c < p.cells → voted_in p (before p s.counter) c ≡ true →
      p.nodes < 2 * holders (cell_in p box c) p.nodes (get_or s.cells c 0)

module _
    (p : Plan) (shape : Shape p) (s : Memory) (small : s.counter < p.frames) (bounded : Bounded s.cells)
    (f : ℕ → List ℕ) (sizes : (j : ℕ) → length (f j) ≡ bin_size p)
    (work : ℕ → Bool)
    (sends : (j : ℕ) → j < p.nodes → work j ≡ true → f j ≡ bin_of (message_of p s))
  where
    abbrev box : List ℕ
    box = joined f p.nodes

    works-counter : (j : ℕ) → j < p.nodes → work j ≡ true → counter_in p box j ≡ Some s.counter
    works-counter j l w =
        counter_in-bin p f p.nodes sizes j l ∙ rw (sends j l w) (counter_from-message p s (omega (arith, shape.frames-le)))

    works-cell :
        (c : ℕ) → c < p.cells → voted_in p (before p s.counter) c ≡ true →
        (j : ℕ) → j < p.nodes → work j ≡ true → cell_in p box c j ≡ Some (get_or s.cells c 0)
    works-cell c cl v j l w =
        cell_in-bin p f p.nodes sizes j l c cl
        ∙ rw (sends j l w, cell_from-message p s c cl (bounded c), sent_cell-voted p s c v)

    pub hold-of-messages : Holding p (joined f p.nodes) s (how_many work p.nodes)
    hold-of-messages =
        record {
          counter = holders-least work (counter_in p box) p.nodes s.counter works-counter;
          cell = λ c cl v. holders-least work (cell_in p box c) p.nodes (get_or s.cells c 0) (works-cell c cl v);
        }

pub most-of-holding : (p : Plan) (box : List ℕ) (s : Memory) (k : ℕ) → p.nodes < 2 * k → Holding p box s k → MostHold p box s
most-of-holding p box s k half h = record { counter = omega (arith, half, h.counter); cell = λ c cl v. omega (arith, half, h.cell c cl v) }

module _ (p : Plan) (box : List ℕ) (s : Memory) (most : MostHold p box s) (l : s.counter < p.frames) where
  -- a memory m votes on it
  module _ (m : Memory) (size : p.cells ≤ length m.cells) where
    pub most-counter : (voted p m box).counter ≡ s.counter
    most-counter = vote-counter p m box s.counter l most.counter

    -- a cell becomes the one of s, or it stays and is known after the votes only if it was before
    most-cell :
        (ks : List Bool) (c : ℕ) →
        (get_or (voted p m box).cells c 0 ≡ get_or s.cells c 0)
        ⊎ ((get_or (voted p m box).cells c 0 ≡ get_or m.cells c 0)
        × (get_or (know_voted p (before p s.counter) p.cells ks) c false ≡ get_or ks c false))
    most-cell ks c =
        let frame : before p (voted p m box).counter ≡ before p s.counter = ap (before p) most-counter in
        split (ltb c p.cells)
        (λ t.
        split (voted_in p (before p s.counter) c)
        (λ v. inl (vote-taken p m box size _ frame c _ (ltb-true _ _ t) v (most.cell c (ltb-true _ _ t) v)))
        (λ v. inr (vote-kept p m box size _ frame c v, voted-not p _ p.cells ks c v)))
        (λ t. inr (vote-past p m box c (ltb-false _ _ t), voted-past p _ p.cells ks c (ltb-false _ _ t)))

    -- on what was known, or is voted, m agrees with s after it
    pub most-agree :
        (ks : List Bool) →
        Agree ks m.cells s.cells →
        Agree (know_voted p (before p s.counter) p.cells ks) (voted p m box).cells s.cells
    most-agree ks same c e = ⊎_elim (λ q. q) (λ q. q.0 ∙ same c (sym q.1 ∙ e)) (most-cell ks c)

  -- s itself stays as it is
  pub most-own : p.cells ≤ length s.cells → voted p s box ≡ s
  most-own size =
      memory-same (voted p s box) s (most-counter s size) (vote-length p s box)
      (λ c cl. ⊎_elim (λ q. q) (λ q. q.0) (most-cell s size [] c))

-- a node that has the counter of s, and agrees with s on the cells known in ks, through a frame
pub frame-agree :
    (p : Plan) (sensors : List ℕ) (m s : Memory) (box : List ℕ) (ks : List Bool) →
    0 < p.frames →
    p.cells ≤ length m.cells →
    length m.cells ≡ length s.cells →
    MostHold p box (computed p sensors s) →
    m.counter ≡ s.counter →
    Agree ks m.cells s.cells →
    Agree (know_frame p (s.counter % p.frames) ks) (voted p (computed p sensors m) box).cells (computed p sensors s).cells
unfolding know_frame
frame-agree p sensors m s box ks l few size most e same =
    let c : p.cells ≤ length (computed p sensors m).cells = omega (arith, computed-length p sensors m) in
    let after : List Bool = know_tasks p (s.counter % p.frames) p.task_count ks in
    rw (before-computed p sensors s l) at
    (most-agree p box (computed p sensors s) most (computed-small p sensors s l) (computed p sensors m) c after (computed-agree p sensors m s ks e size same))
