-- Request 2026-04: the vote of a node of one, or of two. A voted value is in every bin, in its own too, so its vote puts nothing right: the memory stays as it is.
use Rattle.std.specs.Prelude.{Option, None, Some, unwrap_or}
use mathlib.Core.Path.{◌≡◌, refl, sym, ap, ◌∙◌}
use mathlib.Core.Bool.{true}
use mathlib.Core.List.{List}
use mathlib.Core.Logic.{◌⊎◌}
use Prim.Native.Nat.{ℕ, ◌≤◌, ◌<◌}
use lib.Dec.{ltb}
use lib.ListN.{length, get_or}
use borrow.Author.Tests.{ltb-true, ltb-false}
use Rattle.array.proofs.TestLaws.{split}
use Rattle.array.proofs.LeastLaws.{least-of}
use Rattle.plan.specs.declared.Plan.{Plan}
use Rattle.plan.specs.Tables.{voted_in}
use Rattle.ballot.specs.Majority.{majority, or_own}
use Rattle.ballot.proofs.AtMostTwoLaws.{majority-all, agreement-all, agreement-one}
use Rattle.memory.specs.declared.Memory.{Memory}
use Rattle.memory.specs.Node.{before, counter_from, cell_from, counter_in, cell_in, voted_counter, voted_cell, voted, vote_agreement}
use Rattle.memory.proofs.NodeLaws.{memory-same}
use Rattle.memory.proofs.VoteLaws.{vote-length, vote-past, vote-cell, vote-kept}

-- node i, whose own bin says what its memory m does
module _
    (p : Plan) (two : p.nodes ≤ 2) (m : Memory) (box : List ℕ) (i : ℕ) (l : i < p.nodes)
    (own : counter_in p box i ≡ Some m.counter)
  where
    -- a voted value is that of its own bin
    own_value : (bin : ℕ → Option ℕ) (w v : ℕ) → bin i ≡ Some w → majority bin p.nodes ≡ Some v → v ≡ w
    own_value bin w v e q = let s : Some v ≡ Some w = sym (majority-all bin p.nodes two v q i l) ∙ e in cc

    pub vote-counter-own : (voted p m box).counter ≡ m.counter
    unfolding voted voted_counter or_own
    vote-counter-own = by (majority (counter_in p box) p.nodes) refl
      where
        by : (o : Option ℕ) → majority (counter_in p box) p.nodes ≡ o → or_own p.frames m.counter o ≡ m.counter
        by None e = refl
        by (Some v) e = rw (own_value (counter_in p box) m.counter v own e) (split (ltb m.counter p.frames) (λ t. rw t) (λ t. rw t))

    module _
        (size : p.cells ≤ length m.cells)
        (owns : (c : ℕ) → c < p.cells → voted_in p (before p m.counter) c ≡ true → cell_in p box c i ≡ Some (get_or m.cells c 0))
      where
        frame : before p (voted p m box).counter ≡ before p m.counter
        frame = ap (before p) vote-counter-own

        taken : (c : ℕ) → c < p.cells → voted_in p (before p m.counter) c ≡ true → voted_cell p m box (before p m.counter) c ≡ get_or m.cells c 0
        unfolding voted_cell
        taken c k v = rw v (by (majority (cell_in p box c) p.nodes) refl)
          where
            by : (o : Option ℕ) → majority (cell_in p box c) p.nodes ≡ o → unwrap_or o (get_or m.cells c 0) ≡ get_or m.cells c 0
            by None e = refl
            by (Some x) e = own_value (cell_in p box c) (get_or m.cells c 0) x (owns c k v) e

        cell-own : (c : ℕ) → c < p.cells → get_or (voted p m box).cells c 0 ≡ get_or m.cells c 0
        cell-own c k =
            split (voted_in p (before p m.counter) c)
            (λ v. vote-cell p m box size _ frame c k ∙ taken c k v)
            (λ v. vote-kept p m box size _ frame c v)

        pub vote-own : voted p m box ≡ m
        vote-own =
            memory-same (voted p m box) m vote-counter-own (vote-length p m box)
            (λ c k. split (ltb c p.cells) (λ t. cell-own c (ltb-true _ _ t)) (λ t. vote-past p m box c (ltb-false _ _ t)))

-- a node's agreement is of all, or of none
pub vote-agreement-all :
    (p : Plan) → p.nodes ≤ 2 → (m : Memory) (box : List ℕ) → (vote_agreement p m box ≡ p.nodes) ⊎ (vote_agreement p m box ≡ 0)
unfolding vote_agreement
vote-agreement-all p two m box =
    least-of _ _ (λ (k : ℕ). (k ≡ p.nodes) ⊎ (k ≡ 0)) p.cells _ (agreement-all (counter_in p box) p.nodes two)
    (λ c k t. agreement-all (cell_in p box c) p.nodes two)

-- of a node by itself it is 1: there is one bin, and it holds something
pub vote-agreement-one : (p : Plan) → p.nodes ≡ 1 → (m : Memory) (box : List ℕ) → vote_agreement p m box ≡ 1
unfolding vote_agreement counter_in counter_from cell_in cell_from
vote-agreement-one p one m box =
    rw one
    (least-of _ _ (λ (k : ℕ). k ≡ 1) p.cells _ (agreement-one (counter_in p box) _ refl) (λ c k t. agreement-one (cell_in p box c) _ refl))
