-- Laws of a node's agreement: above 0 exactly where its counter and each cell voted in g' had a value, then above half; and at least as many as hold what
-- one memory sends, where these are more than half.
use Rattle.std.specs.Prelude.{Option, Some}
use mathlib.Core.Path.{◌≡◌, sym, ap, ◌∙◌}
use mathlib.Core.Bool.{true}
use mathlib.Core.List.{List}
use Prim.Native.Nat.{ℕ, ◌*◌, ◌≤◌, ◌<◌}
use native.Mathlib.Omega.{arith}
use lib.ListN.{get_or}
use Rattle.array.proofs.LeastLaws.{least-below, least-of}
use Rattle.plan.specs.declared.Plan.{Plan}
use Rattle.plan.specs.Tables.{voted_in}
use Rattle.ballot.specs.Majority.{majority, agreement, holders}
use Rattle.ballot.proofs.AgreementLaws.{agreement-of-most, agreement-half, agreement-value}
use Rattle.memory.specs.declared.Memory.{Memory}
use Rattle.memory.specs.Node.{before, counter_in, cell_in, voted_counter, voted, vote_agreement}
use Rattle.memory.proofs.VoteLaws.{vote-counter, Holding}

module _ (p : Plan) (m : Memory) (box : List ℕ) where
  -- the frame in which the cells are voted
  abbrev frame : ℕ
  frame = before p (voted_counter p m box)

  -- counter and voted cells had a value
  pub record Valued : Type 0 where
    pub counter : (x : ℕ) × (majority (counter_in p box) p.nodes ≡ Some x)
    pub cell : (c : ℕ) → c < p.cells → voted_in p frame c ≡ true → (x : ℕ) × (majority (cell_in p box c) p.nodes ≡ Some x)

  pub agreement-valued : 0 < vote_agreement p m box → Valued
  unfolding vote_agreement
  agreement-valued h =
      let b = least-below (voted_in p frame) (λ c. agreement (cell_in p box c) p.nodes) p.cells (agreement (counter_in p box) p.nodes) 1 h in
      record {
        counter = agreement-value (counter_in p box) p.nodes b.0;
        cell = λ c l v. agreement-value (cell_in p box c) p.nodes (b.1 c l v);
      }

  pub valued-agreement : Valued → p.nodes < 2 * vote_agreement p m box
  unfolding vote_agreement
  valued-agreement v =
      least-of (voted_in p frame) (λ c. agreement (cell_in p box c) p.nodes) (λ (k : ℕ). p.nodes < 2 * k) p.cells (agreement (counter_in p box) p.nodes)
      (agreement-half (counter_in p box) p.nodes v.counter.0 v.counter.1)
      (λ c l t. agreement-half (cell_in p box c) p.nodes (v.cell c l t).0 (v.cell c l t).1)

  -- what more than half hold, the node's vote agrees on
  pub holding-agreement : (s : Memory) (k : ℕ) → s.counter < p.frames → p.nodes < 2 * k → Holding p box s k → k ≤ vote_agreement p m box
  unfolding vote_agreement voted
  holding-agreement s k small half h =
      least-of (voted_in p frame) (λ c. agreement (cell_in p box c) p.nodes) (λ (a : ℕ). k ≤ a) p.cells (agreement (counter_in p box) p.nodes)
      (counted (counter_in p box) s.counter h.counter)
      (λ c l t. counted (cell_in p box c) (get_or s.cells c 0) (h.cell c l (ap (λ (g : ℕ). voted_in p g c) (sym same) ∙ t)))
    where
      counted : (bin : ℕ → Option ℕ) (v : ℕ) → k ≤ holders bin p.nodes v → k ≤ agreement bin p.nodes
      counted bin v e = rw (agreement-of-most bin p.nodes v (omega arith)) e

      same : frame ≡ before p s.counter
      same = ap (before p) (vote-counter p m box s.counter small (omega (arith, h.counter)))
