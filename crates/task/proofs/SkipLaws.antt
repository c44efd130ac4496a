-- Laws of the tasks that a scan may skip: they stand by frame.
use mathlib.Core.Path.{◌≡◌}
use mathlib.Core.Bool.{cond}
use Prim.Native.Nat.{ℕ, ◌≤◌, ◌<◌}
use native.Mathlib.Omega.{arith}
use native.Mathlib.Nat.{not-suc-le-zero}
use lib.Dec.{eqb}
use borrow.Author.Tests.{eqb-true}
use Rattle.array.proofs.TestLaws.{split}
use Rattle.plan.specs.declared.Plan.{Plan}
use Rattle.plan.specs.Tables.{task_at}
use Rattle.plan.proofs.AcceptedLaws.{Shape}

-- none of the first n tasks is of frame g
abbrev pub Skips : Plan → ℕ → ℕ → Type 0
Skips p g n = (i : ℕ) → i < n → (task_at p i).frame ≡ g → ⊥

pub skips-none : (p : Plan) (g : ℕ) → Skips p g 0
skips-none p g i l = absurd (not-suc-le-zero l)

-- what was skipped for one node is skipped for the next one in the same frame
module _ (last g : ℕ) {skipped r : ℕ} (h : r ≡ cond (eqb g last) skipped 0) where
  pub skips-again : (p : Plan) → Skips p last skipped → Skips p g r
  skips-again p s = split (eqb g last) (λ e. rw (h, e, eqb-true g last e) s) (λ e. rw (h, e) (skips-none p g))

  pub skips-few : {n : ℕ} → skipped ≤ n → r ≤ n
  skips-few l = split (eqb g last) (λ e. rw (h, e) l) (λ e. rw (h, e) (omega arith))

module _ (p : Plan) (s : Shape p) {g k : ℕ} (l : k < p.task_count) where
  -- the tasks before one of an earlier frame
  pub skips-earlier : (task_at p k).frame ≤ g → ((task_at p k).frame ≡ g → ⊥) → Skips p g k
  skips-earlier h f i m e = f (omega (arith, s.ordered i k (omega arith) l))
