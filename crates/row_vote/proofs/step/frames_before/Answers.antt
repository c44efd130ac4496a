-- `row_vote::step::frames_before` meets its contract: the first j frames are found.
use mathlib.Core.Path.{◌≡◌, ap, ◌∙◌}
use Prim.Native.Nat.{ℕ}
use native.Mathlib.Omega.{arith}
use native.Mathlib.Nat.{not-suc-le-zero}
use native.Mathlib.Numerals.{add-one}
use lib.Dec.{eqb}
use lib.ListN.{get_or, set}
use lib.Seq.{get_or-set_same, get_or-set_other}
use borrow.Author.Rules.{rules}
use borrow.Author.Tests.{eqb-true, eqb-false}
use Rattle.array.proofs.TestLaws.{split}
use Rattle.row_counter.specs.Code.{frame_before}
use Rattle.row_vote.proofs.step.frames_before.Goals as goal

pub loop-j-init : goal.loop-j-init
loop-j-init c = (search rules, search rules, λ i l. absurd (not-suc-le-zero l))

pub loop-j-preserved : goal.loop-j-preserved
loop-j-preserved c =
    let l = c.loop-j in
    let a = c.args in
    let q = c.requires in
    let f = c.frame_before in
    let here : get_or (set l.all l.j f.result) l.j 0 ≡ f.result = get_or-set_same l.all l.j f.result 0 (omega (arith, l.invariant.1)) in (
      search rules,
      search rules,
      λ i m. split (eqb i l.j)
          (λ t. rw (eqb-true i l.j t, here) (f.ensures.0 ∙ ap (λ (k : ℕ). frame_before a.frames (get_or a.counters.now k 0)) (add-one l.j), omega (arith, f.ensures.1, q.2)))
          (λ t. rw (get_or-set_other l.all l.j i f.result 0 (eqb-false i l.j t)) (l.invariant.2 i (omega (arith, eqb-false i l.j t)))),
    )

pub returns : goal.returns
returns c = (λ i m. (c.loop-j.invariant.2 i (omega arith)).0, λ i m. (c.loop-j.invariant.2 i (omega arith)).1)
