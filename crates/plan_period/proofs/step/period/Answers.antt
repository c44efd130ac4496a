use mathlib.Core.Path.{◌≡◌, sym, ap, ◌∙◌, subst}
use Rattle.plan.specs.declared.Plan.{Plan}
use Rattle.plan_walk.specs.declared.step.Walk.{Walk}
use mathlib.Core.List.{List}
use Prim.Native.Nat.{ℕ, ◌+◌, ◌-◌, ◌^◌, ◌≤◌, ◌<◌, min}
use native.Mathlib.Nat.{mod-lt, lt_of_lt_of_le}
use native.Mathlib.Omega.{arith}
use Rattle.plan.specs.Tables.{task_at}
use Rattle.plan_walk.specs.Code.{after_task}
use Rattle.plan.proofs.AcceptedLaws.{Shape, shape_of, bound-small}
use Rattle.plan_walk.proofs.WalkedLaws.{Walked, next-short, walked_start, walked-task, walked_next, walked-wrap, walked-found, walked_none}
use Rattle.plan_period.proofs.AnswerLaws.{some-any, none-any}
use Rattle.plan_period.proofs.step.period.Goals as goal
use Rattle.plan_period.proofs.step.period.Goals.{then-i-count+else-t-w, else-i-count}

-- no task of the frame is left
rest :
    (p : Plan) (ws : List ℕ) (w : Walk) (i : ℕ) →
    Shape p →
    Walked p ws w i →
    ((i < p.task_count → (task_at p i).frame ≡ w.frame → ⊥)) →
    (j : ℕ) →
    i ≤ j →
    j < p.task_count →
    (task_at p j).frame ≡ w.frame →
    ⊥
rest p ws w i s h b j m k e =
    let o : (task_at p i).frame ≤ (task_at p j).frame = s.ordered i j m k in
    let l : w.frame ≤ (task_at p i).frame = h.left i (omega arith) (omega arith) in
    b (omega arith) (omega arith)

pub overflow_mul-bound : goal.overflow_mul-bound
overflow_mul-bound c = omega (arith, bound-small c.args.p (shape_of c.args.p c.requires))

pub overflow_add-bound : goal.overflow_add-bound
overflow_add-bound c = let s = shape_of c.args.p c.requires in omega (arith, bound-small c.args.p s, s.frames-le)

pub loop-w-init : goal.loop-w-init
loop-w-init c = (omega arith, walked_start c.args.p (shape_of c.args.p c.requires))

pub offset_bounds-p-i : goal.offset_bounds-p-i
offset_bounds-p-i c = let p = c.args.p in let s = shape_of p c.requires in let b = bound-small p s in omega (arith, s.tasks-le, c.if-i-count.true)

pub bounds-p-i : goal.bounds-p-i
bounds-p-i c = let p = c.args.p in let s = shape_of p c.requires in let b = bound-small p s in omega (arith, s.tasks-le, c.if-i-count.true)

pub ones-requires : goal.ones-requires
ones-requires c = let p = c.args.p in let s = shape_of p c.requires in let b = bound-small p s in omega (arith, c.min.ensures, s.frames-le)

pub put_known-requires : goal.put_known-requires
put_known-requires c = let p = c.args.p in let s = shape_of p c.requires in let b = bound-small p s in lt_of_lt_of_le (s.target c.loop-w.i c.if-i-count.true) s.cells-le

pub overflow_add-i : goal.overflow_add-i
overflow_add-i c = let p = c.args.p in let s = shape_of p c.requires in let b = bound-small p s in omega (arith, s.tasks-le, c.if-i-count.true)

pub loop-w-smaller-then-t-w : goal.loop-w-smaller-then-t-w
loop-w-smaller-then-t-w c = let p = c.args.p in let s = shape_of p c.requires in let b = bound-small p s in omega (arith, s.tasks-le, c.if-i-count.true)

pub loop-w-preserved-then-t-w : goal.loop-w-preserved-then-t-w
loop-w-preserved-then-t-w c = let p = c.args.p in let s = shape_of p c.requires in let b = bound-small p s in let e : c.put_known.new.words ≡ after_task (2 ^ min c.loop-w.w.time p.frames - 1) c.loop-w.words (task_at p c.loop-w.i) = c.put_known.ensures ∙ ap (λ (x : ℕ). after_task x c.loop-w.words (task_at p c.loop-w.i)) (c.ones.ensures ∙ ap (λ (n : ℕ). 2 ^ n - 1) c.min.ensures) in (c.loop-w.invariant.0, subst (λ (ws : List ℕ). Walked p ws c.loop-w.w (c.loop-w.i + 1)) (sym e) (walked-task p s c.loop-w.words c.loop-w.w c.loop-w.i c.loop-w.invariant.1 c.if-i-count.true c.if-t-w.true))

pub closed-w-requires : goal.closed-w-requires
closed-w-requires c = let p = c.args.p in let s = shape_of p c.requires in let b = bound-small p s in let h = c.loop-w.invariant.1 in (rw h.now (mod-lt c.loop-w.w.time s.frames-pos), s.frames-le, s.cells-le, omega (arith, h.low), omega (arith, s.frames-le, c.loop-w.invariant.0))

pub overflow_add-result : goal.overflow_add-result
overflow_add-result c = let p = c.args.p in let s = shape_of p c.requires in let b = bound-small p s in let h = c.loop-w.invariant.1 in omega (arith, next-short p s c.loop-w.words c.loop-w.w c.closed-w.new.words c.closed-w.result c.loop-w.i h (rest p c.loop-w.words c.loop-w.w c.loop-w.i s h (elim c.if-i-count.branch [ then-i-count+else-t-w w ↦ λ _. w.if-t-w.false | else-i-count w ↦ λ k. absurd (omega arith) ])) c.closed-w.ensures, c.closed-w.ensures.time, c.loop-w.invariant.0, s.frames-le)

pub returns-then-w-frames : goal.returns-then-w-frames
returns-then-w-frames c = let p = c.args.p in let s = shape_of p c.requires in let b = bound-small p s in let h = c.loop-w.invariant.1 in some-any _ _ (sym (walked-found p s c.loop-w.words c.loop-w.w c.closed-w.new.words c.closed-w.result c.loop-w.i h (rest p c.loop-w.words c.loop-w.w c.loop-w.i s h (elim c.if-i-count.branch [ then-i-count+else-t-w w ↦ λ _. w.if-t-w.false | else-i-count w ↦ λ k. absurd (omega arith) ])) c.closed-w.ensures c.if-w-frames.true)) (omega arith)

pub loop-w-smaller-then-w-eq0 : goal.loop-w-smaller-then-w-eq0
loop-w-smaller-then-w-eq0 c = let p = c.args.p in let s = shape_of p c.requires in let b = bound-small p s in let h = c.loop-w.invariant.1 in omega (arith, c.closed-w.ensures.time, c.loop-w-test.true, s.tasks-le)

pub loop-w-preserved-then-w-eq0 : goal.loop-w-preserved-then-w-eq0
loop-w-preserved-then-w-eq0 c = let p = c.args.p in let s = shape_of p c.requires in let b = bound-small p s in let h = c.loop-w.invariant.1 in (omega (arith, c.closed-w.ensures.time, c.loop-w-test.true), walked-wrap p s c.loop-w.words c.loop-w.w c.closed-w.new.words c.closed-w.result c.loop-w.i h (rest p c.loop-w.words c.loop-w.w c.loop-w.i s h (elim c.if-i-count.branch [ then-i-count+else-t-w w ↦ λ _. w.if-t-w.false | else-i-count w ↦ λ k. absurd (omega arith) ])) c.closed-w.ensures (omega (arith, c.closed-w.ensures.to, c.if-w-frames.false)) c.if-w-eq0.true)

pub loop-w-smaller : goal.loop-w-smaller
loop-w-smaller c = let p = c.args.p in let s = shape_of p c.requires in let b = bound-small p s in let h = c.loop-w.invariant.1 in omega (arith, c.closed-w.ensures.time, c.loop-w-test.true, s.tasks-le, h.next)

pub loop-w-preserved : goal.loop-w-preserved
loop-w-preserved c = let p = c.args.p in let s = shape_of p c.requires in let b = bound-small p s in let h = c.loop-w.invariant.1 in (omega (arith, c.closed-w.ensures.time, c.loop-w-test.true), walked_next p s c.loop-w.words c.loop-w.w c.closed-w.new.words c.closed-w.result c.loop-w.i h (rest p c.loop-w.words c.loop-w.w c.loop-w.i s h (elim c.if-i-count.branch [ then-i-count+else-t-w w ↦ λ _. w.if-t-w.false | else-i-count w ↦ λ k. absurd (omega arith) ])) c.closed-w.ensures (omega (arith, c.closed-w.ensures.to, c.if-w-frames.false)) c.if-w-eq0.false)

pub returns : goal.returns
returns c = let p = c.args.p in let s = shape_of p c.requires in let b = bound-small p s in none-any _ (walked_none p s c.loop-w.words c.loop-w.w c.loop-w.i c.loop-w.invariant.1 c.loop-w-test.false)
