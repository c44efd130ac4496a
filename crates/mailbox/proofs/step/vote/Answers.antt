-- `mailbox::step::vote` meets its contract: the loop has voted the first c cells.
use mathlib.Core.Path.{◌≡◌, refl, sym, ap, ◌∙◌}
use native.Mathlib.Omega.{arith}
use native.Mathlib.Numerals.{add-one}
use borrow.Author.Rules.{rules}
use Rattle.array.proofs.PlacesLaws.{fill_none}
use Rattle.array.proofs.LoopLaws.{stored-all}
use Rattle.array.proofs.LeastLaws.{least-none}
use Rattle.memory.proofs.StepLaws.{agreed_to, counter-voted, counter-agreed, cell-voted, cell-agreed, cell-kept, cell-unvoted, memory-voted, vote-agreed}
use Rattle.mailbox.proofs.step.vote.Goals as goal
use Rattle.mailbox.proofs.step.vote.Goals.{else-is_voted, then-is_voted}

pub words_in-bins-requires : goal.words_in-bins-requires
words_in-bins-requires c = (c.requires.0, c.requires.3, omega arith, omega (arith, c.requires.4))

pub majority-decided-requires : goal.majority-decided-requires
majority-decided-requires c = (c.words_in-bins.ensures.few, c.requires.0)

pub agreement-agreement-requires : goal.agreement-agreement-requires
agreement-agreement-requires c = omega (arith, c.words_in-bins.ensures.few, c.requires.0)

pub loop-c-init : goal.loop-c-init
loop-c-init c = (refl, c.requires.3, omega (arith, c.requires.2, c.frame_before-frame.ensures.1), c.requires.0, c.requires.4, sym (fill_none _ _), least-none _ _ _)

pub words_in-values-requires : goal.words_in-values-requires
words_in-values-requires c = (c.loop-c.invariant.3, c.loop-c.invariant.1, omega (arith, c.loop-c-test.true), omega (arith, c.loop-c.invariant.4))

pub majority-v-requires : goal.majority-v-requires
majority-v-requires c = (c.words_in-values.ensures.few, c.loop-c.invariant.3)

pub agreement-requires : goal.agreement-requires
agreement-requires c = omega (arith, c.words_in-values.ensures.few, c.loop-c.invariant.3)

pub loop-c-preserved : goal.loop-c-preserved
loop-c-preserved c =
    let l = c.loop-c in
    let i = l.invariant in
    let a = c.args in
    let p = a.plan.now in
    let box = a.mailbox.now in
    let cells = a.memory.cells in
    let g = c.frame_before-frame.result in
    elim c.if-is_voted.branch [
      | then-is_voted w ↦
          let v = sym c.is_voted.ensures ∙ w.if-is_voted.true in
          let packs = rw (add-one l.c) at w.words_in-values.ensures in (
            i.0,
            i.1,
            i.2,
            i.3,
            i.4,
            w.cells-is ∙ cell-voted p box cells g l.c _ i.5 v packs w.majority-v.ensures w.unwrap_or.ensures,
            w.agreement-is ∙ cell-agreed p box g _ l.c i.6 _ v packs w.majority-v.ensures w.agreement.ensures w.min-agreement.ensures,
          )
      | else-is_voted w ↦
          let v = sym c.is_voted.ensures ∙ w.if-is_voted.false in (
            i.0,
            i.1,
            i.2,
            i.3,
            i.4,
            w.cells-is ∙ cell-kept p cells box g l.c i.5 v,
            w.agreement-is ∙ cell-unvoted p box g _ l.c i.6 v,
          )
    ]

pub returns : goal.returns
returns c =
    let i = c.loop-c.invariant in
    let a = c.args in
    let p = a.plan.now in
    let m = a.memory in
    let box = a.mailbox.now in
    let counter = counter-voted p box m _ c.words_in-bins.ensures c.majority-decided.ensures c.or_own-counter.ensures in
    let all : c.loop-c.c ≡ p.cells = omega arith in (
      memory-voted p m box counter c.frame_before-frame.ensures.0 (stored-all _ _ _ i.5 all),
      vote-agreed p box m counter c.frame_before-frame.ensures.0
          (counter-agreed p box _ c.words_in-bins.ensures c.majority-decided.ensures c.agreement-agreement.ensures)
          (i.6 ∙ ap (agreed_to p box c.frame_before-frame.result c.agreement-agreement.result) all),
    )
