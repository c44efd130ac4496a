-- `mailbox::step::message` meets its contract: the loop has written the counter and the first c cells.
use mathlib.Core.Path.{sym, ◌∙◌}
use native.Mathlib.Omega.{arith}
use borrow.Author.Rules.{rules}
use Rattle.memory.specs.Node.{sent_cell, message_of}
use Rattle.memory.proofs.StepLaws.{sent-none, sent-more, sent-all, sent-cell}
use Rattle.mailbox.proofs.step.message.Goals as goal

pub frame_before-g-requires : goal.frame_before-g-requires
frame_before-g-requires c = (c.requires.0, c.requires.1)

pub loop-c-init : goal.loop-c-init
loop-c-init c =
    let a = c.args in
    let w = c.write_be2 in (
      c.requires.2,
      omega (arith, c.requires.1, c.frame_before-g.ensures.1),
      omega (arith, w.auto.s, c.requires.3),
      sent-none a.out.now w.new.s (sent_cell _ a.memory.now) a.memory.now.counter (omega (arith, c.requires.3)) w.ensures,
    )

pub loop-c-preserved : goal.loop-c-preserved
loop-c-preserved c =
    let l = c.loop-c in
    let w = c.write_be8 in
    let m = c.args.memory.now in
    let x = sent-cell c.args.plan.now m l.c c.frame_before-g.ensures.0 (rw c.is_voted.ensures at c.sent-x.ensures) in (
      l.invariant.0,
      l.invariant.1,
      omega (arith, w.auto.s, l.invariant.2),
      sent-more l.out w.new.s (sent_cell _ m) m.counter l.c _ (omega (arith, l.invariant.2, c.loop-c-test.true)) l.invariant.3 x (rw c.cell_at.ensures at w.ensures),
    )

pub shape_of-out : goal.shape_of-out
shape_of-out c = c.loop-c.invariant.2 ∙ sym c.requires.3

pub returns : goal.returns
unfolding message_of
returns c =
    let l = c.loop-c in
    sent-all (sent_cell c.args.plan.now c.args.memory.now) _ l.c _ l.out (omega arith) l.invariant.2 l.invariant.3
