-- `mailbox::step::heard` meets its contract: the loop has read what is heard of the first j nodes.
use mathlib.Core.Path.{sym, ap, ◌∙◌}
use Prim.Native.Nat.{◌<◌}
use native.Mathlib.Omega.{arith}
use lib.ListN.{length, replicate, length-set}
use borrow.Author.Rules.{rules}
use Rattle.plan.specs.Limits.{most_nodes}
use Rattle.ballot.proofs.BinLaws.{told_none, told-next, told-packs}
use Rattle.mailbox.proofs.HeardLaws.{heard-bad, heard-good, place-small}
use Rattle.mailbox.proofs.step.heard.Goals as goal
use Rattle.mailbox.proofs.step.heard.Goals.{else-is_set, then-is_set}

pub loop-j-init : goal.loop-j-init
loop-j-init c = (search rules, search rules, told_none _ (replicate most_nodes 0))

pub is_set-requires : goal.is_set-requires
is_set-requires c = search rules

pub overflow_mul-j : goal.overflow_mul-j
overflow_mul-j c = omega (arith, place-small c.loop-j.j c.args.apart (omega (arith, c.loop-j-test.true, c.requires.0)) c.requires.3)

pub overflow_add-at : goal.overflow_add-at
overflow_add-at c = omega (arith, place-small c.loop-j.j c.args.apart (omega (arith, c.loop-j-test.true, c.requires.0)) c.requires.3, c.requires.2)

pub bin_word-requires : goal.bin_word-requires
bin_word-requires c = (c.requires.1, c.requires.4 c.loop-j.j c.loop-j-test.true (sym c.is_set.ensures ∙ c.if-is_set.true))

pub loop-j-preserved : goal.loop-j-preserved
loop-j-preserved c =
    let l = c.loop-j in
    let h : l.j < length l.all = omega (arith, l.invariant.1, c.loop-j-test.true, c.requires.0) in
    elim c.if-is_set.branch [
      | then-is_set v ↦ (
        search rules,
        ap length v.all-is ∙ length-set l.all _ _ ∙ l.invariant.1,
        rw v.all-is (told-next _ l.all l.j _ h (heard-bad _ _ c.is_set.ensures v.if-is_set.true v.bin_word.ensures) l.invariant.2),
      )
      | else-is_set v ↦ (
        search rules,
        ap length v.all-is ∙ length-set l.all _ _ ∙ l.invariant.1,
        rw v.all-is (told-next _ l.all l.j _ h (heard-good _ _ c.is_set.ensures v.if-is_set.false) l.invariant.2),
      )
    ]

pub returns : goal.returns
returns c =
    told-packs _ _ _ (λ k l. c.loop-j.invariant.2 k (omega (arith, c.loop-j-test.false)))
