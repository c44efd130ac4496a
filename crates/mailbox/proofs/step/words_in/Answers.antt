-- `mailbox::step::words_in` meets its contract: every bit of the mask is set, so all is heard from the bins.
use native.Mathlib.Omega.{arith}
use native.Mathlib.Nat.{zero-add}
use borrow.Author.Rules.{rules}
use Rattle.memory.specs.Size.{bin_bytes}
use Rattle.memory.proofs.StepLaws.{bin-ends}
use Rattle.mailbox.proofs.HeardLaws.{heard_all}
use Rattle.mailbox.proofs.step.words_in.Goals as goal

pub heard-requires : goal.heard-requires
heard-requires c =
    let a = c.args in
    let p = c.requires in
    let size = c.bin_size.ensures in (
      p.0,
      omega (arith, p.1, p.2),
      search rules,
      omega (arith, size, p.1),
      λ j l t. rw (size, zero-add) (omega (arith, p.2, bin-ends j (bin_bytes a.cells) l p.3)),
    )

pub returns : goal.returns
returns c = let a = c.args in heard_all a.mailbox.now a.w (bin_bytes a.cells) _ a.nodes c.requires.0 c.bin_size.ensures c.heard.ensures
