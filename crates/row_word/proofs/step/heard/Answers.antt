-- `row_word::step::heard` meets its contract: the bins that bad nodes leave a receiver stand as far apart as their parts.
use native.Mathlib.Omega.{arith}
use native.Mathlib.Nat.{zero-mul}
use Rattle.system.specs.Fault.{fault_size}
use Rattle.system.proofs.FaultLaws.{message-room}
use Rattle.faults.proofs.LayoutLaws.{bins-most, part-most}
use Rattle.row_word.proofs.HeardLaws.{bins-apart, heard-apart}
use Rattle.row_word.proofs.step.heard.Goals as goal

pub heard-requires : goal.heard-requires
heard-requires c =
    let a = c.args in
    let p = c.requires in (
      a.faults.now.small.nodes,
      omega (arith, p.1, a.faults.now.small.cells),
      omega (arith, c.message_at-at.ensures, zero-mul (fault_size a.faults.now.sizes), a.faults.now.small.cells, bins-most a.faults.now.sizes a.faults.now.small a.i (omega (arith, p.0, a.faults.now.small.nodes))),
      omega (arith, c.part_size.ensures, part-most a.faults.now.sizes a.faults.now.small),
      λ j l t. rw (bins-apart a.faults.now.sizes a.i c.message_at-at.ensures c.part_size.ensures j) (omega (arith, message-room a.faults.now.sizes j a.i p.0, a.faults.now.parts j l t, p.1)),
    )

pub returns : goal.returns
returns c = let a = c.args in heard-apart a.faults.now.sizes a.i c.message_at-at.ensures c.part_size.ensures a.faults.now.mask a.faults.now.bytes.now _ a.w c.heard.ensures
