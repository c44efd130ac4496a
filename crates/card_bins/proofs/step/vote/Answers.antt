-- `card_bins::step::vote` meets its contract: the vote is on the mailbox of the bins.
use mathlib.Core.Path.{ap, ◌∙◌}
use native.Mathlib.Omega.{arith}
use Prim.Native.Nat.{◌-◌}
use lib.ListN.{replicate}
use Rattle.std.proofs.Common.{length-take-le}
use Rattle.array.proofs.PlacedLaws.{front-taken}
use Rattle.memory.specs.Node.{voted}
use Rattle.card_bins.specs.Bins.{mailbox_in}
use Rattle.card_bins.proofs.StoreLaws.{most-mailbox, mailbox-length, mailbox-taken}
use Rattle.card_bins.proofs.step.vote.Goals as goal

pub mailbox-requires : goal.mailbox-requires
mailbox-requires c = (c.requires.0, c.requires.3, c.requires.4, most-mailbox c.requires.0 c.requires.3)

pub slice_bounds-vote-end : goal.slice_bounds-vote-end
slice_bounds-vote-end c =
    let p = c.args.plan.now in
    omega (arith, c.bin_at-size.ensures, (front-taken (replicate 1806 0) (mailbox_in p.cells p.nodes c.args.bins.now) _ (mailbox-length p.cells c.args.bins.now p.nodes) (most-mailbox c.requires.0 c.requires.3) c.mailbox.ensures).0)

pub vote-vote-requires : goal.vote-vote-requires
vote-vote-requires c =
    let p = c.args.plan.now in
    let room = (front-taken (replicate 1806 0) (mailbox_in p.cells p.nodes c.args.bins.now) _ (mailbox-length p.cells c.args.bins.now p.nodes) (most-mailbox c.requires.0 c.requires.3) c.mailbox.ensures).0 in
    (c.requires.0, c.requires.1, c.requires.2, c.requires.3, omega (arith, length-take-le (c.bin_at-size.result - 0) c.mailbox.new.out (omega (arith, c.bin_at-size.ensures, room)), c.bin_at-size.ensures))

pub returns : goal.returns
returns c =
    let p = c.args.plan.now in
    c.vote-vote.ensures.0
    ∙ ap (voted p c.args.memory)
    (mailbox-taken p.cells c.args.bins.now (replicate 1806 0) p.nodes c.bin_at-size.result c.bin_at-size.ensures (most-mailbox c.requires.0 c.requires.3) c.mailbox.ensures)
