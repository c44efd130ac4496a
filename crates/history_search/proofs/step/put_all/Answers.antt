-- `history_search::step::put_all` meets its contract: from power-on.
use mathlib.Core.Path.{ap, ◌∙◌}
use lib.ListN.{length}
use Rattle.array.specs.Code.{placed}
use native.Mathlib.Omega.{arith}
use Rattle.history_masks.proofs.LimitsLaws.{few-nodes, some-frames, few-frames}
use Rattle.history_masks.proofs.CodeLaws.{masks-none, bytes-begin}
use Rattle.history_search.proofs.step.put_all.Goals as goal

pub most_masks-most-requires : goal.most_masks-most-requires
most_masks-most-requires c = few-nodes c.args.nodes c.args.frames c.requires.0

pub put-requires : goal.put-requires
put-requires c =
    let nodes = c.args.nodes in
    let frames = c.args.frames in
    let l = c.requires.0 in
    (few-nodes nodes frames l, c.most_masks-most.ensures, some-frames nodes frames l, omega (arith, few-frames nodes frames l), masks-none nodes, omega (arith, c.requires.1, ap length (bytes-begin nodes c.args.period frames)))

pub returns : goal.returns
returns c =
    let e = bytes-begin c.args.nodes c.args.period c.args.frames in
    (c.put.ensures.0 ∙ omega (arith, ap length e), c.put.ensures.1 ∙ ap (placed c.args.out.now 0) e)
