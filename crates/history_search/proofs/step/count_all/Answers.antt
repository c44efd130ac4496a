-- `history_search::step::count_all` meets its contract: from power-on.
use mathlib.Core.Path.{ap, ◌∙◌}
use lib.ListN.{length}
use native.Mathlib.Omega.{arith}
use Rattle.history_masks.proofs.LimitsLaws.{few-nodes, some-frames, few-frames}
use Rattle.history_masks.proofs.CodeLaws.{masks-none, histories-begin}
use Rattle.history_search.proofs.step.count_all.Goals as goal

pub most_masks-most-requires : goal.most_masks-most-requires
most_masks-most-requires c = few-nodes c.args.nodes c.args.frames c.requires

pub count-requires : goal.count-requires
count-requires c =
    let nodes = c.args.nodes in
    let frames = c.args.frames in
    (few-nodes nodes frames c.requires, c.most_masks-most.ensures, some-frames nodes frames c.requires, omega (arith, few-frames nodes frames c.requires), masks-none nodes)

pub returns : goal.returns
returns c =
    c.count.ensures ∙ ap length (histories-begin c.args.nodes c.args.period c.args.frames)
