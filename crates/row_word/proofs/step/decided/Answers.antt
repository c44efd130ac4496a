-- `row_word::step::decided` meets its contract: with no bad node all words are good ones'.
use mathlib.Core.Path.{◌∙◌}
use lib.ListN.{get_or}
use Rattle.ballot.proofs.PackedLaws.{packs-majority}
use Rattle.row_word.specs.Code.{good_only}
use Rattle.row_word.proofs.HeardLaws.{good-alone}
use Rattle.row_word.proofs.step.decided.Goals as goal

pub returns-then-mask-eq0 : goal.returns-then-mask-eq0
returns-then-mask-eq0 c =
    let a = c.args in
    c.majority.ensures ∙ good-alone a.mask a.nodes a.words.now c.if-mask-eq0.true

pub returns : goal.returns
returns c =
    let a = c.args in
    let g = c.good_ones-good in
    c.majority-2.ensures ∙ packs-majority (good_only a.mask (λ j. get_or a.words.now j 0)) a.nodes g.ensures
