-- `row_counter::step::counter_agreed` meets its contract: with no bad node all hear alike.
use lib.ListN.{get_or}
use Rattle.row_word.specs.Code.{fault_word}
use Rattle.row_word.proofs.AgreementLaws.{low-alone}
use Rattle.row_counter.proofs.step.counter_agreed.Goals as goal

pub returns-then-mask-eq0 : goal.returns-then-mask-eq0
returns-then-mask-eq0 c =
    let a = c.args in
    low-alone a.faults.now.mask a.faults.now.sizes.nodes a.faults.now.sizes.nodes (fault_word a.faults.now.sizes a.faults.now.mask a.faults.now.bytes.now 0) (λ j. get_or a.words.now j 0) a.x c.good_holders-held.ensures c.if-mask-eq0.true c.requires c.min.ensures
