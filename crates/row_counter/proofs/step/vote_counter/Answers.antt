-- `row_counter::step::vote_counter` meets its contract: one way out for each case of what is decided.
use mathlib.Core.Path.{refl}
use Rattle.row_counter.proofs.DecideLaws.{counter-each, counter-none, counter-below, counter-above}
use Rattle.row_counter.proofs.step.vote_counter.Goals as goal

pub returns-then-mask-ne0 : goal.returns-then-mask-ne0
returns-then-mask-ne0 c =
    let a = c.args in
    counter-each a.faults.now.sizes a.faults.now.mask a.faults.now.bytes.now a.counters.now c.counter_words-words.result c.counter_words-words.ensures c.decided.ensures c.in_default.is c.counters_each-least.ensures.0 c.counters_each-least.ensures.1

pub returns-in_default : goal.returns-in_default
returns-in_default c =
    let a = c.args in
    counter-none a.faults.now.sizes a.faults.now.mask a.faults.now.bytes.now a.counters.now c.counter_words-words.result c.counter_words-words.ensures c.decided.ensures c.in_default.is c.if-mask-ne0.false c.requires.0

pub returns-then-x-frames : goal.returns-then-x-frames
returns-then-x-frames c =
    let a = c.args in
    counter-below a.faults.now.sizes a.faults.now.mask a.faults.now.bytes.now a.counters.now c.counter_words-words.result c.counter_words-words.ensures c.decided.ensures _ c.in-Some.is c.counter_agreed-agreement.ensures c.if-x-frames.true refl c.settle_counters.ensures c.frame_before-frame.ensures.0

pub returns : goal.returns
returns c =
    let a = c.args in
    counter-above a.faults.now.sizes a.faults.now.mask a.faults.now.bytes.now a.counters.now c.counter_words-words.result c.counter_words-words.ensures c.decided.ensures _ c.in-Some.is c.counter_agreed-agreement.ensures c.if-x-frames.false
