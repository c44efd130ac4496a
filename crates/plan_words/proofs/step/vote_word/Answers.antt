use mathlib.Core.Path.{◌≡◌, sym, ◌∙◌}
use native.Mathlib.Omega.{arith}
use borrow.Author.Rules.{rules}
use Rattle.plan.specs.Limits.{most_cells}
use Rattle.plan_words.proofs.BitsLaws.{number_of_bits-none, number_of_bits-hit, number_of_bits-miss, bit-fits}
use Rattle.plan_words.proofs.step.vote_word.Goals.{then-is_voted, else-is_voted}
use Rattle.plan_words.proofs.step.vote_word.Goals as goal

pub loop-c-init : goal.loop-c-init
loop-c-init c = (search rules, sym (number_of_bits-none _))

pub overflow_add-word : goal.overflow_add-word
overflow_add-word c = let loop = c.loop-c in omega (arith, bit-fits _ loop.c (omega arith) loop.invariant.1)

pub loop-c-preserved : goal.loop-c-preserved
loop-c-preserved c =
    let loop = c.loop-c in
    let voted = sym c.is_voted.ensures in
    elim c.if-is_voted.branch [
      | then-is_voted w ↦ (search rules, w.word-is ∙ number_of_bits-hit _ loop.c (omega arith) loop.invariant.1 (voted ∙ w.if-is_voted.true))
      | else-is_voted w ↦ (search rules, w.word-is ∙ number_of_bits-miss _ loop.c (omega arith) loop.invariant.1 (voted ∙ w.if-is_voted.false))
    ]

pub returns : goal.returns
returns c = let e : c.loop-c.c ≡ most_cells = omega arith in rw e at c.loop-c.invariant.1
