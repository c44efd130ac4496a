-- `row_counter::step::counter_words` meets its contract: the first j words are read.
use Rattle.std.specs.Prelude.{Option, Some}
use mathlib.Core.Path.{sym, ap, ◌∙◌}
use Prim.Native.Nat.{ℕ, suc}
use native.Mathlib.Omega.{arith}
use native.Mathlib.Nat.{not-suc-le-zero}
use native.Mathlib.Numerals.{add-one}
use lib.ListN.{get_or}
use borrow.Author.Rules.{rules}
use Rattle.ballot.proofs.BinLaws.{told-next, told-to}
use Rattle.row_counter.proofs.step.counter_words.Goals as goal

pub loop-j-init : goal.loop-j-init
loop-j-init c = (search rules, search rules, λ i l. absurd (not-suc-le-zero l))

pub loop-j-preserved : goal.loop-j-preserved
loop-j-preserved c =
    let l = c.loop-j in
    let a = c.args in
    let bin : ℕ → Option ℕ = λ i. Some (get_or a.counters.now (suc i) 0) in (
      search rules,
      search rules,
      told-next bin l.words l.j c.wide.result (omega (arith, l.invariant.1))
          (ap Some (ap (λ (k : ℕ). get_or a.counters.now k 0) (sym (add-one l.j)) ∙ sym c.wide.ensures))
          l.invariant.2,
    )

pub returns : goal.returns
returns c =
    told-to (λ i. Some (get_or c.args.counters.now (suc i) 0)) c.loop-j.words c.loop-j.invariant.2 (omega arith)
