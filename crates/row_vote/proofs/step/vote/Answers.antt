-- `row_vote::step::vote` meets its contract: the good nodes vote in one frame, or each in its own.
use mathlib.Core.Path.{◌≡◌, refl, sym, ap, ◌∙◌}
use mathlib.Core.Bool.{false}
use Prim.Native.Nat.{ℕ, ◌<◌}
use native.Mathlib.Omega.{arith}
use lib.ListN.{get_or}
use borrow.Author.Rules.{rules}
use Rattle.array.specs.Bit.{bit}
use Rattle.row_counter.specs.Code.{frame_before, counter_after}
use Rattle.row_vote.proofs.VoteLaws.{agreed-small, frame-agreed, rows-voted}
use Rattle.row_vote.proofs.AgreementLaws.{agreed-good, rows-agreed, rows-least}
use Rattle.row_vote.proofs.step.vote.Goals as goal

pub vote_one-requires : goal.vote_one-requires
vote_one-requires c =
    let q = c.requires in
    let small = agreed-small _ _ q.1 (sym c.in-Some.is ∙ c.vote_counter-polled.ensures.0) in
    (q.0, c.frames_before-sent.ensures.1, omega (arith, small, q.2))

pub returns-in-Some : goal.returns-in-Some
returns-in-Some c =
    let a = c.args in
    let q = c.requires in
    let v = c.vote_counter-polled in
    let sent : ℕ → ℕ = λ j. get_or c.frames_before-sent.result j 0 in
    let one = c.in-Some.one in
    let is = sym c.in-Some.is ∙ v.ensures.0 in
    let frame : (i : ℕ) → i < a.faults.now.sizes.nodes → bit a.faults.now.mask i ≡ false → one ≡ frame_before a.faults.now.sizes.frames (counter_after a.faults.now.sizes a.faults.now.mask a.faults.now.bytes.now a.rows.now.counters i) =
    λ i l t. frame-agreed a.faults.now.sizes a.faults.now.mask a.faults.now.bytes.now a.rows.now.counters is i in
    let good = agreed-good a.faults.now.sizes a.faults.now.mask a.rows.now.counters is in (
      rows-voted a.voted.now a.faults.now.sizes a.faults.now.mask a.faults.now.bytes.now a.faults.now.small.nodes a.faults.now.small.cells a.rows.now.counters a.rows.now.cells _ c.vote_one.new.cells a.rows.now.cells_size c.vote_one.ensures.2
          sent (λ i. one) c.frames_before-sent.ensures.0 frame v.ensures.1 c.vote_one.ensures.0,
      c.vote_one.ensures.1
          ∙ rows-agreed a.voted.now a.faults.now.sizes a.faults.now.mask a.faults.now.bytes.now a.rows.now.counters a.rows.now.cells sent (λ i. one) c.frames_before-sent.ensures.0 frame
          v.ensures.2 good.0 good.1 good.2,
      refl,
      refl,
    )

pub vote_each-agreement-requires : goal.vote_each-agreement-requires
vote_each-agreement-requires c = (search rules, search rules)

pub returns : goal.returns
returns c =
    let a = c.args in
    let q = c.requires in
    let v = c.vote_counter-polled in
    let sent : ℕ → ℕ = λ j. get_or c.frames_before-sent.result j 0 in
    let own : ℕ → ℕ = λ i. get_or c.frames_before-frames.result i 0 in
    let frame : (i : ℕ) → i < a.faults.now.sizes.nodes → bit a.faults.now.mask i ≡ false → own i ≡ frame_before a.faults.now.sizes.frames (counter_after a.faults.now.sizes a.faults.now.mask a.faults.now.bytes.now a.rows.now.counters i) =
    λ i l t. c.frames_before-frames.ensures.0 i l ∙ ap (frame_before a.faults.now.sizes.frames) (v.ensures.1.here i l (rw t)) in (
      rows-voted a.voted.now a.faults.now.sizes a.faults.now.mask a.faults.now.bytes.now a.faults.now.small.nodes a.faults.now.small.cells a.rows.now.counters a.rows.now.cells _ c.vote_each-agreement.new.cells a.rows.now.cells_size c.vote_each-agreement.ensures.2
          sent own c.frames_before-sent.ensures.0 frame v.ensures.1 c.vote_each-agreement.ensures.0,
      rows-least a.voted.now a.faults.now.sizes a.faults.now.mask a.faults.now.bytes.now a.rows.now.counters a.rows.now.cells sent own c.frames_before-sent.ensures.0 frame v.ensures.2
          c.vote_each-agreement.ensures.1 c.of_good.ensures,
      refl,
      refl,
    )
