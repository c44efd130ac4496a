-- `row_frame::step::spoil` meets its contract: the rows of the first j nodes are done.
use mathlib.Core.Path.{◌≡◌, refl, sym, ap, ◌∙◌}
use Prim.Native.Nat.{ℕ, ◌+◌, ◌-◌, ◌*◌, ◌≤◌, ◌<◌}
use native.Mathlib.Omega.{arith}
use lib.ListN.{length}
use borrow.Author.Rules.{rules}
use Rattle.array.proofs.PlacedLaws.{part_length}
use Rattle.plan.specs.Limits.{most_cells}
use Rattle.rows.specs.declared.RowWords.{RowWords}
use Rattle.rows.proofs.RowLaws.{through-next, through-kept, through-all, through_same}
use Rattle.row_frame.specs.Code.{spoiled}
use Rattle.row_frame.proofs.SpoilLaws.{memory-in, spoiled-first, spoiled-good, spoiled-stored}
use Rattle.row_frame.proofs.step.spoil.Goals as goal
use Rattle.row_frame.proofs.step.spoil.Goals.{else-is_bad, then-is_bad}

pub loop-j-init : goal.loop-j-init
loop-j-init c = let a = c.args in (search rules, search rules, search rules, search rules, spoiled-first a.faults.now.sizes a.faults.now.mask a.faults.now.bytes.now _ _)

pub read_be2-requires : goal.read_be2-requires
read_be2-requires c = omega (arith, memory-in c.args.faults.now.sizes c.args.faults.now.mask (length c.args.faults.now.bytes.now) c.loop-j.j c.args.faults.now.parts c.loop-j-test.true (sym c.is_bad.ensures ∙ c.if-is_bad.true) c.part_at-from.ensures)

pub fault_row-requires : goal.fault_row-requires
fault_row-requires c = let l = c.loop-j in
    let t = c.loop-j-test in
    let z : most_cells * (l.j + 1) + most_cells - most_cells * (l.j + 1) ≡ most_cells = omega arith in (
      c.args.faults.now.small.cells,
      omega (arith, c.args.faults.now.small.cells, part_length l.rows.cells (most_cells * (l.j + 1)) _ most_cells z (omega (arith, l.invariant.1, l.rows.cells_size, t.true))),
      memory-in c.args.faults.now.sizes c.args.faults.now.mask _ l.j c.args.faults.now.parts t.true (sym c.is_bad.ensures ∙ c.if-is_bad.true) c.part_at-from.ensures,
    )

pub loop-j-preserved : goal.loop-j-preserved
loop-j-preserved c = let a = c.args in
    let l = c.loop-j in
    let i = l.invariant in
    let f = spoiled a.faults.now.sizes a.faults.now.mask a.faults.now.bytes.now in
    let room : most_cells * (l.j + 1) + most_cells ≤ length l.rows.cells = omega (arith, i.1, l.rows.cells_size, c.loop-j-test.true) in
    let few : l.j + 1 < length l.rows.counters = omega (arith, i.1, l.rows.counters_size, c.loop-j-test.true) in
    let z : most_cells * (l.j + 1) + most_cells - most_cells * (l.j + 1) ≡ most_cells = omega arith in
    elim c.if-is_bad.branch [
      | then-is_bad w ↦ (
        search rules,
        i.1,
        ap (λ (s : RowWords). s.good) w.rows-is ∙ i.2,
        ap (λ (s : RowWords). s.seen) w.rows-is ∙ i.3,
        through_same f _ _ (through-next f _ _ i.4 (spoiled-stored a.faults.now.sizes a.faults.now.mask a.faults.now.bytes.now l.j l.rows.cells _ refl z w.part_at-from.ensures room w.fault_row.ensures l.rows.counters few w.read_be2.ensures (sym c.is_bad.ensures ∙ w.if-is_bad.true)))
            (ap (λ (s : RowWords). s.counters) w.rows-is) (ap (λ (s : RowWords). s.cells) w.rows-is),
      )
      | else-is_bad w ↦ (
        search rules,
        i.1,
        ap (λ (s : RowWords). s.good) w.rows-is ∙ i.2,
        ap (λ (s : RowWords). s.seen) w.rows-is ∙ i.3,
        through_same f _ _ (through-kept f _ _ i.4 (spoiled-good a.faults.now.sizes a.faults.now.mask a.faults.now.bytes.now l.j (sym c.is_bad.ensures ∙ w.if-is_bad.false)))
            (ap (λ (s : RowWords). s.counters) w.rows-is) (ap (λ (s : RowWords). s.cells) w.rows-is),
      )
    ]

pub returns : goal.returns
returns c = let i = c.loop-j.invariant in
    let e : c.loop-j.j ≡ c.args.faults.now.sizes.nodes = omega arith in
    (through-all _ _ _ i.4 (ap (λ (n : ℕ). n + 1) e), i.2, i.3)
