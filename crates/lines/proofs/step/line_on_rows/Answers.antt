-- `lines::step::line_on_rows` meets its contract: the line is refused, or the bad nodes' parts are filled and its frame is run.
use Rattle.std.specs.Prelude.{Option}
use mathlib.Core.Path.{refl, ap, ◌∙◌}
use mathlib.Core.List.{List, ◌∷◌}
use Prim.Native.Nat.{ℕ}
use native.Mathlib.Omega.{arith}
use lib.ListN.{length, take}
use Rattle.array.proofs.PlacesLaws.{fill-length}
use Rattle.faults.specs.Code.{BadHold}
use Rattle.faults.proofs.LayoutLaws.{parts_all, held-bad}
use Rattle.row_frame.proofs.FrameLaws.{sizes-small}
use Rattle.run_line.specs.declared.step.LineHead.{LineHead}
use Rattle.run_line.specs.Code.{line_read}
use Rattle.lines.proofs.RowsLaws.{read-numbers, read-within, read_fits, made-refused, made-run}
use Rattle.lines.proofs.step.line_on_rows.Goals as goal

pub returns-in_default : goal.returns-in_default
returns-in_default c =
    let a = c.args in
    let q = c.requires in
    (q.3, q.5, λ sys h. made-refused a.plan sys _ a.frame a.out.now (ap (λ (x : Option LineHead). line_read x (take a.plan.sensors a.patterns.now)) c.in_default.is) h refl)

pub hold-requires : goal.hold-requires
hold-requires c =
    let a = c.args in
    let q = c.requires in
    ((sizes-small a.plan q.0 a.s q.1).0, (read-within a.plan a.s q.1 a.frame a.patterns.now c.in-Some.is q.2).small, q.3, q.4, q.5)

pub slice_bounds-finish_line-end : goal.slice_bounds-finish_line-end
slice_bounds-finish_line-end c =
    let a = c.args in
    let q = c.requires in
    read_fits a.plan a.s q.1 a.frame a.patterns.now c.in-Some.is q.2

pub invariant_of-told : goal.invariant_of-told
invariant_of-told c =
    let a = c.args in
    let q = c.requires in
    record { small = (sizes-small a.plan q.0 a.s q.1).0; parts = parts_all a.s _ _ (omega (arith, c.hold.ensures.1)) }

pub finish_line-requires : goal.finish_line-requires
finish_line-requires c =
    let a = c.args in
    let q = c.requires in (
      q.0,
      q.1,
      (read-within a.plan a.s q.1 a.frame a.patterns.now c.in-Some.is q.2).count,
      q.6,
      q.7,
    )

pub returns : goal.returns
returns c =
    let a = c.args in
    let q = c.requires in
    let held : List ℕ = c.hold.new.held in
    let faults : List ℕ = c.hold.new.faults in
    let bad : BadHold a.s _ faults _ = held-bad a.s _ _ a.held.now held faults c.hold.ensures.0 q.3 (sizes-small a.plan q.0 a.s q.1).0.nodes c.hold.ensures.2 in (
      ap length c.hold.ensures.0 ∙ fill-length _ a.s.nodes a.held.now ∙ q.3,
      c.hold.ensures.2,
      λ sys h.
          let f = c.finish_line.ensures sys _ h bad in
          made-run a.plan sys _ a.frame a.out.now (_ ∷ _ ∷ _) (read-numbers a.plan a.s q.1 a.frame a.patterns.now c.in-Some.is) f.0 f.1 f.2,
    )
