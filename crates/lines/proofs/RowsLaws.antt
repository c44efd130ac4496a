-- A line on rows: its frame from what the steps on rows give, and what it makes of a record.
use Rattle.std.specs.Prelude.{Option, None, Some}
use mathlib.Core.Path.{◌≡◌, refl, sym, ap, ◌∙◌, subst}
use mathlib.Core.Bool.{Bool, true, false}
use mathlib.Core.List.{List, [], ◌∷◌, ◌++◌}
use Prim.Native.Nat.{ℕ, ◌+◌, ◌-◌, ◌≤◌, ◌<◌}
use native.Mathlib.Omega.{arith}
use lib.ListN.{length, get_or, take, replicate, length-replicate}
use Rattle.array.specs.Index.{how_many, from}
use Rattle.array.specs.Bit.{bit}
use Rattle.array.proofs.TestLaws.{clash}
use Rattle.column.specs.Row.{row}
use Rattle.plan.specs.declared.Plan.{Plan}
use Rattle.plan.specs.declared.Sizes.{Sizes}
use Rattle.plan.specs.Limits.{most_nodes, most_actuators}
use Rattle.plan.specs.Known.{period as period_of}
use Rattle.plan.specs.Sizes.{sizes_with as sizes_by, sizes_of}
use Rattle.memory.specs.declared.Memory.{Memory}
use Rattle.system.specs.declared.System.{System}
use Rattle.system.specs.Counts.{is_working}
use Rattle.system.specs.Fault.{fault_size, faults_size, fault_at}
use Rattle.system.specs.Frame.{system_after, place_after, frame_agreement}
use Rattle.system.proofs.FaultsOfBadLaws.{faults-of-bad}
use Rattle.system.proofs.SeenLaws.{place-seen}
use Rattle.faults.specs.Code.{BadHold}
use Rattle.faults.proofs.LayoutLaws.{held-fills}
use Rattle.rows.specs.Code.{memory_in, Rows, same_row}
use Rattle.rows.proofs.RowLaws.{equal_is}
use Rattle.run_line.specs.declared.step.LineHead.{LineHead}
use Rattle.run_line.specs.Line.{printed_widths}
use Rattle.run_line.specs.Listing.{line_numbers, fault_bytes, system_next, single_after, plane_values, agreement, working, equal, frame_line}
use Rattle.run_line.specs.Code.{line_read}
use Rattle.lines.specs.declared.step.Stepped.{Stepped}
use Rattle.lines.specs.Code.{system_then, single_then, step_answer, step_place, OfLine, LineMade}
use Rattle.lines.proofs.StepLaws.{line-early, line-in-time, Within, numbers-within, take-fits}

-- ---- a frame and its line

module _ (p : Plan) (s : Sizes) (e : s ≡ sizes_of p) (sys : System) (vs : List ℕ) (mask x : ℕ) where
  abbrev numbers : List ℕ
  numbers = mask ∷ x ∷ vs

  -- the frame's fault bytes, where the parts of the bad nodes hold the fill
  module _ (faults : List ℕ) (h : BadHold s mask faults x) where
    same_bytes :
        (j k : ℕ) → j < p.nodes → bit mask j ≡ true → k < fault_size (sizes_of p) →
        get_or faults (fault_at (sizes_of p) j + k) 0 ≡ get_or (replicate (faults_size (sizes_of p)) x) (fault_at (sizes_of p) j + k) 0
    same_bytes = held-fills (sizes_of p) mask x faults (subst (λ (z : Sizes). BadHold z mask faults x) e h)

    next-is : system_after p sys vs mask faults ≡ system_next p sys numbers
    unfolding system_next fault_bytes
    next-is = (faults-of-bad p sys vs mask faults (replicate (faults_size (sizes_of p)) x) same_bytes).0

    pub rows_next : {counters cells good seen : List ℕ} → Rows (system_after p sys vs mask faults) counters cells good seen → Rows (system_next p sys numbers) counters cells good seen
    rows_next {counters} {cells} {good} {seen} = subst (λ (t : System). Rows t counters cells good seen) next-is

    planes-are : place_after p sys vs mask faults (replicate p.actuators 0) ≡ plane_values p sys numbers
    unfolding plane_values fault_bytes
    planes-are = (faults-of-bad p sys vs mask faults (replicate (faults_size (sizes_of p)) x) same_bytes).1 (replicate p.actuators 0)

    pub agreement-is : {r : ℕ} → r ≡ frame_agreement p sys vs mask faults → r ≡ agreement p sys numbers
    unfolding agreement fault_bytes
    agreement-is h = h ∙ (faults-of-bad p sys vs mask faults (replicate (faults_size (sizes_of p)) x) same_bytes).2

    -- the plane values in the front of what is seen
    pub planes-read :
        {counters cells good seen : List ℕ} →
        p.actuators ≤ most_actuators →
        length sys.seen.handed ≡ most_actuators →
        Rows (system_after p sys vs mask faults) counters cells good seen →
        from 0 seen 0 s.actuators ≡ plane_values p sys numbers
    planes-read {counters} {cells} {good} {seen} few long after =
        ap (λ (t : Sizes). from 0 seen 0 t.actuators) e
        ∙ ap (λ (l : List ℕ). from 0 l 0 p.actuators) after.seen-is
        ∙ sym (place-seen p sys vs mask faults (replicate p.actuators 0) (length-replicate p.actuators 0) (omega arith))
        ∙ planes-are

  pub working-is : (good : List ℕ) → good ≡ sys.good → how_many (is_working s.period mask good) s.nodes ≡ working p sys numbers
  unfolding working
  working-is good f = rw (e, f)

  pub same_rows :
      (single : Memory) (counters cells good seen : List ℕ) →
      p.nodes ≤ most_nodes →
      Rows (system_next p sys numbers) counters cells good seen →
      memory_in counters cells 0 ≡ single_after p single numbers →
      how_many (λ j. same_row s.cells counters cells (j + 1)) s.nodes ≡ equal p (system_next p sys numbers) (single_after p single numbers)
  unfolding equal
  same_rows single counters cells good seen few h f =
      ap (λ (t : Sizes). how_many (λ j. same_row t.cells counters cells (j + 1)) t.nodes) e
      ∙ equal_is p (system_next p sys numbers) (single_after p single numbers) counters cells good seen p.nodes h f refl few

  pub line-is :
      (single : Memory) (frame : ℕ) {w g a : ℕ} {out us : List ℕ} →
      out ≡ row (printed_widths s.actuators) (frame ∷ w ∷ g ∷ (us ++ (a ∷ []))) →
      w ≡ working p sys numbers →
      g ≡ equal p (system_next p sys numbers) (single_after p single numbers) →
      us ≡ plane_values p sys numbers →
      a ≡ agreement p sys numbers →
      out ≡ frame_line p sys single frame numbers
  unfolding frame_line
  line-is single frame o f g h k = o ∙ rw (e, f, g, h, k)

-- the numbers handed out with the period
pub sizes-are : (p : Plan) {s : Sizes} {period : ℕ} → s ≡ sizes_by p period → period ≡ period_of p → s ≡ sizes_of p
sizes-are p e f = e ∙ ap (sizes_by p) f

-- ---- the numbers read

-- of a line that is whole, with its patterns as they are lent
module _ (p : Plan) (s : Sizes) (e : s ≡ sizes_of p) (frame : ℕ) (patterns : List ℕ) {read : Option LineHead} {head : LineHead} (w : read ≡ Some head) where
  abbrev lent : List ℕ
  lent = take (s.sensors - 0) patterns

  pub read-numbers : line_read read (take p.sensors patterns) ≡ Some (head.mask ∷ head.fill ∷ lent)
  read-numbers =
      let n : p.sensors ≡ s.sensors - 0 = omega (arith, ap (λ (t : Sizes). t.sensors) e) in
      ap (λ (x : Option LineHead). line_read x (take p.sensors patterns)) w ∙ ap (λ (k : ℕ). Some (head.mask ∷ head.fill ∷ take k patterns)) n

  pub read-within : OfLine p frame (line_read read (take p.sensors patterns)) → Within p.sensors head.fill lent
  read-within f =
      let o : line_numbers p frame f.0 ≡ Some (head.mask ∷ head.fill ∷ lent) = sym f.1 ∙ read-numbers in
      numbers-within p.nodes p.sensors f.0 (sym o ∙ line-early p frame f.0 (line-in-time p frame f.0 _ o))

  pub read_fits : OfLine p frame (line_read read (take p.sensors patterns)) → s.sensors ≤ length patterns
  read_fits f =
      let n : p.sensors ≡ s.sensors - 0 = omega (arith, ap (λ (t : Sizes). t.sensors) e) in
      omega (arith, n, take-fits (s.sensors - 0) patterns ((read-within f).count ∙ n))

-- ---- what a line makes of rows

module _ (p : Plan) (sys : System) (single : Memory) (frame : ℕ) (place : List ℕ) {o : Option (List ℕ)} {counters cells good seen : List ℕ} where
  pub made-refused : o ≡ None → Rows sys counters cells good seen → memory_in counters cells 0 ≡ single → LineMade p sys single frame o place false counters cells good seen place
  unfolding system_then single_then step_place
  made-refused e h m =
      subst (λ (x : Option (List ℕ)). LineMade p sys single frame x place false counters cells good seen place) (sym e)
      (record { taken_is = refl; rows = h; first-row = m; out-is = refl })

  pub made-run :
      (l : List ℕ) {out : List ℕ} →
      o ≡ Some l →
      Rows (system_next p sys l) counters cells good seen →
      memory_in counters cells 0 ≡ single_after p single l →
      out ≡ frame_line p sys single frame l →
      LineMade p sys single frame o place true counters cells good seen out
  unfolding system_then single_then step_place
  made-run l {out} e h m f =
      subst (λ (x : Option (List ℕ)). LineMade p sys single frame x place true counters cells good seen out) (sym e)
      (record { taken_is = refl; rows = h; first-row = m; out-is = f })

-- what is put together again after it
module _
    (p : Plan) (sys : System) (single : Memory) (frame : ℕ) (place : List ℕ) {taken : Bool} {before : Memory} {o numbers : Option (List ℕ)} {counters cells good seen out : List ℕ}
    (b : before ≡ single)
    (e : o ≡ numbers)
    (made : LineMade p sys before frame o place taken counters cells good seen out) where
  abbrev Made : Option (List ℕ) → Type 0
  Made x = LineMade p sys single frame x place taken counters cells good seen out

  made-here : Made numbers
  made-here = subst Made e (subst (λ (x : Memory). LineMade p sys x frame o place taken counters cells good seen out) b made)

  abbrev Stands : Option Stepped → Option (List ℕ) → Type 0
  Stands r x = (r ≡ step_answer p sys single x) × (out ≡ step_place p sys single frame x place)

  pub step-refused : taken ≡ false → Stands None numbers
  unfolding step_answer step_place
  step-refused t = go numbers made-here
    where
      go : (x : Option (List ℕ)) → Made x → Stands None x
      go None m = (refl, m.out-is)
      go (Some l) m = absurd (clash m.taken_is t)

  pub step-run : taken ≡ true → (s : Stepped) → ((y : System) → Rows y counters cells good seen → s.system ≡ y) → s.single ≡ memory_in counters cells 0 → Stands (Some s) numbers
  unfolding system_then single_then step_answer step_place
  step-run t s f g = go numbers made-here
    where
      go : (x : Option (List ℕ)) → Made x → Stands (Some s) x
      go None m = absurd (clash t m.taken_is)
      go (Some l) m =
          let h = f (system_next p sys l) m.rows in
          let k : s.single ≡ single_after p single l = g ∙ m.first-row in
          (ap Some (λ i. record { system = h i; single = k i }), m.out-is)
