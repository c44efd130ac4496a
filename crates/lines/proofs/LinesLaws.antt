-- The lines of a block on rows: after k of them, and between two of them as the loop of `lines` has it.
use Rattle.std.specs.Prelude.{Option, None, Some}
use mathlib.Core.Path.{◌≡◌, refl, sym, ap, ◌∙◌, subst}
use mathlib.Core.Bool.{Bool, true, false}
use mathlib.Core.List.{List}
use Prim.Native.Nat.{ℕ, ◌+◌, ◌-◌, ◌*◌, ◌≤◌, ◌<◌, min}
use native.Mathlib.Omega.{arith}
use native.Mathlib.Numerals.{add-one}
use lib.ListN.{length, take, drop}
use borrow.Rule.Slice.PartMut.{put_mid, put_same, same_len_mid}
use Rattle.array.proofs.TestLaws.{clash}
use Rattle.array.proofs.PlacedLaws.{part_length}
use Rattle.answer.specs.declared.Refusal.{Refusal}
use Rattle.answer.specs.declared.Refusal.TheVariants.{RunLine}
use Rattle.plan.specs.declared.Plan.{Plan}
use Rattle.plan.specs.declared.Sizes.{Sizes}
use Rattle.plan.specs.Limits.{most_nodes}
use Rattle.memory.specs.declared.Memory.{Memory}
use Rattle.system.specs.declared.System.{System}
use Rattle.system.specs.Fault.{faults_size}
use Rattle.faults.specs.Code.{Held}
use Rattle.rows.specs.Code.{memory_in, Rows}
use Rattle.run_line.specs.Line.{run_line_size, printed_size}
use Rattle.run_line.specs.Listing.{most_run_lines, line_numbers, system_next, single_after, read_line, read_numbers, system_at, single_at, frames}
use Rattle.lines.specs.declared.Run.{Run}
use Rattle.lines.specs.declared.Printed.{Printed}
use Rattle.lines.specs.Code.{block_lines, system_then, single_then, step_place, LineMade, printed_with, lines_answer, lines_place}
use Rattle.lines.proofs.StepLaws.{line-early}
use Rattle.lines.proofs.RunLaws.{line_bytes, Ran, ran-none, ran-more, ran-ended, numbers-are, frames-are, standing-refused, standing-ended, place_is, block_room, one_more, line-bytes}

-- the run whose lines they are
abbrev run_of : Plan → ℕ → System → Memory → ℕ → Run
run_of p period sys single first = record { plan = p; period = period; system = sys; single = single; frame = first }

-- ---- after k lines

module _ (p : Plan) (sys : System) (single : Memory) (first : ℕ) (rest out₀ : List ℕ) where
  abbrev size : ℕ
  size = run_line_size p.sensors

  abbrev width : ℕ
  width = printed_size p.actuators

  -- k lines are run, and the rows hold what stands then
  pub record Going (k : ℕ) (counters cells good seen out : List ℕ) : Type 0 where
    pub ran : Ran p sys single first rest out₀ k out
    pub rows : Rows (system_at p sys single first rest k) counters cells good seen
    pub first-row : memory_in counters cells 0 ≡ single_at p sys single first rest k

  pub going-none : {counters cells good seen : List ℕ} → first ≤ most_run_lines → Rows sys counters cells good seen → memory_in counters cells 0 ≡ single → Going 0 counters cells good seen out₀
  unfolding system_at single_at
  going-none l h m = record { ran = ran-none p sys single first rest out₀ l; rows = h; first-row = m }

  module _ {k : ℕ} {counters cells good seen out : List ℕ} (g : Going k counters cells good seen out) where
    abbrev here : System
    here = system_at p sys single first rest k

    abbrev alone : Memory
    alone = single_at p sys single first rest k

    abbrev line_told : Option (List ℕ)
    line_told = line_numbers p (first + k) (line_bytes p sys single first rest k)

    -- line k, on its part of the buffer
    module _ (line to : List ℕ) {a b : ℕ} {o : Option (List ℕ)} {taken : Bool} {counters' cells' good' seen' : List ℕ}
        (e : line ≡ line_bytes p sys single first rest k)
        (f : o ≡ line_numbers p (first + k) line)
        (ea : a ≡ k * width)
        (eb : b ≡ width)
        (made : (y : System) → Rows y counters cells good seen → LineMade p y (memory_in counters cells 0) (first + k) o (take b (drop a out)) taken counters' cells' good' seen' to) where
      abbrev Made : Option (List ℕ) → Type 0
      Made x = LineMade p here alone (first + k) x (take b (drop a out)) taken counters' cells' good' seen' to

      made-here : Made line_told
      made-here =
          subst Made (f ∙ ap (line_numbers p (first + k)) e)
          (subst (λ (m : Memory). LineMade p here m (first + k) o (take b (drop a out)) taken counters' cells' good' seen' to) g.first-row (made here g.rows))

      more_by : (x : Option (List ℕ)) → line_told ≡ x → Made x → taken ≡ true → Going (k + 1) counters' cells' good' seen' (put_mid a b out to)
      unfolding system_then single_then step_place system_at single_at
      more_by None q m t = absurd (clash t m.taken_is)
      more_by (Some l) q m t =
          let n : l ≡ read_numbers p sys single first rest k = numbers-are p sys single first rest g.ran q in
          let u : system_next p here l ≡ system_at p sys single first rest (k + 1) = rw (add-one k, n) in
          let v : single_after p alone l ≡ single_at p sys single first rest (k + 1) = rw (add-one k, n) in
          record {
            ran = ran-more p sys single first rest g.ran to l ea eb q m.out-is;
            rows = subst (λ (y : System). Rows y counters' cells' good' seen') u m.rows;
            first-row = m.first-row ∙ v;
          }

      stop-by : (x : Option (List ℕ)) → line_told ≡ x → Made x → taken ≡ false → Going k counters' cells' good' seen' (put_mid a b out to) × (frames p sys single first rest ≡ k)
      unfolding system_then single_then step_place read_line
      stop-by None q m t =
          let same : put_mid a b out to ≡ out = ap (put_mid a b out) m.out-is ∙ put_same a b out in (
            record { ran = subst (λ (x : List ℕ). Ran p sys single first rest out₀ k x) (sym same) g.ran; rows = m.rows; first-row = m.first-row },
            frames-are p sys single first rest g.ran (λ l. sym (line-early p (first + k) (line_bytes p sys single first rest k) l) ∙ q),
          )
      stop-by (Some l) q m t = absurd (clash m.taken_is t)

      -- it is run: one line more
      going_more : taken ≡ true → Going (k + 1) counters' cells' good' seen' (put_mid a b out to)
      going_more = more_by line_told refl made-here

      -- it is refused: no line more
      going-stopped : taken ≡ false → Going k counters' cells' good' seen' (put_mid a b out to) × (frames p sys single first rest ≡ k)
      going-stopped = stop-by line_told refl made-here

    -- what is handed back where the run stops
    module _ (period : ℕ) (r : Printed) {to : ℕ} (e : to ≡ k * width) where
      abbrev Stopped : Option Refusal → Type 0
      Stopped refused = (y : System) → Rows y counters cells good seen → r ≡ printed_with refused to p period y (memory_in counters cells 0) (first + k)

      told : (refused : Option Refusal) → Stopped refused → r ≡ printed_with refused (k * width) p period here alone (first + k)
      told refused f =
          f here g.rows
          ∙ ap (λ (m : Memory). printed_with refused to p period here m (first + k)) g.first-row
          ∙ ap (λ (n : ℕ). printed_with refused n p period here alone (first + k)) e

      stopped-refused : frames p sys single first rest ≡ k → k * size < length rest → Stopped (Some (RunLine (first + k + 1))) → (r ≡ lines_answer (run_of p period sys single first) rest) × (out ≡ lines_place (run_of p period sys single first) rest out₀)
      stopped-refused n l f =
          (told (Some (RunLine (first + k + 1))) f ∙ standing-refused p sys single first rest g.ran n period l, place_is p sys single first rest g.ran n period)

      stopped-ended : length rest ≤ k * size → Stopped None → (r ≡ lines_answer (run_of p period sys single first) rest) × (out ≡ lines_place (run_of p period sys single first) rest out₀)
      stopped-ended l f =
          let n : frames p sys single first rest ≡ k = ran-ended p sys single first rest g.ran l in
          (told None f ∙ standing-ended p sys single first rest g.ran n period l, place_is p sys single first rest g.ran n period)

-- ---- between two lines

-- before line k: the places, the buffers, and the run so far, whatever record and single controller the rows held at first
pub record Between (p : Plan) (s : Sizes) (first : ℕ) (rest counters₀ cells₀ good₀ seen₀ out₀ : List ℕ) (k at to : ℕ) (held faults counters cells good seen out : List ℕ) : Type 0 where
  pub at-is : at ≡ k * run_line_size p.sensors
  pub to_is : to ≡ k * printed_size p.actuators
  pub few : first + k ≤ most_run_lines
  pub out-long : length out ≡ length out₀
  pub held-long : length held ≡ most_nodes
  pub faults-long : length faults ≡ faults_size s
  pub parts : Held s held faults
  pub going : (sys : System) (single : Memory) → Rows sys counters₀ cells₀ good₀ seen₀ → memory_in counters₀ cells₀ 0 ≡ single → Going p sys single first rest out₀ k counters cells good seen out

module _ {p : Plan} {s : Sizes} {first : ℕ} {rest counters₀ cells₀ good₀ seen₀ out₀ : List ℕ} {k at to : ℕ} {held faults counters cells good seen out : List ℕ} (i : Between p s first rest counters₀ cells₀ good₀ seen₀ out₀ k at to held faults counters cells good seen out) where
  -- the place of line k
  pub line-room :
      {width : ℕ} →
      width ≡ printed_size p.actuators →
      length rest ≤ block_lines * run_line_size p.sensors →
      block_lines * printed_size p.actuators ≤ length out₀ →
      at < length rest →
      (to + width ≤ length out) × (to + width ≤ block_lines * printed_size p.actuators)
  line-room w f g l =
      let b = block_room (run_line_size p.sensors) (printed_size p.actuators) (length rest) (length out₀) k f g i.at-is i.to_is w l in
      (omega (arith, b.0, i.out-long), b.1)

  pub place-lent : {width : ℕ} → width ≡ printed_size p.actuators → to + width ≤ length out → length (take (to + width - to) (drop to out)) ≡ printed_size p.actuators
  place-lent {width} w f = part_length out to (to + width - to) (printed_size p.actuators) (omega arith) (omega arith)

  -- line k, read and made
  module _ {size width end : ℕ} {o : Option (List ℕ)} {taken : Bool} {counters' cells' good' seen' place : List ℕ}
      (es : size ≡ run_line_size p.sensors)
      (ew : width ≡ printed_size p.actuators)
      (ee : end ≡ min (at + size) (length rest))
      (l : at < length rest)
      (told : o ≡ line_numbers p (first + k) (take (end - at) (drop at rest)))
      (made : (y : System) → Rows y counters cells good seen → LineMade p y (memory_in counters cells 0) (first + k) o (take (to + width - to) (drop to out)) taken counters' cells' good' seen' place) where
    lent : to + width - to ≡ printed_size p.actuators
    lent = omega (arith, ew)

    -- the rows at first
    module _ (sys : System) (single : Memory) (h : Rows sys counters₀ cells₀ good₀ seen₀) (m : memory_in counters₀ cells₀ 0 ≡ single) where
      same : take (end - at) (drop at rest) ≡ line_bytes p sys single first rest k
      same = line-bytes rest k (run_line_size p.sensors) i.at-is es ee (omega arith)

      goes_on : taken ≡ true → Going p sys single first rest out₀ (k + 1) counters' cells' good' seen' (put_mid to (to + width - to) out place)
      goes_on = going_more p sys single first rest out₀ (i.going sys single h m) (take (end - at) (drop at rest)) place same told i.to_is lent made

      pub line_refused :
          taken ≡ false →
          (period : ℕ) (r : Printed) →
          ((y : System) → Rows y counters' cells' good' seen' → r ≡ printed_with (Some (RunLine (first + k + 1))) to p period y (memory_in counters' cells' 0) (first + k)) →
          (r ≡ lines_answer (run_of p period sys single first) rest) × (put_mid to (to + width - to) out place ≡ lines_place (run_of p period sys single first) rest out₀)
      line_refused t period r f =
          let g = going-stopped p sys single first rest out₀ (i.going sys single h m) (take (end - at) (drop at rest)) place same told i.to_is lent made t in
          stopped-refused p sys single first rest out₀ g.0 period r i.to_is g.1 (omega (arith, i.at-is)) f

    pub line-run :
        {held' faults' : List ℕ} (sys : System) (single : Memory) →
        Rows sys counters₀ cells₀ good₀ seen₀ →
        memory_in counters₀ cells₀ 0 ≡ single →
        taken ≡ true →
        length place ≡ length (take (to + width - to) (drop to out)) →
        length held' ≡ most_nodes →
        length faults' ≡ length faults →
        Held s held' faults' →
        Between p s first rest counters₀ cells₀ good₀ seen₀ out₀ (k + 1) (at + size) (to + width) held' faults' counters' cells' good' seen' (put_mid to (to + width - to) out place)
    line-run sys single h m t a d e f =
        record {
          at-is = one_more k (run_line_size p.sensors) i.at-is es;
          to_is = one_more k (printed_size p.actuators) i.to_is ew;
          few = (goes_on sys single h m t).ran.few;
          out-long = same_len_mid to (to + width - to) out place a ∙ i.out-long;
          held-long = d;
          faults-long = e ∙ i.faults-long;
          parts = f;
          going = λ sys single h m. goes_on sys single h m t;
        }

  -- nothing is left
  pub lines-ended :
      (sys : System) (single : Memory) →
      Rows sys counters₀ cells₀ good₀ seen₀ →
      memory_in counters₀ cells₀ 0 ≡ single →
      length rest ≤ at →
      (period : ℕ) (r : Printed) →
      ((y : System) → Rows y counters cells good seen → r ≡ printed_with None to p period y (memory_in counters cells 0) (first + k)) →
      (r ≡ lines_answer (run_of p period sys single first) rest) × (out ≡ lines_place (run_of p period sys single first) rest out₀)
  lines-ended sys single h m l period r f = stopped-ended p sys single first rest out₀ (i.going sys single h m) period r i.to_is (omega (arith, i.at-is)) f
