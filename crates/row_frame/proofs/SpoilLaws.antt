-- Laws of a bad node's row: what its fault leaves there, and the row stored. A good node's row and row 0 stay.
use mathlib.Core.Path.{◌≡◌, refl, sym, ap, ◌∙◌}
use mathlib.Core.Bool.{true, false}
use mathlib.Core.List.{List}
use Prim.Native.Nat.{ℕ, ◌+◌, ◌*◌, ◌≤◌, ◌<◌}
use native.Mathlib.Omega.{arith}
use native.Mathlib.Numerals.{add-one}
use lib.ListN.{length, set, take, drop}
use borrow.Rule.Slice.PartMut.{put_mid}
use Rattle.array.specs.Index.{fill}
use Rattle.array.specs.Bit.{bit}
use Rattle.array.specs.Word.{be}
use Rattle.array.proofs.PlacesLaws.{fill-length}
use Rattle.array.proofs.PlacedLaws.{part_length}
use Rattle.plan.specs.declared.Sizes.{Sizes}
use Rattle.plan.specs.Limits.{most_cells}
use Rattle.memory.specs.declared.Memory.{Memory}
use Rattle.memory.specs.Size.{counter_size, pattern_size, cell_at}
use Rattle.system.specs.Fault.{memory_size, fault_at, fault_memory}
use Rattle.faults.specs.Code.{Parts}
use Rattle.rows.specs.Code.{row_of, memory_in, Stored, Through}
use Rattle.rows.proofs.RowLaws.{memory-eq, lent_length, stored_row, through-none, through-kept}
use Rattle.row_frame.specs.Code.{spoiled}

-- the memory in a bad node's part lies in the bytes
pub memory-in : (s : Sizes) (mask len j : ℕ) {at : ℕ} → Parts s mask len → j < s.nodes → bit mask j ≡ true → at ≡ fault_at s j → at + memory_size s ≤ len
memory-in s mask len j h l t e = omega (arith, h j l t)

module _ (s : Sizes) (mask : ℕ) (faults : List ℕ) where
  -- row 0 is done at the start
  pub spoiled-first : (counters cells : List ℕ) → Through 1 (spoiled s mask faults) counters cells counters cells
  unfolding spoiled
  spoiled-first counters cells = through-kept _ _ _ (through-none _ _ _) (λ m. refl)

  module _ (j : ℕ) where
    pub spoiled-good : bit mask j ≡ false → (m : Memory) → spoiled s mask faults (j + 1) m ≡ m
    unfolding spoiled
    spoiled-good t m = rw (add-one j, t)

    spoiled-bad : bit mask j ≡ true → (m : Memory) → spoiled s mask faults (j + 1) m ≡ fault_memory s faults j m
    unfolding spoiled
    spoiled-bad t m = rw (add-one j, t)

    module _
        (cells part : List ℕ) {a k at : ℕ} (start : a ≡ most_cells * (j + 1)) (size : k ≡ most_cells) (from : at ≡ fault_at s j)
        (fits : most_cells * (j + 1) + most_cells ≤ length cells)
        (e : part ≡ fill (λ c. be pattern_size faults (at + cell_at c)) s.cells (take k (drop a cells)))
      where
        spoiled-size : length part ≡ most_cells
        spoiled-size = ap length e ∙ fill-length (λ c. be pattern_size faults (at + cell_at c)) s.cells (take k (drop a cells)) ∙ part_length cells a k most_cells size (omega arith)

        pub spoiled-long : length (put_mid a k cells part) ≡ length cells
        spoiled-long = lent_length cells part (j + 1) start size fits spoiled-size

        spoiled-memory : (x : ℕ) (m : Memory) → x ≡ be counter_size faults at → m.cells ≡ row_of cells (j + 1) → ◌≡◌ {A = Memory} (record { counter = x; cells = part }) (fault_memory s faults j m)
        unfolding fault_memory row_of
        spoiled-memory x m f g = memory-eq (f ∙ rw from) (e ∙ rw (from, start, size, g))

        pub spoiled-stored :
            (counters : List ℕ) {x : ℕ} →
            j + 1 < length counters →
            x ≡ be counter_size faults at →
            bit mask j ≡ true →
            Stored counters cells (j + 1) (spoiled s mask faults (j + 1) (memory_in counters cells (j + 1))) (set counters (j + 1) x) (put_mid a k cells part)
        spoiled-stored counters {x} l f t =
            let r = stored_row counters cells part (j + 1) x start size l fits spoiled-size in
            record {
              here = r.here ∙ spoiled-memory x (memory_in counters cells (j + 1)) f refl ∙ sym (spoiled-bad t (memory_in counters cells (j + 1)));
              others = r.others;
            }
