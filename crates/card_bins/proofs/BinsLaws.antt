-- Laws of a card's bins: a bin filled holds its message and every other is as it was, emptied bins are empty, lengths stay.
use mathlib.Core.Path.{◌≡◌, refl, sym, ap, ◌∙◌}
use mathlib.Core.Bool.{Bool, true, false, not, ◌&&◌, ◌||◌}
use mathlib.Core.List.{List, [], ◌∷◌, ◌++◌, append_assoc}
use Prim.Native.Nat.{ℕ, zero, suc, ◌+◌, ◌-◌, ◌*◌, ◌≤◌, ◌<◌}
use native.Mathlib.Omega.{arith}
use native.Mathlib.Nat.{suc-mul, mul-le-mul_right, not-suc-le-zero}
use lib.Dec.{eqb, ltb}
use lib.ListN.{length, get_or, take, drop, replicate, length-append}
use lib.Seq.{length-take-le, get_or-set_same, get_or-set_other, get_or_at}
use borrow.Author.Tests.{eqb-true, eqb-false, ltb-true, ltb-false}
use Rattle.array.specs.Index.{all_below, from}
use Rattle.array.specs.Code.{placed}
use Rattle.array.proofs.TestLaws.{split, and-false-right}
use Rattle.array.proofs.IndexLaws.{all_below-at, all_below-all, all_below-fails}
use Rattle.array.proofs.PlacesLaws.{Holds, from-held, from-same}
use Rattle.array.proofs.PlacedLaws.{placed-length, placed-before, placed-after}
use Rattle.memory.specs.Size.{cell_at}
use Rattle.memory.specs.Node.{bin_of, not_sent}
use Rattle.card_bins.specs.Bins.{mark_size, filled_mark, slot_size, slot_at, is_filled, with_bin, emptied, last_empty, heard_in}
use Rattle.card_bins.proofs.StoreLaws.{emptied-length}

all_below-same : (q r : ℕ → Bool) (n : ℕ) → ((i : ℕ) → i < n → q i ≡ r i) → all_below q n ≡ all_below r n
unfolding all_below
all_below-same q r zero e = refl
all_below-same q r (suc n) e = rw (all_below-same q r n (λ i l. e i (omega arith)), e n (omega arith))

zeros-at : (n k : ℕ) → ◌≡◌ {A = ℕ} (get_or (replicate n 0) k 0) 0
zeros-at zero k = refl
zeros-at (suc n) zero = refl
zeros-at (suc n) (suc k) = zeros-at n k

module _ (cells : ℕ) where
  -- ---- where bins stand

  -- a bin ends before the next begins
  pub slot-ends : (i j : ℕ) → i < j → slot_at cells i + slot_size cells ≤ slot_at cells j
  slot-ends i j l = rw (sym (suc-mul i (slot_size cells))) (mul-le-mul_right (slot_size cells) l)

  -- ---- a bin filled

  module _ (j : ℕ) (message bins : List ℕ) (fits : slot_at cells j + slot_size cells ≤ length bins) (whole : length message ≡ cell_at cells) where
    slot-length : length (filled_mark ∷ message) ≡ slot_size cells
    slot-length = omega (arith, whole)

    slot-fits : slot_at cells j + length (filled_mark ∷ message) ≤ length bins
    slot-fits = rw slot-length fits

    filled-placed : with_bin cells j message bins ≡ placed bins (slot_at cells j) (filled_mark ∷ message)
    unfolding with_bin
    filled-placed = rw slot-length

    pub filled-length : length (with_bin cells j message bins) ≡ length bins
    filled-length = ap length filled-placed ∙ placed-length bins (slot_at cells j) (filled_mark ∷ message) slot-fits

    front_length : length (take (slot_at cells j) bins) ≡ slot_at cells j
    front_length = length-take-le (slot_at cells j) bins (omega (arith, fits))

    filled-holds : Holds (with_bin cells j message bins) (slot_at cells j + mark_size) message
    unfolding with_bin
    filled-holds =
        record {
          front = take (slot_at cells j) bins ++ (filled_mark ∷ []);
          back = drop (slot_at cells j + slot_size cells) bins;
          whole = simp append_assoc;
          size = length-append (take (slot_at cells j) bins) (filled_mark ∷ []) ∙ rw front_length;
        }

    pub filled-marked : is_filled cells (with_bin cells j message bins) j ≡ true
    unfolding is_filled with_bin
    filled-marked =
        ap (λ (x : ℕ). eqb x filled_mark)
        (get_or_at (take (slot_at cells j) bins) filled_mark (message ++ drop (slot_at cells j + slot_size cells) bins) 0 (slot_at cells j) front_length)

    -- "A bin delivered again replaces the first": whatever it was
    pub filled-heard : heard_in cells (with_bin cells j message bins) j ≡ bin_of message
    unfolding heard_in
    filled-heard = rw filled-marked (ap bin_of (from-held 0 (cell_at cells) whole filled-holds))

    -- a byte of another bin
    other_byte :
        (i x : ℕ) → (i ≡ j → ⊥) → x < slot_size cells → get_or (with_bin cells j message bins) (slot_at cells i + x) 0 ≡ get_or bins (slot_at cells i + x) 0
    other_byte i x ne l = rw filled-placed (split (ltb i j) (λ t. below (slot-ends i j (ltb-true i j t))) (λ t. above (slot-ends j i (after t))))
      where
        after : ltb i j ≡ false → j < i
        after t = omega (arith, ltb-false i j t, ne)

        below :
            slot_at cells i + slot_size cells ≤ slot_at cells j →
            get_or (placed bins (slot_at cells j) (filled_mark ∷ message)) (slot_at cells i + x) 0 ≡ get_or bins (slot_at cells i + x) 0
        below h = placed-before bins (slot_at cells j) (filled_mark ∷ message) slot-fits (slot_at cells i + x) (omega (arith, h, l))

        above :
            slot_at cells j + slot_size cells ≤ slot_at cells i →
            get_or (placed bins (slot_at cells j) (filled_mark ∷ message)) (slot_at cells i + x) 0 ≡ get_or bins (slot_at cells i + x) 0
        above h =
            let y : ℕ = slot_at cells i + x - (slot_at cells j + slot_size cells) in
            let e : slot_at cells i + x ≡ slot_at cells j + length (filled_mark ∷ message) + y = omega (arith, h, slot-length) in
            rw e (placed-after bins (slot_at cells j) (filled_mark ∷ message) slot-fits y)

    pub filled-other-marked : (i : ℕ) → (i ≡ j → ⊥) → is_filled cells (with_bin cells j message bins) i ≡ is_filled cells bins i
    unfolding is_filled
    filled-other-marked i ne =
        let e : slot_at cells i + 0 ≡ slot_at cells i = omega arith in
        ap (λ (x : ℕ). eqb x filled_mark) (rw e at (other_byte i 0 ne (omega arith)))

    pub filled-other-heard : (i : ℕ) → (i ≡ j → ⊥) → heard_in cells (with_bin cells j message bins) i ≡ heard_in cells bins i
    unfolding heard_in
    filled-other-heard i ne = rw (filled-other-marked i ne, same)
      where
        same : from 0 (with_bin cells j message bins) (slot_at cells i + mark_size) (cell_at cells) ≡ from 0 bins (slot_at cells i + mark_size) (cell_at cells)
        same =
            from-same 0 (with_bin cells j message bins) bins (slot_at cells i + mark_size) (slot_at cells i + mark_size) (cell_at cells)
            (λ x l.
            let e : slot_at cells i + mark_size + x ≡ slot_at cells i + (mark_size + x) = omega arith in
            rw e (other_byte i (mark_size + x) ne (omega (arith, l))))

    -- a bin is filled afterwards if it is this one or was before
    filled-marks : (i : ℕ) → is_filled cells (with_bin cells j message bins) i ≡ (eqb i j || is_filled cells bins i)
    filled-marks i =
        split (eqb i j)
        (λ t. rw (t, eqb-true i j t) filled-marked)
        (λ t. rw t (filled-other-marked i (eqb-false i j t)))

    -- the last empty bin of n: one is empty before it is filled, and none after
    pub last_empty-is :
        (n : ℕ) → j < n →
        last_empty cells n bins j ≡ (not (all_below (is_filled cells bins) n) && all_below (is_filled cells (with_bin cells j message bins)) n)
    unfolding last_empty
    last_empty-is n l =
        let before : Bool = all_below (is_filled cells bins) n in
        let after : Bool = all_below (λ i. eqb i j || is_filled cells bins i) n in
        rw (all_below-same (is_filled cells (with_bin cells j message bins)) (λ i. eqb i j || is_filled cells bins i) n (λ i k. filled-marks i))
        (split after
        (λ t. ap (λ (x : Bool). not x && after) (own t))
        (λ t. and-false-right (not (is_filled cells bins j)) t ∙ sym (and-false-right (not before) t)))
      where
        own : all_below (λ i. eqb i j || is_filled cells bins i) n ≡ true → is_filled cells bins j ≡ all_below (is_filled cells bins) n
        own t =
            split (is_filled cells bins j)
            (λ e. e ∙ sym (all_below-all (is_filled cells bins) n (λ i k. every i e (all_below-at (λ i. eqb i j || is_filled cells bins i) n i k t))))
            (λ e. e ∙ sym (all_below-fails (is_filled cells bins) n j l e))
          where
            every : (i : ℕ) → is_filled cells bins j ≡ true → (eqb i j || is_filled cells bins i) ≡ true → is_filled cells bins i ≡ true
            every i e =
                split (eqb i j) (λ t. rw t (λ h. rw (eqb-true i j t) e)) (λ t. rw t (λ h. h))

  -- ---- an empty bin

  pub heard-empty : (bins : List ℕ) (j : ℕ) → is_filled cells bins j ≡ false → heard_in cells bins j ≡ not_sent cells
  unfolding heard_in
  heard-empty bins j e = rw e

  -- bins of zeros
  pub zeros-empty : (size j : ℕ) → is_filled cells (replicate size 0) j ≡ false
  unfolding is_filled
  zeros-empty size j = ap (λ (x : ℕ). eqb x filled_mark) (zeros-at size (slot_at cells j))

  -- ---- bins emptied

  emptied-mark : (n : ℕ) (bins : List ℕ) (j : ℕ) → j < n → slot_at cells j < length bins → get_or (emptied cells n bins) (slot_at cells j) 0 ≡ 0
  unfolding emptied
  emptied-mark zero bins j l f = absurd (not-suc-le-zero l)
  emptied-mark (suc n) bins j l f =
      split (eqb (slot_at cells j) (slot_at cells n))
      (λ t.
      rw (eqb-true (slot_at cells j) (slot_at cells n) t)
      (get_or-set_same (emptied cells n bins) (slot_at cells n) 0 0 (omega (arith, emptied-length cells n bins, eqb-true (slot_at cells j) (slot_at cells n) t, f))))
      (λ t.
      get_or-set_other (emptied cells n bins) (slot_at cells n) (slot_at cells j) 0 0 (eqb-false (slot_at cells j) (slot_at cells n) t)
      ∙ emptied-mark n bins j (earlier (eqb-false (slot_at cells j) (slot_at cells n) t)) f)
    where
      earlier : (slot_at cells j ≡ slot_at cells n → ⊥) → j < n
      earlier ne = split (eqb j n) (λ t. absurd (ne (ap (slot_at cells) (eqb-true j n t)))) (λ t. omega (arith, eqb-false j n t, l))

  pub emptied-empty : (n : ℕ) (bins : List ℕ) (j : ℕ) → j < n → n * slot_size cells ≤ length bins → is_filled cells (emptied cells n bins) j ≡ false
  unfolding is_filled
  emptied-empty n bins j l f =
      ap (λ (x : ℕ). eqb x filled_mark) (emptied-mark n bins j l (omega (arith, slot-ends j n l, f)))
