-- Laws that the code's loops need: where bins stand, what a store makes of them, and the mailbox bin by bin.
use mathlib.Core.Path.{◌≡◌, refl, sym, ap, ◌∙◌}
use mathlib.Core.Bool.{Bool, true, false, ◌||◌}
use mathlib.Core.List.{List, [], ◌∷◌, ◌++◌}
use Prim.Native.Nat.{ℕ, zero, suc, ◌+◌, ◌-◌, ◌*◌, ◌≤◌}
use native.Mathlib.Omega.{arith}
use native.Mathlib.Nat.{mul-le-mul, mul-le-mul_right}
use native.Mathlib.Numerals.{add-one}
use lib.Dec.{eqb}
use lib.ListN.{length, get_or, set, take, drop, replicate, length-replicate, length-set, get_or-replicate}
use Rattle.array.specs.Index.{all_below, fill, from}
use Rattle.array.specs.Code.{placed}
use Rattle.array.proofs.TestLaws.{split}
use Rattle.array.proofs.PlacesLaws.{fill_is, from-length, joined-none, joined-more, joined_length}
use Rattle.array.proofs.PlacedLaws.{placed-none, placed-next, placed-before-last, placed-length, front-taken, part-back, part-from}
use Rattle.plan.specs.Limits.{most_nodes, most_cells}
use Rattle.memory.specs.Size.{cell_at, bin_bytes}
use Rattle.memory.specs.Node.{bin_of, not_sent}
use Rattle.card_bins.specs.Bins.{mark_size, slot_size, slot_at, is_filled, with_bin, emptied, last_empty, heard_in, mailbox_in}

-- a mailbox has at most so many bytes
pub most-mailbox : {nodes cells : ℕ} → nodes ≤ most_nodes → cells ≤ most_cells → nodes * bin_bytes cells ≤ 1806
most-mailbox {nodes} {cells} l m = let size : bin_bytes cells ≤ 258 = omega (arith, m) in mul-le-mul l size

-- ---- zeros

pub fill-zeros : (n : ℕ) (l : List ℕ) → length l ≡ n → fill (λ i. 0) n l ≡ replicate n 0
fill-zeros n l e = fill_is (λ i. 0) n l (replicate n 0) 0 e (length-replicate n 0) (λ i h. sym (get_or-replicate n i 0 0 h))

-- ---- emptied bins

module _ (cells : ℕ) where
  pub emptied-length : (n : ℕ) (bins : List ℕ) → length (emptied cells n bins) ≡ length bins
  unfolding emptied
  emptied-length zero bins = refl
  emptied-length (suc j) bins = let before : length (emptied cells j bins) ≡ length bins = emptied-length j bins in length-set (emptied cells j bins) (slot_at cells j) 0 ∙ before

  pub emptied-none : (bins : List ℕ) → emptied cells 0 bins ≡ bins
  unfolding emptied
  emptied-none bins = refl

  pub emptied-more : (j : ℕ) (bins : List ℕ) {now : List ℕ} {at : ℕ} → now ≡ emptied cells j bins → at ≡ slot_at cells j → set now at 0 ≡ emptied cells (j + 1) bins
  unfolding emptied
  emptied-more j bins e f = rw (add-one j, e, f)

  -- ---- one bin

  pub filled_at : (bins : List ℕ) (j : ℕ) {at x : ℕ} → at ≡ slot_at cells j → x ≡ get_or bins at 0 → eqb x 1 ≡ is_filled cells bins j
  unfolding is_filled
  filled_at bins j e f = rw (f, e)

  -- a filled bin as a part that is placed
  pub filled-placed : (bins message : List ℕ) (j : ℕ) → length message ≡ cell_at cells → placed bins (slot_at cells j) (1 ∷ message) ≡ with_bin cells j message bins
  unfolding with_bin
  filled-placed bins message j e =
      let s : slot_at cells j + length (1 ∷ message) ≡ slot_at cells j + slot_size cells = omega (arith, e) in
      ap (λ (x : ℕ). take (slot_at cells j) bins ++ ((1 ∷ message) ++ drop x bins)) s

  pub filled-length :
      (bins message : List ℕ) (j : ℕ) →
      length message ≡ cell_at cells →
      slot_at cells j + slot_size cells ≤ length bins →
      length (with_bin cells j message bins) ≡ length bins
  filled-length bins message j e l = ap length (sym (filled-placed bins message j e)) ∙ placed-length bins (slot_at cells j) (1 ∷ message) (omega (arith, e))

  -- a mark stored, then a message behind it
  pub filled_is :
      (bins message part : List ℕ) (j at k : ℕ) →
      at ≡ slot_at cells j →
      part ≡ message →
      length message ≡ cell_at cells →
      k ≡ cell_at cells →
      at + slot_size cells ≤ length bins →
      take (at + 1) (set bins at 1) ++ (part ++ drop k (drop (at + 1) (set bins at 1))) ≡ with_bin cells j message bins
  filled_is bins message part j at k e f l m h =
      let marked : set bins at 1 ≡ placed bins at (1 ∷ []) =
      placed-none (set bins at 1) at ∙ placed-before-last bins at [] at 1 (omega arith) (omega (arith, h)) in
      part-back (set bins at 1) message part (at + 1) k f (l ∙ sym m)
      ∙ placed-next bins at (1 ∷ []) (set bins at 1) message (at + 1) marked refl (omega (arith, h))
      ∙ ap (λ (x : ℕ). placed bins x (1 ∷ message)) e
      ∙ filled-placed bins message j l

  -- ---- the mailbox, bin by bin

  pub heard-copied :
      (bins out part : List ℕ) (j at k first m : ℕ) →
      is_filled cells bins j ≡ true →
      at ≡ j * bin_bytes cells →
      k ≡ bin_bytes cells →
      first ≡ slot_at cells j + mark_size →
      m ≡ cell_at cells →
      first + m ≤ length bins →
      part ≡ take m (drop first bins) →
      take at out ++ (part ++ drop k (drop at out)) ≡ placed out (j * bin_bytes cells) (heard_in cells bins j)
  unfolding heard_in bin_of
  heard-copied bins out part j at k first m t e f g n h i =
      let own : part ≡ from 0 bins (slot_at cells j + mark_size) (cell_at cells) = i ∙ part-from bins first m (cell_at cells) n h ∙ rw g in
      part-back out (from 0 bins (slot_at cells j + mark_size) (cell_at cells)) part at k own (from-length 0 bins _ _ ∙ sym f) ∙ rw (e, t)

  pub heard-cleared :
      (bins out part : List ℕ) (j at k : ℕ) →
      is_filled cells bins j ≡ false →
      at ≡ j * bin_bytes cells →
      k ≡ bin_bytes cells →
      part ≡ replicate k 0 →
      take at out ++ (part ++ drop k (drop at out)) ≡ placed out (j * bin_bytes cells) (heard_in cells bins j)
  unfolding heard_in not_sent
  heard-cleared bins out part j at k t e f i =
      part-back out (replicate k 0) part at k i (length-replicate k 0) ∙ rw (e, f, t)

  pub heard-length : (bins : List ℕ) (j : ℕ) → length (heard_in cells bins j) ≡ bin_bytes cells
  unfolding heard_in bin_of not_sent
  heard-length bins j =
      split (is_filled cells bins j) (λ e. rw e (from-length 0 bins (slot_at cells j + mark_size) (cell_at cells))) (λ e. rw e (length-replicate (bin_bytes cells) 0))

  pub mailbox-length : (bins : List ℕ) (n : ℕ) → length (mailbox_in cells n bins) ≡ n * bin_bytes cells
  unfolding mailbox_in
  mailbox-length bins n = joined_length (heard_in cells bins) (bin_bytes cells) (heard-length bins) n

  pub mailbox-none : (bins out : List ℕ) → out ≡ placed out 0 (mailbox_in cells 0 bins)
  unfolding mailbox_in
  mailbox-none bins out = rw (joined-none (heard_in cells bins)) (placed-none out 0)

  mailbox-joined : (bins : List ℕ) (j : ℕ) → mailbox_in cells j bins ++ heard_in cells bins j ≡ mailbox_in cells (j + 1) bins
  unfolding mailbox_in
  mailbox-joined bins j = sym (joined-more (heard_in cells bins) j)

  pub mailbox-more :
      (bins out₀ out next : List ℕ) (j : ℕ) →
      out ≡ placed out₀ 0 (mailbox_in cells j bins) →
      next ≡ placed out (j * bin_bytes cells) (heard_in cells bins j) →
      next ≡ placed out₀ 0 (mailbox_in cells (j + 1) bins)
  mailbox-more bins out₀ out next j e f =
      f
      ∙ placed-next out₀ 0 (mailbox_in cells j bins) out (heard_in cells bins j) (j * bin_bytes cells) e (omega (arith, mailbox-length bins j)) (omega arith)
      ∙ ap (placed out₀ 0) more
    where
      more : mailbox_in cells j bins ++ heard_in cells bins j ≡ mailbox_in cells (j + 1) bins
      more = mailbox-joined bins j

  pub last-filled : (n : ℕ) (bins : List ℕ) (j : ℕ) → is_filled cells bins j ≡ true → false ≡ last_empty cells n bins j
  unfolding last_empty
  last-filled n bins j e = rw e

  pub last_empty_lem : (n : ℕ) (bins : List ℕ) (j : ℕ) {r : Bool} → is_filled cells bins j ≡ false → r ≡ all_below (λ i. eqb i j || is_filled cells bins i) n → r ≡ last_empty cells n bins j
  unfolding last_empty
  last_empty_lem n bins j e f = rw e f

  pub mailbox-fits :
      (bins out₀ : List ℕ) {out : List ℕ} {j nodes : ℕ} →
      out ≡ placed out₀ 0 (mailbox_in cells j bins) →
      j ≤ nodes →
      nodes * bin_bytes cells ≤ length out₀ →
      length out ≡ length out₀
  mailbox-fits bins out₀ {out} {j} {nodes} e l h =
      ap length e ∙ placed-length out₀ 0 (mailbox_in cells j bins) (omega (arith, mailbox-length bins j, mul-le-mul_right (bin_bytes cells) l))

  -- the mailbox is taken from the front of its place
  pub mailbox-taken :
      (bins out₀ : List ℕ) (n m : ℕ) {out : List ℕ} →
      m ≡ n * bin_bytes cells →
      n * bin_bytes cells ≤ length out₀ →
      out ≡ placed out₀ 0 (mailbox_in cells n bins) →
      take (m - 0) out ≡ mailbox_in cells n bins
  mailbox-taken bins out₀ n m {out} e l f =
      let same : m - 0 ≡ n * bin_bytes cells = omega (arith, e) in
      ap (λ (x : ℕ). take x out) same ∙ (front-taken out₀ (mailbox_in cells n bins) (n * bin_bytes cells) (mailbox-length bins n) l f).1
