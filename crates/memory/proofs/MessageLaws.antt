-- Laws of messages and bins: the size of a bin, that a bin made of a message gives back the sender's counter and sent cells, and that what a bin
-- says is in its own bytes. Only the laws of bin_of, counter_from and cell_from know what a bin is.
use Rattle.std.specs.Prelude.{Some}
use mathlib.Core.Path.{◌≡◌, ap, ◌∙◌, subst}
use mathlib.Core.Bool.{true}
use mathlib.Core.List.{List, [], append-nil}
use Prim.Native.Nat.{ℕ, ◌+◌, ◌*◌, ◌^◌, ◌<◌}
use native.Mathlib.Omega.{arith}
use native.Mathlib.Nat.{add-zero, zero-add}
use lib.Dec.{lit<}
use lib.ListN.{length, get_or, length-append}
use Rattle.array.specs.Index.{joined, from}
use Rattle.array.specs.Word.{be, bytes}
use Rattle.array.proofs.TestLaws.{split}
use Rattle.array.proofs.PlacesLaws.{Holds, holds-left, holds-right, holds-within, joined_length, joined-holds, bin-of}
use Rattle.array.proofs.WordLaws.{bytes-length, be-of-bytes, be-part}
use Rattle.plan.specs.declared.Plan.{Plan}
use Rattle.plan.specs.Tables.{voted_in}
use Rattle.memory.specs.declared.Memory.{Memory}
use Rattle.memory.specs.Size.{counter_size, pattern_size, cell_at, message_size, bin_bytes, bin_size, bin_at}
use Rattle.memory.specs.Node.{before, sent_cell, message_of, bin_of, counter_from, cell_from, counter_in, cell_in}

-- ---- what is sent of a cell

module _ (p : Plan) (m : Memory) (c : ℕ) where
  pub sent_cell-voted : voted_in p (before p m.counter) c ≡ true → sent_cell p m c ≡ get_or m.cells c 0
  unfolding sent_cell
  sent_cell-voted v = rw v

  sent_cell-bound : get_or m.cells c 0 < 2 ^ 64 → sent_cell p m c < 2 ^ 64
  unfolding sent_cell
  sent_cell-bound l = split (voted_in p (before p m.counter) c) (λ v. rw v l) (λ v. rw v (lit< tt))

-- ---- the message

-- the bytes of cell c
abbrev sent_bytes : Plan → Memory → ℕ → List ℕ
sent_bytes p m c = bytes pattern_size (sent_cell p m c)

sent_bytes-length : (p : Plan) (m : Memory) (c : ℕ) → length (sent_bytes p m c) ≡ pattern_size
sent_bytes-length p m c = bytes-length pattern_size (sent_cell p m c)

message-length : (p : Plan) (m : Memory) → length (message_of p m) ≡ message_size p
unfolding message_of
message-length p m =
    length-append (bytes counter_size m.counter) _
    ∙ rw (bytes-length counter_size m.counter, joined_length (sent_bytes p m) pattern_size (sent_bytes-length p m) p.cells) (omega arith)

itself : (s : List ℕ) → Holds s 0 s
itself s = record { front = []; back = []; whole = rw append-nil; size = omega arith }

-- ---- a bin made of a message

module _ (p : Plan) (m : Memory) where
  pub bin-length : length (bin_of (message_of p m)) ≡ bin_size p
  unfolding bin_of
  bin-length = message-length p m

  pub counter_from-message : m.counter < 2 ^ 16 → counter_from (bin_of (message_of p m)) 0 ≡ Some m.counter
  unfolding counter_from bin_of message_of
  counter_from-message h = ap Some (be-of-bytes counter_size _ _ _ h (holds-left (bytes counter_size m.counter) _ (itself (message_of p m))))

  pub cell_from-message : (c : ℕ) → c < p.cells → get_or m.cells c 0 < 2 ^ 64 → cell_from (bin_of (message_of p m)) c 0 ≡ Some (sent_cell p m c)
  unfolding cell_from bin_of message_of
  cell_from-message c l h =
      ap Some
      (be-of-bytes pattern_size _ _ _ (sent_cell-bound p m c h)
      (subst (λ (at : ℕ). Holds (message_of p m) at (sent_bytes p m c)) place
      (holds-within (holds-right (bytes counter_size m.counter) _ (itself (message_of p m)))
      (joined-holds (sent_bytes p m) pattern_size (sent_bytes-length p m) p.cells c l))))
    where
      place : 0 + length (bytes counter_size m.counter) + c * pattern_size ≡ 0 + cell_at c
      place = rw (bytes-length counter_size m.counter) (omega arith)

-- ---- what a bin says, read off its bytes

pub counter_from-read : (s : List ℕ) (at : ℕ) {r : ℕ} → r ≡ be counter_size s at → counter_from s at ≡ Some r
unfolding counter_from
counter_from-read s at e = rw e

pub cell_from-read : (s : List ℕ) (at c : ℕ) {r : ℕ} → r ≡ be pattern_size s (at + cell_at c) → cell_from s c at ≡ Some r
unfolding cell_from
cell_from-read s at c e = rw e

-- ---- what a bin says is in its own bytes

pub counter_from-part : (cells : ℕ) (s : List ℕ) (at : ℕ) → counter_from s at ≡ counter_from (from 0 s at (bin_bytes cells)) 0
unfolding counter_from
counter_from-part cells s at = ap Some (rw (add-zero at) at (be-part counter_size s at (bin_bytes cells) 0 (omega arith)))

pub cell_from-part : (cells : ℕ) (s : List ℕ) (at c : ℕ) → c < cells → cell_from s c at ≡ cell_from (from 0 s at (bin_bytes cells)) c 0
unfolding cell_from
cell_from-part cells s at c l = ap Some (rw (zero-add (cell_at c)) (be-part pattern_size s at (bin_bytes cells) (cell_at c) (omega arith)))

-- ---- bins of one size in a mailbox

module _ (p : Plan) (f : ℕ → List ℕ) (n : ℕ) (sizes : (j : ℕ) → length (f j) ≡ bin_size p) (j : ℕ) (l : j < n) where
  bin-is : from 0 (joined f n) (bin_at p j) (bin_size p) ≡ f j
  bin-is = bin-of 0 (bin_size p) f n j sizes l

  pub counter_in-bin : counter_in p (joined f n) j ≡ counter_from (f j) 0
  unfolding counter_in
  counter_in-bin = counter_from-part p.cells (joined f n) (bin_at p j) ∙ rw bin-is

  pub cell_in-bin : (c : ℕ) → c < p.cells → cell_in p (joined f n) c j ≡ cell_from (f j) c 0
  unfolding cell_in
  cell_in-bin c h = cell_from-part p.cells (joined f n) (bin_at p j) c h ∙ rw bin-is
