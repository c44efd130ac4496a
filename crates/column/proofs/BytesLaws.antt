-- A row's bytes are blanks, digits and a line feed: each is below 256.
use Rattle.std.proofs.Common.{ℕ, zero, suc, ◌+◌, ◌/◌, ◌%◌, ◌<◌, eqb, List, [], ◌∷◌, ◌++◌, get_or, arith}
use Rattle.array.specs.Index.{joined}
use Rattle.array.proofs.TestLaws.{split}
use Rattle.column.specs.Column.{mark, front, column}
use Rattle.column.specs.Row.{row}

-- each entry is a byte
abbrev pub Bytes : List ℕ → Type 0
Bytes s = (i : ℕ) → get_or s i 0 < 256

bytes-none : Bytes []
bytes-none i = omega arith

bytes_one : (b : ℕ) → b < 256 → Bytes (b ∷ [])
bytes_one b l zero = l
bytes_one b l (suc i) = omega arith

bytes-append : (s t : List ℕ) → Bytes s → Bytes t → Bytes (s ++ t)
bytes-append [] t f g i = g i
bytes-append (x ∷ s) t f g zero = f 0
bytes-append (x ∷ s) t f g (suc i) = bytes-append s t (λ j. f (suc j)) g i

pub bytes-joined : (f : ℕ → List ℕ) (n : ℕ) → ((k : ℕ) → Bytes (f k)) → Bytes (joined f n)
unfolding joined
bytes-joined f zero b = bytes-none
bytes-joined f (suc n) b = bytes-append (joined f n) (f n) (bytes-joined f n b) (b n)

mark-byte : (q : ℕ) → mark q < 256
unfolding mark
mark-byte q = split (eqb q 0) (λ t. rw t (omega arith)) (λ t. rw t (omega arith))

front_bytes : (w q : ℕ) → Bytes (front w q)
unfolding front
front_bytes zero q = bytes-none
front_bytes (suc w) q = bytes-append (front w (q / 10)) (mark q ∷ []) (front_bytes w (q / 10)) (bytes_one (mark q) (mark-byte q))

pub column-bytes : (w v : ℕ) → Bytes (column w v)
unfolding column
column-bytes zero v = bytes-none
column-bytes (suc w) v = bytes-append (front w (v / 10)) ((48 + v % 10) ∷ []) (front_bytes w (v / 10)) (bytes_one (48 + v % 10) (omega arith))

pub row-bytes : (ws vs : List ℕ) → Bytes (row ws vs)
unfolding row
row-bytes [] vs = bytes_one 10 (omega arith)
row-bytes (w ∷ ws) [] = bytes-append (column w 0) (row ws []) (column-bytes w 0) (row-bytes ws [])
row-bytes (w ∷ ws) (v ∷ vs) = bytes-append (column w v) (row ws vs) (column-bytes w v) (row-bytes ws vs)
