-- A column written several digits at a time: its bytes by the number's list of digits, and as a word.
use mathlib.Core.Path.{◌≡◌, refl, sym, ap, ap₂, ◌∙◌}
use mathlib.Core.Bool.{Bool, true, cond, ◌&&◌}
use mathlib.Core.List.{List, [], ◌∷◌, ◌++◌, append_assoc, append-nil}
use Prim.Native.Nat.{ℕ, zero, suc, ◌+◌, ◌-◌, ◌*◌, ◌/◌, ◌%◌, ◌^◌, ◌<◌, ◌≤◌}
use native.Mathlib.Nat.{add-suc, add-zero, pow-suc, pow-succ', div-div-eq-div-mul, div-le_self, lt_of_lt_of_le, one-le-pow}
use native.Mathlib.Numerals.{add-one}
use native.Mathlib.Omega.{arith}
use lib.Arith.{mod-mul}
use lib.Dec.{eqb, lit<}
use lib.ListN.{length, take, drop, replicate, length-append}
use lib.Seq.{drop_at, length-take-le}
use borrow.Author.Tests.{eqb-true, eqb-false, eq-eqb, ne_eqb}
use Rattle.array.specs.Code.{placed}
use Rattle.array.proofs.PlacedLaws.{placed-length}
use Rattle.array.proofs.TestLaws.{split}
use Rattle.word.specs.Word.{word_of, bytes_of, low_run}
use Rattle.column.specs.Column.{mark, front, column}
use Rattle.column_write.specs.Code.{digit_list}
use Rattle.column_write.proofs.WritingLaws.{blank-moved}

-- ---- lists of digits

pub digits-length : (k v : ℕ) → length (digit_list k v) ≡ k
unfolding digit_list
digits-length zero v = refl
digits-length (suc k) v = rw (length-append, digits-length k (v / 10), add-one)

-- each entry is below b
abbrev Below : ℕ → List ℕ → Type 0
Below b [] = Unit
Below b (x ∷ s) = (x < b) × Below b s

below-append : (b : ℕ) (s t : List ℕ) → Below b s → Below b t → Below b (s ++ t)
below-append b [] t f g = g
below-append b (x ∷ s) t f g = (f.0, below-append b s t f.1 g)

below_more : (b c : ℕ) (s : List ℕ) → b ≤ c → Below b s → Below c s
below_more b c [] l f = tt
below_more b c (x ∷ s) l f = (omega (arith, f.0), below_more b c s l f.1)

digits-below : (k v : ℕ) → Below 10 (digit_list k v)
unfolding digit_list
digits-below zero v = tt
digits-below (suc k) v = below-append 10 (digit_list k (v / 10)) (v % 10 ∷ []) (digits-below k (v / 10)) (omega arith, tt)

-- one digit more is taken
div-next : (v k : ℕ) → v / 10 / 10 ^ k ≡ v / 10 ^ suc k
div-next v k = div-div-eq-div-mul v 10 (10 ^ k) ∙ rw (pow-succ' 10 k)

-- digits before the last k
digits-split : (j k v : ℕ) → digit_list (j + k) v ≡ digit_list j (v / 10 ^ k) ++ digit_list k v
unfolding digit_list
digits-split j zero v = rw (add-zero, append-nil) (ap (digit_list j) (omega arith))
digits-split j (suc k) v =
    rw (add-suc, digits-split j k (v / 10), div-next v k) (append_assoc (digit_list j (v / 10 ^ suc k)) (digit_list k (v / 10)) (v % 10 ∷ []))

-- the last k digits alone
digits_mod : (k v : ℕ) → digit_list k (v % 10 ^ k) ≡ digit_list k v
unfolding digit_list
digits_mod zero v = refl
digits_mod (suc k) v =
    let m : v % 10 ^ suc k ≡ v / 10 % 10 ^ k * 10 + v % 10 = ap (λ (n : ℕ). v % n) (pow-suc 10 k) ∙ mod-mul v (one-le-pow k 10 (lit< tt)) (lit< tt) in
    let high : v % 10 ^ suc k / 10 ≡ v / 10 % 10 ^ k = omega (arith, m) in
    let low : v % 10 ^ suc k % 10 ≡ v % 10 = omega (arith, m) in
    rw (high, low, digits_mod k (v / 10))

-- ---- bytes of a word

-- four bits are free at the top
word_bound : (s : List ℕ) → Below 10 s → word_of s * 16 < 256 ^ length s
unfolding word_of
word_bound [] f = lit< tt
word_bound (x ∷ s) f = omega (arith, f.0, word_bound s f.1, pow-suc 256 (length s))

bytes-length : (k x : ℕ) → length (bytes_of k x) ≡ k
unfolding bytes_of
bytes-length zero x = refl
bytes-length (suc k) x = ap suc (bytes-length k (x / 256))

-- the first bytes
bytes-front : (s t : List ℕ) → Below 256 s → bytes_of (length s) (word_of (s ++ t)) ≡ s
unfolding bytes_of word_of
bytes-front [] t f = refl
bytes-front (b ∷ s) t f =
    let x : (b + 256 * word_of (s ++ t)) % 256 ≡ b = omega (arith, f.0) in
    let y : (b + 256 * word_of (s ++ t)) / 256 ≡ word_of (s ++ t) = omega (arith, f.0) in
    rw (x, y, bytes-front s t f.1)

-- ---- digits as bytes

-- the bytes for digits
abbrev glyphs : List ℕ → List ℕ
glyphs [] = []
glyphs (x ∷ s) = (48 + x) ∷ glyphs s

glyphs-length : (s : List ℕ) → length (glyphs s) ≡ length s
glyphs-length [] = refl
glyphs-length (x ∷ s) = ap suc (glyphs-length s)

glyphs-append : (s t : List ℕ) → glyphs (s ++ t) ≡ glyphs s ++ glyphs t
glyphs-append [] t = refl
glyphs-append (x ∷ s) t = ap (λ (l : List ℕ). (48 + x) ∷ l) (glyphs-append s t)

glyphs-below : (s : List ℕ) → Below 10 s → Below 256 (glyphs s)
glyphs-below [] f = tt
glyphs-below (x ∷ s) f = (omega (arith, f.0), glyphs-below s f.1)

glyphs-word : (s : List ℕ) → word_of (glyphs s) ≡ word_of s + word_of (replicate (length s) 48)
unfolding word_of
glyphs-word [] = refl
glyphs-word (x ∷ s) = rw (glyphs-word s) (omega arith)

-- ---- digits as bytes, with blanks for the zeros before the first other

-- how many zeros there are before the first other
abbrev zeros : List ℕ → ℕ
zeros [] = 0
zeros (x ∷ s) = cond (eqb x 0) (suc (zeros s)) 0

-- whether all are zeros
abbrev none_in : List ℕ → Bool
none_in [] = true
none_in (x ∷ s) = eqb x 0 && none_in s

-- the bytes
abbrev trim : List ℕ → List ℕ
trim [] = []
trim (x ∷ s) = cond (eqb x 0) (32 ∷ trim s) ((48 + x) ∷ glyphs s)

trim-below : (s : List ℕ) → Below 10 s → Below 256 (trim s)
trim-below [] f = tt
trim-below (x ∷ s) f =
    split (eqb x 0)
    (λ t. rw t (lit< tt, trim-below s f.1))
    (λ t. rw t (omega (arith, f.0), glyphs-below s f.1))

trim-length : (s : List ℕ) → length (trim s) ≡ length s
trim-length [] = refl
trim-length (x ∷ s) = split (eqb x 0) (λ t. rw t (ap suc (trim-length s))) (λ t. rw t (ap suc (glyphs-length s)))

-- one digit more
trim-snoc : (s : List ℕ) (x : ℕ) → trim (s ++ (x ∷ [])) ≡ trim s ++ (cond (none_in s && eqb x 0) 32 (48 + x) ∷ [])
trim-snoc [] x = split (eqb x 0) (λ t. rw t) (λ t. rw t)
trim-snoc (y ∷ s) x =
    split (eqb y 0)
    (λ t. rw t (ap (λ (l : List ℕ). 32 ∷ l) (trim-snoc s x)))
    (λ t. rw t (ap (λ (l : List ℕ). (48 + y) ∷ l) (glyphs-append s (x ∷ []))))

none-snoc : (s : List ℕ) (x : ℕ) → none_in (s ++ (x ∷ [])) ≡ none_in s && eqb x 0
none-snoc [] x = split (eqb x 0) (λ t. rw t) (λ t. rw t)
none-snoc (y ∷ s) x = split (eqb y 0) (λ t. rw t (none-snoc s x)) (λ t. rw t)

-- a number is zero where its digits are
none_last : (q : ℕ) → eqb (q / 10) 0 && eqb (q % 10) 0 ≡ eqb q 0
none_last q =
    split (eqb q 0)
    (λ t. let e = eqb-true q 0 t in rw (t, eq-eqb (q / 10) 0 (omega arith), eq-eqb (q % 10) 0 (omega arith)))
    (λ t.
    let f = eqb-false q 0 t in
    split (eqb (q / 10) 0)
    (λ u. rw (t, u, ne_eqb (q % 10) 0 (λ z. f (omega (arith, eqb-true (q / 10) 0 u)))))
    (λ u. rw (t, u)))

none-digits : (k q : ℕ) → q < 10 ^ k → none_in (digit_list k q) ≡ eqb q 0
unfolding digit_list
none-digits zero q l = sym (eq-eqb q 0 (omega arith))
none-digits (suc k) q l = none-snoc (digit_list k (q / 10)) (q % 10) ∙ rw (none-digits k (q / 10) (omega (arith, pow-suc 10 k))) (none_last q)

-- ---- a column by its digits

-- before the last digit
front-trim : (k q : ℕ) → q < 10 ^ k → front k q ≡ trim (digit_list k q)
unfolding front digit_list mark
front-trim zero q l = refl
front-trim (suc k) q l =
    let m = q / 10 in
    let e : none_in (digit_list k m) && eqb (q % 10) 0 ≡ eqb q 0 = sym (none-snoc (digit_list k m) (q % 10)) ∙ none-digits (suc k) q l in
    rw (front-trim k m (omega (arith, pow-suc 10 k)), trim-snoc (digit_list k m) (q % 10), e)

front-none : (w : ℕ) → front w 0 ≡ replicate w 32
unfolding front mark
front-none zero = refl
front-none (suc w) = rw (front-none w) (sym (blank-moved w []) ∙ append-nil (replicate (suc w) 32))

-- blanks stand before k digits that are all of the number
front-short : (w k q : ℕ) → q < 10 ^ k → front (w + k) q ≡ replicate w 32 ++ front k q
unfolding front
front-short w zero q l = let z : q ≡ 0 = omega arith in rw (add-zero, append-nil, z) (front-none w)
front-short w (suc k) q l =
    rw (add-suc, front-short w k (q / 10) (omega (arith, pow-suc 10 k))) (append_assoc (replicate w 32) (front k (q / 10)) (mark q ∷ []))

column-short : (w k v : ℕ) → v < 10 ^ suc k → column (w + suc k) v ≡ replicate w 32 ++ (trim (digit_list k (v / 10)) ++ ((48 + v % 10) ∷ []))
unfolding column
column-short w k v l =
    let h : v / 10 < 10 ^ k = omega (arith, pow-suc 10 k) in
    rw (add-suc, front-short w k (v / 10) h, front-trim k (v / 10) h) (append_assoc (replicate w 32) (trim (digit_list k (v / 10))) ((48 + v % 10) ∷ []))

-- a digit after a number above zero
front-column : (w q : ℕ) → 0 < q → front w q ≡ column w q
unfolding front column mark
front-column zero q p = refl
front-column (suc w) q p = rw (ne_eqb q 0 (λ e. omega arith))

column-digit : (w v : ℕ) → 0 < v / 10 → column (suc w) v ≡ column w (v / 10) ++ ((48 + v % 10) ∷ [])
unfolding column
column-digit w v p = ap (λ (s : List ℕ). s ++ ((48 + v % 10) ∷ [])) (front-column w (v / 10) p)

-- the last k digits of a wider number
column-digits : (w k v : ℕ) → 0 < v / 10 ^ k → column (w + k) v ≡ column w (v / 10 ^ k) ++ glyphs (digit_list k v)
unfolding digit_list
column-digits w zero v p = rw (add-zero, append-nil) (ap (column w) (omega arith))
column-digits w (suc k) v p =
    let m = v / 10 in
    let e : m / 10 ^ k ≡ v / 10 ^ suc k = div-next v k in
    let h : 0 < m / 10 ^ k = rw e p in
    rw (add-suc, column-digit (w + k) v (lt_of_lt_of_le h (div-le_self m (10 ^ k))), column-digits w k m h, e, glyphs-append)
    (append_assoc (column w (v / 10 ^ suc k)) (glyphs (digit_list k m)) ((48 + v % 10) ∷ []))

-- ---- the bytes for digits as a word

-- where the first byte that is not zero stands
low_zeros : (m : ℕ) (s : List ℕ) (y : ℕ) (t : List ℕ) → length s < m → Below 256 s → 0 < y → y < 256 → low_run 0 m (word_of (s ++ (y ∷ t))) ≡ zeros s
unfolding low_run word_of
low_zeros zero s y t l f p h = absurd (omega arith)
low_zeros (suc m) [] y t l f p h = rw (ne_eqb ((y + 256 * word_of t) % 256) 0 (λ e. omega arith))
low_zeros (suc m) (x ∷ s) y t l f p h =
    let n = word_of (s ++ (y ∷ t)) in
    let a : (x + 256 * n) % 256 ≡ x = omega (arith, f.0) in
    let b : (x + 256 * n) / 256 ≡ n = omega (arith, f.0) in
    rw (a, b, low_zeros m s y t (omega arith) f.1 p h)

-- one more at a byte
word-plus : (s : List ℕ) (x : ℕ) (t : List ℕ) → word_of (s ++ (x ∷ t)) + 256 ^ length s ≡ word_of (s ++ (suc x ∷ t))
unfolding word_of
word-plus [] x t = omega arith
word-plus (y ∷ s) x t = omega (arith, word-plus s x t, pow-suc 256 (length s))

-- a zero is 16 above a blank
trim-word : (s r : List ℕ) → word_of (trim s ++ glyphs r) + word_of (replicate (zeros s) 16) ≡ word_of (s ++ r) + word_of (replicate (length (s ++ r)) 48)
unfolding word_of
trim-word [] r = add-zero (word_of (glyphs r)) ∙ glyphs-word r
trim-word (x ∷ s) r =
    split (eqb x 0)
    (λ t. rw t (omega (arith, eqb-true x 0 t, trim-word s r)))
    (λ t. rw (t, ← glyphs-append s r) (omega (arith, glyphs-word (s ++ r))))

trim-room : (s r : List ℕ) → word_of (replicate (zeros s) 16) ≤ word_of (replicate (length (s ++ r)) 48)
unfolding word_of
trim-room [] r = omega arith
trim-room (x ∷ s) r = split (eqb x 0) (λ t. rw t (omega (arith, trim-room s r))) (λ t. rw t (omega arith))

-- ---- what a column's bytes are

-- the last k digits of a wider number; t stands behind them in the word
print-digits :
    (w k v : ℕ) (t : List ℕ) →
    0 < v / 10 ^ k →
    column (w + k) v ≡ column w (v / 10 ^ k) ++ bytes_of k (word_of (digit_list k v ++ t) + word_of (replicate (k + length t) 48))
print-digits w k v t p =
    let s = digit_list k v in
    let e : word_of (glyphs s ++ glyphs t) ≡ word_of (s ++ t) + word_of (replicate (k + length t) 48) =
    ap word_of (sym (glyphs-append s t)) ∙ glyphs-word (s ++ t)
    ∙ ap (λ (n : ℕ). word_of (s ++ t) + word_of (replicate n 48)) (length-append s t ∙ ap (λ (n : ℕ). n + length t) (digits-length k v)) in
    let n : length (glyphs s) ≡ k = glyphs-length s ∙ digits-length k v in
    let b : bytes_of k (word_of (s ++ t) + word_of (replicate (k + length t) 48)) ≡ glyphs s =
    ap₂ bytes_of (sym n) (sym e) ∙ bytes-front (glyphs s) (glyphs t) (glyphs-below s (digits-below k v)) in
    column-digits w k v p ∙ rw b

-- the digits of a number that has no more than suc k, after blanks
print-short :
    (w k v : ℕ) (t : List ℕ) →
    v < 10 ^ suc k →
    suc k + length t ≡ 8 →
    column (w + suc k) v
    ≡ replicate w 32
    ++ bytes_of (suc k)
    (word_of (digit_list (suc k) v ++ t)
    + (word_of (replicate 8 48) - word_of (replicate (low_run 0 8 (word_of (digit_list (suc k) v ++ t) + 256 ^ k)) 16)))
unfolding digit_list
print-short w k v t l m =
    let s = digit_list k (v / 10) in
    let x = v % 10 in
    let d : (s ++ (x ∷ [])) ++ t ≡ s ++ (x ∷ t) = append_assoc s (x ∷ []) t in
    let n : length s ≡ k = digits-length k (v / 10) in
    let f = digits-below k (v / 10) in
    let z : low_run 0 8 (word_of (s ++ (x ∷ t)) + 256 ^ k) ≡ zeros s =
    ap (low_run 0 8) (ap (λ (j : ℕ). word_of (s ++ (x ∷ t)) + 256 ^ j) (sym n) ∙ word-plus s x t)
    ∙ low_zeros 8 s (suc x) t (omega arith) (below_more 10 256 s (omega arith) f) (omega arith) (omega arith) in
    let j : length (s ++ (x ∷ t)) ≡ 8 = length-append s (x ∷ t) ∙ omega arith in
    let e : word_of (s ++ (x ∷ t)) + (word_of (replicate 8 48) - word_of (replicate (zeros s) 16)) ≡ word_of (trim s ++ glyphs (x ∷ t)) =
    omega (arith, rw j at (trim-word s (x ∷ t)), rw j at (trim-room s (x ∷ t))) in
    let u = trim s ++ ((48 + x) ∷ []) in
    let h : length u ≡ suc k = length-append (trim s) ((48 + x) ∷ []) ∙ omega (arith, trim-length s) in
    let b : bytes_of (suc k) (word_of (trim s ++ glyphs (x ∷ t))) ≡ u =
    ap₂ bytes_of (sym h) (ap word_of (sym (append_assoc (trim s) ((48 + x) ∷ []) (glyphs t))))
    ∙ bytes-front u (glyphs t) (below-append 256 (trim s) ((48 + x) ∷ []) (trim-below s f) (omega arith, tt)) in
    rw (d, z, e, b) (column-short w k v l)

-- ---- the words of the code

pub digits-eight : (v : ℕ) → word_of (digit_list 4 (v % 100000000 / 10000) ++ digit_list 4 (v % 100000000 % 10000)) ≡ word_of (digit_list 8 v ++ [])
digits-eight v =
    let m = v % 100000000 in
    ap word_of
    (ap (λ (s : List ℕ). digit_list 4 (m / 10000) ++ s) (digits_mod 4 m) ∙ sym (digits-split 4 4 m) ∙ digits_mod 8 v ∙ sym (append-nil (digit_list 8 v)))

pub digits-four : (v : ℕ) → word_of (digit_list 4 (v % 10000) ++ digit_list 4 0) ≡ word_of (digit_list 4 v ++ digit_list 4 0)
digits-four v = ap (λ (s : List ℕ). word_of (s ++ digit_list 4 0)) (digits_mod 4 v)

pub digits-room : (a b : ℕ) → word_of (digit_list 4 a ++ digit_list 4 b) < 2 ^ 60
digits-room a b =
    let s = digit_list 4 a ++ digit_list 4 b in
    let n : length s ≡ 8 = length-append (digit_list 4 a) (digit_list 4 b) ∙ ap₂ (λ (x y : ℕ). x + y) (digits-length 4 a) (digits-length 4 b) in
    omega (arith, rw n at (word_bound s (below-append 10 (digit_list 4 a) (digit_list 4 b) (digits-below 4 a) (digits-below 4 b))))

-- ---- into the buffer

-- bytes before what is written
placed-before : (c f b p l : List ℕ) (i k : ℕ) → k ≤ i → i ≤ length l → length b ≡ k → c ≡ p ++ drop i l → p ≡ f ++ b → c ≡ f ++ drop (i - k) (placed l (i - k) b)
placed-before c f b p l i k h m n e q =
    let j : i - k + length b ≡ i = omega arith in
    e
    ∙ ap (λ (s : List ℕ). s ++ drop i l) q
    ∙ append_assoc f b (drop i l)
    ∙ ap (λ (s : List ℕ). f ++ s)
    (sym (drop_at (take (i - k) l) (b ++ drop (i - k + length b) l) (i - k) (length-take-le (i - k) l (omega arith)) ∙ rw j))

module _ (c l : List ℕ) (i v d : ℕ) (t : List ℕ) (m : i ≤ length l) (e : c ≡ column i v ++ drop i l) where
  -- the last k digits of a wider number
  placed-digits :
      (k : ℕ) →
      k ≤ i →
      k + length t ≡ 8 →
      d ≡ word_of (digit_list k v ++ t) →
      0 < v / 10 ^ k →
      c ≡ column (i - k) (v / 10 ^ k) ++ drop (i - k) (placed l (i - k) (bytes_of k (d + word_of (replicate 8 48))))
  placed-digits k h n q p =
      let w = d + word_of (replicate 8 48) in
      let j : i ≡ i - k + k = omega arith in
      placed-before c (column (i - k) (v / 10 ^ k)) (bytes_of k w) (column i v) l i k h m (bytes-length k w) e
      (ap (λ (x : ℕ). column x v) j ∙ print-digits (i - k) k v t p ∙ rw (n, ← q))

  -- the last digits, after blanks
  placed-short :
      (k r : ℕ) →
      suc k ≤ i →
      suc k + length t ≡ 8 →
      d ≡ word_of (digit_list (suc k) v ++ t) →
      v < 10 ^ suc k →
      r ≡ d + (word_of (replicate 8 48) - word_of (replicate (low_run 0 8 (d + 256 ^ k)) 16)) →
      c ≡ replicate (i - suc k) 32 ++ drop (i - suc k) (placed l (i - suc k) (bytes_of (suc k) r))
  placed-short k r h n q p g =
      let j : i ≡ i - suc k + suc k = omega arith in
      placed-before c (replicate (i - suc k) 32) (bytes_of (suc k) r) (column i v) l i (suc k) h m (bytes-length (suc k) r) e
      (ap (λ (x : ℕ). column x v) j ∙ print-short (i - suc k) k v t p n ∙ rw (← q, ← g))

-- what is yet to be written at the places below i, then what stands in l from i on, is the column for v of the width of e
abbrev pub Written : List ℕ → ℕ → List ℕ → ℕ → ℕ → Type 0
Written e v l i rest = (i ≤ length l) × (length l ≡ length e) × (column (length e) v ≡ column i rest ++ drop i l)

module _ (e l m t : List ℕ) (v i rest d : ℕ) (h : Written e v l i rest) where
  pub written-digits :
      (k : ℕ) →
      k ≤ i →
      k + length t ≡ 8 →
      d ≡ word_of (digit_list k rest ++ t) →
      0 < rest / 10 ^ k →
      m ≡ placed l (i - k) (bytes_of k (d + 3472328296227680304)) →
      Written e v m (i - k) (rest / 10 ^ k)
  unfolding word_of
  written-digits k p n q r u =
      let b = bytes_of k (d + 3472328296227680304) in
      let j : length m ≡ length l = ap length u ∙ placed-length l (i - k) b (omega (arith, bytes-length k (d + 3472328296227680304))) in (
        omega arith,
        omega arith,
        rw u (placed-digits (column (length e) v) l i rest d t h.0 h.2 k p n q r),
      )

  pub written-short :
      (k r : ℕ) (f : List ℕ) →
      suc k ≤ i →
      suc k + length t ≡ 8 →
      d ≡ word_of (digit_list (suc k) rest ++ t) →
      rest < 10 ^ suc k →
      r ≡ d + (word_of (replicate 8 48) - word_of (replicate (low_run 0 8 (d + 256 ^ k)) 16)) →
      m ≡ placed l (i - suc k) (bytes_of (suc k) r) →
      f ≡ replicate (i - suc k) 32 ++ drop (i - suc k) m →
      f ≡ column (length e) v
  written-short k r f p n q g b u x =
      x ∙ rw u (sym (placed-short (column (length e) v) l i rest d t h.0 h.2 k r p n q g b))
