-- The round trip of a column, over its width: what is written is read back, and what is accepted is what is written.
use Rattle.std.specs.Prelude.{Some}
use Rattle.std.proofs.Common.{◌≡◌, ℕ, zero, suc, ◌+◌, ◌-◌, ◌*◌, ◌/◌, ◌%◌, ◌^◌, ◌<◌, ◌≤◌, Bool, true, false, cond, eqb, List, [], ◌∷◌, ◌++◌, length, get_or, take, sym, refl, ap, ◌∙◌, subst, ap₂, ⊎_elim, append_assoc, append-nil, le_refl, lt_of_lt_of_le, add-zero, add-suc, eq-zero-or-pos, pow-suc, add-one, arith, lit<, length-append, take-suc, ne_eqb, eqb-true}
use native.Mathlib.Nat.{pow-le-pow_right}
use lib.Seq.{take-length}
use Rattle.numeral.specs.Numeral.{decimal, numeral_of}
use Rattle.column.specs.Column.{drop_blanks, number_shown, mark, front, column}
use Rattle.numeral.proofs.NumeralLaws.{decimal-none, decimal-grows, numeral-read}
use Rattle.column.proofs.DigitsLaws.{Digit, Digits, well_formed-of-digits, numeral-parts, decimal-one, decimal-last, decimal-bound, decimal-snoc, digits-snoc, digits-lone}

-- ---- how long a column is

front_length : (w q : ℕ) → length (front w q) ≡ w
unfolding front
front_length zero q = refl
front_length (suc w) q = rw (length-append, front_length w (q / 10), add-one)

pub column-length : (w v : ℕ) → length (column w v) ≡ w
unfolding column
column-length zero v = refl
column-length (suc w) v = rw (length-append, front_length w (v / 10), add-one)

-- ---- a column is blanks, then digits

-- blanks, then digits that are a number
record Shows (s : List ℕ) (v : ℕ) : Type 0 where
  pub blanks : ℕ
  pub digits : List ℕ
  pub whole : s ≡ front blanks 0 ++ digits
  pub form : Digits digits
  pub number : decimal digits (length digits) ≡ v

blanks-before : (b : ℕ) (t : List ℕ) → drop_blanks (front b 0 ++ t) ≡ drop_blanks t
unfolding front drop_blanks mark
blanks-before zero t = refl
blanks-before (suc b) t = ap drop_blanks (append_assoc (front b 0) (32 ∷ []) t) ∙ blanks-before b (32 ∷ t)

-- one blank more, at either end
blanks-more : (b : ℕ) (t : List ℕ) → 32 ∷ (front b 0 ++ t) ≡ front (suc b) 0 ++ t
unfolding front mark
blanks-more zero t = refl
blanks-more (suc b) t = rw (append_assoc (front b 0) (32 ∷ []) t, blanks-more b (32 ∷ t)) (sym (append_assoc (front (suc b) 0) (32 ∷ []) t))

blanks-split : (s : List ℕ) → (b : ℕ) × (s ≡ front b 0 ++ drop_blanks s)
unfolding front drop_blanks
blanks-split [] = (0, refl)
blanks-split (x ∷ s) = go (eqb x 32) refl (blanks-split s)
  where
    go : (t : Bool) → eqb x 32 ≡ t → (b : ℕ) × (s ≡ front b 0 ++ drop_blanks s) → (b : ℕ) × (x ∷ s ≡ front b 0 ++ cond t (drop_blanks s) (x ∷ s))
    go true q h = (suc h.0, ap₂ {C = List ℕ} (λ y l. y ∷ l) (eqb-true x 32 q) h.1 ∙ blanks-more h.0 (drop_blanks s))
    go false q h = (0, refl)

shows-of-number : (s : List ℕ) (v : ℕ) → number_shown s ≡ Some v → Shows s v
unfolding number_shown
shows-of-number s v e =
    let b = blanks-split s in
    let n = numeral-parts (drop_blanks s) v e in
    record { blanks = b.0; digits = drop_blanks s; whole = b.1; form = n.0; number = n.1 }

digits-start : (d : List ℕ) → Digits d → drop_blanks d ≡ d
unfolding drop_blanks
digits-start [] h = refl
digits-start (x ∷ d) h = rw (ne_eqb x 32 (λ e. omega (arith, h.each 0 h.full)))

number-of-shows : (s : List ℕ) (v : ℕ) → Shows s v → v < 2 ^ 64 → number_shown s ≡ Some v
unfolding number_shown
number-of-shows s v h l =
    let d = h.digits in
    let e : drop_blanks s ≡ d = ap drop_blanks h.whole ∙ blanks-before h.blanks d ∙ digits-start d h.form in
    ap numeral_of e ∙ sym (numeral-read d (well_formed-of-digits d h.form) (rw h.number l)) ∙ ap Some h.number

-- ---- what is accepted is what is written

mark-digit : (q : ℕ) → 0 < q → mark q ≡ 48 + q % 10
unfolding mark
mark-digit q p = rw (ne_eqb q 0 (λ e. omega arith))

-- the first j digits, after b blanks
front-of-digits :
    (d : List ℕ) (b j : ℕ) →
    j ≤ length d →
    ((k : ℕ) → k < length d → Digit (get_or d k 0)) →
    (0 < j → get_or d 0 0 ≡ 48 → ⊥) →
    front (b + j) (decimal d j) ≡ front b 0 ++ take j d
unfolding front
front-of-digits d b zero l f z = rw (add-zero, append-nil, decimal-none)
front-of-digits d b (suc j) l f z =
    let q = decimal-last d j (f j l) in
    let p : 0 < decimal d (suc j) = omega (arith, decimal-grows d 1 (suc j) (omega arith), decimal-one d, f 0 (omega arith), z (omega arith)) in
    rw (add-suc, mark-digit (decimal d (suc j)) p, q.0, q.1, front-of-digits d b j (omega arith) f (λ h. z (omega arith)), take-suc d j 0 l)
    (append_assoc (front b 0) (take j d) (get_or d j 0 ∷ []))

-- all digits, after b blanks
column-of-digits : (d : List ℕ) (b m : ℕ) → length d ≡ suc m → Digits d → front b 0 ++ d ≡ column (b + suc m) (decimal d (suc m))
unfolding column
column-of-digits d b m e h =
    let q = decimal-last d m (h.each m (omega arith)) in
    let z : 0 < m → get_or d 0 0 ≡ 48 → ⊥ = λ p a. omega (arith, h.head a) in
    let t : take m d ++ (get_or d m 0 ∷ []) ≡ d = sym (take-suc d m 0 (omega arith)) ∙ rw (← e) (take-length d) in
    rw (add-suc, q.0, q.1, front-of-digits d b m (omega arith) h.each z, append_assoc, t)

shows-length : (s : List ℕ) (v : ℕ) (h : Shows s v) → length s ≡ h.blanks + length h.digits
shows-length s v h = ap length h.whole ∙ length-append (front h.blanks 0) h.digits ∙ rw (front_length h.blanks 0)

pub column-of-number : (s : List ℕ) (v : ℕ) → number_shown s ≡ Some v → s ≡ column (length s) v
column-of-number s v e =
    let h = shows-of-number s v e in
    let d = h.digits in
    let m : length d ≡ suc (length d - 1) = omega (arith, h.form.full) in
    h.whole ∙ column-of-digits d h.blanks (length d - 1) m h.form ∙ rw (← m, ← shows-length s v h, h.number)

-- ---- what is known of a number that was read

pub number_bound : (s : List ℕ) (v : ℕ) → number_shown s ≡ Some v → v < 2 ^ 64
unfolding number_shown
number_bound s v e = (numeral-parts (drop_blanks s) v e).2

-- it has room in the column
pub number_fits : (s : List ℕ) (v : ℕ) → number_shown s ≡ Some v → v < 10 ^ length s
number_fits s v e =
    let h = shows-of-number s v e in
    let d = h.digits in
    let l : decimal d (length d) < 10 ^ length d = decimal-bound d h.form.each (length d) (le_refl (length d)) in
    lt_of_lt_of_le (subst (λ (n : ℕ). n < 10 ^ length d) h.number l) (pow-le-pow_right (lit< tt) (omega (arith, shows-length s v h)))

-- no column is empty
pub number-full : (s : List ℕ) (v : ℕ) → number_shown s ≡ Some v → 0 < length s
number-full s v e = let h = shows-of-number s v e in omega (arith, shows-length s v h, h.form.full)

-- ---- what is written is read back

-- a digit after blanks
shows_first : (w q x v : ℕ) → q ≡ 0 → x < 10 → q * 10 + x ≡ v → Shows (front w q ++ ((48 + x) ∷ [])) v
shows_first w q x v z l e =
    record {
      blanks = w;
      digits = (48 + x) ∷ [];
      whole = rw z;
      form = digits-lone (48 + x) (omega arith, omega arith);
      number = decimal-one ((48 + x) ∷ []) ∙ omega arith;
    }

-- a digit after a number above zero
shows-next : (s : List ℕ) (q x v : ℕ) → Shows s q → 0 < q → x < 10 → q * 10 + x ≡ v → Shows (s ++ ((48 + x) ∷ [])) v
shows-next s q x v h p l e =
    let d = h.digits in
    record {
      blanks = h.blanks;
      digits = d ++ ((48 + x) ∷ []);
      whole = rw h.whole (append_assoc (front h.blanks 0) d ((48 + x) ∷ []));
      form = digits-snoc d (48 + x) h.form (omega (arith, h.number)) (omega arith, omega arith);
      number = decimal-snoc d (48 + x) ∙ omega (arith, h.number);
    }

shows-digit : (w q x v : ℕ) → q < 10 ^ w → x < 10 → q * 10 + x ≡ v → Shows (front w q ++ ((48 + x) ∷ [])) v
unfolding front
shows-digit zero q x v h l e = shows_first 0 q x v (omega arith) l e
shows-digit (suc w) q x v h l e =
    ⊎_elim
    (λ z. shows_first (suc w) q x v z l e)
    (λ p. shows-next (front (suc w) q) q x v (rw (mark-digit q p) (shows-digit w (q / 10) (q % 10) q (omega (arith, pow-suc 10 w)) (omega arith) (omega arith))) p l e)
    (eq-zero-or-pos q)

pub number-of-column : (w v : ℕ) → 0 < w → v < 10 ^ w → v < 2 ^ 64 → number_shown (column w v) ≡ Some v
unfolding column
number-of-column zero v p h l = absurd (omega arith)
number-of-column (suc w) v p h l =
    number-of-shows (column (suc w) v) v
    (shows-digit w (v / 10) (v % 10) v (omega (arith, pow-suc 10 w)) (omega arith) (omega arith))
    l
