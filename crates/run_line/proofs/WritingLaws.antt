-- Lines of the listing, column after column.
use mathlib.Core.Path.{◌≡◌, refl, sym, ap, ◌∙◌}
use mathlib.Core.List.{List, [], ◌∷◌, ◌++◌, append_assoc, append-nil}
use Prim.Native.Nat.{ℕ, zero, suc, ◌+◌, ◌*◌, ◌≤◌}
use native.Mathlib.Omega.{arith}
use native.Mathlib.Nat.{zero-add}
use native.Mathlib.Numerals.{add-one}
use lib.ListN.{length, get_or, set, replicate, length-append, length-set, drop_of_length-le}
use lib.Seq.{set_split}
use Rattle.array.specs.Index.{joined, from}
use Rattle.array.proofs.PlacesLaws.{joined_same, joined-more, from-length, from_at}
use Rattle.answer.specs.declared.Refusal.{Refusal}
use Rattle.answer.specs.Refusal.{number_of, line_of}
use Rattle.column.specs.Column.{column}
use Rattle.column.specs.Row.{row}
use Rattle.column.proofs.ColumnLaws.{column-length}
use Rattle.column.proofs.RowLaws.{total, row-length}
use Rattle.array.specs.Code.{placed}
use Rattle.array.proofs.PlacedLaws.{placed-none, placed-length, placed-next}
use Rattle.plan.specs.declared.Plan.{Plan}
use Rattle.memory.specs.declared.Memory.{Memory}
use Rattle.system.specs.declared.System.{System}
use Rattle.run_line.specs.Listing.{system_next, plane_values, agreement, working, single_after, equal, frame_line}
use Rattle.run_line.specs.Line.{pattern_width, plane_values_at, agreement_at, agreement_width, printed_widths, printed_size, refusal_line, refusal_size}

-- ---- the plane values

module _ (v : ℕ → ℕ) where
  abbrev pub plane_columns : ℕ → List ℕ
  plane_columns n = joined (λ a. column pattern_width (v a)) n

  pub columns-length : (n : ℕ) → length (plane_columns n) ≡ pattern_width * n
  unfolding joined
  columns-length zero = refl
  columns-length (suc n) =
      length-append (plane_columns n) (column pattern_width (v n)) ∙ rw (columns-length n, column-length pattern_width (v n)) (omega arith)

  pub columns-none : (s : List ℕ) → s ≡ placed s plane_values_at (plane_columns 0)
  unfolding joined
  columns-none s = placed-none s plane_values_at

  module _ (s xs : List ℕ) (n : ℕ) (e : xs ≡ placed s plane_values_at (plane_columns n)) where
    pub columns-size : plane_values_at + pattern_width * n ≤ length s → length xs ≡ length s
    columns-size l = ap length e ∙ placed-length s plane_values_at (plane_columns n) (omega (arith, columns-length n))

    -- one more
    pub columns-more : {ys : List ℕ} → plane_values_at ≤ length s → ys ≡ placed xs (plane_values_at + pattern_width * n) (column pattern_width (v n)) → ys ≡ placed s plane_values_at (plane_columns (n + 1))
    columns-more l f =
        f ∙ placed-next s plane_values_at (plane_columns n) xs (column pattern_width (v n)) (plane_values_at + pattern_width * n) e (omega (arith, columns-length n)) l
        ∙ ap (placed s plane_values_at) (sym (joined-more (λ a. column pattern_width (v a)) n))

    -- the agreement behind them, and the line feed
    module _ (x : ℕ) {ys : List ℕ} (f : ys ≡ placed xs (agreement_at n) (column agreement_width x)) (l : printed_size n ≤ length s) where
      with-agreement : ys ≡ placed s plane_values_at (plane_columns n ++ column agreement_width x)
      with-agreement = f ∙ placed-next s plane_values_at (plane_columns n) xs (column agreement_width x) (agreement_at n) e (omega (arith, columns-length n)) (omega arith)

      long : length (plane_columns n ++ column agreement_width x) ≡ pattern_width * n + agreement_width
      long = length-append (plane_columns n) (column agreement_width x) ∙ rw (columns-length n, column-length agreement_width x)

      columns-kept : length ys ≡ length s
      columns-kept = ap length with-agreement ∙ placed-length s plane_values_at (plane_columns n ++ column agreement_width x) (omega (arith, long))

      pub columns-ended : set ys (agreement_at n + agreement_width) 10 ≡ placed s plane_values_at (plane_columns n ++ (column agreement_width x ++ (10 ∷ [])))
      columns-ended =
          set_split ys (agreement_at n + agreement_width) 10 (omega (arith, columns-kept))
          ∙ rw (← add-one (agreement_at n + agreement_width))
          (placed-next s plane_values_at (plane_columns n ++ column agreement_width x) ys (10 ∷ []) (agreement_at n + agreement_width) with-agreement (omega (arith, long)) (omega arith))
          ∙ ap (placed s plane_values_at) (append_assoc (plane_columns n) (column agreement_width x) (10 ∷ []))

-- ---- rows

pub joined-front : (f : ℕ → List ℕ) (n : ℕ) → joined f (suc n) ≡ f 0 ++ joined (λ k. f (suc k)) n
unfolding joined
joined-front f zero = sym (append-nil (f 0))
joined-front f (suc n) = ap (λ (l : List ℕ). l ++ f (suc n)) (joined-front f n) ∙ append_assoc (f 0) (joined (λ k. f (suc k)) n) (f (suc n))

-- a row that begins with equal widths
row-of-columns :
    (n : ℕ) (ws vs us : List ℕ) → length vs ≡ n → row (replicate n pattern_width ++ ws) (vs ++ us) ≡ plane_columns (λ a. get_or vs a 0) n ++ row ws us
unfolding row joined
row-of-columns zero ws [] us e = refl
row-of-columns zero ws (v ∷ vs) us e = absurd (omega arith)
row-of-columns (suc n) ws [] us e = absurd (omega arith)
row-of-columns (suc n) ws (v ∷ vs) us e =
    rw (joined-front (λ a. column pattern_width (get_or (v ∷ vs) a 0)) n, append_assoc)
    (ap (λ (l : List ℕ). column pattern_width v ++ l) (row-of-columns n ws vs us (omega arith)))

-- what fills its place
pub placed-whole : (s t : List ℕ) → length t ≡ length s → placed s 0 t ≡ t
placed-whole s t e = ap (λ (l : List ℕ). t ++ l) (drop_of_length-le s {i = 0 + length t} (omega arith)) ∙ append-nil t

-- the line of a frame, in a place of its size
module _ (s : List ℕ) (n : ℕ) (size : length s ≡ printed_size n) (f w g : ℕ) (vs : List ℕ) (x : ℕ) where
  abbrev frame_columns : List ℕ
  frame_columns = ((column 8 f ++ column 4 w) ++ column 4 g) ++ (plane_columns (λ k. get_or vs k 0) n ++ (column agreement_width x ++ (10 ∷ [])))

  frame-size : length frame_columns ≡ length s
  frame-size =
      rw (length-append, length-append, length-append, length-append, length-append, column-length 8 f, column-length 4 w, column-length 4 g, columns-length (λ k. get_or vs k 0) n, column-length agreement_width x, size)
      (omega arith)

  frame-columns : frame_columns ≡ row (printed_widths n) (f ∷ w ∷ g ∷ (from 0 vs 0 n ++ (x ∷ [])))
  unfolding row printed_widths
  frame-columns =
      rw (
        row-of-columns n (agreement_width ∷ []) (from 0 vs 0 n) (x ∷ []) (from-length 0 vs 0 n),
        joined_same (λ a. column pattern_width (get_or (from 0 vs 0 n) a 0)) (λ a. column pattern_width (get_or vs a 0)) n
            (λ i l. ap (column pattern_width) (from_at 0 vs 0 n i l ∙ ap (λ (k : ℕ). get_or vs k 0) (zero-add i))),
      )
      (simp append_assoc)

  pub frame_row :
      {a b c d : List ℕ} →
      a ≡ placed s 0 (column 8 f) →
      b ≡ placed a 8 (column 4 w) →
      c ≡ placed b 12 (column 4 g) →
      d ≡ placed c plane_values_at (plane_columns (λ k. get_or vs k 0) n ++ (column agreement_width x ++ (10 ∷ []))) →
      d ≡ row (printed_widths n) (f ∷ w ∷ g ∷ (from 0 vs 0 n ++ (x ∷ [])))
  frame_row {a} {b} {c} {d} o y z u =
      let t1 : List ℕ = column 8 f in
      let t2 : List ℕ = t1 ++ column 4 w in
      let t3 : List ℕ = t2 ++ column 4 g in
      let l1 : length t1 ≡ 8 = column-length 8 f in
      let l2 : length t2 ≡ 12 = length-append t1 (column 4 w) ∙ rw (l1, column-length 4 w) in
      let l3 : length t3 ≡ plane_values_at = length-append t2 (column 4 g) ∙ rw (l2, column-length 4 g) in
      let y2 : b ≡ placed s 0 t2 = y ∙ placed-next s 0 t1 a (column 4 w) 8 o (omega arith) (omega arith) in
      let z2 : c ≡ placed s 0 t3 = z ∙ placed-next s 0 t2 b (column 4 g) 12 y2 (omega arith) (omega arith) in
      u ∙ placed-next s 0 t3 c (plane_columns (λ k. get_or vs k 0) n ++ (column agreement_width x ++ (10 ∷ []))) plane_values_at z2 (omega arith) (omega arith)
      ∙ placed-whole s frame_columns frame-size
      ∙ frame-columns

-- ---- the line of a refusal

pub refusal-row :
    (s : List ℕ) (m : Refusal) {a b : List ℕ} →
    refusal_size ≤ length s →
    a ≡ placed s 0 (column 4 (number_of m)) →
    b ≡ placed a 4 (column 8 (line_of m)) →
    (length (set b 12 10) ≡ length s) × (set b 12 10 ≡ placed s 0 (refusal_line m))
unfolding refusal_line row
refusal-row s m {a} {b} l x y =
    let t1 : List ℕ = column 4 (number_of m) in
    let t2 : List ℕ = t1 ++ column 8 (line_of m) in
    let l1 : length t1 ≡ 4 = column-length 4 (number_of m) in
    let l2 : length t2 ≡ 12 = length-append t1 (column 8 (line_of m)) ∙ rw (l1, column-length 8 (line_of m)) in
    let y2 : b ≡ placed s 0 t2 = y ∙ placed-next s 0 t1 a (column 8 (line_of m)) 4 x (omega arith) (omega arith) in
    let k : length b ≡ length s = ap length y2 ∙ placed-length s 0 t2 (omega arith) in
    (length-set b 12 10 ∙ k, set_split b 12 10 (omega arith) ∙ placed-next s 0 t2 b (10 ∷ []) 12 y2 (omega arith) (omega arith) ∙ ap (placed s 0) (append_assoc t1 (column 8 (line_of m)) (10 ∷ [])))

pub refusal-length : (m : Refusal) → length (refusal_line m) ≡ refusal_size
unfolding refusal_line total
refusal-length m = row-length (4 ∷ 8 ∷ []) (number_of m ∷ line_of m ∷ [])

-- ---- their sizes

pub total-of-columns : (n : ℕ) → total (replicate n pattern_width) ≡ pattern_width * n
unfolding total
total-of-columns zero = refl
total-of-columns (suc n) = rw (total-of-columns n) (omega arith)

total-of-printed : (n : ℕ) → total (replicate n pattern_width ++ (agreement_width ∷ [])) ≡ pattern_width * n + agreement_width
unfolding total
total-of-printed zero = refl
total-of-printed (suc n) = rw (total-of-printed n) (omega arith)

pub frame-length : (p : Plan) (sys : System) (single : Memory) (frame : ℕ) (l : List ℕ) → length (frame_line p sys single frame l) ≡ printed_size p.actuators
unfolding frame_line printed_widths total
frame-length p sys single frame l =
    row-length (printed_widths p.actuators) (frame ∷ working p sys l ∷ equal p (system_next p sys l) (single_after p single l) ∷ (plane_values p sys l ++ (agreement p sys l ∷ [])))
    ∙ rw (total-of-printed p.actuators) (omega arith)
