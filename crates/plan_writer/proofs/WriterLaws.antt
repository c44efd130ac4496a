-- Writing into a buffer, part after part: what each write says of `placed`.
use mathlib.Core.Path.{◌≡◌, refl, sym, ap, ◌∙◌}
use mathlib.Core.Bool.{Bool, true, false}
use mathlib.Core.List.{List, [], ◌∷◌, ◌++◌, append_assoc, append-nil}
use Prim.Native.Nat.{ℕ, ◌+◌, ◌*◌, ◌≤◌}
use native.Mathlib.Omega.{arith}
use native.Mathlib.Nat.{zero-add}
use native.Mathlib.Numerals.{add-one}
use lib.ListN.{length, get_or, set, drop, length-append, length-set}
use lib.Seq.{set_split}
use Rattle.array.specs.Index.{joined}
use Rattle.array.proofs.PlacedLaws.{placed-none, placed-length, placed-next}
use Rattle.array.proofs.PlacesLaws.{joined-none, joined-more}
use Rattle.column.specs.Column.{column}
use Rattle.column.specs.Row.{row}
use Rattle.column.proofs.ColumnLaws.{column-length}
use Rattle.column.proofs.BufferLaws.{Laid, laid-length, laid_none}
use Rattle.plan.specs.declared.Plan.{Plan}
use Rattle.plan.specs.Limits.{most_frames, most_cells}
use Rattle.plan.specs.Tables.{task_at, vote_frame, vote_cell}
use Rattle.plan_grammar.specs.Line.{widths, line_size, cell_kind, actuator_kind}
use Rattle.array.specs.Code.{placed}
use Rattle.plan_grammar.specs.Written.{header_line, task_line, vote_line, plan_text}
use Rattle.plan_grammar.proofs.LineLaws.{row-size}
use Rattle.plan_grammar.proofs.WrittenLaws.{vote_row, votes_below, rows-length, vote_rows-length, text-parts}

-- ---- the columns of a line

-- after the line feed: the buffer xs has the columns of the row r
pub record Filled (s : List ℕ) (at : ℕ) (r xs : List ℕ) : Type 0 where
  pub size : length xs ≡ length s
  pub same : length (set xs (at + 56) 10) ≡ length s
  pub ended : set xs (at + 56) 10 ≡ placed s at r

pub line-ended : {s t r xs : List ℕ} {at : ℕ} → Laid s at 56 t xs → at + 57 ≤ length s → t ++ (10 ∷ []) ≡ r → Filled s at r xs
line-ended {s} {t} {r} {xs} {at} l f e =
    let m : length xs ≡ length s = laid-length l (omega arith) in
    record {
      size = m;
      same = length-set xs (at + 56) 10 ∙ m;
      ended =
          set_split xs (at + 56) 10 (omega arith)
          ∙ rw (← add-one (at + 56)) (placed-next s at t xs (10 ∷ []) (at + 56) l.holds (omega (arith, l.bytes)) (omega arith))
          ∙ ap (placed s at) e;
    }

-- one column more is laid by a call that places it
laid_more : {s t xs ys : List ℕ} {at n : ℕ} (a w v : ℕ) → Laid s at n t xs → a ≡ at + n → at ≤ length s → ys ≡ placed xs a (column w v) → Laid s at (n + w) (t ++ column w v) ys
laid_more {s} {t} {xs} {ys} {at} {n} a w v l e f h =
    record {
      holds = h ∙ placed-next s at t xs (column w v) a l.holds (omega (arith, l.bytes, e)) f;
      bytes = length-append t (column w v) ∙ rw (l.bytes, column-length w v);
    }

pub row-columns :
    (k b c d e f : ℕ) →
    (((((([] ++ column 4 k) ++ column 4 b) ++ column 4 c) ++ column 4 d) ++ column 20 e) ++ column 20 f) ++ (10 ∷ [])
    ≡ row widths (k ∷ b ∷ c ∷ d ∷ e ∷ f ∷ [])
unfolding row
row-columns k b c d e f = simp append_assoc

pub line-filled :
    (s : List ℕ) (n k b c d e f : ℕ) (y1 y2 y3 y4 y5 y6 : List ℕ) →
    n + 57 ≤ length s →
    y1 ≡ placed s n (column 4 k) →
    y2 ≡ placed y1 (n + 4) (column 4 b) →
    y3 ≡ placed y2 (n + 8) (column 4 c) →
    y4 ≡ placed y3 (n + 12) (column 4 d) →
    y5 ≡ placed y4 (n + 16) (column 20 e) →
    y6 ≡ placed y5 (n + 36) (column 20 f) →
    Filled s n (row widths (k ∷ b ∷ c ∷ d ∷ e ∷ f ∷ [])) y6
line-filled s n k b c d e f y1 y2 y3 y4 y5 y6 room h1 h2 h3 h4 h5 h6 =
    let start : n ≤ length s = omega arith in
    let l1 = laid_more n 4 k (laid_none s n) (omega arith) start h1 in
    let l2 = laid_more (n + 4) 4 b l1 refl start h2 in
    let l3 = laid_more (n + 8) 4 c l2 refl start h3 in
    let l4 = laid_more (n + 12) 4 d l3 refl start h4 in
    let l5 = laid_more (n + 16) 20 e l4 refl start h5 in
    let l6 = laid_more (n + 36) 20 f l5 refl start h6 in
    line-ended l6 room (row-columns k b c d e f)

-- ---- lines from line `from` of the buffer on: one for each index

abbrev pub rows_of : (ℕ → List ℕ) → ℕ → List ℕ
rows_of g k = joined (λ i. row widths (g i)) k

module _ (s : List ℕ) (from : ℕ) (g : ℕ → List ℕ) where
  pub lines_none : s ≡ placed s (line_size * from) (rows_of g 0)
  lines_none = placed-none s (line_size * from) ∙ ap (placed s (line_size * from)) (sym (joined-none (λ i. row widths (g i))))

  module _ (k : ℕ) (xs : List ℕ) (h : xs ≡ placed s (line_size * from) (rows_of g k)) where
    pub lines-size : line_size * (from + k) ≤ length s → length xs ≡ length s
    lines-size l = ap length h ∙ placed-length s (line_size * from) (rows_of g k) (omega (arith, rows-length g k))

    -- the line of the next index
    pub lines_more :
        (l ys : List ℕ) →
        line_size * from ≤ length s →
        l ≡ g k →
        ys ≡ placed xs (line_size * (from + k)) (row widths l) →
        ys ≡ placed s (line_size * from) (rows_of g (k + 1))
    lines_more l ys m e f =
        f ∙ ap (λ (n : List ℕ). placed xs (line_size * (from + k)) (row widths n)) e
        ∙ placed-next s (line_size * from) (rows_of g k) xs (row widths (g k)) (line_size * (from + k)) h (omega (arith, rows-length g k)) m
        ∙ ap (placed s (line_size * from)) (sym (joined-more (λ i. row widths (g i)) k))

-- ---- the lines of the votes

abbrev pub vote_rows : List Bool → ℕ → List ℕ
vote_rows voted e = joined (vote_row voted) e

vote-hit : (voted : List Bool) (e : ℕ) → get_or voted e false ≡ true → vote_rows voted (e + 1) ≡ vote_rows voted e ++ row widths (vote_line (vote_frame e) (vote_cell e))
vote-hit voted e t = joined-more (vote_row voted) e ∙ rw t

vote-miss : (voted : List Bool) (e : ℕ) → get_or voted e false ≡ false → vote_rows voted (e + 1) ≡ vote_rows voted e
vote-miss voted e t = joined-more (vote_row voted) e ∙ rw (t, append-nil)

module _ (s : List ℕ) (from : ℕ) (voted : List Bool) where
  pub votes-none : s ≡ placed s (line_size * from) (vote_rows voted 0)
  votes-none = placed-none s (line_size * from) ∙ ap (placed s (line_size * from)) (sym (joined-none (vote_row voted)))

  module _ (e : ℕ) (xs : List ℕ) (h : xs ≡ placed s (line_size * from) (vote_rows voted e)) where
    pub votes-size : line_size * (from + votes_below voted e) ≤ length s → length xs ≡ length s
    votes-size l = ap length h ∙ placed-length s (line_size * from) (vote_rows voted e) (omega (arith, vote_rows-length voted e))

    -- the next entry is voted
    pub votes-hit :
        (l ys : List ℕ) (at : ℕ) →
        line_size * from ≤ length s →
        get_or voted e false ≡ true →
        l ≡ vote_line (vote_frame e) (vote_cell e) →
        at ≡ from + votes_below voted e →
        ys ≡ placed xs (line_size * at) (row widths l) →
        ys ≡ placed s (line_size * from) (vote_rows voted (e + 1))
    votes-hit l ys at m t n a f =
        f ∙ ap (λ (r : List ℕ). placed xs (line_size * at) (row widths r)) n
        ∙ placed-next s (line_size * from) (vote_rows voted e) xs (row widths (vote_line (vote_frame e) (vote_cell e))) (line_size * at) h (omega (arith, vote_rows-length voted e)) m
        ∙ ap (placed s (line_size * from)) (sym (vote-hit voted e t))

    -- or not
    pub votes-miss : get_or voted e false ≡ false → xs ≡ placed s (line_size * from) (vote_rows voted (e + 1))
    votes-miss t = h ∙ ap (placed s (line_size * from)) (sym (vote-miss voted e t))

-- ---- the parts of a plan's text, one after another from the buffer's start

module _ {s : List ℕ} {n : ℕ} {t xs : List ℕ} (h : Laid s 0 (line_size * n) t xs) where
  -- k lines more
  pub laid-lines :
      (from k : ℕ) (u ys : List ℕ) →
      from ≡ n →
      length u ≡ line_size * k →
      line_size * n ≤ length s →
      ys ≡ placed xs (line_size * from) u →
      Laid s 0 (line_size * (n + k)) (t ++ u) ys
  laid-lines from k u ys e f l g =
      record {
        holds = g ∙ placed-next s 0 t xs u (line_size * from) h.holds (omega (arith, h.bytes)) (omega arith);
        bytes = length-append t u ∙ omega (arith, h.bytes);
      }

module _ (p : Plan) where
  abbrev pub header_text : List ℕ
  header_text = row widths (header_line p)

  abbrev pub cells_text : List ℕ
  cells_text = rows_of (λ c. cell_kind ∷ c ∷ 0 ∷ 0 ∷ get_or p.initial c 0 ∷ 0 ∷ []) p.cells

  abbrev pub tasks_text : List ℕ
  tasks_text = rows_of (λ k. task_line (task_at p k)) p.task_count

  abbrev pub votes_text : List ℕ
  votes_text = vote_rows p.voted (most_frames * most_cells)

  abbrev pub actuators_text : List ℕ
  actuators_text = rows_of (λ i. actuator_kind ∷ i ∷ get_or p.actuator_cell i 0 ∷ 0 ∷ 0 ∷ 0 ∷ []) p.actuators

  pub header-laid :
      (s l xs : List ℕ) → l ≡ header_line p → xs ≡ placed s 0 (row widths l) → Laid s 0 (line_size * 1) header_text xs
  header-laid s l xs e f =
      record { holds = f ∙ ap (λ (n : List ℕ). placed s 0 (row widths n)) e; bytes = row-size (header_line p) }

  -- all of them are the text
  pub text-laid :
      {s xs : List ℕ} {n : ℕ} →
      Laid s 0 n ((((header_text ++ cells_text) ++ tasks_text) ++ votes_text) ++ actuators_text) xs →
      xs ≡ plan_text p ++ drop (length (plan_text p)) s
  text-laid {s} {xs} h =
      let e : (((header_text ++ cells_text) ++ tasks_text) ++ votes_text) ++ actuators_text ≡ plan_text p = simp append_assoc (sym (text-parts p)) in
      h.holds ∙ ap (placed s 0) e ∙ rw (zero-add (length (plan_text p)))
