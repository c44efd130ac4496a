-- Columns laid into a buffer, one behind the other.
use Rattle.std.proofs.Common.{◌≡◌, ℕ, ◌+◌, ◌-◌, ◌≤◌, List, [], ◌++◌, length, take, drop, refl, ap, ◌∙◌, arith, length-append, length-drop, length-take-le, drop-drop}
use borrow.Rule.Slice.PartMut.{put_mid}
use Rattle.array.specs.Code.{placed}
use Rattle.array.proofs.PlacedLaws.{placed-none, placed-length, placed-next}
use Rattle.column.specs.Column.{column}
use Rattle.column.proofs.ColumnLaws.{column-length}

-- the buffer xs is s with t from a place on, of n bytes so far
pub record Laid (s : List ℕ) (at n : ℕ) (t xs : List ℕ) : Type 0 where
  pub holds : xs ≡ placed s at t
  pub bytes : length t ≡ n

pub laid_none : (s : List ℕ) (at : ℕ) → Laid s at 0 [] s
laid_none s at = record { holds = placed-none s at; bytes = refl }

-- a part that was lent comes back
part_placed : (xs ys : List ℕ) (a k : ℕ) → length ys ≡ k → put_mid a k xs ys ≡ placed xs a ys
part_placed xs ys a k e = rw (drop-drop k a xs, e)

module _ {s : List ℕ} {at n : ℕ} {t xs : List ℕ} (l : Laid s at n t xs) where
  pub laid-length : at + n ≤ length s → length xs ≡ length s
  laid-length f = ap length l.holds ∙ placed-length s at t (omega (arith, l.bytes))

  -- the next column is laid
  pub lay :
      (ys : List ℕ) (a b w v : ℕ) →
      a ≡ at + n →
      b ≡ a + w →
      b ≤ length s →
      ys ≡ column (length (take (b - a) (drop a xs))) v →
      Laid s at (n + w) (t ++ column w v) (put_mid a (b - a) xs ys)
  lay ys a b w v e f g h =
      let m : length (take (b - a) (drop a xs)) ≡ w =
      length-take-le (b - a) (drop a xs) (rw (length-drop a xs) (omega (arith, laid-length (omega arith)))) ∙ omega arith in
      let y : ys ≡ column w v = h ∙ ap (λ (i : ℕ). column i v) m in
      let k : length ys ≡ b - a = ap length y ∙ column-length w v ∙ omega arith in
      record {
        holds =
            part_placed xs ys a (b - a) k ∙ ap (placed xs a) y
            ∙ placed-next s at t xs (column w v) a l.holds (omega (arith, l.bytes)) (omega arith);
        bytes = length-append t (column w v) ∙ rw (l.bytes, column-length w v);
      }

-- a column at a place
pub put-placed :
    (s ys : List ℕ) (at w v : ℕ) →
    at + w ≤ length s →
    ys ≡ column (length (take (at + w - at) (drop at s))) v →
    put_mid at (at + w - at) s ys ≡ placed s at (column w v)
put-placed s ys at w v l e = (lay (laid_none s at) ys at (at + w) w v (omega arith) refl l e).holds
