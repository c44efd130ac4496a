-- The lines of the histories, from their masks.
use Rattle.std.specs.Prelude.{Ok, Err}
use mathlib.Core.Path.{◌≡◌, sym, ap, ap₂, ◌∙◌}
use mathlib.Core.Bool.{true, false}
use mathlib.Core.List.{List, [], ◌∷◌, ◌++◌, append_assoc, flatten}
use Prim.Native.Nat.{ℕ, ◌+◌, ◌-◌, ◌*◌, ◌/◌, ◌≤◌}
use native.Mathlib.Omega.{arith}
use native.Mathlib.Nat.{add-zero}
use lib.ListN.{length, take, drop, get_or, set, length-append, length-set}
use lib.Seq.{set_split}
use borrow.Rule.Slice.PartMut.{put_mid}
use Rattle.array.specs.Index.{joined, from}
use Rattle.array.specs.Code.{placed}
use Rattle.array.proofs.PlacesLaws.{joined-none, joined-more, joined_length, joined_same}
use Rattle.array.proofs.PlacedLaws.{placed-none, placed-next, placed-length, front-taken, part-back}
use Rattle.column.specs.Column.{column}
use Rattle.column.specs.Row.{row}
use Rattle.column.proofs.ColumnLaws.{column-length}
use Rattle.column.proofs.RowLaws.{total, row-length}
use Rattle.answer.specs.declared.Refusal.{Refusal}
use Rattle.answer.specs.declared.Refusal.TheVariants.{NodesOrLength}
use Rattle.plan.specs.declared.Plan.{Plan}
use Rattle.plan.specs.Known.{period}
use Rattle.plan_grammar.specs.Meant.{plan_of}
use Rattle.plan_text.specs.declared.PlanRead.{PlanRead}
use Rattle.plan_text.specs.Code.{plan_found}
use Rattle.plan_text.proofs.GivenLaws.{found-given, none-found}
use Rattle.run_line.specs.Line.{refusal_line, refusal_size}
use Rattle.run_line.specs.Listing.{lines_or}
use Rattle.run_line.proofs.WritingLaws.{placed-whole, refusal-length}
use Rattle.history_masks.specs.Histories.{histories}
use Rattle.history_masks.specs.Limits.{limits_ok}
use Rattle.history.specs.Answers.{plan_histories}
use Rattle.history_masks.specs.Code.{histories_after}
use Rattle.history.proofs.ListedLaws.{histories-length, in_place}
use Rattle.history_masks.proofs.BoundLaws.{histories-few}
use Rattle.history.proofs.CallLaws.{front-placed}
use Rattle.history_masks.proofs.LimitsLaws.{few-nodes}
use Rattle.histories.specs.HistoriesListing.{history_frames, history_widths, history_lines, plan_listing, histories_listing}
use Rattle.histories.specs.Code.{most_histories, history_line_size}

-- ---- the line of a history

module _ (s : List ℕ) (x y z : ℕ) {a b c : List ℕ} (size : length s ≡ history_line_size) (e : a ≡ placed s 0 (column 4 x)) (f : b ≡ placed a 4 (column 4 y)) (g : c ≡ placed b 8 (column 4 z)) where
  abbrev columns : List ℕ
  columns = (column 4 x ++ column 4 y) ++ column 4 z

  two-long : length (column 4 x ++ column 4 y) ≡ 8
  two-long = length-append (column 4 x) (column 4 y) ∙ rw (column-length 4 x, column-length 4 y)

  columns-long : length columns ≡ 12
  columns-long = length-append (column 4 x ++ column 4 y) (column 4 z) ∙ rw (two-long, column-length 4 z)

  columns-laid : c ≡ placed s 0 columns
  columns-laid =
      let second : b ≡ placed s 0 (column 4 x ++ column 4 y) = f ∙ placed-next s 0 (column 4 x) a (column 4 y) 4 e (omega (arith, column-length 4 x)) (omega arith) in
      g ∙ placed-next s 0 (column 4 x ++ column 4 y) b (column 4 z) 8 second (omega (arith, two-long)) (omega arith)

  columns-size : length c ≡ history_line_size
  columns-size = ap length columns-laid ∙ placed-length s 0 columns (omega (arith, size, columns-long)) ∙ size

  pub history-row : set c 12 10 ≡ row history_widths (x ∷ y ∷ z ∷ [])
  unfolding row
  history-row =
      set_split c 12 10 (omega (arith, columns-size))
      ∙ placed-next s 0 columns c (10 ∷ []) 12 columns-laid (omega (arith, columns-long)) (omega arith)
      ∙ placed-whole s (columns ++ (10 ∷ [])) (length-append columns (10 ∷ []) ∙ omega (arith, columns-long, size))
      ∙ simp append_assoc

  pub history-size : length (set c 12 10) ≡ length s
  history-size = length-set c 12 10 ∙ columns-size ∙ sym size

-- ---- the lines of the histories

abbrev pub history_line_at : List ℕ → ℕ → List ℕ
history_line_at masks k = row history_widths (from 0 masks (k * history_frames) history_frames)

line-long : (masks : List ℕ) (k : ℕ) → length (history_line_at masks k) ≡ history_line_size
unfolding total
line-long masks k = row-length history_widths (from 0 masks (k * history_frames) history_frames)

-- the three masks from a place
pub three-masks : (masks : List ℕ) (at : ℕ) → get_or masks at 0 ∷ get_or masks (at + 1) 0 ∷ get_or masks (at + 2) 0 ∷ [] ≡ from 0 masks at history_frames
unfolding from
three-masks masks at = rw (add-zero at)

pub lines_long : (masks : List ℕ) (n : ℕ) → length (joined (history_line_at masks) n) ≡ n * history_line_size
lines_long masks n = joined_length (history_line_at masks) history_line_size (line-long masks) n

-- nothing yet, one more, all
pub lines-begin : (s masks : List ℕ) → s ≡ placed s 0 (joined (history_line_at masks) 0)
lines-begin s masks = placed-none s 0 ∙ ap (placed s 0) (sym (joined-none (history_line_at masks)))

pub lines-all : (s masks : List ℕ) {xs : List ℕ} {k n : ℕ} → xs ≡ placed s 0 (joined (history_line_at masks) k) → k ≡ n → xs ≡ placed s 0 (joined (history_line_at masks) n)
lines-all s masks e f = e ∙ ap (λ (j : ℕ). placed s 0 (joined (history_line_at masks) j)) f

pub lines_more :
    (s xs masks : List ℕ) (k : ℕ) {part : List ℕ} →
    xs ≡ placed s 0 (joined (history_line_at masks) k) →
    part ≡ row history_widths (get_or masks (k * history_frames) 0 ∷ get_or masks (k * history_frames + 1) 0 ∷ get_or masks (k * history_frames + 2) 0 ∷ []) →
    put_mid (k * history_line_size) (k * history_line_size + history_line_size - k * history_line_size) xs part ≡ placed s 0 (joined (history_line_at masks) (k + 1))
lines_more s xs masks k {part} e f =
    part-back xs (history_line_at masks k) part (k * history_line_size) (k * history_line_size + history_line_size - k * history_line_size) (f ∙ ap (row history_widths) (three-masks masks (k * history_frames))) (line-long masks k ∙ omega arith)
    ∙ placed-next s 0 (joined (history_line_at masks) k) xs (history_line_at masks k) (k * history_line_size) e (omega (arith, lines_long masks k)) (omega arith)
    ∙ ap (placed s 0) (sym (joined-more (history_line_at masks) k))

-- the buffer keeps its length
pub lines-kept : (s xs masks : List ℕ) (k : ℕ) → xs ≡ placed s 0 (joined (history_line_at masks) k) → k * history_line_size ≤ length s → length xs ≡ length s
lines-kept s xs masks k e l = ap length e ∙ placed-length s 0 (joined (history_line_at masks) k) (omega (arith, lines_long masks k))

-- ---- the lines are those of the histories

module _ (p : Plan) where
  abbrev listed : List (List ℕ)
  listed = plan_histories p history_frames

  pub lines_are : (rest : List ℕ) → joined (history_line_at (flatten listed ++ rest)) (length listed) ≡ history_lines listed
  unfolding history_lines plan_histories
  lines_are rest =
      joined_same (history_line_at (flatten listed ++ rest)) (λ i. row history_widths (get_or listed i [])) (length listed)
      (λ k l. ap (row history_widths) (in_place p.nodes (period p) history_frames k l rest))

  few-listed : limits_ok p.nodes history_frames ≡ true → length listed ≤ most_histories
  unfolding plan_histories histories histories_after
  few-listed l = histories-few p.nodes (period p) (few-nodes p.nodes history_frames l) [] history_frames

  -- ---- within the limits and not

  pub plan-outside : limits_ok p.nodes history_frames ≡ false → refusal_line NodesOrLength ≡ plan_listing p
  unfolding plan_listing
  plan-outside l = rw l

  module _ (l : limits_ok p.nodes history_frames ≡ true) {r : ℕ} (e : r ≡ period p) where
    abbrev masks_of : List ℕ
    masks_of = flatten (histories p.nodes r history_frames)

    pub masks-long : length masks_of ≡ length listed * history_frames
    unfolding plan_histories
    masks-long = histories-length p.nodes r history_frames ∙ rw e

    pub masks-few : length masks_of ≤ most_histories * history_frames
    masks-few = omega (arith, masks-long, few-listed l)

    pub count-few : {size : ℕ} → size ≡ length masks_of → (size / history_frames ≡ length listed) × (length listed ≤ most_histories)
    count-few s = (omega (arith, s, masks-long), few-listed l)

    pub lines-printed : (masks : List ℕ) → joined (history_line_at (placed masks 0 masks_of)) (length listed) ≡ plan_listing p
    unfolding plan_listing
    lines-printed masks =
        rw l
        (ap (λ (ms : List ℕ). joined (history_line_at ms) (length listed)) (front-placed p history_frames e masks)
        ∙ lines_are (drop (length listed * history_frames) masks))

-- ---- the front of the buffer

pub refusal-taken : (s : List ℕ) (a : Refusal) {xs : List ℕ} → refusal_size ≤ length s → xs ≡ placed s 0 (refusal_line a) → (refusal_size ≤ length xs) × (take refusal_size xs ≡ refusal_line a)
refusal-taken s a l f = front-taken s (refusal_line a) refusal_size (refusal-length a) l f

-- ---- the ways out of the program

module _ (text s : List ℕ) where
  pub print-refused :
      {q : Refusal} {xs : List ℕ} →
      plan_found text ≡ Err q →
      most_histories * history_line_size ≤ length s →
      xs ≡ placed s 0 (refusal_line q) →
      (refusal_size ≤ length xs) × (take refusal_size xs ≡ histories_listing text)
  unfolding histories_listing lines_or
  print-refused {q} e room h =
      let front = refusal-taken s q (omega (arith, room)) h in
      (front.0, front.1 ∙ rw (none-found text e))

  module _ (x : PlanRead) (e : plan_found text ≡ Ok x) where
    plan-is : x.plan ≡ plan_of text
    plan-is = ap (λ (y : PlanRead). y.plan) (found-given text e).1

    listing-is : plan_listing x.plan ≡ histories_listing text
    unfolding histories_listing lines_or
    listing-is = rw ((found-given text e).0, plan-is)

    pub print-outside :
        limits_ok x.plan.nodes history_frames ≡ false → most_histories * history_line_size ≤ length s → {xs : List ℕ} →
        xs ≡ placed s 0 (refusal_line NodesOrLength) →
        (refusal_size ≤ length xs) × (take refusal_size xs ≡ histories_listing text)
    print-outside l big i =
        let front = refusal-taken s NodesOrLength (omega (arith, big)) i in
        (front.0, front.1 ∙ plan-outside x.plan l ∙ listing-is)

    module _ (l : limits_ok x.plan.nodes history_frames ≡ true) where
      -- the period that the reading finds is R
      period-is : x.period ≡ period x.plan
      period-is = ap (λ (y : PlanRead). y.period) (found-given text e).1 ∙ sym (ap period plan-is)

      pub print-fits : length (flatten (histories x.plan.nodes x.period history_frames)) ≤ most_histories * history_frames
      print-fits = masks-few x.plan l period-is

      module _ {size : ℕ} (h : size ≡ length (flatten (histories x.plan.nodes x.period history_frames))) where
        count-is : size / history_frames ≡ length (plan_histories x.plan history_frames)
        count-is = (count-few x.plan l period-is h).0

        pub print-count : size / history_frames ≤ most_histories
        print-count = omega (arith, count-is, (count-few x.plan l period-is h).1)

        pub print-lines :
            most_histories * history_line_size ≤ length s → (masks : List ℕ) {ms xs : List ℕ} →
            ms ≡ placed masks 0 (flatten (histories x.plan.nodes x.period history_frames)) →
            xs ≡ placed s 0 (joined (history_line_at ms) (size / history_frames)) →
            (size / history_frames * history_line_size ≤ length xs) × (take (size / history_frames * history_line_size) xs ≡ histories_listing text)
        print-lines big masks {ms} i j =
            let front = front-taken s (joined (history_line_at ms) (size / history_frames)) (size / history_frames * history_line_size) (lines_long ms (size / history_frames)) (omega (arith, big, print-count)) j in
            (front.0, front.1 ∙ ap₂ (λ (l : List ℕ) (k : ℕ). joined (history_line_at l) k) i count-is ∙ lines-printed x.plan l period-is masks ∙ listing-is)
