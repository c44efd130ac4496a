-- The lines of a record, part by part: how many they are, what one entry more adds, and how they are written.
use mathlib.Core.Path.{◌≡◌, refl, sym, ap, ◌∙◌}
use mathlib.Core.Bool.{Bool, true, false, cond}
use mathlib.Core.List.{List, [], ◌∷◌, ◌++◌, append-nil}
use Prim.Native.Nat.{ℕ, zero, suc, ◌+◌, ◌*◌, ◌≤◌, ◌<◌}
use native.Mathlib.Omega.{arith}
use lib.Dec.{eqb}
use lib.ListN.{length, get_or, set, length-append}
use lib.Seq.{get_or-set_same, get_or-set_other}
use borrow.Author.Tests.{eqb-true, eqb-false}
use Rattle.array.specs.Index.{joined, how_many}
use Rattle.array.proofs.TestLaws.{split}
use Rattle.array.proofs.IndexLaws.{how_many-bound}
use Rattle.array.proofs.PlacesLaws.{joined_same, joined_length}
use Rattle.column.specs.Row.{row}
use Rattle.column.proofs.BytesLaws.{bytes-joined, row-bytes}
use Rattle.plan.specs.declared.Task.{Task}
use Rattle.plan.specs.declared.Plan.{Plan}
use Rattle.plan.specs.Limits.{most_frames, most_cells}
use Rattle.plan.specs.Tables.{unused_task, task_at, vote_frame, vote_cell}
use Rattle.plan.specs.Accepted.{well_formed}
use Rattle.plan.proofs.AcceptedLaws.{shape_of}
use Rattle.plan_grammar.specs.Line.{widths, line_size, most_text_lines, cell_kind, actuator_kind}
use Rattle.plan_grammar.specs.Written.{header_line, cell_line, task_line, vote_line, actuator_line, vote_lines, lines_of, written, plan_text}
use Rattle.plan_grammar.proofs.LineLaws.{row-size, written_none, written_one, written-append, written-joined, written-each, written-length}

-- ---- the parts

abbrev pub cell_lines : List ℕ → ℕ → List (List ℕ)
cell_lines initial n = joined (λ c. (cell_kind ∷ c ∷ 0 ∷ 0 ∷ get_or initial c 0 ∷ 0 ∷ []) ∷ []) n

abbrev pub task_lines : List Task → ℕ → List (List ℕ)
task_lines tasks n = joined (λ k. task_line (get_or tasks k unused_task) ∷ []) n

abbrev pub voted_line : List Bool → ℕ → List (List ℕ)
voted_line voted e = cond (get_or voted e false) (vote_line (vote_frame e) (vote_cell e) ∷ []) []

abbrev pub voted_lines : List Bool → ℕ → List (List ℕ)
voted_lines voted n = joined (voted_line voted) n

abbrev pub actuator_lines : List ℕ → ℕ → List (List ℕ)
actuator_lines table n = joined (λ i. (actuator_kind ∷ i ∷ get_or table i 0 ∷ 0 ∷ 0 ∷ 0 ∷ []) ∷ []) n

-- the lines of c cells, t tasks, the votes below entry e and a actuators
abbrev pub lines_to : Plan → ℕ → ℕ → ℕ → ℕ → List (List ℕ)
lines_to p c t e a =
    (header_line p ∷ [])
    ++ (cell_lines p.initial c ++ (task_lines p.tasks t ++ (voted_lines p.voted e ++ actuator_lines p.actuator_cell a)))

pub lines-whole : (p : Plan) → lines_of p ≡ lines_to p p.cells p.task_count (most_frames * most_cells) p.actuators
unfolding lines_of cell_line vote_lines actuator_line
lines-whole p = refl

-- ---- one entry more

joined-flat : {A : Type 0} (f : ℕ → List A) (m n : ℕ) → m ≤ n → ((k : ℕ) → m ≤ k → k < n → f k ≡ []) → joined f n ≡ joined f m
unfolding joined
joined-flat f m zero l e = let z : m ≡ 0 = omega arith in rw z
joined-flat f m (suc n) l e =
    split (eqb m (suc n))
    (λ t. rw (eqb-true m (suc n) t))
    (λ t.
    let k : m ≤ n = omega (arith, eqb-false m (suc n) t) in
    rw (e n k (omega arith), append-nil (joined f n)) (joined-flat f m n k (λ i g h. e i g (omega arith))))

pub cells-line :
    (initial : List ℕ) (c v : ℕ) → c < length initial → cell_lines (set initial c v) (suc c) ≡ cell_lines initial c ++ ((cell_kind ∷ c ∷ 0 ∷ 0 ∷ v ∷ 0 ∷ []) ∷ [])
unfolding joined
cells-line initial c v l =
    let same = joined_same (λ i. (cell_kind ∷ i ∷ 0 ∷ 0 ∷ get_or (set initial c v) i 0 ∷ 0 ∷ []) ∷ []) (λ i. (cell_kind ∷ i ∷ 0 ∷ 0 ∷ get_or initial i 0 ∷ 0 ∷ []) ∷ []) c (λ i h. rw (get_or-set_other initial c i v 0 (omega arith))) in
    rw (same, get_or-set_same initial c v 0 l)

pub tasks-line : (tasks : List Task) (t : ℕ) (x : Task) → t < length tasks → task_lines (set tasks t x) (suc t) ≡ task_lines tasks t ++ (task_line x ∷ [])
unfolding joined
tasks-line tasks t x l =
    let same = joined_same (λ k. task_line (get_or (set tasks t x) k unused_task) ∷ []) (λ k. task_line (get_or tasks k unused_task) ∷ []) t (λ i h. rw (get_or-set_other tasks t i x unused_task (omega arith))) in
    rw (same, get_or-set_same tasks t x unused_task l)

pub votes-line :
    (voted : List Bool) (e n : ℕ) → e ≤ n → n < length voted → ((x : ℕ) → e ≤ x → get_or voted x false ≡ false)
    → voted_lines (set voted n true) (suc n) ≡ voted_lines voted e ++ (vote_line (vote_frame n) (vote_cell n) ∷ [])
unfolding joined
votes-line voted e n l m f =
    let same = joined_same (voted_line (set voted n true)) (voted_line voted) n (λ i h. rw (get_or-set_other voted n i true false (omega arith))) in
    let flat = joined-flat (voted_line voted) e n l (λ x g h. rw (f x g)) in
    rw (same, flat, get_or-set_same voted n true false m)

pub actuators-line :
    (table : List ℕ) (a x : ℕ) → a < length table → actuator_lines (set table a x) (suc a) ≡ actuator_lines table a ++ ((actuator_kind ∷ a ∷ x ∷ 0 ∷ 0 ∷ 0 ∷ []) ∷ [])
unfolding joined
actuators-line table a x l =
    let same = joined_same (λ i. (actuator_kind ∷ i ∷ get_or (set table a x) i 0 ∷ 0 ∷ 0 ∷ 0 ∷ []) ∷ []) (λ i. (actuator_kind ∷ i ∷ get_or table i 0 ∷ 0 ∷ 0 ∷ 0 ∷ []) ∷ []) a (λ i h. rw (get_or-set_other table a i x 0 (omega arith))) in
    rw (same, get_or-set_same table a x 0 l)

-- no votes past an entry
pub votes-rest : (voted : List Bool) (e n : ℕ) → e ≤ n → ((x : ℕ) → e ≤ x → get_or voted x false ≡ false) → voted_lines voted n ≡ voted_lines voted e
votes-rest voted e n l f = joined-flat (voted_line voted) e n l (λ x g h. rw (f x g))

-- ---- the text of the parts

abbrev pub vote_row : List Bool → ℕ → List ℕ
vote_row voted e = cond (get_or voted e false) (row widths (vote_line (vote_frame e) (vote_cell e))) []

written-voted : (b : Bool) (l : List ℕ) → written (cond b (l ∷ []) []) ≡ cond b (row widths l) []
written-voted true l = written_one l
written-voted false l = written_none

pub written-voted_lines : (voted : List Bool) (n : ℕ) → written (voted_lines voted n) ≡ joined (vote_row voted) n
written-voted_lines voted n =
    written-joined (voted_line voted) n
    ∙ joined_same (λ e. written (voted_line voted e)) (vote_row voted) n (λ e l. written-voted (get_or voted e false) (vote_line (vote_frame e) (vote_cell e)))

-- the text of a plan, part by part
pub text-parts :
    (p : Plan)
    → plan_text p
    ≡ row widths (header_line p)
    ++ (joined (λ c. row widths (cell_kind ∷ c ∷ 0 ∷ 0 ∷ get_or p.initial c 0 ∷ 0 ∷ [])) p.cells
    ++ (joined (λ k. row widths (task_line (task_at p k))) p.task_count
    ++ (joined (λ e. cond (get_or p.voted e false) (row widths (vote_line (vote_frame e) (vote_cell e))) []) (most_frames * most_cells)
    ++ joined (λ i. row widths (actuator_kind ∷ i ∷ get_or p.actuator_cell i 0 ∷ 0 ∷ 0 ∷ 0 ∷ [])) p.actuators)))
unfolding plan_text
text-parts p =
    rw (lines-whole p, written-append, written_one, written-append, written-append, written-append)
    (rw (written-each (λ c. cell_kind ∷ c ∷ 0 ∷ 0 ∷ get_or p.initial c 0 ∷ 0 ∷ []) p.cells, written-each (λ k. task_line (task_at p k)) p.task_count, written-voted_lines p.voted (most_frames * most_cells), written-each (λ i. actuator_kind ∷ i ∷ get_or p.actuator_cell i 0 ∷ 0 ∷ 0 ∷ 0 ∷ []) p.actuators))

-- ---- how many lines, and how long

-- the votes of the entries below n
abbrev pub votes_below : List Bool → ℕ → ℕ
votes_below voted n = how_many (λ e. get_or voted e false) n

one_each : {A : Type 0} (f : ℕ → A) (n : ℕ) → length (joined (λ i. f i ∷ []) n) ≡ n
one_each f n = joined_length (λ i. f i ∷ []) 1 (λ i. refl) n ∙ omega arith

if-length : {A : Type 0} (b : Bool) (x : List A) (w : ℕ) → length x ≡ w → length (cond b x []) ≡ w * cond b 1 0
if-length true x w e = e ∙ omega arith
if-length false x w e = omega arith

pub votes-count : (voted : List Bool) (n : ℕ) → length (voted_lines voted n) ≡ votes_below voted n
unfolding joined how_many
votes-count voted zero = refl
votes-count voted (suc n) =
    length-append (voted_lines voted n) (voted_line voted n)
    ∙ rw (votes-count voted n, if-length (get_or voted n false) (vote_line (vote_frame n) (vote_cell n) ∷ []) 1 refl) (omega arith)

pub lines-count : (p : Plan) (c t e a : ℕ) → length (lines_to p c t e a) ≡ 1 + c + t + votes_below p.voted e + a
lines-count p c t e a =
    let cs = cell_lines p.initial c in
    let ts = task_lines p.tasks t in
    let vs = voted_lines p.voted e in
    let xs = actuator_lines p.actuator_cell a in
    rw (length-append cs (ts ++ (vs ++ xs)), length-append ts (vs ++ xs), length-append vs xs, one_each (λ i. cell_kind ∷ i ∷ 0 ∷ 0 ∷ get_or p.initial i 0 ∷ 0 ∷ []) c, one_each (λ k. task_line (task_at p k)) t, votes-count p.voted e, one_each (λ i. actuator_kind ∷ i ∷ get_or p.actuator_cell i 0 ∷ 0 ∷ 0 ∷ 0 ∷ []) a)
    (omega arith)

pub rows-length : (f : ℕ → List ℕ) (n : ℕ) → length (joined (λ i. row widths (f i)) n) ≡ line_size * n
rows-length f n = joined_length (λ i. row widths (f i)) line_size (λ i. row-size (f i)) n ∙ omega arith

pub vote_rows-length : (voted : List Bool) (n : ℕ) → length (joined (vote_row voted) n) ≡ line_size * votes_below voted n
vote_rows-length voted n =
    ap length (sym (written-voted_lines voted n)) ∙ written-length (voted_lines voted n) ∙ ap (λ (k : ℕ). line_size * k) (votes-count voted n)

pub text-length :
    (p : Plan) → length (plan_text p) ≡ line_size * (1 + p.cells + p.task_count + how_many (λ e. get_or p.voted e false) (most_frames * most_cells) + p.actuators)
unfolding plan_text
text-length p =
    written-length (lines_of p)
    ∙ ap (λ (ls : List (List ℕ)). line_size * length ls) (lines-whole p)
    ∙ ap (λ (n : ℕ). line_size * n) (lines-count p p.cells p.task_count (most_frames * most_cells) p.actuators)

-- "The longest text has 617 lines, 35,169 bytes."
pub text-longest : (p : Plan) → well_formed p ≡ true → length (plan_text p) ≤ line_size * most_text_lines
text-longest p w =
    let s = shape_of p w in
    omega (arith, text-length p, s.cells-le, s.tasks-le, s.actuators-le, how_many-bound (λ e. get_or p.voted e false) (most_frames * most_cells))

-- a written text is of bytes
pub text-bytes : (p : Plan) (i : ℕ) → get_or (plan_text p) i 0 < 256
unfolding plan_text written
text-bytes p =
    let ls : List (List ℕ) = lines_of p in
    bytes-joined (λ k. row widths (get_or ls k [])) (length ls) (λ k. row-bytes widths (get_or ls k []))
