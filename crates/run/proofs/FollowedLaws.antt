-- What the blocks of a run print, one after another, is the listing of what was read.
use Rattle.std.specs.Prelude.{None, is_none}
use mathlib.Core.Path.{◌≡◌, refl, sym, ap, ◌∙◌}
use mathlib.Core.Bool.{false}
use mathlib.Core.List.{List, ◌++◌, append_assoc, append-nil}
use Prim.Native.Nat.{ℕ}
use Rattle.array.proofs.TestLaws.{split, clash}
use Rattle.run_line.specs.Listing.{line_left, run_listing, printed}
use Rattle.lines.specs.declared.Run.{Run}
use Rattle.lines.specs.Code.{lines_answer}
use Rattle.lines.specs.Blocks.{block_listing}
use Rattle.lines.proofs.BlockLaws.{run-split}
use Rattle.run.specs.Followed.{Passed, nothing, further, Followed}

-- a block of which no line is refused has none left
none_left : (r : Run) (block : List ℕ) → (lines_answer r block).refused ≡ None → line_left r.plan r.system r.single r.frame block ≡ false
unfolding lines_answer
none_left r block e = split (line_left r.plan r.system r.single r.frame block) (λ t. absurd (clash (ap is_none (rw t at e)) refl)) (λ t. t)

block-printed : (r : Run) (block : List ℕ) → (lines_answer r block).refused ≡ None → block_listing r block ≡ printed r.plan r.system r.single r.frame block
unfolding run_listing
block-printed r block e = rw (none_left r block e) (append-nil (printed r.plan r.system r.single r.frame block))

block-then : (r : Run) (block more : List ℕ) → (lines_answer r block).refused ≡ None → block_listing r (block ++ more) ≡ block_listing r block ++ block_listing (lines_answer r block).run more
unfolding lines_answer
block-then r block more e =
    run-split r.plan r.system r.single r.frame block more (none_left r block e)
    ∙ ap (λ (l : List ℕ). l ++ block_listing (lines_answer r block).run more) (sym (block-printed r block e))

passed_then :
    {start : Run} {read printed : List ℕ} {r : Run} → Passed start read printed r → (more : List ℕ) → block_listing start (read ++ more) ≡ printed ++ block_listing r more
passed_then {start} nothing more = refl
passed_then {start} (further {read} {printed} {r} p block e) more =
    ap (block_listing start) (append_assoc read block more)
    ∙ passed_then p (block ++ more)
    ∙ ap (λ (l : List ℕ). printed ++ l) (block-then r block more e)
    ∙ sym (append_assoc printed (block_listing r block) (block_listing (lines_answer r block).run more))

pub followed-listing :
    {start left : Run} (f : Followed start left) →
    block_listing start (f.reached.read ++ f.last) ≡ f.reached.printed ++ block_listing f.before f.last
followed-listing f = passed_then f.reached.passed f.last
