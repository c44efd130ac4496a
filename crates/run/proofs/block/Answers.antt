-- `run::block` meets its contract.
use Rattle.std.specs.Prelude.{Option, is_some, is_none}
use mathlib.Core.Path.{◌≡◌, ap, ◌∙◌, subst}
use mathlib.Core.Bool.{Bool, true, false, not, ◌&&◌}
use mathlib.Core.List.{List}
use Prim.Native.Nat.{ℕ, ◌-◌, ◌*◌, ◌≤◌}
use native.Mathlib.Omega.{arith}
use lib.ListN.{length, take, length-take}
use Rattle.answer.specs.declared.Refusal.{Refusal}
use Rattle.run_line.specs.Line.{run_line_size}
use Rattle.lines.specs.declared.Run.{Run}
use Rattle.lines.specs.Code.{block_lines, lines_answer}
use Rattle.lines.specs.Blocks.{LaidBlock}
use Rattle.run.proofs.block.Goals as goal

part-few : (l : List ℕ) (k n m : ℕ) → length l ≡ n → n ≤ m → length (take k l) ≤ m
part-few l k n m e f = omega (arith, length-take k l)

-- what was read is the front of the input
read-laid : (r : Run) (input out : List ℕ) (n count : ℕ) (left : Run) → LaidBlock r (take (n - 0) input) out count left → LaidBlock r (take n input) out count left
read-laid r input out n count left h = let z : n - 0 ≡ n = omega arith in subst (λ (k : ℕ). LaidBlock r (take k input) out count left) z h

not-back : (a : Bool) {s : Bool} → s ≡ not a → a ≡ not s
not-back true e = rw e
not-back false e = rw e

read_more : (r : Run) (input : List ℕ) (n : ℕ) {o : Option Refusal} (a b : Bool) → is_some o ≡ not a → o ≡ (lines_answer r (take (n - 0) input)).refused → (a && b) ≡ (is_none (lines_answer r (take n input)).refused && b)
read_more r input n a b e f =
    let z : n - 0 ≡ n = omega arith in
    ap (λ (k : Bool). k && b) (not-back a e ∙ ap is_none f ∙ ap (λ (k : ℕ). is_none (lines_answer r (take k input)).refused) z)

pub listed-r-requires : goal.listed-r-requires
listed-r-requires g c =
    let q = c.requires in
    let a = c.args in
    (q.0, q.1, q.2, part-few c.read_full-got.new.buffer (c.read_full-got.result - 0) (length a.input.now) (block_lines * run_line_size a.run.plan.sensors) c.read_full-got.auto.buffer q.3, q.4, q.5, q.6, q.7)

pub returns : goal.returns
returns g c = (
  c.read_full-got.auto.buffer,
  c.read_full-got.ensures.count,
  read-laid c.args.run c.read_full-got.new.buffer _ c.read_full-got.result _ _ c.listed-r.ensures.1,
  read_more c.args.run c.read_full-got.new.buffer c.read_full-got.result _ _ c.is_none.ensures c.listed-r.ensures.0,
  c.listed-r.ensures.2,
  c.listed-r.auto.faults,
  c.listed-r.ensures.3,
  c.listed-r.auto.out,
)
