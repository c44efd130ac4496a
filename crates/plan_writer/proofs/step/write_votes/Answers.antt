-- `plan_writer::step::write_votes` meets its contract: the loop has written the lines of the votes of the entries below e.
use mathlib.Core.Path.{◌≡◌, ap, ◌∙◌}
use mathlib.Core.Bool.{Bool, false}
use Prim.Native.Nat.{ℕ, ◌+◌, ◌*◌}
use native.Mathlib.Omega.{arith}
use lib.ListN.{get_or}
use borrow.Author.Rules.{rules}
use Rattle.array.specs.Index.{how_many}
use Rattle.array.proofs.IndexLaws.{how_many-none, how_many-hit, how_many-miss, how_many-grows}
use Rattle.plan_grammar.specs.Line.{line_size}
use Rattle.array.specs.Code.{placed}
use Rattle.plan_writer.proofs.WriterLaws.{vote_rows, votes-none, votes-size, votes-hit, votes-miss}
use Rattle.plan_writer.proofs.step.write_votes.Goals as goal
use Rattle.plan_writer.proofs.step.write_votes.Goals.{else-voted-e, then-voted-e}

pub loop-e-init : goal.loop-e-init
loop-e-init c =
    let q : ℕ → Bool = λ e. get_or c.args.voted.now e false in
    (search rules, omega (arith, how_many-none q), votes-none c.args.out.now c.args.from c.args.voted.now)

pub write_line-requires : goal.write_line-requires
write_line-requires c =
    let q : ℕ → Bool = λ e. get_or c.args.voted.now e false in
    let l = c.loop-e in
    let more = how_many-hit q l.e c.if-voted-e.true in
    let most = how_many-grows q (l.e + 1) 512 (omega arith) in
    (omega (arith, c.requires, votes-size c.args.out.now c.args.from c.args.voted.now l.e l.out l.invariant.2 (omega (arith, c.requires, how_many-grows q l.e 512 (omega arith)))), omega (arith, c.requires))

pub overflow_add-i : goal.overflow_add-i
overflow_add-i c =
    let q : ℕ → Bool = λ e. get_or c.args.voted.now e false in
    let l = c.loop-e in
    let more = how_many-hit q l.e c.if-voted-e.true in
    let most = how_many-grows q (l.e + 1) 512 (omega arith) in
    omega (arith, c.requires)

pub loop-e-preserved : goal.loop-e-preserved
loop-e-preserved c =
    let q : ℕ → Bool = λ e. get_or c.args.voted.now e false in
    let l = c.loop-e in
    elim c.if-voted-e.branch [ then-voted-e w ↦ (search rules, omega (arith, how_many-hit q l.e w.if-voted-e.true), votes-hit c.args.out.now c.args.from c.args.voted.now l.e l.out l.invariant.2 _ _ l.i (omega (arith, c.requires)) w.if-voted-e.true w.vote_line.ensures l.invariant.1 (w.out-is ∙ w.write_line.ensures)) | else-voted-e w ↦ (search rules, omega (arith, how_many-miss q l.e w.if-voted-e.false), w.out-is ∙ votes-miss c.args.out.now c.args.from c.args.voted.now l.e l.out l.invariant.2 w.if-voted-e.false) ]

pub shape_of-out : goal.shape_of-out
shape_of-out c =
    let q : ℕ → Bool = λ e. get_or c.args.voted.now e false in
    let l = c.loop-e in
    votes-size c.args.out.now c.args.from c.args.voted.now l.e l.out l.invariant.2 (omega (arith, c.requires, how_many-grows q l.e 512 (omega arith)))

pub returns : goal.returns
returns c =
    let q : ℕ → Bool = λ e. get_or c.args.voted.now e false in
    let l = c.loop-e in
    let d : l.e ≡ 512 = omega arith in
    (l.invariant.1 ∙ ap (λ (n : ℕ). c.args.from + how_many q n) d, l.invariant.2 ∙ ap (λ (n : ℕ). placed c.args.out.now (line_size * c.args.from) (vote_rows c.args.voted.now n)) d)
