-- `plan_line::op_of` meets its contract: one arm for each kind of task.
use Rattle.std.proofs.Common.{arith}
use Rattle.std.specs.Prelude.{◌≡◌, false, eqb}
use Rattle.plan_line.specs.declared.Kind.{Kind}
use Rattle.plan_line.specs.Code.{kind_number}
use Rattle.plan_line.specs.declared.Kind.TheVariants.{Sum, Diff, Scale, Limit, Wind, Cam}
use Rattle.plan_line.proofs.KindLaws.{taken-is, taken-not}
use Rattle.plan_grammar.specs.Meant.{op_of}
use Rattle.plan_line.proofs.op_of.Goals as goal

pub returns-in-Sum : goal.returns-in-Sum
unfolding op_of
returns-in-Sum c = rw (taken-is c.of.result Sum c.of.ensures c.unwrap_or.ensures c.in-Sum.is (λ e. omega (arith, e)))

pub returns-in-Diff : goal.returns-in-Diff
unfolding op_of
returns-in-Diff c = rw (taken-is c.of.result Diff c.of.ensures c.unwrap_or.ensures c.in-Diff.is (λ e. omega (arith, e)))

pub returns-in-Scale : goal.returns-in-Scale
unfolding op_of
returns-in-Scale c = rw (taken-is c.of.result Scale c.of.ensures c.unwrap_or.ensures c.in-Scale.is (λ e. omega (arith, e)), ← c.value.ensures)

pub returns-in-Limit : goal.returns-in-Limit
unfolding op_of
returns-in-Limit c = rw (taken-is c.of.result Limit c.of.ensures c.unwrap_or.ensures c.in-Limit.is (λ e. omega (arith, e)), ← c.value-in-Limit.ensures, ← c.value-in-Limit-2.ensures)

pub returns-in-Wind : goal.returns-in-Wind
unfolding op_of
returns-in-Wind c = rw (taken-is c.of.result Wind c.of.ensures c.unwrap_or.ensures c.in-Wind.is (λ e. omega (arith, e)), ← c.value-rate.ensures, ← c.value-cap.ensures)

pub returns-in-Cam : goal.returns-in-Cam
unfolding op_of
returns-in-Cam c = rw (taken-is c.of.result Cam c.of.ensures c.unwrap_or.ensures c.in-Cam.is (λ e. omega (arith, e)))

pub returns-in_default : goal.returns-in_default
unfolding op_of
returns-in_default c = let other : (k : Kind) → (c.unwrap_or.result ≡ k → ⊥) → eqb c.args.l.kind (kind_number k) ≡ false = λ k. taken-not c.args.l.kind c.of.result k c.of.ensures c.unwrap_or.ensures in rw (other Sum c.in_default.not-Sum, other Diff c.in_default.not-Diff, other Scale c.in_default.not-Scale, other Limit c.in_default.not-Limit, other Wind c.in_default.not-Wind, other Cam c.in_default.not-Cam)
