use borrow.Author.Tests.{ne_eqb}
use Rattle.std.proofs.Common.{inl, inr}
use Rattle.std.specs.Prelude.{◌≡◌, false, eqb}
use Rattle.plan_line.specs.declared.Kind.{Kind}
use Rattle.plan_line.specs.Code.{kind_number}
use Rattle.plan_line.specs.declared.Kind.TheVariants.{Take, Sum, Diff, Scale, Cam}
use Rattle.plan_line.proofs.KindLaws.{other-kind}
use Rattle.plan_grammar.specs.Refused.{task_zeros}
use Rattle.plan_line.proofs.task_zeros.Goals as goal

pub returns-in_default : goal.returns-in_default
unfolding task_zeros
returns-in_default c = rw (ne_eqb _ _ (c.in_default.ensures Take), ne_eqb _ _ (c.in_default.ensures Cam), ne_eqb _ _ (c.in_default.ensures Sum), ne_eqb _ _ (c.in_default.ensures Diff), ne_eqb _ _ (c.in_default.ensures Scale))

pub returns-in-Take : goal.returns-in-Take
unfolding task_zeros
returns-in-Take c = elim c.in-Take.is [ inl e ↦ rw (c.in-Some.ensures, e) | inr e ↦ rw (c.in-Some.ensures, e) ]

pub returns-in-Sum : goal.returns-in-Sum
unfolding task_zeros
returns-in-Sum c = elim c.in-Sum.is [ inl e ↦ rw (c.in-Some.ensures, e) | inr (inl e) ↦ rw (c.in-Some.ensures, e) | inr (inr e) ↦ rw (c.in-Some.ensures, e) ]

pub returns-in_default-kind : goal.returns-in_default-kind
unfolding task_zeros
returns-in_default-kind c = let other : (k : Kind) → (c.in-Some.kind ≡ k → ⊥) → eqb c.args.l.kind (kind_number k) ≡ false = λ k. other-kind c.args.l.kind k c.in-Some.ensures in rw (other Take c.in_default-kind.not-Take, other Cam c.in_default-kind.not-Cam, other Sum c.in_default-kind.not-Sum, other Diff c.in_default-kind.not-Diff, other Scale c.in_default-kind.not-Scale)
