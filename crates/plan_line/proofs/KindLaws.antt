-- What a line's kind says of its number.
use Rattle.std.specs.Prelude.{Option, None, Some, ◌≡◌, ℕ, true, false, cond, eqb, leb, ◌&&◌, unwrap_or}
use Rattle.std.proofs.Common.{refl, sym, ◌∙◌, ap, ◌⊎◌, inl, inr, arith}
use borrow.Author.Tests.{ne_eqb, leb-true}
use Rattle.array.proofs.TestLaws.{split, and_left, and_right}
use Rattle.plan_grammar.specs.Line.{is_task}
use Rattle.plan_line.specs.declared.Kind.{Kind}
use Rattle.plan_line.specs.declared.Kind.TheVariants.{Header, Cell, Take, Sum, Diff, Scale, Limit, Wind, Cam, Vote, Actuator}
use Rattle.plan_line.specs.Code.{KindOf, kind_number}

-- kinds with one number are one kind

numbered : ℕ → Option Kind
numbered n =
    cond (eqb n 0) (Some Header) (cond (eqb n 1) (Some Cell) (cond (eqb n 10) (Some Take) (cond (eqb n 11) (Some Sum) (cond (eqb n 12) (Some Diff) (cond (eqb n 13) (Some Scale)
    (cond (eqb n 14) (Some Limit) (cond (eqb n 15) (Some Wind) (cond (eqb n 16) (Some Cam) (cond (eqb n 20) (Some Vote) (cond (eqb n 30) (Some Actuator) None))))))))))

numbered-back : (k : Kind) → numbered (kind_number k) ≡ Some k
unfolding numbered
numbered-back Header = refl
numbered-back Cell = refl
numbered-back Take = refl
numbered-back Sum = refl
numbered-back Diff = refl
numbered-back Scale = refl
numbered-back Limit = refl
numbered-back Wind = refl
numbered-back Cam = refl
numbered-back Vote = refl
numbered-back Actuator = refl

-- a number that no kind, or another kind, has

pub kind-not : (n : ℕ) (o : Option Kind) (k : Kind) → KindOf n o → (o ≡ Some k → ⊥) → eqb n (kind_number k) ≡ false
kind-not n None k m f = ne_eqb _ _ (m k)
kind-not n (Some j) k m f = ne_eqb _ _ (λ e. f (sym (numbered-back j) ∙ ap numbered (sym m ∙ e) ∙ numbered-back k))

pub other-kind : (n : ℕ) {j : Kind} (k : Kind) → n ≡ kind_number j → (j ≡ k → ⊥) → eqb n (kind_number k) ≡ false
other-kind n {j} k m f = kind-not n (Some j) k m (λ e. f (ap (λ o. unwrap_or o j) e))

pub no-task : (n : ℕ) → ((k : Kind) → n ≡ kind_number k → ⊥) → is_task n ≡ false
unfolding is_task
no-task n f =
    split (leb 10 n && leb n 16)
    (λ t.
    let low = leb-true 10 n (and_left (leb 10 n) (leb n 16) t) in
    let high = leb-true n 16 (and_right (leb 10 n) (leb n 16) t) in
    absurd (omega (arith, low, high, f Take, f Sum, f Diff, f Scale, f Limit, f Wind, f Cam)))
    (λ t. t)

-- ---- the kinds of tasks

abbrev pub OfTask : Kind → Type 0
OfTask k = (k ≡ Take) ⊎ ((k ≡ Sum) ⊎ ((k ≡ Diff) ⊎ ((k ≡ Scale) ⊎ ((k ≡ Limit) ⊎ ((k ≡ Wind) ⊎ (k ≡ Cam))))))

pub of-task : (k : Kind) → OfTask k → (eqb (kind_number k) 1 ≡ false) × (is_task (kind_number k) ≡ true)
unfolding is_task
of-task k (inl e) = rw e (refl, refl)
of-task k (inr (inl e)) = rw e (refl, refl)
of-task k (inr (inr (inl e))) = rw e (refl, refl)
of-task k (inr (inr (inr (inl e)))) = rw e (refl, refl)
of-task k (inr (inr (inr (inr (inl e))))) = rw e (refl, refl)
of-task k (inr (inr (inr (inr (inr (inl e)))))) = rw e (refl, refl)
of-task k (inr (inr (inr (inr (inr (inr e)))))) = rw e (refl, refl)

-- ---- a line's kind, a take where it has none

pub taken-is : {n : ℕ} (o : Option Kind) {u : Kind} (k : Kind) → KindOf n o → u ≡ unwrap_or o Take → u ≡ k → (10 ≡ kind_number k → ⊥) → n ≡ kind_number k
taken-is None k m e f g = absurd (g (ap kind_number (sym e ∙ f)))
taken-is (Some j) k m e f g = m ∙ ap kind_number (sym e ∙ f)

pub taken-not : (n : ℕ) (o : Option Kind) {u : Kind} (k : Kind) → KindOf n o → u ≡ unwrap_or o Take → (u ≡ k → ⊥) → eqb n (kind_number k) ≡ false
taken-not n o k m e f = kind-not n o k m (λ s. f (e ∙ ap (λ v. unwrap_or v Take) s))
