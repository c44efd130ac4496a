-- A refusal is fixed by its number and its line, and a call's by those of the first test that fails.
use Rattle.std.specs.Prelude.{Option, None, Some, unwrap_or, Result, Ok, Err, is_ok, IsErrAnd}
use Rattle.std.specs.Result.{result_err, result_unwrap_or}
use mathlib.Core.Path.{◌≡◌, refl, sym, ap, ap₂, subst, ◌∙◌}
use mathlib.Core.Bool.{Bool, true, false, cond}
use mathlib.Core.List.{List, [], ◌∷◌}
use Prim.Native.Nat.{ℕ, ◌<◌}
use native.Mathlib.Omega.{arith}
use lib.Dec.{eqb}
use borrow.Author.Tests.{eqb-true}
use Rattle.answer.specs.declared.Refusal.{Refusal}
use Rattle.answer.specs.declared.Refusal.TheVariants.{
  TextLength,
  Malformed,
  Header,
  OutOfOrder,
  OutOfRange,
  Unrecoverable,
  InvalidPlan,
  WrongLength,
  MaskOrCount,
  RunLine,
  NodesOrLength,
  PageAccess,
}
use Rattle.answer.specs.Refusal.{number_of, line_of}
use Rattle.answer.specs.Tests.{refusal_of, Test, number_in, line_in, passed, refused, unless, given, if_passed}

split : {X : Type 0} (b : Bool) → (b ≡ true → X) → (b ≡ false → X) → X
split true f g = f refl
split false f g = g refl

-- ---- a refusal by its number and its line

pub refusal-back : (r : Refusal) → refusal_of (number_of r) (line_of r) ≡ Some r
refusal-back TextLength = refl
refusal-back (Malformed line) = refl
refusal-back Header = refl
refusal-back (OutOfOrder line) = refl
refusal-back (OutOfRange line) = refl
refusal-back Unrecoverable = refl
refusal-back InvalidPlan = refl
refusal-back WrongLength = refl
refusal-back MaskOrCount = refl
refusal-back (RunLine line) = refl
refusal-back NodesOrLength = refl
refusal-back PageAccess = refl

some-same : {a b : Refusal} → Some a ≡ Some b → a ≡ b
some-same {a} e = ap (λ o. unwrap_or o a) e

pub refusal-fixed : (a b : Refusal) → number_of a ≡ number_of b → line_of a ≡ line_of b → a ≡ b
refusal-fixed a b e f = some-same (sym (refusal-back a) ∙ ap₂ refusal_of e f ∙ refusal-back b)

-- ---- the refusal with a number has this number, which is not 0

abbrev Numbered : ℕ → Option Refusal → Type 0
Numbered n None = Unit {0}
Numbered n (Some a) = (number_of a ≡ n) × (0 < n)

first : (n k : ℕ) (a : Refusal) (rest : Option Refusal) → number_of a ≡ k → 0 < k → Numbered n rest → Numbered n (cond (eqb n k) (Some a) rest)
first n k a rest e l more = split (eqb n k) (λ t. let same : n ≡ k = eqb-true n k t in rw t (omega arith, omega arith)) (λ t. rw t more)

numbered : (n line : ℕ) → Numbered n (refusal_of n line)
numbered n line =
    first n 1 TextLength _ refl (omega arith)
    (first n 2 (Malformed line) _ refl (omega arith)
    (first n 3 Header _ refl (omega arith)
    (first n 4 (OutOfOrder line) _ refl (omega arith)
    (first n 5 (OutOfRange line) _ refl (omega arith)
    (first n 6 Unrecoverable _ refl (omega arith)
    (first n 7 InvalidPlan _ refl (omega arith)
    (first n 8 WrongLength _ refl (omega arith)
    (first n 9 MaskOrCount _ refl (omega arith)
    (first n 10 (RunLine line) _ refl (omega arith)
    (first n 11 NodesOrLength _ refl (omega arith)
    (first n 12 PageAccess None refl (omega arith) tt)))))))))))

-- ---- a call's tests

test-numbered : (t : Test) → (number_of t.refusal ≡ t.number) × (0 < t.number)
test-numbered t = subst (Numbered t.number) t.named (numbered t.number t.line)

-- number and line of a refusal that may be missing
abbrev pub number_given : Option Refusal → ℕ
number_given None = 0
number_given (Some r) = number_of r

abbrev pub line_given : Option Refusal → ℕ
line_given None = 0
line_given (Some r) = line_of r

pub refused-number : (ts : List Test) → number_given (refused ts) ≡ number_in ts
unfolding refused number_in
refused-number [] = refl
refused-number (t ∷ ts) = let later : number_given (refused ts) ≡ number_in ts = refused-number ts in split t.right (λ e. rw e later) (λ e. rw e (test-numbered t).0)

pub refused-line : (ts : List Test) → line_given (refused ts) ≡ line_in ts
unfolding refused line_in
refused-line [] = refl
refused-line (t ∷ ts) = let later : line_given (refused ts) ≡ line_in ts = refused-line ts in split t.right (λ e. rw e later) (λ e. rw e)

-- a call all of whose tests are passed is not refused, and every other is

pub refused-none : (ts : List Test) → passed ts ≡ true → refused ts ≡ None
unfolding passed refused
refused-none [] e = refl
refused-none (t ∷ ts) e =
    let later : passed ts ≡ true → refused ts ≡ None = refused-none ts in
    split t.right (λ r. rw r (later (rw r at e))) (λ r. absurd (clash (rw r at e)))
  where
    clash : false ≡ true → ⊥
    clash r = let z : ◌≡◌ {A = ℕ} 0 1 = cc in omega arith

pub refused-some : (ts : List Test) → passed ts ≡ false → (r : Refusal) × (refused ts ≡ Some r)
unfolding passed refused
refused-some [] e = absurd (clash e)
  where
    clash : true ≡ false → ⊥
    clash r = let z : ◌≡◌ {A = ℕ} 0 1 = cc in omega arith
refused-some (t ∷ ts) e =
    let later : passed ts ≡ false → (r : Refusal) × (refused ts ≡ Some r) = refused-some ts in
    split t.right (λ r. rw r (later (rw r at e))) (λ r. rw r (t.refusal, refl))

-- its number is not 0, which is that of no refusal

pub number-above : (r : Refusal) → 0 < number_of r
number-above TextLength = omega arith
number-above (Malformed line) = omega arith
number-above Header = omega arith
number-above (OutOfOrder line) = omega arith
number-above (OutOfRange line) = omega arith
number-above Unrecoverable = omega arith
number-above InvalidPlan = omega arith
number-above WrongLength = omega arith
number-above MaskOrCount = omega arith
number-above (RunLine line) = omega arith
number-above NodesOrLength = omega arith
number-above PageAccess = omega arith

pub refused-above : (ts : List Test) → passed ts ≡ false → 0 < number_given (refused ts)
refused-above ts e = let some = refused-some ts e in rw some.1 (number-above some.0)

-- ---- what a call gives

pub given-passed : {A : Type 0} (ts : List Test) (x : A) → passed ts ≡ true → given ts x ≡ Ok x
unfolding given unless
given-passed ts x e = rw (refused-none ts e)

-- the first test of those that all are passed
pub first-passed : {A : Type 0} (t : Test) (ts : List Test) (x y : A) → given (t ∷ ts) x ≡ Ok y → t.right ≡ true
unfolding given unless refused
first-passed t ts x y e = split t.right (λ r. r) (λ r. absurd (clash (ap is_ok (rw r at e))))
  where
    clash : false ≡ true → ⊥
    clash r = let z : ◌≡◌ {A = ℕ} 0 1 = cc in omega arith

-- one that is not passed refuses
pub given-refused : {A : Type 0} (t : Test) (ts : List Test) (x : A) → t.right ≡ false → given (t ∷ ts) x ≡ Err t.refusal
unfolding given unless refused
given-refused t ts x e = rw e

pub given-later : {A : Type 0} (t : Test) (ts : List Test) (x : A) → t.right ≡ true → given (t ∷ ts) x ≡ given ts x
unfolding given unless refused
given-later t ts x e = rw e

pub given-none : {A : Type 0} (x : A) → given [] x ≡ Ok x
unfolding given unless refused
given-none x = refl

-- its refusal is that of the tests, and a value that it gives is the one after them all

unless-err : {A : Type 0} (o : Option Refusal) (x : A) → result_err (unless o x) ≡ o
unfolding unless
unless-err None x = refl
unless-err (Some r) x = refl

pub given-err : {A : Type 0} (ts : List Test) (x : A) → result_err (given ts x) ≡ refused ts
unfolding given
given-err ts x = unless-err (refused ts) x

unless-value : {A : Type 0} (o : Option Refusal) (x : A) {y : A} → unless o x ≡ Ok y → y ≡ x
unfolding unless
unless-value None x {y} e = sym (ap (λ r. result_unwrap_or r y) e)
unless-value (Some r) x {y} e = sym (ap (λ q. result_unwrap_or q x) e)

pub given-value : {A : Type 0} (ts : List Test) (x : A) {y : A} → given ts x ≡ Ok y → y ≡ x
unfolding given
given-value ts x e = unless-value (refused ts) x e

-- another value is refused alike
unless-alike : {A B : Type 0} (o : Option Refusal) (x : A) (y : B) {r : Refusal} → unless o x ≡ Err r → unless o y ≡ Err r
unfolding unless
unless-alike None x y e = absurd (clash (ap is_ok e))
  where
    clash : true ≡ false → ⊥
    clash r = let z : ◌≡◌ {A = ℕ} 0 1 = cc in omega arith
unless-alike {A} {B} (Some q) x y e = ap moved e
  where
    moved : Result A Refusal → Result B Refusal
    moved (Ok z) = Err q
    moved (Err s) = Err s

pub given-alike : {A B : Type 0} (ts : List Test) (x : A) (y : B) {r : Refusal} → given ts x ≡ Err r → given ts y ≡ Err r
unfolding given
given-alike ts x y e = unless-alike (refused ts) x y e

-- what is lent stays beside a refusal

pub kept-refused : {A : Type 0} (t : Test) (ts : List Test) (new old : A) → t.right ≡ false → if_passed (t ∷ ts) new old ≡ old
unfolding if_passed passed
kept-refused t ts new old e = rw e

pub kept-later : {A : Type 0} (t : Test) (ts : List Test) (new old : A) → t.right ≡ true → if_passed (t ∷ ts) new old ≡ if_passed ts new old
unfolding if_passed passed
kept-later t ts new old e = rw e

-- what `?` hands on

pub handed-on : {A : Type 0} (o : Result A Refusal) {r : Refusal} → IsErrAnd o (λ e. e ≡ r) → o ≡ Err r
handed-on (Ok x) h = absurd h
handed-on (Err e) h = ap Err h
