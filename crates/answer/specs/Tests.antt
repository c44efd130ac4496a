-- The tests of a call, in the paper's order and by the paper's numbers: what it gives follows from the first that fails.
-- Document 01: "A refusal gives its number and a line from 1; 0 where no line is meant."
use Rattle.std.specs.Prelude.{◌≡◌, refl, Bool, true, cond, ◌&&◌, List, [], ◌∷◌, ℕ, eqb, Option, None, Some, Result, Ok, Err}
use Rattle.answer.specs.Refusal.{line_of}
use Rattle.answer.specs.declared.Refusal.{Refusal}
use Rattle.answer.specs.declared.Refusal.TheVariants.{
  TextLength,
  Malformed,
  Header,
  OutOfOrder,
  OutOfRange,
  Unrecoverable,
  InvalidPlan,
  WrongLength,
  MaskOrCount,
  RunLine,
  NodesOrLength,
  PageAccess,
}

-- ---- the refusal with a number, of a line where it has one: `number_of` and `line_of` the other way round; no other number has one

abbrev pub refusal_of : ℕ → ℕ → Option Refusal
refusal_of number line =
    cond (eqb number 1) (Some TextLength)
    (cond (eqb number 2) (Some (Malformed line))
    (cond (eqb number 3) (Some Header)
    (cond (eqb number 4) (Some (OutOfOrder line))
    (cond (eqb number 5) (Some (OutOfRange line))
    (cond (eqb number 6) (Some Unrecoverable)
    (cond (eqb number 7) (Some InvalidPlan)
    (cond (eqb number 8) (Some WrongLength)
    (cond (eqb number 9) (Some MaskOrCount)
    (cond (eqb number 10) (Some (RunLine line))
    (cond (eqb number 11) (Some NodesOrLength)
    (cond (eqb number 12) (Some PageAccess) None)))))))))))

-- ---- a test: its refusal, by number and line, and whether it is passed

pub record Test : Type 0 where
  pub number : ℕ
  pub line : ℕ
  pub refusal : Refusal
  pub named : refusal_of number line ≡ Some refusal
  pub right : Bool

-- a number that no refusal has gives nothing that could stand in a list of tests
abbrev pub TestOf : Option Refusal → Type 0
TestOf None = Unit {0}
TestOf (Some refusal) = Test

abbrev pub test_of : (number line : ℕ) (refusal : Option Refusal) → refusal_of number line ≡ refusal → Bool → TestOf refusal
test_of number line None e right = tt
test_of number line (Some refusal) e right = record { number = number; line = line; refusal = refusal; named = e; right = right }

abbrev pub test_at : (number line : ℕ) → Bool → TestOf (refusal_of number line)
test_at number line right = test_of number line (refusal_of number line) refl right

-- one whose refusal has no line
abbrev pub test : (number : ℕ) → Bool → TestOf (refusal_of number 0)
test number right = test_at number 0 right

-- number and line of the first that is not passed; 0 and 0 where all are
unfoldable pub number_in : List Test → ℕ
number_in [] = 0
number_in (t ∷ ts) = cond t.right (number_in ts) t.number

unfoldable pub line_in : List Test → ℕ
line_in [] = 0
line_in (t ∷ ts) = cond t.right (line_in ts) (line_of t.refusal)

unfoldable pub passed : List Test → Bool
passed [] = true
passed (t ∷ ts) = t.right && passed ts

-- a call's refusal; none where all are passed
unfoldable pub refused : List Test → Option Refusal
refused [] = None
refused (t ∷ ts) = cond t.right (refused ts) (Some t.refusal)

-- a value, or the refusal in its place
unfoldable pub unless : {A : Type 0} → Option Refusal → A → Result A Refusal
unless None value = Ok value
unless (Some r) value = Err r

-- what a call gives
unfoldable pub given : {A : Type 0} → List Test → A → Result A Refusal
given ts value = unless (refused ts) value

-- what it leaves of a thing that it is lent
unfoldable pub if_passed : {A : Type 0} → List Test → A → A → A
if_passed ts new old = cond (passed ts) new old
