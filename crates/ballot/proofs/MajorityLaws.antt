-- Laws of the majority: it is the value that more than half hold, wherever that value stands among the bins.
use Rattle.std.specs.Prelude.{Option, None, Some}
use mathlib.Core.Path.{◌≡◌, refl, sym, ap, ◌∙◌}
use mathlib.Core.Bool.{Bool, true}
use mathlib.Core.Logic.{◌⊎◌, inl, inr, ⊎_elim}
use Prim.Native.Nat.{ℕ, zero, suc, ◌*◌, ◌≤◌, ◌<◌}
use native.Mathlib.Omega.{arith}
use native.Mathlib.Nat.{not-suc-le-zero}
use lib.Dec.{eqb, ltb}
use borrow.Author.Tests.{ltb-true, ltb-false, eqb-true, eqb-false, eq-eqb}
use Rattle.array.specs.Index.{how_many}
use Rattle.array.proofs.TestLaws.{split, clash}
use Rattle.array.proofs.IndexLaws.{how_many-le, how_many-apart, how_many-some}
use Rattle.ballot.specs.Majority.{holds, holders, backing, shared, first_some, first_shared, majority}

-- ---- a bin holds a value, or nothing

pub no-some : {v : ℕ} → ◌≡◌ {A = Option ℕ} None (Some v) → ⊥
no-some e = let z : ◌≡◌ {A = ℕ} 0 1 = cc in omega arith

pub holds-true : (o : Option ℕ) (v : ℕ) → holds o v ≡ true → o ≡ Some v
unfolding holds
holds-true None v e = absurd (clash e refl)
holds-true (Some w) v e = ap Some (eqb-true w v e)

pub some_holds : {o : Option ℕ} (v : ℕ) → o ≡ Some v → holds o v ≡ true
unfolding holds
some_holds v e = rw e (eq-eqb v v refl)

-- ---- how many hold a value

pub holders-least :
    (work : ℕ → Bool) (bin : ℕ → Option ℕ) (n v : ℕ) →
    ((j : ℕ) → j < n → work j ≡ true → bin j ≡ Some v) →
    how_many work n ≤ holders bin n v
unfolding holders
holders-least work bin n v e = how_many-le work (λ j. holds (bin j) v) n (λ j l w. some_holds v (e j l w))

pub holders-same : (f g : ℕ → Option ℕ) (n v : ℕ) → ((j : ℕ) → j < n → f j ≡ g j) → holders f n v ≡ holders g n v
unfolding holders how_many
holders-same f g zero v e = refl
holders-same f g (suc n) v e = rw (holders-same f g n v (λ j l. e j (omega arith)), e n (omega arith))

pub backing-same : (f g : ℕ → Option ℕ) (n : ℕ) → ((j : ℕ) → j < n → f j ≡ g j) → (o : Option ℕ) → backing f n o ≡ backing g n o
unfolding backing
backing-same f g n e None = refl
backing-same f g n e (Some v) = holders-same f g n v e

pub holders-some : (bin : ℕ → Option ℕ) (n v : ℕ) → 0 < holders bin n v → (j : ℕ) × (j < n) × (bin j ≡ Some v)
unfolding holders
holders-some bin n v h = let r = how_many-some (λ j. holds (bin j) v) n h in (r.0, r.1, holds-true (bin r.0) v r.2)

-- ---- the first shared value

or_some : (o r : Option ℕ) (v : ℕ) → first_some o r ≡ Some v → (o ≡ Some v) ⊎ (r ≡ Some v)
or_some None r v e = inr e
or_some (Some w) r v e = inl e

or-none : (o r : Option ℕ) → first_some o r ≡ None → (o ≡ None) × (r ≡ None)
or-none None r e = (refl, e)
or-none (Some w) r e = absurd (no-some (sym e))

module _ (bin : ℕ → Option ℕ) (n : ℕ) where
  shared-some : (o : Option ℕ) (v : ℕ) → shared bin n o ≡ Some v → n < 2 * holders bin n v
  unfolding shared
  shared-some None v = λ e. absurd (no-some e)
  shared-some (Some w) v =
      split (ltb n (2 * holders bin n w))
      (λ t. rw t (λ e. let s : w ≡ v = cc in rw s at (ltb-true n (2 * holders bin n w) t)))
      (λ t. rw t (λ e. absurd (no-some e)))

  shared-few : (v : ℕ) → shared bin n (Some v) ≡ None → 2 * holders bin n v ≤ n
  unfolding shared
  shared-few v =
      split (ltb n (2 * holders bin n v))
      (λ t. rw t (λ e. absurd (no-some (sym e))))
      (λ t. rw t (λ e. ltb-false n (2 * holders bin n v) t))

  found : (i v : ℕ) → first_shared bin n i ≡ Some v → n < 2 * holders bin n v
  unfolding first_shared
  found zero v e = absurd (no-some e)
  found (suc i) v e = ⊎_elim (found i v) (shared-some (bin i) v) (or_some _ _ v e)

  missed : (i : ℕ) → first_shared bin n i ≡ None → (j v : ℕ) → j < i → bin j ≡ Some v → 2 * holders bin n v ≤ n
  unfolding first_shared
  missed zero e j v l b = absurd (not-suc-le-zero l)
  missed (suc i) e j v l b =
      let c = or-none _ _ e in
      split (eqb j i)
      (λ t. shared-few v (rw (sym b, eqb-true j i t) c.1))
      (λ t. missed i c.0 j v (omega (arith, eqb-false j i t)) b)

  -- more than half hold a voted value
  pub majority-some : (v : ℕ) → majority bin n ≡ Some v → n < 2 * holders bin n v
  unfolding majority
  majority-some v e = found n v e

  -- with no voted value, no value is held by more than half
  pub majority-none : majority bin n ≡ None → (v : ℕ) → 2 * holders bin n v ≤ n
  unfolding majority
  majority-none e v =
      split (ltb 0 (holders bin n v))
      (λ t. let r = holders-some bin n v (ltb-true _ _ t) in missed n e r.0 v r.1 r.2)
      (λ t. omega (arith, ltb-false 0 (holders bin n v) t))

  -- two values that more than half hold are one
  pub majority-unique : (v w : ℕ) → n < 2 * holders bin n v → n < 2 * holders bin n w → v ≡ w
  unfolding holders
  majority-unique v w a b =
      split (eqb v w) (eqb-true v w)
      (λ t.
      absurd (omega (
        arith,
        how_many-apart (λ j. holds (bin j) v) (λ j. holds (bin j) w) n
            (λ j x y. let s : Some v ≡ Some w = sym (holds-true (bin j) v x) ∙ holds-true (bin j) w y in eqb-false v w t (cc)),
      )))

  -- and such a value is the voted one, wherever it stands
  pub majority-of-most : (v : ℕ) → n < 2 * holders bin n v → majority bin n ≡ Some v
  majority-of-most v h = by (majority bin n) refl
    where
      by : (o : Option ℕ) → majority bin n ≡ o → majority bin n ≡ Some v
      by None e = absurd (omega (arith, majority-none e v))
      by (Some w) e = e ∙ ap Some (majority-unique w v (majority-some w e) h)

  -- where too few hold each bin's value, there is no voted value
  pub majority-of-few : ((j v : ℕ) → j < n → bin j ≡ Some v → 2 * holders bin n v ≤ n) → majority bin n ≡ None
  majority-of-few h = by (majority bin n) refl
    where
      by : (o : Option ℕ) → majority bin n ≡ o → majority bin n ≡ None
      by None e = e
      by (Some v) e =
          let most = majority-some v e in
          let r = holders-some bin n v (omega arith) in
          absurd (omega (arith, h r.0 v r.1 r.2))

-- ---- two rows of bins

-- the vote sees only how many hold each value
pub majority-by-holders : (b d : ℕ → Option ℕ) (n : ℕ) → ((v : ℕ) → holders b n v ≡ holders d n v) → majority b n ≡ majority d n
majority-by-holders b d n h = by (majority d n) refl
  where
    by : (o : Option ℕ) → majority d n ≡ o → majority b n ≡ majority d n
    by None e = majority-of-few b n (λ j v l o. omega (arith, majority-none d n e v, h v)) ∙ sym e
    by (Some v) e = majority-of-most b n v (omega (arith, majority-some d n v e, h v)) ∙ sym e

pub majority-same : (f g : ℕ → Option ℕ) (n : ℕ) → ((j : ℕ) → j < n → f j ≡ g j) → majority f n ≡ majority g n
majority-same f g n e = majority-by-holders f g n (λ v. holders-same f g n v e)

-- what more than half sent is heard, whatever the others send
pub majority-heard :
    (part all : ℕ → Option ℕ) (n x : ℕ) →
    ((j v : ℕ) → j < n → part j ≡ Some v → all j ≡ Some v) →
    majority part n ≡ Some x →
    majority all n ≡ Some x
unfolding holders
majority-heard part all n x h e =
    majority-of-most all n x
    (omega (arith, majority-some part n x e, holders-least (λ j. holds (part j) x) all n x (λ j l t. h j x l (holds-true (part j) x t))))
