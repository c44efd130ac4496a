-- Laws of values packed into the front of an array: they are those of the bins that hold something, and the vote and the plane see no difference.
use Rattle.std.specs.Prelude.{Option, None, Some}
use mathlib.Core.Path.{◌≡◌, refl, sym, ap, ◌∙◌}
use mathlib.Core.Bool.{cond}
use mathlib.Core.List.{List}
use Prim.Native.Nat.{ℕ, ◌+◌, ◌*◌, ◌≤◌, ◌<◌}
use native.Mathlib.Omega.{arith}
use native.Mathlib.Numerals.{add-one}
use lib.ListN.{length, get_or, set}
use lib.Seq.{get_or-set_same, get_or-set_other}
use lib.Dec.{ltb}
use borrow.Author.Tests.{ltb-true, ltb-false, lt-ltb, le-ltb}
use Rattle.array.specs.Index.{how_many}
use Rattle.array.proofs.TestLaws.{split}
use Rattle.ballot.specs.Majority.{holds, holders, backing, majority, agreement}
use Rattle.ballot.specs.Code.{packed, Packs}
use Rattle.ballot.proofs.MajorityLaws.{no-some, holders-same, majority-of-few, majority-by-holders}
use Rattle.ballot.proofs.ScanLaws.{holders-hit, holders-miss, holders-past}

module _ (values : List ℕ) (k j : ℕ) where
  pub packed-in : j < k → packed values k j ≡ Some (get_or values j 0)
  unfolding packed
  packed-in l = rw (lt-ltb j k l)

  pub packed-out : k ≤ j → packed values k j ≡ None
  unfolding packed
  packed-out l = rw (le-ltb j k l)

-- the first j of k values are counted, and the next is x or is not
module _ (values : List ℕ) (k j : ℕ) {x r : ℕ} (l : j < k) (h : r ≡ holders (packed values k) j x) where
  pub packed-hit : get_or values j 0 ≡ x → r + 1 ≡ holders (packed values k) (j + 1) x
  packed-hit e = holders-hit (packed values k) j (packed-in values k j l ∙ ap Some e) h

  pub packed-miss : (get_or values j 0 ≡ x → ⊥) → r ≡ holders (packed values k) (j + 1) x
  packed-miss e = holders-miss (packed values k) j (λ s. e (let o : Some (get_or values j 0) ≡ Some x = sym (packed-in values k j l) ∙ s in cc)) h

-- where too few hold each of the k values, there is no voted value
pub packed-few :
    (values : List ℕ) (k n : ℕ) →
    k ≤ n →
    ((j : ℕ) → j < k → 2 * holders (packed values k) k (get_or values j 0) ≤ n) →
    majority (packed values k) n ≡ None
packed-few values k n l few =
    majority-of-few (packed values k) n
    (λ j v h e.
    split (ltb j k)
    (λ t.
    let here : Some (get_or values j 0) ≡ Some v = sym (packed-in values k j (ltb-true j k t)) ∙ e in
    let is : get_or values j 0 ≡ v = cc in
    omega (arith, holders-past (packed values k) k n v l (packed-out values k), rw is at (few j (ltb-true j k t))))
    (λ t. absurd (no-some (sym (packed-out values k j (ltb-false j k t)) ∙ e))))

-- the first k values are those of the first j bins that hold something: each is there as often
abbrev pub Packed : (bin : ℕ → Option ℕ) (values : List ℕ) (k j : ℕ) → Type 0
Packed bin values k j = (v : ℕ) → holders (packed values k) k v ≡ holders bin j v

holders-more : (bin : ℕ → Option ℕ) (j v : ℕ) → holders bin (j + 1) v ≡ holders bin j v + cond (holds (bin j) v) 1 0
unfolding holders how_many
holders-more bin j v = rw (add-one j)

module _ (bin : ℕ → Option ℕ) (values : List ℕ) where
  pub packed_none : Packed bin values 0 0
  unfolding holders how_many
  packed_none v = refl

  pub packed-held : (k j w : ℕ) → k < length values → bin j ≡ Some w → Packed bin values k j → Packed bin (set values k w) (k + 1) (j + 1)
  packed-held k j w l e p v =
      rw (
        holders-more (packed (set values k w) (k + 1)) k v,
        holders-more bin j v,
        e,
        packed-in (set values k w) (k + 1) k (omega arith),
        get_or-set_same values k w 0 l,
        holders-same (packed (set values k w) (k + 1)) (packed values k) k v (λ i h.
            packed-in (set values k w) (k + 1) i (omega arith) ∙ ap Some (get_or-set_other values k i w 0 (omega arith)) ∙ sym (packed-in values k i h)),
        p v,
      )

  pub packed-silent : (k j : ℕ) → bin j ≡ None → Packed bin values k j → Packed bin values k (j + 1)
  packed-silent k j e p v = holders-miss bin j (λ s. no-some (sym e ∙ s)) (p v)

-- values that are packed: the vote sees no difference
module _ (bin : ℕ → Option ℕ) (n : ℕ) {values : List ℕ} {k : ℕ} (p : Packs bin n values k) where
  pub packs-majority : majority (packed values k) n ≡ majority bin n
  packs-majority =
      majority-by-holders (packed values k) bin n (λ v. sym (holders-past (packed values k) k n v p.few (packed-out values k)) ∙ p.alike v)

  backing-alike : (o : Option ℕ) → backing (packed values k) k o ≡ backing bin n o
  unfolding backing
  backing-alike None = refl
  backing-alike (Some v) = p.alike v

  -- what is counted of them, for what was voted
  pub packs-agreement : {voted : Option ℕ} {r : ℕ} → voted ≡ majority (packed values k) n → r ≡ backing (packed values k) k voted → r ≡ agreement bin n
  unfolding agreement
  packs-agreement {voted} v h = h ∙ backing-alike voted ∙ ap (backing bin n) (v ∙ packs-majority)

pub packs-same :
    (f g : ℕ → Option ℕ) (n : ℕ) → ((j : ℕ) → j < n → f j ≡ g j) → {values : List ℕ} {k : ℕ} → Packs f n values k → Packs g n values k
packs-same f g n e p = record { few = p.few; alike = λ v. p.alike v ∙ holders-same f g n v e }
