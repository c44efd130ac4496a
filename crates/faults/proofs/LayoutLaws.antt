-- Laws of the parts of the fault bytes: their limits, one part filled, and what a buffer of parts that each hold one byte says of the bad nodes.
use mathlib.Core.Path.{◌≡◌, refl, sym, ap, ◌∙◌, subst}
use mathlib.Core.Bool.{Bool, true, false, not, cond, ◌&&◌}
use mathlib.Core.List.{List}
use Prim.Native.Nat.{ℕ, zero, suc, ◌+◌, ◌-◌, ◌*◌, ◌≤◌, ◌<◌}
use native.Mathlib.Omega.{arith}
use native.Mathlib.Nat.{mul-le-mul, le_refl}
use lib.Dec.{eqb, ltb}
use lib.ListN.{length, get_or, set, take, drop, replicate, length-take, length-replicate, get_or-replicate, get_or-eq_default}
use lib.Seq.{ext_get_or, get_or-take, get_or-drop, get_or-set_same, get_or-set_other, set-get_or}
use borrow.Author.Tests.{eqb-true, eqb-false, ltb-true, ltb-false, not-false}
use borrow.Rule.Slice.PartMut.{put_mid}
use Rattle.array.specs.Index.{fill}
use Rattle.array.specs.Bit.{bit}
use Rattle.array.specs.Code.{placed}
use Rattle.array.proofs.TestLaws.{split, and_left}
use Rattle.array.proofs.BitLaws.{bit-none}
use Rattle.array.proofs.LoopLaws.{stored_next, stored-still}
use Rattle.array.proofs.PlacesLaws.{fill-in, fill-length, fill-kept}
use Rattle.array.proofs.PlacedLaws.{placed-length, placed-in, placed-before, placed-after, part-back, part_length}
use Rattle.plan.specs.declared.Plan.{Plan}
use Rattle.plan.specs.declared.Sizes.{Sizes}
use Rattle.plan.specs.Limits.{most_nodes}
use Rattle.plan.specs.Sizes.{sizes_with, sizes_of}
use Rattle.plan.specs.Accepted.{accepted}
use Rattle.plan.proofs.AcceptedLaws.{Shape, shape-of-accepted}
use Rattle.memory.specs.Size.{bin_bytes}
use Rattle.memory.proofs.StepLaws.{bin-ends}
use Rattle.system.specs.Fault.{fault_size, faults_size, fault_at}
use Rattle.system.proofs.FaultLaws.{part_room}
use Rattle.faults.specs.Code.{Small, Parts, Held, BadHold}

-- ---- limits

pub small-of-shape : (p : Plan) → Shape p → Small (sizes_of p)
small-of-shape p h = record { nodes = h.nodes-high; cells = h.cells-le; actuators = h.actuators-le }

pub small-numbers : (p : Plan) → accepted p ≡ true → {r : ℕ} {s : Sizes} → s ≡ sizes_with p r → Small s
small-numbers p a {r} e =
    let h = shape-of-accepted p a in
    subst Small (sym e) (record { nodes = h.nodes-high; cells = h.cells-le; actuators = h.actuators-le })

-- the longest part: 258 + 7 × 258 + 64
abbrev pub most_part : ℕ
most_part = 2128

-- so many times a size
pub times-most : (n x k : ℕ) → n ≤ most_nodes → x ≤ k → n * x ≤ most_nodes * k
times-most n x k l m = mul-le-mul l m

module _ (s : Sizes) (h : Small s) where
  pub bins-most : (n : ℕ) → n ≤ most_nodes → n * bin_bytes s.cells ≤ 1806
  bins-most n l = times-most n (bin_bytes s.cells) 258 l (omega (arith, h.cells))

  pub part-most : fault_size s ≤ most_part
  part-most = omega (arith, h.cells, h.actuators, bins-most s.nodes h.nodes)

  pub at_most : (i : ℕ) → i ≤ most_nodes → fault_at s i ≤ 14896
  at_most i l = times-most i (fault_size s) most_part l part-most

  -- all parts, as the code's `MOST`
  pub most-enough : faults_size s ≤ 14896
  most-enough = at_most s.nodes h.nodes

-- ---- which parts lie in the bytes

pub parts_all : (s : Sizes) (mask len : ℕ) → faults_size s ≤ len → Parts s mask len
parts_all s mask len h j l b = omega (arith, part_room s j s.nodes l)

-- ---- one part filled

module _ (w : ℕ) (faults part : List ℕ) (j : ℕ) {a k : ℕ} (at : a ≡ j * w) (size : k ≡ w) (fits : j * w + w ≤ length faults) (long : length part ≡ w) where
  room : a + length part ≤ length faults
  room = omega arith

  lent_is : put_mid a k faults part ≡ placed faults a part
  lent_is = part-back faults part part a k refl (long ∙ sym size)

  lent_length : length (put_mid a k faults part) ≡ length faults
  lent_length = ap length lent_is ∙ placed-length faults a part room

  lent-here : (i : ℕ) → i < w → get_or (put_mid a k faults part) (j * w + i) 0 ≡ get_or part i 0
  lent-here i l =
      ap (λ (t : List ℕ). get_or t (j * w + i) 0) lent_is
      ∙ subst (λ (n : ℕ). get_or (placed faults a part) (n + i) 0 ≡ get_or part i 0) at (placed-in faults a part room i (omega arith))

  lent_other : (q i : ℕ) → (q ≡ j → ⊥) → i < w → get_or (put_mid a k faults part) (q * w + i) 0 ≡ get_or faults (q * w + i) 0
  lent_other q i ne l = ap (λ (t : List ℕ). get_or t (q * w + i) 0) lent_is ∙ by (ltb q j) refl
    where
      by : (b : Bool) → ltb q j ≡ b → get_or (placed faults a part) (q * w + i) 0 ≡ get_or faults (q * w + i) 0
      by true t = placed-before faults a part room (q * w + i) (omega (arith, bin-ends q w (ltb-true q j t) (le_refl (j * w))))
      by false t =
          let m : j ≤ q = ltb-false q j t in
          let n : j < q = omega (arith, ne) in
          let d : ℕ = q * w + i - (a + length part) in
          let e : a + length part + d ≡ q * w + i = omega (arith, bin-ends j w n (le_refl (q * w))) in
          subst (λ (n : ℕ). get_or (placed faults a part) n 0 ≡ get_or faults n 0) e (placed-after faults a part room d)

-- each of n parts of w bytes holds what `held` says
abbrev pub HeldBy : ℕ → ℕ → List ℕ → List ℕ → Type 0
HeldBy n w held faults = (j : ℕ) → j < n → (k : ℕ) → k < w → get_or faults (j * w + k) 0 ≡ get_or held j 0

pub held_same : (n w : ℕ) {held faults held' faults' : List ℕ} → HeldBy n w held faults → held' ≡ held → faults' ≡ faults → HeldBy n w held' faults'
held_same n w h e f j l k m = ap (λ (t : List ℕ). get_or t (j * w + k) 0) f ∙ h j l k m ∙ sym (ap (λ (t : List ℕ). get_or t j 0) e)

-- part j holds x then
module _ (n w : ℕ) (held faults part : List ℕ) (j x : ℕ) {a k : ℕ} (at : a ≡ j * w) (size : k ≡ w) (l : j < n) (m : length faults ≡ n * w) (e : part ≡ replicate (length (take k (drop a faults))) x) where
  fits : j * w + w ≤ length faults
  fits = rw m (bin-ends j w l (le_refl (n * w)))

  part-is : part ≡ replicate w x
  part-is = e ∙ ap (λ (i : ℕ). replicate i x) (part_length faults a k w size (omega (arith, fits)))

  long : length part ≡ w
  long = ap length part-is ∙ length-replicate w x

  pub filled-length : length (put_mid a k faults part) ≡ n * w
  filled-length = lent_length w faults part j at size fits long ∙ m

  pub filled-held : j < length held → HeldBy n w held faults → HeldBy n w (set held j x) (put_mid a k faults part)
  filled-held o h q p i r =
      split (eqb q j)
      (λ t. subst (λ (q : ℕ). get_or (put_mid a k faults part) (q * w + i) 0 ≡ get_or (set held j x) q 0) (sym (eqb-true q j t)) here)
      (λ t. lent_other w faults part j at size fits long q i (eqb-false q j t) r ∙ h q p i r ∙ sym (get_or-set_other held j q x 0 (eqb-false q j t)))
    where
      here : get_or (put_mid a k faults part) (j * w + i) 0 ≡ get_or (set held j x) j 0
      here = lent-here w faults part j at size fits long i r ∙ ap (λ (t : List ℕ). get_or t i 0) part-is ∙ get_or-replicate w i x 0 r ∙ sym (get_or-set_same held j x 0 o)

-- ---- what each part holds, as `hold` goes from node to node

module _ (mask x : ℕ) (held₀ : List ℕ) where
  abbrev pub held_now : ℕ → ℕ
  held_now j = cond (bit mask j) x (get_or held₀ j 0)

  pub held_none : (n : ℕ) → mask ≡ 0 → held₀ ≡ fill held_now n held₀
  unfolding fill
  held_none zero z = refl
  held_none (suc n) z =
      let e : held_now n ≡ get_or held₀ n 0 = rw (z, bit-none n) in
      sym (ap (λ (t : List ℕ). set t n (held_now n)) (sym (held_none n z)) ∙ ap (set held₀ n) e ∙ set-get_or held₀ n 0)

  module _ (j : ℕ) {held : List ℕ} {b : Bool} (e : held ≡ fill held_now j held₀) (f : b ≡ bit mask j) where
    pub held_next : (c : Bool) → (b && c) ≡ true → set held j x ≡ fill held_now (j + 1) held₀
    held_next c h = stored_next held_now j held₀ e (rw (sym f ∙ and_left b c h))

    pub held_kept : (b && not (eqb (get_or held j 0) x)) ≡ false → held ≡ fill held_now (j + 1) held₀
    held_kept h = e ∙ fill-kept held_now j held₀ 0 (split (bit mask j) (λ t. rw t (same t)) (λ t. rw t))
      where
        same : bit mask j ≡ true → x ≡ get_or held₀ j 0
        same t =
            let n : not (eqb (get_or held j 0) x) ≡ false = rw (f ∙ t) at h in
            sym (eqb-true (get_or held j 0) x (not-false (eqb (get_or held j 0) x) n)) ∙ stored-still held_now j held₀ e 0

-- ---- what a buffer says of the bad nodes

pub held-bad :
    (s : Sizes) (mask x : ℕ) (held held' faults : List ℕ) →
    held' ≡ fill (λ j. cond (bit mask j) x (get_or held j 0)) s.nodes held →
    length held ≡ most_nodes →
    s.nodes ≤ most_nodes →
    Held s held' faults →
    BadHold s mask faults x
held-bad s mask x held held' faults e n few h j l b k m =
    h j l k m
    ∙ ap (λ (t : List ℕ). get_or t j 0) e
    ∙ fill-in (held_now mask x held) s.nodes held j 0 l (omega arith)
    ∙ rw b

-- the bytes of a bad node's part are those of a buffer that holds x throughout
pub held-fills :
    (s : Sizes) (mask x : ℕ) (faults : List ℕ) →
    BadHold s mask faults x →
    (j k : ℕ) → j < s.nodes → bit mask j ≡ true → k < fault_size s →
    get_or faults (fault_at s j + k) 0 ≡ get_or (replicate (faults_size s) x) (fault_at s j + k) 0
held-fills s mask x faults h j k l b m =
    h j l b k m ∙ sym (get_or-replicate (faults_size s) (fault_at s j + k) x 0 (omega (arith, part_room s j s.nodes l)))

-- ---- a buffer of zeros

zero-at : (n i : ℕ) → ◌≡◌ {A = ℕ} (get_or (replicate n 0) i 0) 0
zero-at n i =
    split (ltb i n)
    (λ t. get_or-replicate n i 0 0 (ltb-true i n t))
    (λ t. get_or-eq_default (replicate n 0) 0 (omega (arith, ltb-false i n t, length-replicate {A = ℕ} n 0)))

zero_in : (n a k i : ℕ) → ◌≡◌ {A = ℕ} (get_or (take k (drop a (replicate n 0))) i 0) 0
zero_in n a k i =
    split (ltb i k)
    (λ t. get_or-take k (drop a (replicate n 0)) i 0 (ltb-true i k t) ∙ get_or-drop a (replicate n 0) i 0 ∙ zero-at n (a + i))
    (λ t. get_or-eq_default (take k (drop a (replicate n 0))) 0 (omega (arith, ltb-false i k t, length-take {A = ℕ} k (drop a (replicate n 0)))))

-- any part of it
pub held-zero : (s : Sizes) (n a k : ℕ) → Held s (replicate most_nodes 0) (take k (drop a (replicate n 0)))
held-zero s n a k j l i m = zero_in n a k (fault_at s j + i) ∙ sym (zero-at most_nodes j)
