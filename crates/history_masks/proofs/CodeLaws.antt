-- Laws of the masks so far as one number: who is bad among them, one mask more, the bytes of the histories that go on from them.
use mathlib.Core.Path.{◌≡◌, refl, sym, ap, ap₂, ◌∙◌}
use mathlib.Core.Bool.{Bool, true, false, not, cond, ◌&&◌, ◌||◌, and-true}
use mathlib.Core.List.{List, [], ◌∷◌, ◌++◌, map, append_assoc, append-nil, map-append, flatten}
use Prim.Native.Nat.{ℕ, zero, suc, ◌+◌, ◌-◌, ◌*◌, ◌/◌, ◌%◌, ◌^◌, ◌≤◌, ◌<◌}
use native.Mathlib.Omega.{arith}
use native.Mathlib.Nat.{le_trans, pow-suc, pow-zero, one-le-pow}
use native.Mathlib.Numerals.{add-one}
use lib.Bits.{bit_or, or_lt, or_zero_r}
use lib.Count.{ones}
use lib.Dec.{eqb, ltb, lit<, lit≤}
use lib.ListN.{length, take, set, length-append, length-map}
use borrow.Author.Tests.{lt-ltb, le-ltb, ltb-true, ltb-false, eqb-true, eqb-false, not-false}
use Rattle.array.specs.Index.{how_many, joined, all_in}
use Rattle.array.specs.Bit.{bit}
use Rattle.array.specs.Code.{placed}
use Rattle.array.specs.Word.{bytes}
use Rattle.array.proofs.TestLaws.{split, and_left, and_right, and_both}
use Rattle.array.proofs.IndexLaws.{how_many-none, how_many-hit, how_many-miss, how_many-same}
use Rattle.array.proofs.BitLaws.{bit-or, bit-none, ones-clear}
use Rattle.array.proofs.PlacesLaws.{joined-none, joined-more}
use Rattle.array.proofs.PlacedLaws.{placed-none, placed-next, placed-before-last}
use Rattle.array.proofs.WordLaws.{bytes-length}
use Rattle.system.specs.Demand.{good_in}
use Rattle.history_masks.specs.Histories.{works_after, most_work, histories}
use Rattle.history_masks.specs.Limits.{most_history_nodes, most_history_frames}
use Rattle.history_masks.specs.Code.{histories_after, past_of, bad_in, Most, HoldsMasks, bytes_after, last_bytes}
use Rattle.history_masks.proofs.BoundLaws.{joined-grows, histories-few, found-few}
use Rattle.history_masks.proofs.HistoryLaws.{works-good, going_on, found_below, found-hit, found-miss, histories-end, histories-step}

-- ---- one mask more

module _ (x mask : ℕ) (m : mask < 256) where
  upper : (x * 256 + mask) / 256 ≡ x
  upper = omega arith

  lower : (x * 256 + mask) % 256 ≡ mask
  lower = omega arith

  pub past_more : (d : ℕ) → past_of (d + 1) (x * 256 + mask) ≡ mask ∷ past_of d x
  unfolding past_of
  past_more d = rw (add-one d, upper, lower)

  bytes-more : (d : ℕ) → bytes (d + 1) (x * 256 + mask) ≡ bytes d x ++ (mask ∷ [])
  unfolding bytes
  bytes-more d = rw (add-one d, upper, lower)

pub masks-none : (nodes : ℕ) → HoldsMasks nodes 0 0
unfolding past_of all_in
masks-none nodes = record { fits = omega arith; each = refl }

pub masks-more : (nodes d x mask : ℕ) → HoldsMasks nodes d x → mask < 2 ^ nodes → mask < 256 → HoldsMasks nodes (d + 1) (x * 256 + mask)
unfolding all_in
masks-more nodes d x mask h l m =
    record {
      fits = rw (add-one d, pow-suc 256 d) (omega (arith, h.fits));
      each = rw (past_more x mask m d) (and_both (lt-ltb mask (2 ^ nodes) l) h.each);
    }

-- ---- who was bad

bad-none : (k mask : ℕ) → bad_in k mask 0 ≡ mask
unfolding bad_in
bad-none zero mask = refl
bad-none (suc k) mask = rw (or_zero_r mask) (bad-none k mask)

none-held : {x : ℕ} → x < 256 ^ 0 → x ≡ 0
none-held l = omega (arith, rw pow-zero at l)

held_more : (d x : ℕ) → x < 256 ^ suc d → x / 256 < 256 ^ d
held_more d x l = omega (arith, rw (pow-suc 256 d) at l)

good-not-bad : (i k mask d x : ℕ) → x < 256 ^ d → (not (bit mask i) && good_in i (take k (past_of d x))) ≡ not (bit (bad_in k mask x) i)
unfolding good_in bad_in past_of
good-not-bad i zero mask d x l = and-true (not (bit mask i))
good-not-bad i (suc k) mask zero x l = rw (none-held l, or_zero_r mask, bad-none k mask) (and-true (not (bit mask i)))
good-not-bad i (suc k) mask (suc d) x l =
    sym
    (sym (good-not-bad i k (bit_or mask (x % 256)) d (x / 256) (held_more d x l))
    ∙ rw (bit-or mask (x % 256) i) (apart (bit mask i) (bit (x % 256) i) (good_in i (take k (past_of d (x / 256))))))
  where
    apart : (a b c : Bool) → (not (a || b) && c) ≡ (not a && (not b && c))
    apart true b c = refl
    apart false b c = refl

bad-fits : (nodes k mask d x : ℕ) → mask < 2 ^ nodes → x < 256 ^ d → all_in (λ m. ltb m (2 ^ nodes)) (past_of d x) ≡ true → bad_in k mask x < 2 ^ nodes
unfolding bad_in past_of all_in
bad-fits nodes zero mask d x m l h = m
bad-fits nodes (suc k) mask zero x m l h = rw (none-held l, or_zero_r mask, bad-none k mask) m
bad-fits nodes (suc k) mask (suc d) x m l h =
    bad-fits nodes k (bit_or mask (x % 256)) d (x / 256)
    (or_lt nodes mask (x % 256) m (ltb-true (x % 256) (2 ^ nodes) (and_left (ltb (x % 256) (2 ^ nodes)) _ h)))
    (held_more d x l)
    (and_right (ltb (x % 256) (2 ^ nodes)) _ h)

-- the loop that collects them
module _ (period past masks rest k : ℕ) (h : bad_in (period - k) masks rest ≡ bad_in period 0 past) where
  pub bad_more : k < period → bad_in (period - (k + 1)) (bit_or masks (rest % 256)) (rest / 256) ≡ bad_in period 0 past
  unfolding bad_in
  bad_more l = let e : period - k ≡ suc (period - (k + 1)) = omega arith in (rw e at h)

  pub bad-rest : rest ≡ 0 → masks ≡ bad_in period 0 past
  bad-rest z = sym (bad-none (period - k) masks) ∙ (rw z at h)

  pub bad-end : period ≤ k → masks ≡ bad_in period 0 past
  unfolding bad_in
  bad-end l = let z : period - k ≡ 0 = omega arith in (rw z at h)

-- the test of a mask: more than half are neither bad in it nor in the last R frames
module _ (nodes period d x mask : ℕ) (h : HoldsMasks nodes d x) (l : mask < 2 ^ nodes) where
  works-is : (i : ℕ) → works_after period (past_of d x) mask i ≡ not (bit (bit_or (bad_in period 0 x) mask) i)
  unfolding good_in
  works-is i =
      let good : good_in i (take period (past_of d x)) ≡ not (bit (bad_in period 0 x) i) =
      ap (λ (b : Bool). not b && good_in i (take period (past_of d x))) (sym (bit-none i)) ∙ good-not-bad i period 0 d x h.fits in
      works-good period (past_of d x) mask i
      ∙ rw (bit-or (bad_in period 0 x) mask i, good) (swap (bit mask i) (bit (bad_in period 0 x) i))
    where
      swap : (a b : Bool) → (not a && not b) ≡ not (b || a)
      swap true true = refl
      swap true false = refl
      swap false true = refl
      swap false false = refl

  pub most-is : most_work nodes period (past_of d x) mask ≡ ltb (2 * ones (bit_or (bad_in period 0 x) mask)) nodes
  unfolding most_work
  most-is =
      let all : how_many (λ i. not (bit (bit_or (bad_in period 0 x) mask) i)) nodes + ones (bit_or (bad_in period 0 x) mask) ≡ nodes =
      ones-clear nodes (bit_or (bad_in period 0 x) mask) (or_lt nodes (bad_in period 0 x) mask (bad-fits nodes period 0 d x (one-le-pow nodes 2 (lit< tt)) h.fits h.each) l) in
      ap (λ (n : ℕ). ltb nodes (2 * n)) (how_many-same _ _ nodes (λ i k. works-is i))
      ∙ halves (how_many (λ i. not (bit (bit_or (bad_in period 0 x) mask) i)) nodes) (ones (bit_or (bad_in period 0 x) mask)) all
    where
      halves : (a b : ℕ) → a + b ≡ nodes → ltb nodes (2 * a) ≡ ltb (2 * b) nodes
      halves a b e =
          split (ltb (2 * b) nodes)
          (λ t. rw t (lt-ltb nodes (2 * a) (omega (arith, ltb-true (2 * b) nodes t))))
          (λ t. rw t (le-ltb nodes (2 * a) (omega (arith, ltb-false (2 * b) nodes t))))

-- ---- a history written from its end

-- the masks that are left, placed in front of those that are written
pub masks-last :
    (s : List ℕ) (at k x : ℕ) → 0 < k → at + k ≤ length s →
    placed (set s (at + (k - 1)) (x % 256)) at (bytes (k - 1) (x / 256)) ≡ placed s at (bytes k x)
unfolding bytes
masks-last s at k x p l =
    let e : k ≡ suc (k - 1) = omega arith in
    let own : bytes k x ≡ bytes (k - 1) (x / 256) ++ (x % 256 ∷ []) = ap (λ (j : ℕ). bytes j x) e in
    placed-before-last s at (bytes (k - 1) (x / 256)) (at + (k - 1)) (x % 256) (omega (arith, bytes-length (k - 1) (x / 256))) (omega arith)
    ∙ ap (placed s at) (sym own)

pub masks-none-left : (s : List ℕ) (at k x : ℕ) → k ≤ 0 → s ≡ placed s at (bytes k x)
unfolding bytes
masks-none-left s at k x l = let e : k ≡ 0 = omega arith in rw e (placed-none s at)

-- ---- the bytes of the histories

masks-append : (l m : List (List ℕ)) → flatten (l ++ m) ≡ flatten l ++ flatten m
unfolding flatten
masks-append [] m = refl
masks-append (h ∷ l) m = rw (masks-append l m) (sym (append_assoc h (flatten l) (flatten m)))

-- begun by the masks so far
abbrev pub bytes_found : ℕ → ℕ → ℕ → ℕ → ℕ → ℕ → List ℕ
bytes_found nodes period d x k masks = flatten (map (λ (later : List ℕ). bytes d x ++ later) (found_below nodes period (past_of d x) k masks))

module _ (nodes period d x : ℕ) where
  pub bytes-end : bytes_after nodes period d x 0 ≡ bytes d x
  unfolding bytes_after flatten
  bytes-end = rw (histories-end nodes period (past_of d x), append-nil (bytes d x)) (append-nil (bytes d x))

  pub bytes-all : (k : ℕ) → bytes_after nodes period d x (suc k) ≡ bytes_found nodes period d x k (2 ^ nodes)
  unfolding bytes_after
  bytes-all k = rw (histories-step nodes period (past_of d x) k)

  module _ (k mask : ℕ) (m : mask < 256) where
    pub bytes-hit :
        most_work nodes period (past_of d x) mask ≡ true →
        bytes_found nodes period d x k (mask + 1) ≡ bytes_found nodes period d x k mask ++ bytes_after nodes period (d + 1) (x * 256 + mask) k
    unfolding bytes_after
    bytes-hit e =
        let all : List (List ℕ) = found_below nodes period (past_of d x) k mask in
        let own : List (List ℕ) = histories_after nodes period (mask ∷ past_of d x) k in
        rw (found-hit nodes period (past_of d x) k mask e, past_more x mask m d)
        (ap flatten (map-append (λ (later : List ℕ). bytes d x ++ later) all (map (λ (later : List ℕ). mask ∷ later) own))
        ∙ masks-append (map (λ (later : List ℕ). bytes d x ++ later) all) (map (λ (later : List ℕ). bytes d x ++ later) (map (λ (later : List ℕ). mask ∷ later) own))
        ∙ ap (λ (l : List (List ℕ)). flatten (map (λ (later : List ℕ). bytes d x ++ later) all) ++ flatten l) (prefixed own))
      where
        prefixed :
            (l : List (List ℕ)) →
            map (λ (later : List ℕ). bytes d x ++ later) (map (λ (later : List ℕ). mask ∷ later) l)
            ≡ map (λ (later : List ℕ). bytes (d + 1) (x * 256 + mask) ++ later) l
        prefixed [] = refl
        prefixed (h ∷ l) =
            ap₂ (λ (a : List ℕ) (b : List (List ℕ)). a ∷ b)
            (sym (ap (λ (b : List ℕ). b ++ h) (bytes-more x mask m d) ∙ append_assoc (bytes d x) (mask ∷ []) h))
            (prefixed l)

    pub bytes-miss :
        most_work nodes period (past_of d x) mask ≡ false → bytes_found nodes period d x k (mask + 1) ≡ bytes_found nodes period d x k mask
    bytes-miss e = rw (found-miss nodes period (past_of d x) k mask e)

-- ---- numbers that fit

up-to-five : (n : ℕ) → n ≤ most_history_nodes → (P : ℕ → Type 0) → P 0 → P 1 → P 2 → P 3 → P 4 → P 5 → P n
up-to-five zero l P a b c d e f = a
up-to-five (suc zero) l P a b c d e f = b
up-to-five (suc (suc zero)) l P a b c d e f = c
up-to-five (suc (suc (suc zero))) l P a b c d e f = d
up-to-five (suc (suc (suc (suc zero)))) l P a b c d e f = e
up-to-five (suc (suc (suc (suc (suc zero))))) l P a b c d e f = f
up-to-five (suc (suc (suc (suc (suc (suc n)))))) l P a b c d e f = absurd (omega arith)

-- all masks: as the code has their number, and how many they are
all-masks : (nodes : ℕ) → nodes ≤ most_history_nodes → 1 * 2 ^ nodes % 18446744073709551616 ≡ 2 ^ nodes
all-masks nodes l = up-to-five nodes l (λ n. 1 * 2 ^ n % 18446744073709551616 ≡ 2 ^ n) refl refl refl refl refl refl

pub masks-few : (nodes : ℕ) → nodes ≤ most_history_nodes → 2 ^ nodes ≤ 32
masks-few nodes l = up-to-five nodes l (λ n. 2 ^ n ≤ 32) (lit≤ tt) (lit≤ tt) (lit≤ tt) (lit≤ tt) (lit≤ tt) (lit≤ tt)

pub mask-in : (nodes mask : ℕ) → nodes ≤ most_history_nodes → mask < 1 * 2 ^ nodes % 18446744073709551616 → mask < 2 ^ nodes
mask-in nodes mask l h = rw (all-masks nodes l) at h

pub mask-out : (nodes mask : ℕ) → nodes ≤ most_history_nodes → 1 * 2 ^ nodes % 18446744073709551616 ≤ mask → 2 ^ nodes ≤ mask
mask-out nodes mask l h = rw (all-masks nodes l) at h

-- the masks of the frames before the last
pub held-few : (d x : ℕ) → d < most_history_frames → x < 256 ^ d → x < 256 ^ 3
held-few zero x l h = omega (arith, rw pow-zero at h)
held-few (suc zero) x l h = omega arith
held-few (suc (suc zero)) x l h = omega arith
held-few (suc (suc (suc zero))) x l h = omega arith
held-few (suc (suc (suc (suc d)))) x l h = absurd (omega arith)

sixteens : (k : ℕ) → k ≤ most_history_frames → 16 ^ k ≤ 1048576
sixteens k l = up-to-five k (omega arith) (λ n. 16 ^ n ≤ 1048576) (lit≤ tt) (lit≤ tt) (lit≤ tt) (lit≤ tt) (lit≤ tt) (lit≤ tt)

pub histories-fit : (nodes period : ℕ) (past : List ℕ) (k : ℕ) → nodes ≤ most_history_nodes → k ≤ most_history_frames → length (histories_after nodes period past k) ≤ 1048576
histories-fit nodes period past k few l = le_trans (histories-few nodes period few past k) (sixteens k l)

-- ---- the loop over the masks of a frame, with k frames left after it

module _ (nodes period d x k mask : ℕ) (few : nodes ≤ most_history_nodes) (h : HoldsMasks nodes d x) (l : mask < 2 ^ nodes) where
  byte : mask < 256
  byte = omega (arith, masks-few nodes few)

  module _ {most bad : ℕ} (table : Most nodes most) (b : bad ≡ bad_in period 0 x) where
    set-fits : bit_or (bad_in period 0 x) mask < 2 ^ nodes
    set-fits = or_lt nodes (bad_in period 0 x) mask (bad-fits nodes period 0 d x (one-le-pow nodes 2 (lit< tt)) h.fits h.each) l

    -- what the code's test asks, and what it says
    pub test_fits : bit_or bad mask < 64
    test_fits = rw b (omega (arith, set-fits, masks-few nodes few))

    pub test-is : {r : Bool} → r ≡ bit most (bit_or bad mask) → most_work nodes period (past_of d x) mask ≡ r
    test-is t = most-is nodes period d x mask h l ∙ sym (t ∙ rw b (table.bits (bit_or (bad_in period 0 x) mask) set-fits))

  module _ {most bad : ℕ} {r : Bool} (table : Most nodes most) (b : bad ≡ bad_in period 0 x) (t : r ≡ bit most (bit_or bad mask)) where
    tested : most_work nodes period (past_of d x) mask ≡ r
    tested = test-is table b t

    module _ {total : ℕ} (e : total ≡ length (found_below nodes period (past_of d x) k mask)) where
      pub count-hit : r ≡ true → {own : ℕ} → own ≡ length (histories_after nodes period (past_of (d + 1) (x * 256 + mask)) k) → total + own ≡ length (found_below nodes period (past_of d x) k (mask + 1))
      count-hit t {own} f =
          let all : List (List ℕ) = histories_after nodes period (mask ∷ past_of d x) k in
          let more : length (found_below nodes period (past_of d x) k (mask + 1)) ≡ length (found_below nodes period (past_of d x) k mask) + length all =
          ap length (found-hit nodes period (past_of d x) k mask (tested ∙ t))
          ∙ length-append (found_below nodes period (past_of d x) k mask) (map (λ (later : List ℕ). mask ∷ later) all)
          ∙ ap (λ (n : ℕ). length (found_below nodes period (past_of d x) k mask) + n) (length-map all (λ (later : List ℕ). mask ∷ later)) in
          let same : own ≡ length all = f ∙ ap (λ (p : List ℕ). length (histories_after nodes period p k)) (past_more x mask byte d) in
          rw (e, same) (sym more)

      pub count-miss : r ≡ false → total ≡ length (found_below nodes period (past_of d x) k (mask + 1))
      count-miss t = e ∙ ap length (sym (found-miss nodes period (past_of d x) k mask (tested ∙ t)))

    module _ (s : List ℕ) {xs : List ℕ} (at : ℕ) {end : ℕ} (fits : at ≤ length s) (e : xs ≡ placed s at (bytes_found nodes period d x k mask)) (f : end ≡ at + length (bytes_found nodes period d x k mask)) where
      pub put-hit :
          r ≡ true →
          (placed xs end (bytes_after nodes period (d + 1) (x * 256 + mask) k) ≡ placed s at (bytes_found nodes period d x k (mask + 1)))
          × (end + length (bytes_after nodes period (d + 1) (x * 256 + mask) k) ≡ at + length (bytes_found nodes period d x k (mask + 1)))
      put-hit t =
          let own : List ℕ = bytes_after nodes period (d + 1) (x * 256 + mask) k in
          let all : bytes_found nodes period d x k (mask + 1) ≡ bytes_found nodes period d x k mask ++ own = bytes-hit nodes period d x k mask byte (tested ∙ t) in (
            placed-next s at (bytes_found nodes period d x k mask) xs own end e f fits ∙ ap (placed s at) (sym all),
            omega (arith, f, ap length all, length-append (bytes_found nodes period d x k mask) own),
          )

      pub put-miss :
          r ≡ false →
          (xs ≡ placed s at (bytes_found nodes period d x k (mask + 1))) × (end ≡ at + length (bytes_found nodes period d x k (mask + 1)))
      put-miss t = let same = sym (bytes-miss nodes period d x k mask byte (tested ∙ t)) in (e ∙ ap (placed s at) same, f ∙ ap (λ (b : List ℕ). at + length b) same)

-- ---- the last frame

module _ (nodes period d x : ℕ) (few : nodes ≤ most_history_nodes) (h : HoldsMasks nodes d x) {most bad : ℕ} (table : Most nodes most) (b : bad ≡ bad_in period 0 x) where
  pub last_fits : bad < 2 ^ nodes
  last_fits = rw b (bad-fits nodes period 0 d x (one-le-pow nodes 2 (lit< tt)) h.fits h.each)

  one_each : (mask : ℕ) → length (histories_after nodes period (mask ∷ past_of d x) 0) ≡ 1
  one_each mask = ap length (histories-end nodes period (mask ∷ past_of d x))

  last_found : (masks : ℕ) → masks ≤ 2 ^ nodes → length (found_below nodes period (past_of d x) 0 masks) ≡ how_many (λ mask. bit most (bit_or bad mask)) masks
  last_found zero l = ap length (joined-none (going_on nodes period (past_of d x) 0)) ∙ sym (how_many-none (λ mask. bit most (bit_or bad mask)))
  last_found (suc m) l =
      let before : length (found_below nodes period (past_of d x) 0 m) ≡ how_many (λ mask. bit most (bit_or bad mask)) m = last_found m (omega arith) in
      let is = test-is nodes period d x 0 m few h (omega arith) table b refl in
      rw (← add-one m)
      (split (bit most (bit_or bad m))
      (λ t. sym (count-hit nodes period d x 0 m few h (omega arith) table b refl refl t (sym (ap (λ (p : List ℕ). length (histories_after nodes period p 0)) (past_more x m (omega (arith, masks-few nodes few)) d) ∙ one_each m)))
      ∙ ap (λ (n : ℕ). n + 1) before ∙ sym (how_many-hit (λ mask. bit most (bit_or bad mask)) m t))
      (λ t. sym (count-miss nodes period d x 0 m few h (omega arith) table b refl refl t) ∙ before ∙ sym (how_many-miss (λ mask. bit most (bit_or bad mask)) m t)))

  pub last-count : {left r : ℕ} → left ≡ 1 → r ≡ how_many (λ mask. bit most (bit_or bad mask)) (2 ^ nodes) → r ≡ length (histories_after nodes period (past_of d x) left)
  last-count e f = f ∙ sym (last_found (2 ^ nodes) (omega arith)) ∙ sym (rw e (ap length (histories-step nodes period (past_of d x) 0)))

  last-laid : (masks : ℕ) → masks ≤ 2 ^ nodes → bytes_found nodes period d x 0 masks ≡ last_bytes most bad x (d + 1) masks
  unfolding last_bytes flatten
  last-laid zero l = rw (joined-none (going_on nodes period (past_of d x) 0)) (sym (joined-none (λ mask. cond (bit most (bit_or bad mask)) (bytes (d + 1) (x * 256 + mask)) [])))
  last-laid (suc m) l =
      let before : bytes_found nodes period d x 0 m ≡ last_bytes most bad x (d + 1) m = last-laid m (omega arith) in
      let next = joined-more (λ mask. cond (bit most (bit_or bad mask)) (bytes (d + 1) (x * 256 + mask)) []) m in
      rw (← add-one m)
      (split (bit most (bit_or bad m))
      (λ t. bytes-hit nodes period d x 0 m (omega (arith, masks-few nodes few)) (test-is nodes period d x 0 m few h (omega arith) table b refl ∙ t)
      ∙ ap₂ (λ (u v : List ℕ). u ++ v) before (bytes-end nodes period (d + 1) (x * 256 + m)) ∙ sym (next ∙ rw t))
      (λ t. bytes-miss nodes period d x 0 m (omega (arith, masks-few nodes few)) (test-is nodes period d x 0 m few h (omega arith) table b refl ∙ t)
      ∙ before ∙ sym (next ∙ rw t (append-nil (last_bytes most bad x (d + 1) m)))))

  pub last-bytes : {left : ℕ} → left ≡ 1 → last_bytes most bad x (d + 1) (2 ^ nodes) ≡ bytes_after nodes period d x left
  last-bytes e = sym (last-laid (2 ^ nodes) (omega arith)) ∙ sym (rw e (bytes-all nodes period d x 0))

-- written mask by mask
module _ (most bad x frames mask : ℕ) where
  abbrev last_of : ℕ → List ℕ
  last_of m = cond (bit most (bit_or bad m)) (bytes frames (x * 256 + m)) []

  pub last-begin : last_bytes most bad x frames 0 ≡ []
  unfolding last_bytes
  last-begin = joined-none last_of

  pub last_within : (n : ℕ) → mask ≤ n → length (last_bytes most bad x frames mask) ≤ length (last_bytes most bad x frames n)
  unfolding last_bytes
  last_within n l = joined-grows last_of mask n l

  pub last-hit : bit most (bit_or bad mask) ≡ true → last_bytes most bad x frames (mask + 1) ≡ last_bytes most bad x frames mask ++ bytes frames (x * 256 + mask)
  unfolding last_bytes
  last-hit t = joined-more last_of mask ∙ rw t

  pub last-miss : bit most (bit_or bad mask) ≡ false → last_bytes most bad x frames (mask + 1) ≡ last_bytes most bad x frames mask
  unfolding last_bytes
  last-miss t = joined-more last_of mask ∙ rw t (append-nil (joined last_of mask))

  pub last-longer : bit most (bit_or bad mask) ≡ true → length (last_bytes most bad x frames (mask + 1)) ≡ length (last_bytes most bad x frames mask) + frames
  last-longer t = ap length (last-hit t) ∙ length-append (last_bytes most bad x frames mask) (bytes frames (x * 256 + mask)) ∙ rw (bytes-length frames (x * 256 + mask))

-- ---- before the first mask, and after the last

module _ (nodes period d x : ℕ) where
  pub count-begin : (k : ℕ) → 0 ≡ length (found_below nodes period (past_of d x) k 0)
  count-begin k = ap length (sym (joined-none (going_on nodes period (past_of d x) k)))

  pub count-all :
      (left mask : ℕ) {total : ℕ} → (left ≡ 0 → ⊥) → mask ≡ 2 ^ nodes → total ≡ length (found_below nodes period (past_of d x) (left - 1) mask) →
      total ≡ length (histories_after nodes period (past_of d x) left)
  count-all left mask some m e =
      let l : left ≡ suc (left - 1) = omega (arith, some) in
      e ∙ ap (λ (n : ℕ). length (found_below nodes period (past_of d x) (left - 1) n)) m
      ∙ sym (ap (λ (n : ℕ). length (histories_after nodes period (past_of d x) n)) l ∙ ap length (histories-step nodes period (past_of d x) (left - 1)))

  pub put-begin : (k : ℕ) → bytes_found nodes period d x k 0 ≡ []
  unfolding flatten
  put-begin k = rw (joined-none (going_on nodes period (past_of d x) k))

  bytes-grow : (k a b : ℕ) → a ≤ b → length (bytes_found nodes period d x k a) ≤ length (bytes_found nodes period d x k b)
  unfolding joined
  bytes-grow k a zero l = let e : a ≡ 0 = omega arith in rw e (omega arith)
  bytes-grow k a (suc b) l =
      split (eqb a (suc b))
      (λ t. rw (eqb-true a (suc b) t) (omega arith))
      (λ t.
      let lead : List ℕ → List ℕ = λ later. bytes d x ++ later in
      let all : flatten (map lead (found_below nodes period (past_of d x) k b ++ going_on nodes period (past_of d x) k b)) ≡ bytes_found nodes period d x k b ++ flatten (map lead (going_on nodes period (past_of d x) k b)) =
      ap flatten (map-append lead (found_below nodes period (past_of d x) k b) (going_on nodes period (past_of d x) k b)) ∙ masks-append (map lead (found_below nodes period (past_of d x) k b)) (map lead (going_on nodes period (past_of d x) k b)) in
      omega (arith, bytes-grow k a b (omega (arith, eqb-false a (suc b) t)), ap length all, length-append (bytes_found nodes period d x k b) (flatten (map lead (going_on nodes period (past_of d x) k b)))))

  pub put_all : (left mask : ℕ) → (left ≡ 0 → ⊥) → mask ≡ 2 ^ nodes → bytes_found nodes period d x (left - 1) mask ≡ bytes_after nodes period d x left
  put_all left mask some m =
      let l : left ≡ suc (left - 1) = omega (arith, some) in
      ap (bytes_found nodes period d x (left - 1)) m ∙ sym (ap (bytes_after nodes period d x) l ∙ bytes-all nodes period d x (left - 1))

  -- those written by then are no more than all
  pub put-within : (left masks : ℕ) → (left ≡ 0 → ⊥) → masks ≤ 2 ^ nodes → length (bytes_found nodes period d x (left - 1) masks) ≤ length (bytes_after nodes period d x left)
  put-within left masks some l =
      omega (arith, bytes-grow (left - 1) masks (2 ^ nodes) l, ap length (put_all left (2 ^ nodes) some refl))

-- those found by then fit
pub found-fit : (nodes period : ℕ) (past : List ℕ) (k masks : ℕ) → nodes ≤ most_history_nodes → k < most_history_frames → masks ≤ 2 ^ nodes → length (found_below nodes period past k masks) ≤ 1048576
found-fit nodes period past k masks few l m = le_trans (found-few nodes period few past k masks m) (sixteens (suc k) l)

-- ---- from power-on

bytes-are : (hs : List (List ℕ)) (x : ℕ) → flatten (map (λ (later : List ℕ). bytes 0 x ++ later) hs) ≡ flatten hs
unfolding flatten bytes
bytes-are [] x = refl
bytes-are (h ∷ hs) x = ap (λ (l : List ℕ). h ++ l) (bytes-are hs x)

pub bytes-begin : (nodes period k : ℕ) → bytes_after nodes period 0 0 k ≡ flatten (histories nodes period k)
unfolding bytes_after histories histories_after past_of
bytes-begin nodes period k = bytes-are (histories_after nodes period [] k) 0

pub histories-begin : (nodes period k : ℕ) → histories_after nodes period (past_of 0 0) k ≡ histories nodes period k
unfolding histories histories_after past_of
histories-begin nodes period k = refl
