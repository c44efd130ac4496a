-- Laws of `fill`, `joined` and `from`, over the element type.
use mathlib.Core.Path.{◌≡◌, refl, sym, ap, ◌∙◌}
use mathlib.Core.Bool.{true}
use mathlib.Core.List.{List, [], ◌∷◌, ◌++◌, append_assoc, append-nil}
use Prim.Native.Nat.{ℕ, zero, suc, ◌+◌, ◌*◌, ◌≤◌, ◌<◌}
use native.Mathlib.Omega.{arith}
use native.Mathlib.Nat.{not-suc-le-zero, zero-mul, suc-mul}
use native.Mathlib.Numerals.{add-one}
use lib.Dec.{eqb}
use lib.ListN.{length, get_or, set, length-set, length-append, get_or-append}
use lib.Seq.{ext_get_or, get_or-set_same, get_or-set_other, set-get_or, get_or_at, get_or-append-add}
use borrow.Author.Tests.{eqb-true, eqb-false}
use Rattle.array.specs.Index.{fill, joined, from}
use Rattle.array.proofs.TestLaws.{split}

module _ {A : Type 0} where
  -- ---- fill

  pub fill_none : (f : ℕ → A) (l : List A) → fill f 0 l ≡ l
  unfolding fill
  fill_none f l = refl

  pub fill-length : (f : ℕ → A) (n : ℕ) (l : List A) → length (fill f n l) ≡ length l
  unfolding fill
  fill-length f zero l = refl
  fill-length f (suc n) l = length-set (fill f n l) n (f n) ∙ fill-length f n l

  pub fill-in : (f : ℕ → A) (n : ℕ) (l : List A) (i : ℕ) (d : A) → i < n → i < length l → get_or (fill f n l) i d ≡ f i
  unfolding fill
  fill-in f zero l i d h k = absurd (not-suc-le-zero h)
  fill-in f (suc n) l i d h k =
      split (eqb i n)
      (λ t. rw (eqb-true i n t) (get_or-set_same (fill f n l) n (f n) d (omega (arith, fill-length f n l, eqb-true i n t))))
      (λ t. get_or-set_other (fill f n l) n i (f n) d (eqb-false i n t) ∙ fill-in f n l i d (omega (arith, eqb-false i n t)) k)

  pub fill-out : (f : ℕ → A) (n : ℕ) (l : List A) (i : ℕ) (d : A) → n ≤ i → get_or (fill f n l) i d ≡ get_or l i d
  unfolding fill
  fill-out f zero l i d h = refl
  fill-out f (suc n) l i d h = get_or-set_other (fill f n l) n i (f n) d (omega arith) ∙ fill-out f n l i d (omega arith)

  pub fill-same : (f g : ℕ → A) (n : ℕ) (l : List A) → ((i : ℕ) → i < n → f i ≡ g i) → fill f n l ≡ fill g n l
  unfolding fill
  fill-same f g zero l e = refl
  fill-same f g (suc n) l e = rw (fill-same f g n l (λ i h. e i (omega arith)), e n (omega arith))

  -- one place more is stored
  pub fill_more : (f : ℕ → A) (n : ℕ) (l : List A) (x : A) → f n ≡ x → set (fill f n l) n x ≡ fill f (n + 1) l
  unfolding fill
  fill_more f n l x e = rw (add-one n, e)

  -- or left as it is
  pub fill-kept : (f : ℕ → A) (n : ℕ) (l : List A) (d : A) → f n ≡ get_or l n d → fill f n l ≡ fill f (n + 1) l
  unfolding fill
  fill-kept f n l d e = rw (add-one n, e) (sym (rw (fill-out f n l n d (omega arith)) at (set-get_or (fill f n l) n d)))

  -- a list whose every place is stored is the list of what was stored
  pub fill_is : (f : ℕ → A) (n : ℕ) (l v : List A) (d : A) → length l ≡ n → length v ≡ n → ((i : ℕ) → i < n → f i ≡ get_or v i d) → fill f n l ≡ v
  fill_is f n l v d e h g =
      let long : length (fill f n l) ≡ n = fill-length f n l ∙ e in
      ext_get_or d (fill f n l) v (long ∙ sym h) (λ i k. fill-in f n l i d (omega arith) (omega arith) ∙ g i (omega arith))

  -- a list copied entry by entry
  pub fill-copied : (d : A) (v l : List A) (n : ℕ) → length v ≡ n → length l ≡ n → fill (λ i. get_or v i d) n l ≡ v
  fill-copied d v l n e f = fill_is (λ i. get_or v i d) n l v d f e (λ i h. refl)

  -- ---- a list holds a part from a place

  pub record Holds (s : List A) (at : ℕ) (t : List A) : Type 0 where
    pub front : List A
    pub back : List A
    pub whole : s ≡ front ++ (t ++ back)
    pub size : length front ≡ at

  pub holds-left : {s : List A} {a : ℕ} (t u : List A) → Holds s a (t ++ u) → Holds s a t
  holds-left {s} t u h = record { front = h.front; back = u ++ h.back; whole = h.whole ∙ simp append_assoc; size = h.size }

  pub holds-right : {s : List A} {a : ℕ} (t u : List A) → Holds s a (t ++ u) → Holds s (a + length t) u
  holds-right {s} t u h =
      record {
        front = h.front ++ t;
        back = h.back;
        whole = h.whole ∙ simp append_assoc;
        size = length-append h.front t ∙ rw h.size;
      }

  pub holds-within : {s t u : List A} {a b : ℕ} → Holds s a t → Holds t b u → Holds s (a + b) u
  holds-within {s} {t} {u} h k =
      record {
        front = h.front ++ k.front;
        back = k.back ++ h.back;
        whole = h.whole ∙ rw k.whole (simp append_assoc);
        size = length-append h.front k.front ∙ rw (h.size, k.size);
      }

  pub holds-entry : {s : List A} {at : ℕ} {x : A} (d : A) → Holds s at (x ∷ []) → get_or s at d ≡ x
  holds-entry {s} {at} {x} d h = ap (λ (l : List A). get_or l at d) h.whole ∙ get_or_at h.front x h.back d at h.size

  -- ---- joined

  pub joined-none : (f : ℕ → List A) → joined f 0 ≡ []
  unfolding joined
  joined-none f = refl

  pub joined-more : (f : ℕ → List A) (n : ℕ) → joined f (n + 1) ≡ joined f n ++ f n
  unfolding joined
  joined-more f n = rw (add-one n)

  pub joined_same : (f g : ℕ → List A) (n : ℕ) → ((i : ℕ) → i < n → f i ≡ g i) → joined f n ≡ joined g n
  unfolding joined
  joined_same f g zero e = refl
  joined_same f g (suc n) e = rw (joined_same f g n (λ i h. e i (omega arith)), e n (omega arith))

  -- lists of one length, one after another
  module _ (f : ℕ → List A) (w : ℕ) (e : (j : ℕ) → length (f j) ≡ w) where
    pub joined_length : (n : ℕ) → length (joined f n) ≡ n * w
    unfolding joined
    joined_length zero = sym (zero-mul w)
    joined_length (suc n) = length-append (joined f n) (f n) ∙ rw (joined_length n, e n) (sym (suc-mul n w))

    pub joined-holds : (n j : ℕ) → j < n → Holds (joined f n) (j * w) (f j)
    unfolding joined
    joined-holds zero j l = absurd (not-suc-le-zero l)
    joined-holds (suc n) j l = split (eqb j n) last (λ t. earlier (joined-holds n j (omega (arith, eqb-false j n t))))
      where
        last : eqb j n ≡ true → Holds (joined f n ++ f n) (j * w) (f j)
        last t = rw (eqb-true j n t) (record { front = joined f n; back = []; whole = rw append-nil; size = joined_length n })

        earlier : Holds (joined f n) (j * w) (f j) → Holds (joined f n ++ f n) (j * w) (f j)
        earlier h = record { front = h.front; back = h.back ++ f n; whole = rw h.whole (simp append_assoc); size = h.size }

  -- ---- from

  pub from-length : (d : A) (s : List A) (at n : ℕ) → length (from d s at n) ≡ n
  unfolding from
  from-length d s at zero = refl
  from-length d s at (suc n) = length-append (from d s at n) (get_or s (at + n) d ∷ []) ∙ rw (from-length d s at n) (add-one n)

-- ---- the entries of a part

module _ {A : Type 0} (d : A) where
  -- entry i of the n from a place
  pub from_at : (s : List A) (at n i : ℕ) → i < n → get_or (from d s at n) i d ≡ get_or s (at + i) d
  unfolding from
  from_at s at zero i l = absurd (omega arith)
  from_at s at (suc n) i l =
      split (eqb i n)
      (λ t. rw (eqb-true i n t) (get_or_at (from d s at n) (get_or s (at + n) d) [] d n (from-length d s at n)))
      (λ t.
      let h : i < n = omega (arith, eqb-false i n t) in
      get_or-append (from d s at n) (get_or s (at + n) d ∷ []) d i (omega (arith, from-length d s at n)) ∙ from_at s at n i h)

  -- a list stored with the entries of another from a place
  pub fill-from : (s : List A) (at n : ℕ) (l : List A) → length l ≡ n → fill (λ i. get_or s (at + i) d) n l ≡ from d s at n
  fill-from s at n l e = fill_is (λ i. get_or s (at + i) d) n l (from d s at n) d e (from-length d s at n) (λ i k. sym (from_at s at n i k))

  pub from-same : (s t : List A) (a b n : ℕ) → ((i : ℕ) → i < n → get_or s (a + i) d ≡ get_or t (b + i) d) → from d s a n ≡ from d t b n
  unfolding from
  from-same s t a b zero e = refl
  from-same s t a b (suc n) e = rw (from-same s t a b n (λ i l. e i (omega arith)), e n (omega arith))

  pub from-add : (s : List A) (at m n : ℕ) → from d s at (m + n) ≡ from d s at m ++ from d s (at + m) n
  unfolding from
  from-add s at m zero = let z : m + 0 ≡ m = omega arith in rw z (sym (append-nil (from d s at m)))
  from-add s at m (suc n) =
      let y : m + suc n ≡ suc (m + n) = omega arith in
      let z : at + (m + n) ≡ at + m + n = omega arith in
      rw (y, from-add s at m n, z) (append_assoc (from d s at m) (from d s (at + m) n) (get_or s (at + m + n) d ∷ []))

  -- what a list holds at a place
  pub from-held : {s : List A} {at : ℕ} {t : List A} (n : ℕ) → length t ≡ n → Holds s at t → from d s at n ≡ t
  from-held {s} {at} {t} n e h =
      ext_get_or d (from d s at n) t (from-length d s at n ∙ sym e) (λ i l. let k : i < n = omega (arith, from-length d s at n) in from_at s at n i k ∙ entry i k)
    where
      entry : (i : ℕ) → i < n → get_or s (at + i) d ≡ get_or t i d
      entry i l =
          rw (← h.size)
          (ap (λ (x : List A). get_or x (length h.front + i) d) h.whole
          ∙ get_or-append-add h.front (t ++ h.back) i d
          ∙ get_or-append t h.back d i (omega arith))

  -- ---- a list of n bins of one size

  module _ (w : ℕ) where
    pub bin-of : (f : ℕ → List A) (n j : ℕ) → ((j : ℕ) → length (f j) ≡ w) → j < n → from d (joined f n) (j * w) w ≡ f j
    bin-of f n j e l = from-held w (e j) (joined-holds f w e n j l)
