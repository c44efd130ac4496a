-- Laws of the plane. It hands on a value that no other has more holders than: the remembered one where that is so of it, else, of those that are tied, the
-- one whose lowest holder is lowest. So a value with more holders than every other is handed on whatever is remembered, and the plane leaves a remembered value
-- only for one with more holders.
use Rattle.std.specs.Prelude.{Option, None, Some, unwrap_or}
use mathlib.Core.Path.{◌≡◌, refl, sym, ap, ◌∙◌}
use mathlib.Core.Bool.{true, false}
use mathlib.Core.Logic.{◌⊎◌, inl, inr, ⊎_elim}
use Prim.Native.Nat.{ℕ, zero, suc, ◌+◌, ◌*◌, ◌≤◌, ◌<◌}
use native.Mathlib.Omega.{arith}
use native.Mathlib.Nat.{le_refl, not-suc-le-zero}
use lib.Dec.{eqb, leb, ltb}
use borrow.Author.Tests.{ltb-true, ltb-false, leb-true, le-leb, eqb-true, eqb-false, lt-ltb, le-ltb}
use Rattle.array.proofs.TestLaws.{split, clash}
use Rattle.array.proofs.IndexLaws.{all_below-at, all_below-all, how_many-apart}
use Rattle.ballot.specs.Majority.{holds, holders, backing}
use Rattle.ballot.specs.Plane.{most_held, none_more, plane}
use Rattle.ballot.specs.Code.{best_from}
use Rattle.ballot.proofs.MajorityLaws.{no-some, holds-true, holders-same, holders-some}
use Rattle.ballot.proofs.ScanLaws.{holders-held}

-- the old rule's: v is put out by the most of n nodes, and `holder` is the lowest of all nodes whose value that many put out
pub record Lowest (put : ℕ → Option ℕ) (n v : ℕ) : Type 0 where
  pub holder : ℕ
  pub below : holder < n
  pub holds : put holder ≡ Some v
  pub most : (j w : ℕ) → j < n → put j ≡ Some w → holders put n w ≤ holders put n v
  pub lowest : (j w : ℕ) → j < n → put j ≡ Some w → holders put n w ≡ holders put n v → holder ≤ j

-- what is handed on where r is remembered
pub record Handed (put : ℕ → Option ℕ) (n r v : ℕ) : Type 0 where
  pub most : (w : ℕ) → holders put n w ≤ holders put n v
  -- "Of tied values the remembered one wins"
  pub tied : holders put n r ≡ holders put n v → v ≡ r
  -- "if it isn't among them, the old rule decides"
  pub old : holders put n r < holders put n v → Lowest put n v

module _ (put : ℕ → Option ℕ) (n : ℕ) where
  -- how many put out what node j does
  abbrev shared : ℕ → ℕ
  shared j = backing put n (put j)

  -- what the most put out, of what the first k nodes do
  abbrev best : ℕ → Option ℕ
  best k = most_held put n k

  backing-is : {o : Option ℕ} {w : ℕ} → o ≡ Some w → backing put n o ≡ holders put n w
  unfolding backing
  backing-is e = rw e

  -- node k's, where more share it than the best before it
  best-new : (k : ℕ) → ltb (backing put n (best k)) (shared k) ≡ true → best (suc k) ≡ put k
  unfolding most_held
  best-new k t = rw t

  best-old : (k : ℕ) → ltb (backing put n (best k)) (shared k) ≡ false → best (suc k) ≡ best k
  unfolding most_held
  best-old k t = rw t

  best-most : (k j : ℕ) → j < k → shared j ≤ backing put n (best k)
  best-most zero j l = absurd (not-suc-le-zero l)
  best-most (suc k) j l =
      split (ltb (backing put n (best k)) (shared k))
      (λ t. rw (best-new k t) (split (eqb j k)
      (λ q. rw (eqb-true j k q) (le_refl _))
      (λ q. omega (arith, ltb-true (backing put n (best k)) (shared k) t, best-most k j (omega (arith, eqb-false j k q))))))
      (λ t. rw (best-old k t) (split (eqb j k)
      (λ q. rw (eqb-true j k q) (ltb-false _ _ t))
      (λ q. best-most k j (omega (arith, eqb-false j k q)))))

  -- the lowest of the first k nodes whose value is shared by as many as the best
  best-holder : (k v : ℕ) → best k ≡ Some v → (h : ℕ) × (h < k) × (put h ≡ Some v) × ((j : ℕ) → j < k → shared j ≡ holders put n v → h ≤ j)
  unfolding most_held
  best-holder zero v e = absurd (no-some e)
  best-holder (suc k) v e =
      split (ltb (backing put n (best k)) (shared k))
      (λ t.
      let here : put k ≡ Some v = sym (best-new k t) ∙ e in (
        k,
        omega arith,
        here,
        λ j l s. split (eqb j k)
            (λ q. omega (arith, eqb-true j k q))
            (λ q. absurd (omega (
              arith,
              ltb-true (backing put n (best k)) (shared k) t,
              backing-is here,
              best-most k j (omega (arith, eqb-false j k q)),
            ))),
      ))
      (λ t.
      let r = best-holder k v (sym (best-old k t) ∙ e) in (
        r.0,
        omega (arith, r.1),
        r.2,
        λ j l s. split (eqb j k)
            (λ q. omega (arith, r.1, eqb-true j k q))
            (λ q. r.3 j (omega (arith, eqb-false j k q)) s),
      ))

  -- ---- the old rule

  held-lowest : (v : ℕ) → most_held put n n ≡ Some v → Lowest put n v
  held-lowest v e =
      let r = best-holder n v e in
      record {
        holder = r.0;
        below = r.1;
        holds = r.2;
        most = λ j w l p. omega (arith, backing-is p, best-most n j l, backing-is e);
        lowest = λ j w l p s. r.3 j l (backing-is p ∙ s);
      }

  pub lowest-unique : (v w : ℕ) → Lowest put n v → Lowest put n w → v ≡ w
  lowest-unique v w a b =
      let even : holders put n v ≡ holders put n w =
      omega (arith, b.most a.holder v a.below a.holds, a.most b.holder w b.below b.holds) in
      let low : a.holder ≤ b.holder = a.lowest b.holder w b.below b.holds (sym even) in
      let high : b.holder ≤ a.holder = b.lowest a.holder v a.below a.holds even in
      let same : a.holder ≡ b.holder = omega arith in
      let one : Some v ≡ Some w = sym a.holds ∙ ap put same ∙ b.holds in
      cc

  -- ---- the remembered value

  -- where no value put out has more holders than r, no value has
  pub none_more_lem : (r : ℕ) → none_more put n r ≡ true → (w : ℕ) → holders put n w ≤ holders put n r
  unfolding none_more
  none_more_lem r e w =
      split (ltb 0 (holders put n w))
      (λ t.
      let h = holders-some put n w (ltb-true _ _ t) in
      omega (arith, backing-is h.2, leb-true (shared h.0) (holders put n r) (all_below-at (λ j. leb (shared j) (holders put n r)) n h.0 h.1 e)))
      (λ t. omega (arith, ltb-false 0 (holders put n w) t))

  backing-under : (r : ℕ) → ((w : ℕ) → holders put n w ≤ holders put n r) → (o : Option ℕ) → backing put n o ≤ holders put n r
  unfolding backing
  backing-under r f None = omega arith
  backing-under r f (Some w) = f w

  all-none-more : (r : ℕ) → ((w : ℕ) → holders put n w ≤ holders put n r) → none_more put n r ≡ true
  unfolding none_more
  all-none-more r f = all_below-all (λ j. leb (shared j) (holders put n r)) n (λ j l. le-leb _ _ (backing-under r f (put j)))

  -- else the old rule's value has more
  held_more : (r : ℕ) (o : Option ℕ) → best n ≡ o → holders put n r < backing put n (best n) → (v : ℕ) × (best n ≡ Some v) × (holders put n r < holders put n v)
  unfolding backing
  held_more r None q l = absurd (omega (arith, l, ap (backing put n) q))
  held_more r (Some v) q l = (v, q, omega (arith, l, backing-is q))

  some_more : (r : ℕ) → none_more put n r ≡ false → (v : ℕ) × (most_held put n n ≡ Some v) × (holders put n r < holders put n v)
  unfolding none_more
  some_more r e =
      split (ltb (holders put n r) (backing put n (best n)))
      (λ t. held_more r (best n) refl (ltb-true _ _ t))
      (λ t. absurd (clash (all_below-all (λ j. leb (shared j) (holders put n r)) n (λ j l.
      le-leb (shared j) (holders put n r) (omega (arith, best-most n j l, ltb-false (holders put n r) (backing put n (best n)) t)))) e))

  -- "Of tied values the remembered one wins": r, where no value has more holders
  pub plane-kept : (r : ℕ) → ((w : ℕ) → holders put n w ≤ holders put n r) → plane put n r ≡ r
  unfolding plane
  plane-kept r f = rw (all-none-more r f)

  -- "if it isn't among them, the old rule decides"
  pub plane-old : (r w : ℕ) → holders put n r < holders put n w → most_held put n n ≡ Some (plane put n r)
  unfolding plane
  plane-old r w more =
      split (none_more put n r)
      (λ t. absurd (omega (arith, more, none_more_lem r t w)))
      (λ t. let v = some_more r t in rw (t, v.1))

  -- and nothing else is handed on
  pub plane-handed : (r : ℕ) → Handed put n r (plane put n r)
  plane-handed r = split (none_more put n r) kept old
    where
      kept : none_more put n r ≡ true → Handed put n r (plane put n r)
      kept t =
          rw (plane-kept r (none_more_lem r t))
          (record { most = none_more_lem r t; tied = λ e. refl; old = λ l. absurd (omega arith) })

      old : none_more put n r ≡ false → Handed put n r (plane put n r)
      old t =
          let v = some_more r t in
          let held : most_held put n n ≡ Some (plane put n r) = plane-old r v.0 v.2 in
          let one : Some v.0 ≡ Some (plane put n r) = sym v.1 ∙ held in
          let is : v.0 ≡ plane put n r = cc in
          let more : holders put n r < holders put n (plane put n r) = rw is at v.2 in
          let low : Lowest put n (plane put n r) = held-lowest (plane put n r) held in
          record {
            most = λ w. split (ltb 0 (holders put n w))
                (λ u. let h = holders-some put n w (ltb-true _ _ u) in low.most h.0 w h.1 h.2)
                (λ u. omega (arith, ltb-false 0 (holders put n w) u));
            tied = λ e. absurd (omega arith);
            old = λ l. low;
          }

  pub handed-unique : (r v w : ℕ) → Handed put n r v → Handed put n r w → v ≡ w
  handed-unique r v w a b =
      let even : holders put n v ≡ holders put n w = omega (arith, a.most w, b.most v) in
      split (ltb (holders put n r) (holders put n v))
      (λ t. lowest-unique v w (a.old (ltb-true _ _ t)) (b.old (omega (arith, ltb-true (holders put n r) (holders put n v) t))))
      (λ t.
      let same : holders put n r ≡ holders put n v = omega (arith, a.most r, ltb-false (holders put n r) (holders put n v) t) in
      a.tied same ∙ sym (b.tied (same ∙ even)))

  -- a value with more holders than every other is handed on, whatever is remembered
  pub plane-most : (r v : ℕ) → ((w : ℕ) → (w ≡ v → ⊥) → holders put n w < holders put n v) → plane put n r ≡ v
  plane-most r v f =
      split (eqb (plane put n r) v)
      (eqb-true (plane put n r) v)
      (λ t. absurd (omega (arith, (plane-handed r).most v, f (plane put n r) (eqb-false (plane put n r) v t))))

  -- no jump on a tie: where another value than the remembered one is handed on, more nodes put it out
  pub plane-jump : (r : ℕ) → (plane put n r ≡ r → ⊥) → holders put n r < holders put n (plane put n r)
  plane-jump r apart =
      split (ltb (holders put n r) (holders put n (plane put n r)))
      (ltb-true _ _)
      (λ t. absurd (apart ((plane-handed r).tied
      (omega (arith, (plane-handed r).most r, ltb-false (holders put n r) (holders put n (plane put n r)) t)))))

  -- where somebody puts out something, what is handed on has a holder
  pub plane-held : (r j v : ℕ) → j < n → put j ≡ Some v → 0 < holders put n (plane put n r)
  plane-held r j v l e = omega (arith, holders-held put n j l e, (plane-handed r).most v)

  -- where all are silent, the remembered value stays
  pub plane-silent : (r : ℕ) → ((j : ℕ) → j < n → put j ≡ None) → plane put n r ≡ r
  plane-silent r silent =
      plane-kept r
      (λ w. split (ltb 0 (holders put n w))
      (λ t. let h = holders-some put n w (ltb-true _ _ t) in absurd (no-some (sym (silent h.0 h.1) ∙ h.2)))
      (λ t. omega (arith, ltb-false 0 (holders put n w) t)))

  -- two values are held by no more than all
  pub holders-apart : (v w : ℕ) → (v ≡ w → ⊥) → holders put n v + holders put n w ≤ n
  unfolding holders
  holders-apart v w apart =
      how_many-apart (λ j. holds (put j) v) (λ j. holds (put j) w) n
      (λ j x y. let s : Some v ≡ Some w = sym (holds-true (put j) v x) ∙ holds-true (put j) w y in apart (cc))

  -- a value that more than half put out is handed on
  pub plane-of-most : (r v : ℕ) → n < 2 * holders put n v → plane put n r ≡ v
  plane-of-most r v h = plane-most r v (λ w apart. omega (arith, h, holders-apart w v apart))

  -- ---- the loop that begins with the remembered value

  is_some : (r : ℕ) (o : Option ℕ) → 0 < backing put n o → o ≡ Some (unwrap_or o r)
  unfolding backing
  is_some r None l = absurd (omega arith)
  is_some r (Some x) l = refl

  module _ (r : ℕ) where
    -- r is kept after k nodes, where none of them puts out a value with more holders; else it is the old rule's of these
    abbrev Kept : ℕ → Type 0
    Kept k = (backing put n (best k) ≤ holders put n r) × (best_from put n r k ≡ r)

    abbrev Left : ℕ → Type 0
    Left k = (holders put n r < backing put n (best k)) × (best k ≡ Some (best_from put n r k))

    kept_new : (k : ℕ) → Kept k → holders put n r < shared k → Left (suc k)
    unfolding best_from most_held
    kept_new k c l =
        rw (c.1, lt-ltb (holders put n r) (shared k) l, lt-ltb (backing put n (best k)) (shared k) (omega (arith, c.0)))
        (l, is_some r (put k) (omega arith))

    kept-old : (k : ℕ) → Kept k → shared k ≤ holders put n r → Kept (suc k)
    unfolding best_from
    kept-old k c l = (
      split (ltb (backing put n (best k)) (shared k)) (λ t. rw (best-new k t) l) (λ t. rw (best-old k t) c.0),
      rw (c.1, le-ltb (holders put n r) (shared k) l),
    )

    left-new : (k : ℕ) → Left k → ltb (backing put n (best k)) (shared k) ≡ true → Left (suc k)
    unfolding best_from
    left-new k c t =
        let same : holders put n (best_from put n r k) ≡ backing put n (best k) = sym (backing-is c.1) in
        let l : backing put n (best k) < shared k = ltb-true _ _ t in
        (rw (best-new k t) (omega (arith, c.0)), rw (best-new k t, same, t) (is_some r (put k) (omega arith)))

    left-old : (k : ℕ) → Left k → ltb (backing put n (best k)) (shared k) ≡ false → Left (suc k)
    unfolding best_from
    left-old k c t =
        let same : holders put n (best_from put n r k) ≡ backing put n (best k) = sym (backing-is c.1) in
        (rw (best-old k t) c.0, rw (best-old k t, same, t) c.1)

    reached : (k : ℕ) → Kept k ⊎ Left k
    unfolding best_from most_held backing
    reached zero = inl (omega arith, refl)
    reached (suc k) =
        ⊎_elim
        (λ c. split (ltb (holders put n r) (shared k)) (λ t. inr (kept_new k c (ltb-true _ _ t))) (λ t. inl (kept-old k c (ltb-false _ _ t))))
        (λ c. inr (split (ltb (backing put n (best k)) (shared k)) (left-new k c) (left-old k c)))
        (reached k)

    pub best-plane : best_from put n r n ≡ plane put n r
    best-plane =
        ⊎_elim
        (λ c. c.1 ∙ sym (plane-kept r (λ w. omega (arith, c.0, under w))))
        (λ c.
        let held : most_held put n n ≡ Some (plane put n r) = plane-old r (best_from put n r n) (omega (arith, c.0, backing-is c.1)) in
        let one : Some (best_from put n r n) ≡ Some (plane put n r) = sym c.1 ∙ held in
        cc)
        (reached n)
      where
        under : (w : ℕ) → holders put n w ≤ backing put n (best n)
        under w =
            split (ltb 0 (holders put n w))
            (λ t. let h = holders-some put n w (ltb-true _ _ t) in omega (arith, backing-is h.2, best-most n h.0 h.1))
            (λ t. omega (arith, ltb-false 0 (holders put n w) t))

-- the plane sees only what the n nodes put out
pub plane-same : (f g : ℕ → Option ℕ) (n r : ℕ) → ((j : ℕ) → j < n → f j ≡ g j) → plane f n r ≡ plane g n r
plane-same f g n r e =
    handed-unique g n r (plane f n r) (plane g n r)
    (record {
      most = λ w. rw (← (count w), ← (count (plane f n r))) (at.most w);
      tied = λ s. at.tied (count r ∙ s ∙ sym (count (plane f n r)));
      old = λ l.
          let low : Lowest f n (plane f n r) = at.old (rw (count r, count (plane f n r)) l) in
          record {
            holder = low.holder;
            below = low.below;
            holds = sym (e low.holder low.below) ∙ low.holds;
            most = λ j w m p. rw (← (count w), ← (count (plane f n r))) (low.most j w m (e j m ∙ p));
            lowest = λ j w m p s. low.lowest j w m (e j m ∙ p) (count w ∙ s ∙ sym (count (plane f n r)));
          };
    })
    (plane-handed g n r)
  where
    count : (w : ℕ) → holders f n w ≡ holders g n w
    count w = holders-same f g n w e

    at : Handed f n r (plane f n r)
    at = plane-handed f n r
