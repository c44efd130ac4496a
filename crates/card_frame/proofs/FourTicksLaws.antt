-- Every list with three ticks that are not refused, and then a last one, is four stretches; one with 4f ticks, the last of them its last call, is f times four.
use mathlib.Core.Path.{◌≡◌, refl, sym, ap, ◌∙◌}
use mathlib.Core.Bool.{true, false}
use mathlib.Core.List.{List, [], ◌∷◌, ◌++◌, append_assoc, append-nil}
use Prim.Native.Nat.{ℕ, zero, suc, ◌+◌, ◌*◌}
use native.Mathlib.Omega.{arith}
use lib.ListN.{length}
use Rattle.array.proofs.TestLaws.{split, clash}
use Rattle.plan.specs.declared.Plan.{Plan}
use Rattle.card_step.specs.Calls.{CardCall, reading, writing, delivery, ticking}
use Rattle.card_frame.specs.CardFrame.{
  moves,
  none_moves,
  Stretch,
  stretch_calls,
  FourTicks,
  calls_before,
  four_calls,
  ticks_in,
  EveryFour,
  frames_calls,
  EveryFrames,
}

module _ (p : Plan) where
  count_none : (m : ℕ) → ticks_in p [] ≡ suc m → ⊥
  unfolding ticks_in
  count_none m e = omega (arith, e)

  count-hit : (c : CardCall) (cs : List CardCall) (m : ℕ) → moves p c ≡ true → ticks_in p (c ∷ cs) ≡ suc m → ticks_in p cs ≡ m
  unfolding ticks_in
  count-hit c cs m t = rw t (λ e. omega (arith, e))

  count-miss : (c : CardCall) (cs : List CardCall) (m : ℕ) → moves p c ≡ false → ticks_in p (c ∷ cs) ≡ m → ticks_in p cs ≡ m
  unfolding ticks_in
  count-miss c cs m t = rw t (λ e. omega (arith, e))

  none_left : (cs : List CardCall) → ticks_in p cs ≡ 0 → none_moves p cs ≡ true
  unfolding ticks_in none_moves
  none_left [] = λ e. refl
  none_left (c ∷ cs) = split (moves p c) (λ t. rw t (λ e. absurd (omega (arith, e)))) (λ t. rw t (λ e. none_left cs (omega (arith, e))))

  record Found (cs : List CardCall) (m : ℕ) : Type 0 where
    stretch : Stretch p
    rest : List CardCall
    whole : cs ≡ stretch_calls p stretch ++ rest
    left : ticks_in p rest ≡ m

  found-later : (c : CardCall) (cs : List CardCall) (m : ℕ) → moves p c ≡ false → Found cs m → Found (c ∷ cs) m
  unfolding none_moves
  found-later c cs m e r =
      record {
        stretch =
            record {
              earlier = c ∷ r.stretch.earlier;
              no-tick = rw e r.stretch.no-tick;
              sensors = r.stretch.sensors;
              place = r.stretch.place;
              not-refused = r.stretch.not-refused;
            };
        rest = r.rest;
        whole = ap (λ (x : List CardCall). c ∷ x) r.whole;
        left = r.left;
      }

  found-now : (c : CardCall) (cs : List CardCall) (m : ℕ) → moves p c ≡ true → ticks_in p cs ≡ m → Found (c ∷ cs) m
  unfolding none_moves moves
  found-now (reading at) cs m e h = absurd (clash e refl)
  found-now (writing at value) cs m e h = absurd (clash e refl)
  found-now (delivery number message) cs m e h = absurd (clash e refl)
  found-now (ticking sensors place) cs m e h =
      record {
        stretch = record { earlier = []; no-tick = refl; sensors = sensors; place = place; not-refused = e };
        rest = cs;
        whole = refl;
        left = h;
      }

  find : (cs : List CardCall) (m : ℕ) → ticks_in p cs ≡ suc m → Found cs m
  find [] m e = absurd (count_none m e)
  find (c ∷ cs) m e =
      split (moves p c)
      (λ t. found-now c cs m t (count-hit c cs m t e))
      (λ t. found-later c cs m t (find cs m (count-miss c cs (suc m) t e)))

  pub calls_are :
      (f : FourTicks p) →
      four_calls p f ≡ stretch_calls p f.first ++ (stretch_calls p f.second ++ (stretch_calls p f.third ++ stretch_calls p f.fourth))
  unfolding four_calls calls_before
  calls_are f = simp append_assoc

  four-found :
      (cs : List CardCall) (sensors place : List ℕ) → ticks_in p cs ≡ 3 → moves p (ticking sensors place) ≡ true →
      (f : FourTicks p) × (four_calls p f ≡ cs ++ (ticking sensors place ∷ []))
  unfolding four_calls calls_before
  four-found cs sensors place e m =
      let a : Found cs 2 = find cs 2 e in
      let b : Found a.rest 1 = find a.rest 1 a.left in
      let c : Found b.rest 0 = find b.rest 0 b.left in (
        record {
          first = a.stretch;
          second = b.stretch;
          third = c.stretch;
          fourth = record { earlier = c.rest; no-tick = none_left c.rest c.left; sensors = sensors; place = place; not-refused = m };
        },
        ap (λ (x : List CardCall). x ++ (ticking sensors place ∷ []))
            (sym
            (a.whole
            ∙ ap (λ (x : List CardCall). stretch_calls p a.stretch ++ x)
            (b.whole ∙ ap (λ (x : List CardCall). stretch_calls p b.stretch ++ x) c.whole))),
      )

  -- ---- four by four

  -- the first four ticks, the fourth their last call, and what follows
  record FoundFour (cs : List CardCall) (m : ℕ) : Type 0 where
    four : FourTicks p
    then : List CardCall
    parted : cs ≡ four_calls p four ++ then
    ticks-left : ticks_in p then ≡ m

  find-four : (cs : List CardCall) (m : ℕ) → ticks_in p cs ≡ suc (suc (suc (suc m))) → FoundFour cs m
  find-four cs m e =
      let a : Found cs (suc (suc (suc m))) = find cs (suc (suc (suc m))) e in
      let b : Found a.rest (suc (suc m)) = find a.rest (suc (suc m)) a.left in
      let c : Found b.rest (suc m) = find b.rest (suc m) b.left in
      let d : Found c.rest m = find c.rest m c.left in
      let f : FourTicks p = record { first = a.stretch; second = b.stretch; third = c.stretch; fourth = d.stretch } in
      record {
        four = f;
        then = d.rest;
        parted =
            a.whole
            ∙ ap (λ (x : List CardCall). stretch_calls p a.stretch ++ x)
            (b.whole
            ∙ ap (λ (x : List CardCall). stretch_calls p b.stretch ++ x)
            (c.whole ∙ ap (λ (x : List CardCall). stretch_calls p c.stretch ++ x) d.whole))
            ∙ four-then f d.rest;
        ticks-left = d.left;
      }
    where
      four-then :
          (f : FourTicks p) (cs : List CardCall) →
          stretch_calls p f.first ++ (stretch_calls p f.second ++ (stretch_calls p f.third ++ (stretch_calls p f.fourth ++ cs))) ≡ four_calls p f ++ cs
      four-then f cs = rw (calls_are f) (simp append_assoc)

  module _ (sensors place : List ℕ) (run : moves p (ticking sensors place) ≡ true) where
    abbrev Frames : ℕ → List CardCall → Type 0
    Frames n cs = (fs : List (FourTicks p)) × (length fs ≡ n + 1) × (frames_calls p fs ≡ cs ++ (ticking sensors place ∷ []))

    frames-one : (cs : List CardCall) → (f : FourTicks p) × (four_calls p f ≡ cs ++ (ticking sensors place ∷ [])) → Frames 0 cs
    unfolding frames_calls
    frames-one cs (f, e) = (f ∷ [], refl, append-nil (four_calls p f) ∙ e)

    frames-more : (n : ℕ) (cs : List CardCall) (m : ℕ) (r : FoundFour cs m) → Frames n r.then → Frames (suc n) cs
    unfolding frames_calls
    frames-more n cs m r (fs, l, e) = (
      r.four ∷ fs,
      omega (arith, l),
      ap (λ (x : List CardCall). four_calls p r.four ++ x) e
          ∙ sym
          (ap (λ (x : List CardCall). x ++ (ticking sensors place ∷ [])) r.parted
          ∙ append_assoc (four_calls p r.four) r.then (ticking sensors place ∷ [])),
    )

    frames-found : (n : ℕ) (cs : List CardCall) → ticks_in p cs ≡ 4 * n + 3 → Frames n cs
    frames-found zero cs e = frames-one cs (four-found cs sensors place e run)
    frames-found (suc n) cs e =
        let r : FoundFour cs (4 * n + 3) = find-four cs (4 * n + 3) (omega (arith, e)) in
        frames-more n cs (4 * n + 3) r (frames-found n r.then r.ticks-left)

pub every-four : EveryFour
every-four p cs sensors place e m = four-found p cs sensors place e m

pub every-frames : EveryFrames
every-frames p n cs sensors place e m = frames-found p sensors place m n cs e
