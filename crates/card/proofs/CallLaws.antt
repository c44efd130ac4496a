-- Laws for the proofs of the calls: what a call gives, and what becomes of the card, by the way it goes. Each call tests the plan, then one thing more.
use Rattle.std.specs.Prelude.{Result, Ok, Err}
use mathlib.Core.Path.{◌≡◌, refl, sym, ◌∙◌}
use mathlib.Core.Bool.{Bool, true, false, not, ◌&&◌, ◌||◌}
use mathlib.Core.List.{List}
use Prim.Native.Nat.{ℕ, ◌*◌, ◌≤◌}
use native.Mathlib.Omega.{arith}
use native.Mathlib.Nat.{mul-le-mul}
use lib.Dec.{eqb, ltb}
use lib.ListN.{length}
use Rattle.answer.specs.declared.Refusal.{Refusal}
use Rattle.answer.specs.declared.Refusal.TheVariants.{WrongLength, PageAccess}
use Rattle.answer.specs.Tests.{passed, refused, unless, given, if_passed}
use Rattle.plan.specs.declared.Plan.{Plan}
use Rattle.plan.specs.Limits.{most_nodes, most_cells}
use Rattle.plan.specs.Accepted.{accepted}
use Rattle.plan_period.specs.Answers.{period_found}
use Rattle.plan_period.proofs.AnswerLaws.{unaccepted, call-refused}
use Rattle.memory.specs.Size.{message_size}
use Rattle.card_page.specs.declared.CardState.{CardState}
use Rattle.card_page.specs.Page.{page_size, mask_at, clear_at, page_byte}
use Rattle.card_bins.specs.Bins.{slot_size}
use Rattle.card_step.specs.CardParts.{CardParts, ticked_place}
use Rattle.card_step.specs.Calls.{CardCall, reading, writing, delivery, ticking, card_tests, card_answer, card_done, card_after, byte_read, place_left}
use Rattle.card.specs.declared.Card.{Card}
use Rattle.card.specs.Card.{most_bins, parts_of, card_of, card_left, page_read}

-- ---- what a call tests beside the plan, and its refusal

module _ (p : Plan) where
  abbrev pub second : CardCall → Bool
  second (reading at) = ltb at page_size
  second (writing at value) = eqb at mask_at || eqb at clear_at
  second (delivery number message) = eqb (length message) (message_size p)
  second (ticking sensors place) = eqb (length sensors) p.sensors && eqb (length place) p.actuators

  abbrev pub refusal : CardCall → Refusal
  refusal (reading at) = PageAccess
  refusal (writing at value) = PageAccess
  refusal (delivery number message) = WrongLength
  refusal (ticking sensors place) = WrongLength

  plan-passed : (c : CardCall) → accepted p ≡ false → passed (card_tests p c) ≡ false
  unfolding card_tests passed
  plan-passed (reading at) e = rw e
  plan-passed (writing at value) e = rw e
  plan-passed (delivery number message) e = rw e
  plan-passed (ticking sensors place) e = rw e

  plan-answer : (c : CardCall) {r : Refusal} → period_found p ≡ Err r → Err r ≡ card_answer p c
  unfolding card_answer card_tests
  plan-answer (reading at) e = sym (call-refused p e _ tt)
  plan-answer (writing at value) e = sym (call-refused p e _ tt)
  plan-answer (delivery number message) e = sym (call-refused p e _ tt)
  plan-answer (ticking sensors place) e = sym (call-refused p e _ tt)

  second-passed : (c : CardCall) {b : Bool} → accepted p ≡ true → second c ≡ b → passed (card_tests p c) ≡ (b && true)
  unfolding card_tests passed
  second-passed (reading at) e f = rw (e, f)
  second-passed (writing at value) e f = rw (e, f)
  second-passed (delivery number message) e f = rw (e, f)
  second-passed (ticking sensors place) e f = rw (e, f)

  second-answer : (c : CardCall) → accepted p ≡ true → second c ≡ false → Err (refusal c) ≡ card_answer p c
  unfolding card_answer card_tests given unless refused
  second-answer (reading at) e f = rw (e, f)
  second-answer (writing at value) e f = rw (e, f)
  second-answer (delivery number message) e f = rw (e, f)
  second-answer (ticking sensors place) e f = rw (e, f)

  done-answer : (c : CardCall) → accepted p ≡ true → second c ≡ true → Ok tt ≡ card_answer p c
  unfolding card_answer card_tests given unless refused
  done-answer (reading at) e f = rw (e, f)
  done-answer (writing at value) e f = rw (e, f)
  done-answer (delivery number message) e f = rw (e, f)
  done-answer (ticking sensors place) e f = rw (e, f)

  -- ---- what a call that changes the card gives, and the card

  abbrev pub Called : Card → CardCall → Result (Unit {0}) Refusal → Card → Type 0
  Called k c answer left = (answer ≡ card_answer p c) × (left ≡ card_left p k c)

  module _ (k : Card) (c : CardCall) where
    kept : passed (card_tests p c) ≡ false → k ≡ card_left p k c
    unfolding card_left card_after if_passed card_of parts_of
    kept f = rw f

    pub plan-refused : {r : Refusal} → period_found p ≡ Err r → Called k c (Err r) k
    plan-refused e = (plan-answer c e, kept (plan-passed c (unaccepted p e).0))

    pub second-refused : accepted p ≡ true → second c ≡ false → Called k c (Err (refusal c)) k
    second-refused e f = (second-answer c e f, kept (second-passed c e f))

    -- a step on the card's parts, of which the code lends the state and the bins
    pub call-done :
        {left : Card} {from s : CardState} {b : List ℕ} (step : CardParts → CardParts) →
        accepted p ≡ true →
        second c ≡ true →
        step (parts_of k) ≡ card_done p (parts_of k) c →
        from ≡ (parts_of k).state →
        ◌≡◌ {A = CardParts} (record { state = s; bins = b }) (step (record { state = from; bins = k.bins })) →
        left ≡ card_of (record { state = s; bins = b }) →
        Called k c (Ok tt) left
    unfolding card_left card_after if_passed parts_of
    call-done step e f g h i j = (done-answer c e f, j ∙ rw (i, h, second-passed c e f, sym g))

  -- ---- what else a call gives

  module _ (k : Card) (at : ℕ) where
    pub read-plan : {r : Refusal} → period_found p ≡ Err r → Err r ≡ page_read p k at
    unfolding page_read byte_read card_tests
    read-plan e = sym (call-refused p e _ _)

    pub read-outside : accepted p ≡ true → ltb at page_size ≡ false → Err PageAccess ≡ page_read p k at
    unfolding page_read byte_read card_tests given unless refused
    read-outside e f = rw (e, f)

    pub read_done :
        {x : ℕ} {s : CardState} →
        accepted p ≡ true →
        ltb at page_size ≡ true →
        s ≡ (parts_of k).state →
        x ≡ page_byte s at →
        Ok x ≡ page_read p k at
    unfolding page_read byte_read card_tests given unless refused
    read_done e f g h = rw (e, f, h, g)

  module _ (k : CardParts) (sensors place : List ℕ) where
    pub place-plan : {r : Refusal} → period_found p ≡ Err r → place ≡ place_left p k sensors place
    unfolding place_left if_passed
    place-plan e = rw (plan-passed (ticking sensors place) (unaccepted p e).0)

    pub place-second : accepted p ≡ true → second (ticking sensors place) ≡ false → place ≡ place_left p k sensors place
    unfolding place_left if_passed
    place-second e f = rw (second-passed (ticking sensors place) e f)

    pub place-done : {x : List ℕ} {q : CardParts} → accepted p ≡ true → second (ticking sensors place) ≡ true → q ≡ k → x ≡ ticked_place p q place → x ≡ place_left p k sensors place
    unfolding place_left if_passed
    place-done e f g h = rw (second-passed (ticking sensors place) e f) (h ∙ rw g)

pub parts_is : (k : Card) {s : CardState} → s ≡ (parts_of k).state → ◌≡◌ {A = CardParts} (record { state = s; bins = k.bins }) (parts_of k)
unfolding parts_of
parts_is k e = rw e

-- ---- two tests in one

either-off : (a b : Bool) → not a || not b ≡ true → a && b ≡ false
either-off true true e = sym e
either-off true false e = refl
either-off false b e = refl

both-on : (a b : Bool) → not a || not b ≡ false → a && b ≡ true
both-on true true e = refl
both-on true false e = sym e
both-on false b e = sym e

neither-on : (a b : Bool) → not a && not b ≡ true → a || b ≡ false
neither-on true b e = sym e
neither-on false true e = sym e
neither-on false false e = refl

one_on : (a b : Bool) → not a && not b ≡ false → a || b ≡ true
one_on true b e = refl
one_on false true e = refl
one_on false false e = sym e

pub lengths-wrong :
    (p : Plan) (sensors place : List ℕ) →
    not (eqb (length sensors) p.sensors) || not (eqb (length place) p.actuators) ≡ true →
    second p (ticking sensors place) ≡ false
lengths-wrong p sensors place = either-off (eqb (length sensors) p.sensors) (eqb (length place) p.actuators)

pub lengths-right :
    (p : Plan) (sensors place : List ℕ) →
    not (eqb (length sensors) p.sensors) || not (eqb (length place) p.actuators) ≡ false →
    second p (ticking sensors place) ≡ true
lengths-right p sensors place = both-on (eqb (length sensors) p.sensors) (eqb (length place) p.actuators)

pub write-outside : (p : Plan) (at value : ℕ) → not (eqb at mask_at) && not (eqb at clear_at) ≡ true → second p (writing at value) ≡ false
write-outside p at value = neither-on (eqb at mask_at) (eqb at clear_at)

pub write-inside : (p : Plan) (at value : ℕ) → not (eqb at mask_at) && not (eqb at clear_at) ≡ false → second p (writing at value) ≡ true
write-inside p at value = one_on (eqb at mask_at) (eqb at clear_at)

-- ---- the card has bytes for the bins of every plan

pub most-bins : {nodes cells : ℕ} → nodes ≤ most_nodes → cells ≤ most_cells → nodes * slot_size cells ≤ most_bins
most-bins {nodes} {cells} l m = let size : slot_size cells ≤ 259 = omega (arith, m) in mul-le-mul l size
