-- Laws of the counter: each way through the code leaves what each good node would have counted.
use Rattle.std.specs.Prelude.{Option, None, Some}
use mathlib.Core.Path.{◌≡◌, refl, sym, ap, ◌∙◌}
use mathlib.Core.List.{List}
use Prim.Native.Nat.{ℕ, suc, ◌≤◌, ◌<◌}
use lib.ListN.{get_or}
use Rattle.array.specs.Index.{lesser, least}
use Rattle.plan.specs.declared.Sizes.{Sizes}
use Rattle.ballot.specs.Majority.{holders, majority, agreement, or_own}
use Rattle.ballot.specs.Code.{Told}
use Rattle.row_word.specs.Code.{is_good, good_only, fault_word, heard_word}
use Rattle.row_word.proofs.HeardLaws.{told-word, decided-of}
use Rattle.row_word.proofs.AgreementLaws.{least-of-each, least-of-none, least-of-decided}
use Rattle.row_counter.specs.Code.{Put, frame_before, agreed_frame, counter_after, counter_agreement}
use Rattle.row_counter.proofs.PutLaws.{put-idle, put_same}
use Rattle.row_counter.proofs.HeardLaws.{counter-settled, counter-kept, counter-alone, counter-read}
use Rattle.row_counter.proofs.VoteLaws.{agreed-none, agreed-below, agreed-above}

-- ---- the counter

module _ (s : Sizes) (mask : ℕ) (faults counters words : List ℕ) (told : Told (λ j. Some (get_or counters (suc j) 0)) s.nodes words) {o : Option ℕ} (d : o ≡ majority (good_only mask (λ j. get_or words j 0)) s.nodes) where
  abbrev sent : ℕ → ℕ
  sent j = get_or counters (suc j) 0

  -- what `vote_counter` gives, and leaves
  abbrev Outcome : Option ℕ → ℕ → List ℕ → Type 0
  Outcome r a counters' =
      (r ≡ agreed_frame s.frames (majority (good_only mask sent) s.nodes)) × Put suc (is_good mask) (counter_after s mask faults counters) s.nodes counters counters'
      × (a ≡ lesser s.nodes (least (is_good mask) (counter_agreement s mask faults counters) s.nodes))

  is : majority (good_only mask sent) s.nodes ≡ o
  is = decided-of mask s.nodes sent words told d

  -- what is said of the counter to receiver i
  abbrev fault : ℕ → ℕ → Option ℕ
  fault = fault_word s mask faults 0

  abbrev read : (j : ℕ) → j < s.nodes → sent j ≡ get_or words j 0
  read = told-word sent s.nodes words told

  pub counter-each :
      {counters' : List ℕ} {a : ℕ} → o ≡ None →
      Put suc (is_good mask) (λ i. or_own s.frames (sent i) (majority (heard_word s mask faults (λ j. get_or words j 0) 0 i) s.nodes)) s.nodes counters counters' →
      a ≡ lesser s.nodes (least (is_good mask) (λ i. agreement (heard_word s mask faults (λ j. get_or words j 0) 0 i) s.nodes) s.nodes) →
      Outcome None a counters'
  unfolding counter_agreement
  counter-each {counters'} e p h = (
    agreed-none s.frames (is ∙ e),
    put_same suc (is_good mask) (is_good mask) _ (counter_after s mask faults counters) s.nodes counters counters' (λ j l. refl) (λ j l t. counter-read s mask faults j counters words told) p,
    least-of-each mask s.nodes s.nodes fault sent (λ j. get_or words j 0) read (is_good mask) h,
  )

  pub counter-none : o ≡ None → mask ≡ 0 → 0 < s.nodes → Outcome None 0 counters
  unfolding counter_agreement
  counter-none e z pos = (
    agreed-none s.frames (is ∙ e),
    put-idle suc (is_good mask) (counter_after s mask faults counters) s.nodes counters (λ j l t. counter-alone s mask faults j counters (is ∙ e) z),
    least-of-none mask s.nodes s.nodes fault sent (λ j. get_or words j 0) read d e z pos,
  )

  module _ (x : ℕ) (e : o ≡ Some x) {a : ℕ} (h : a ≡ lesser s.nodes (least (is_good mask) (λ i. holders (heard_word s mask faults (λ j. get_or words j 0) 0 i) s.nodes x) s.nodes)) where
    agreed : a ≡ lesser s.nodes (least (is_good mask) (counter_agreement s mask faults counters) s.nodes)
    unfolding counter_agreement
    agreed = least-of-decided mask s.nodes s.nodes fault sent (λ j. get_or words j 0) read d x e h

    pub counter-below :
        {y r : ℕ} {counters' : List ℕ} → x < s.frames → y ≡ x → Put suc (is_good mask) (λ j. y) s.nodes counters counters' → r ≡ frame_before s.frames y →
        Outcome (Some r) a counters'
    counter-below {y} {r} {counters'} l z p f = (
      ap Some (f ∙ ap (frame_before s.frames) z) ∙ agreed-below s.frames x (is ∙ e) l,
      put_same suc (is_good mask) (is_good mask) _ (counter_after s mask faults counters) s.nodes counters counters' (λ j k. refl) (λ j k t. z ∙ sym (counter-settled s mask faults j counters x (is ∙ e) l)) p,
      agreed,
    )

    -- a counter that is no frame is agreed on, though it is not taken
    pub counter-above : s.frames ≤ x → Outcome None a counters
    counter-above l = (
      agreed-above s.frames x (is ∙ e) l,
      put-idle suc (is_good mask) (counter_after s mask faults counters) s.nodes counters (λ j k t. counter-kept s mask faults j counters x (is ∙ e) l),
      agreed,
    )
