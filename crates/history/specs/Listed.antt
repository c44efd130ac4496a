-- What holds of the histories. The laws are in ListedLaws and PremiseLaws.
use Rattle.std.specs.Prelude.{◌≡◌, true, cond, ◌⊎◌, ◌↔◌, ℕ, ◌*◌, ◌^◌, ◌<◌, ltb, length, get_or, replicate}
use mathlib.Core.List.{List, [], ◌∷◌, ◌++◌, flatten, Memᴰ}
use Rattle.array.specs.Index.{how_many, all_in, from}
use Rattle.plan.specs.declared.Plan.{Plan}
use Rattle.plan.specs.Known.{period}
use Rattle.plan.specs.Accepted.{accepted}
use Rattle.system.specs.System.{power_on}
use Rattle.system.specs.Counts.{is_working}
use Rattle.system.specs.Demand.{Call, is_frame, finally, masks, Premise, OnePlan, Tolerated}
use Rattle.history_masks.specs.Histories.{works_after, lived, histories}
use Rattle.history.specs.Answers.{plan_histories}

-- ---- "Each comes one time, ascending as masks with the first frame leading."

-- the first masks in which two histories differ decide
unfoldable pub Precedes : List ℕ → List ℕ → Type 0
Precedes (a ∷ h) (b ∷ j) = (a < b) ⊎ ((a ≡ b) × Precedes h j)
Precedes [] j = ⊥
Precedes (a ∷ h) [] = ⊥

-- each comes before all that follow it in the list
unfoldable pub Ascending : List (List ℕ) → Type 0
Ascending [] = Unit {0}
Ascending (h ∷ hs) = ((j : List ℕ) → Memᴰ j hs → Precedes h j) × Ascending hs

abbrev pub InOrder : Type 0
InOrder = (nodes period k : ℕ) → Ascending (histories nodes period k)

abbrev pub Once : Type 0
Once = (nodes period k i j : ℕ) → i < j → j < length (histories nodes period k) → get_or (histories nodes period k) i [] ≡ get_or (histories nodes period k) j [] → ⊥

-- nothing else and nothing missing: so many masks of so many nodes, every frame with more than half of them working
abbrev pub Exactly : Type 0
Exactly =
    (nodes period k : ℕ) (h : List ℕ) →
    Memᴰ h (histories nodes period k) ↔ ((length h ≡ k) × (all_in (λ mask. ltb mask (2 ^ nodes)) h ≡ true) × (lived nodes period [] h ≡ true))

-- the history in which no node is ever bad, so that the list is never empty
abbrev pub NoneBad : Type 0
NoneBad = (p : Plan) → accepted p ≡ true → (k : ℕ) → Memᴰ (replicate k 0) (plan_histories p k)

-- "They fill the front of a lent buffer, one byte a mask": history i stands from byte i × length on, whatever is behind the histories
abbrev pub InPlace : Type 0
InPlace =
    (nodes period k i : ℕ) → i < length (histories nodes period k) →
    (rest : List ℕ) → from 0 (flatten (histories nodes period k) ++ rest) (i * k) k ≡ get_or (histories nodes period k) i []

-- Document 01's count of working nodes in a frame of the press, as the listing has it, is that of the histories
abbrev pub SameWorking : Type 0
SameWorking =
    (p : Plan) → accepted p ≡ true → (cs : List Call) → OnePlan p cs → (mask : ℕ) →
    how_many (is_working (period p) mask (finally (power_on p) cs).good) p.nodes ≡ how_many (works_after (period p) (masks cs []) mask) p.nodes

-- ---- "each history that the press must live through"

-- the history of a list of frame calls: the masks of its frames, the first frame's first (demand 3 has them the newest first: `history-masks`)
unfoldable pub history_of : List Call → List ℕ
history_of [] = []
history_of (c ∷ cs) = cond (is_frame c) (c.mask ∷ history_of cs) (history_of cs)

abbrev pub IsListed : Plan → List Call → Type 0
IsListed p cs = Memᴰ (history_of cs) (plan_histories p (length (history_of cs)))

-- a list of frame calls meets demand 3's premise exactly if its history is listed
abbrev pub PremiseListed : Type 0
PremiseListed = (p : Plan) → accepted p ≡ true → (cs : List Call) → OnePlan p cs → Premise p cs [] ↔ IsListed p cs

-- and then demand 3 says that the press lives through it
abbrev pub LivedThrough : Type 0
LivedThrough = (p : Plan) → accepted p ≡ true → (cs : List Call) → OnePlan p cs → IsListed p cs → Tolerated p cs

-- each history that is listed is that of some list of frame calls
abbrev pub SomeCalls : Type 0
SomeCalls =
    (p : Plan) → accepted p ≡ true → (k : ℕ) (h : List ℕ) → Memᴰ h (plan_histories p k) → (cs : List Call) × OnePlan p cs × (history_of cs ≡ h)
