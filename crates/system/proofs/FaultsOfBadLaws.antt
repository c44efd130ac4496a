-- Only bad nodes' bytes matter: fault bytes that agree on the parts of the bad nodes give the same frame.
use Rattle.std.specs.Prelude.{Option, Some, unwrap_or}
use mathlib.Core.Path.{◌≡◌, refl, ap}
use mathlib.Core.Bool.{true}
use mathlib.Core.List.{List}
use Prim.Native.Nat.{ℕ, ◌+◌, ◌*◌, ◌≤◌, ◌<◌}
use native.Mathlib.Nat.{add-zero}
use native.Mathlib.Omega.{arith}
use lib.ListN.{get_or}
use Rattle.array.specs.Index.{fill}
use Rattle.array.specs.Word.{be}
use Rattle.array.proofs.TestLaws.{split}
use Rattle.array.proofs.LeastLaws.{least-same}
use Rattle.array.proofs.PlacesLaws.{fill-same, joined_same, from-same}
use Rattle.array.proofs.WordLaws.{be-part}
use Rattle.plan.specs.declared.Plan.{Plan}
use Rattle.plan.specs.declared.Sizes.{Sizes}
use Rattle.plan.specs.Sizes.{sizes_of}
use Rattle.memory.specs.declared.Memory.{Memory}
use Rattle.memory.specs.Size.{counter_size, pattern_size, cell_at, bin_bytes}
use Rattle.ballot.proofs.PlaneLaws.{plane-same}
use Rattle.system.specs.declared.System.{System}
use Rattle.system.specs.Fault.{bad, memory_size, messages_size, setpoint_size, fault_size, fault_at, fault_message_at, fault_memory, fault_message, fault_setpoint}
use Rattle.system.specs.Frame.{memory_of, handed_of, computed_by, heard, mailbox_of, memory_after, put_out, handed_on, system_after, place_after, agreement_by, frame_agreement}
use Rattle.system.proofs.FaultLaws.{message-room}

-- bytes that agree on the part of node j
module _ (s : Sizes) (f g : List ℕ) (j : ℕ) (same : (k : ℕ) → k < fault_size s → get_or f (fault_at s j + k) 0 ≡ get_or g (fault_at s j + k) 0) where
  word_same : (n o : ℕ) → o + n ≤ fault_size s → be n f (fault_at s j + o) ≡ be n g (fault_at s j + o)
  word_same n o l =
      rw (
        be-part n f (fault_at s j) (fault_size s) o l,
        be-part n g (fault_at s j) (fault_size s) o l,
        from-same 0 f g (fault_at s j) (fault_at s j) (fault_size s) same,
      )

  memory-same : (m : Memory) → fault_memory s f j m ≡ fault_memory s g j m
  unfolding fault_memory
  memory-same m =
      let counter : be counter_size f (fault_at s j) ≡ be counter_size g (fault_at s j) =
      rw (add-zero (fault_at s j)) at (word_same counter_size 0 (omega arith)) in
      let cells : fill (λ c. be pattern_size f (fault_at s j + cell_at c)) s.cells m.cells ≡ fill (λ c. be pattern_size g (fault_at s j + cell_at c)) s.cells m.cells =
      fill-same _ _ s.cells m.cells (λ c l. word_same pattern_size (cell_at c) (omega arith)) in
      λ i. record { counter = counter i; cells = cells i }

  message-same : (i : ℕ) → i < s.nodes → fault_message s f j i ≡ fault_message s g j i
  unfolding fault_message
  message-same i l =
      from-same 0 f g (fault_message_at s j i) (fault_message_at s j i) (bin_bytes s.cells)
      (λ k h.
      let z : fault_message_at s j i + k ≡ fault_at s j + (memory_size s + i * bin_bytes s.cells + k) = omega arith in
      rw z (same (memory_size s + i * bin_bytes s.cells + k) (omega (arith, message-room s j i l))))

  setpoint-same : (a : ℕ) → a < s.actuators → fault_setpoint s f j a ≡ fault_setpoint s g j a
  unfolding fault_setpoint
  setpoint-same a l =
      let o : ℕ = memory_size s + messages_size s + setpoint_size * a in
      let z : fault_at s j + memory_size s + messages_size s + setpoint_size * a ≡ fault_at s j + o = omega arith in
      rw z (ap Some (word_same pattern_size o (omega arith)))

module _
    (p : Plan) (sys : System) (sensors : List ℕ) (mask : ℕ) (f g : List ℕ)
    (same :
    (j k : ℕ) → j < p.nodes → bad mask j ≡ true → k < fault_size (sizes_of p) →
    get_or f (fault_at (sizes_of p) j + k) 0 ≡ get_or g (fault_at (sizes_of p) j + k) 0)
  where
    heard-same : (i j : ℕ) → i < p.nodes → j < p.nodes → heard p sys sensors mask f i j ≡ heard p sys sensors mask g i j
    unfolding heard computed_by
    heard-same i j il jl = split (bad mask j) (λ e. rw e (message-same (sizes_of p) f g j (λ k. same j k jl e) i il)) (λ e. rw e)

    mailbox-same : (i : ℕ) → i < p.nodes → mailbox_of p sys sensors mask f i ≡ mailbox_of p sys sensors mask g i
    unfolding mailbox_of
    mailbox-same i l = joined_same _ _ p.nodes (λ j h. heard-same i j l h)

    after_same : (i : ℕ) → i < p.nodes → memory_after p sys sensors mask f i ≡ memory_after p sys sensors mask g i
    unfolding memory_after computed_by
    after_same i l =
        split (bad mask i)
        (λ e. rw e (memory-same (sizes_of p) f g i (λ k. same i k l e) (memory_of sys i)))
        (λ e. rw (e, mailbox-same i l))

    put_same : (a j : ℕ) → a < p.actuators → j < p.nodes → put_out p sys sensors mask f a j ≡ put_out p sys sensors mask g a j
    unfolding put_out
    put_same a j al jl =
        split (bad mask j) (λ e. rw e (setpoint-same (sizes_of p) f g j (λ k. same j k jl e) a al)) (λ e. rw (e, after_same j jl))

    handed-same : (a : ℕ) → a < p.actuators → handed_on p sys sensors mask f a ≡ handed_on p sys sensors mask g a
    unfolding handed_on
    handed-same a l = plane-same _ (put_out p sys sensors mask g a) p.nodes (handed_of sys a) (λ j h. put_same a j l h)

    system-same : system_after p sys sensors mask f ≡ system_after p sys sensors mask g
    unfolding system_after
    system-same =
        rw (
          fill-same _ (memory_after p sys sensors mask g) p.nodes sys.memories after_same,
          fill-same _ (handed_on p sys sensors mask g) p.actuators sys.seen.handed handed-same,
        )

    place_same : (place : List ℕ) → place_after p sys sensors mask f place ≡ place_after p sys sensors mask g place
    unfolding place_after
    place_same place = fill-same _ _ p.actuators place handed-same

    agreement-same : frame_agreement p sys sensors mask f ≡ frame_agreement p sys sensors mask g
    unfolding frame_agreement agreement_by computed_by
    agreement-same =
        ap (λ (o : Option ℕ). unwrap_or o 0) (least-same _ _ _ _ p.nodes (λ i l. refl) (λ i l t. rw (mailbox-same i l)))

    pub faults-of-bad :
        (system_after p sys sensors mask f ≡ system_after p sys sensors mask g)
        × ((place : List ℕ) → place_after p sys sensors mask f place ≡ place_after p sys sensors mask g place)
        × (frame_agreement p sys sensors mask f ≡ frame_agreement p sys sensors mask g)
    faults-of-bad = (system-same, place_same, agreement-same)
