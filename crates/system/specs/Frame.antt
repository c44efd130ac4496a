-- A frame of the whole system under faults.
use Rattle.std.specs.Prelude.{not, cond, List, ℕ, get_or, Option, Some, unwrap_or}
use Rattle.array.specs.Index.{fill, joined, least}
use Rattle.plan.specs.declared.Plan.{Plan}
use Rattle.plan.specs.Known.{period}
use Rattle.memory.specs.declared.Memory.{Memory}
use Rattle.memory.specs.Node.{zero_memory, computed, message_of, bin_of, voted, vote_agreement, setpoint}
use Rattle.ballot.specs.Plane.{plane}
use Rattle.plan.specs.Sizes.{sizes_of}
use Rattle.system.specs.declared.System.{System}
use Rattle.system.specs.Fault.{bad, fault_memory, fault_message, fault_setpoint}
use Rattle.system.specs.Counts.{good_after}

-- node i's memory in a record
abbrev pub memory_of : System → ℕ → Memory
memory_of sys i = get_or sys.memories i zero_memory

abbrev pub good_of : System → ℕ → ℕ
good_of sys i = get_or sys.good i 0

-- what the plane remembers for actuator a
abbrev pub handed_of : System → ℕ → ℕ
handed_of sys a = get_or sys.seen.handed a 0

-- ---- a frame that is not refused: plan, record, sensors, mask, fault bytes

module _ (p : Plan) (sys : System) (sensors : List ℕ) (mask : ℕ) (faults : List ℕ) where
  -- node j after its tasks
  unfoldable pub computed_by : ℕ → Memory
  computed_by j = computed p sensors (memory_of sys j)

  -- what node i hears of node j, in a bin: "Good nodes receive good nodes' messages whole"
  unfoldable pub heard : ℕ → ℕ → List ℕ
  heard i j = cond (bad mask j) (fault_message (sizes_of p) faults j i) (bin_of (message_of p (computed_by j)))

  -- "its mailbox is these bins one after another, node 0 first"
  unfoldable pub mailbox_of : ℕ → List ℕ
  mailbox_of i = joined (heard i) p.nodes

  unfoldable pub memory_after : ℕ → Memory
  memory_after i = cond (bad mask i) (fault_memory (sizes_of p) faults i (memory_of sys i)) (voted p (computed_by i) (mailbox_of i))

  -- what node j puts out for actuator a
  unfoldable pub put_out : ℕ → ℕ → Option ℕ
  put_out a j = cond (bad mask j) (fault_setpoint (sizes_of p) faults j a) (Some (setpoint p (memory_after j) a))

  -- what the plane hands on for actuator a
  unfoldable pub handed_on : ℕ → ℕ
  handed_on a = plane (put_out a) p.nodes (handed_of sys a)

  unfoldable pub system_after : System
  system_after =
      record {
        memories = fill memory_after p.nodes sys.memories;
        good = fill (good_after (period p) mask sys.good) p.nodes sys.good;
        seen = record { handed = fill handed_on p.actuators sys.seen.handed };
      }

  unfoldable pub place_after : List ℕ → List ℕ
  place_after place = fill handed_on p.actuators place

  -- what node i's vote gives beside its memory
  unfoldable pub agreement_by : ℕ → ℕ
  agreement_by i = vote_agreement p (computed_by i) (mailbox_of i)

  -- Request 2026-02: "the least over the good nodes, or 0 if all are bad"
  unfoldable pub frame_agreement : ℕ
  frame_agreement = unwrap_or (least (λ i. not (bad mask i)) agreement_by p.nodes) 0
