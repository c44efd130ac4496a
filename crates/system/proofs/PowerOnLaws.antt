-- Laws of the record at power-on.
use mathlib.Core.Path.{◌≡◌, ap, ◌∙◌}
use Prim.Native.Nat.{ℕ}
use Rattle.array.specs.Index.{fill}
use Rattle.plan.specs.declared.Plan.{Plan}
use Rattle.plan.specs.Known.{period}
use Rattle.memory.specs.declared.Memory.{Memory}
use Rattle.memory.specs.Node.{powered_on}
use Rattle.system.specs.declared.System.{System}
use Rattle.system.specs.System.{zero_system, first_handed, power_on}

module _ (p : Plan) where
  pub power_on-is :
      (sys : System) (m : Memory) (full : ℕ) →
      m ≡ powered_on p →
      full ≡ period p →
      sys.memories ≡ fill (λ k. m) p.nodes zero_system.memories →
      sys.good ≡ fill (λ k. full) p.nodes zero_system.good →
      sys.seen.handed ≡ fill (first_handed p) p.actuators zero_system.seen.handed →
      sys ≡ power_on p
  unfolding power_on
  power_on-is sys m full e r a b h =
      let a₁ : sys.memories ≡ fill (λ k. powered_on p) p.nodes zero_system.memories = a ∙ ap (λ (x : Memory). fill (λ k. x) p.nodes zero_system.memories) e in
      let b₁ : sys.good ≡ fill (λ k. period p) p.nodes zero_system.good = b ∙ ap (λ (x : ℕ). fill (λ k. x) p.nodes zero_system.good) r in
      λ i. record { memories = a₁ i; good = b₁ i; seen = record { handed = h i } }
