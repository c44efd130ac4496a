use Rattle.system.proofs.PowerOnLaws.{power_on-is}
use mathlib.Core.Path.{◌≡◌, refl, sym, ap, ◌∙◌}
use mathlib.Core.List.{List}
use Prim.Native.Nat.{ℕ}
use lib.ListN.{set}
use native.Mathlib.Omega.{arith}
use borrow.Author.Rules.{rules}
use Rattle.array.specs.Index.{fill}
use Rattle.array.proofs.PlacesLaws.{fill_none, fill_more}
use Rattle.plan.proofs.AcceptedLaws.{shape-of-accepted, bound-small}
use Rattle.plan.proofs.PeriodLaws.{period-bound}
use Rattle.memory.specs.declared.Memory.{Memory}
use Rattle.system.specs.declared.Seen.{Seen}
use Rattle.system.specs.declared.System.{System}
use Rattle.system.specs.System.{zero_system, first_handed}
use Rattle.system.proofs.System.started.Goals as goal

pub power_on-memory-requires : goal.power_on-memory-requires
power_on-memory-requires c = c.requires.0

pub overflow_cast-full : goal.overflow_cast-full
overflow_cast-full c = let s = shape-of-accepted c.args.plan c.requires.0 in omega (arith, c.requires.1, period-bound c.args.plan, bound-small c.args.plan s)

pub started-system-requires : goal.started-system-requires
started-system-requires c =
    let s = shape-of-accepted c.args.plan c.requires.0 in
    (s.actuators-le, λ a l. omega (arith, s.actuator a l, s.cells-le))

pub loop-i-init : goal.loop-i-init
loop-i-init c = (search rules, ap {B = List Memory} (λ (x : System). x.memories) c.zero-system.ensures ∙ sym (fill_none _ _), ap {B = List ℕ} (λ (x : System). x.good) c.zero-system.ensures ∙ sym (fill_none _ _), refl)

pub offset_bounds-system-i : goal.offset_bounds-system-i
offset_bounds-system-i c = let s = shape-of-accepted c.args.plan c.requires.0 in omega (arith, s.nodes-high, c.loop-i-test.true)

pub bounds-system-i : goal.bounds-system-i
bounds-system-i c = let s = shape-of-accepted c.args.plan c.requires.0 in omega (arith, s.nodes-high, c.loop-i-test.true)

pub offset_bounds-system-i-in-loop-i : goal.offset_bounds-system-i-in-loop-i
offset_bounds-system-i-in-loop-i c = let s = shape-of-accepted c.args.plan c.requires.0 in omega (arith, s.nodes-high, c.loop-i-test.true)

pub bounds-system-i-in-loop-i : goal.bounds-system-i-in-loop-i
bounds-system-i-in-loop-i c = let s = shape-of-accepted c.args.plan c.requires.0 in omega (arith, s.nodes-high, c.loop-i-test.true)

pub loop-i-preserved : goal.loop-i-preserved
loop-i-preserved c = (search rules, ap {B = List Memory} (λ (l : List Memory). set l c.loop-i.i c.power_on-memory.result) c.loop-i.invariant.1 ∙ fill_more (λ k. c.power_on-memory.result) c.loop-i.i zero_system.memories _ refl, ap {B = List ℕ} (λ (l : List ℕ). set l c.loop-i.i c.args.period) c.loop-i.invariant.2 ∙ fill_more (λ k. c.args.period) c.loop-i.i zero_system.good _ refl, c.loop-i.invariant.3)

pub returns : goal.returns
unfolding first_handed
returns c =
    let l = c.loop-i in
    let a = c.args in
    let m = c.power_on-memory in
    let e : l.i ≡ a.plan.nodes = omega arith in
    power_on-is a.plan l.system m.result a.period m.ensures c.requires.1
    (l.invariant.1 ∙ ap (λ (n : ℕ). fill (λ k. m.result) n zero_system.memories) e)
    (l.invariant.2 ∙ ap (λ (n : ℕ). fill (λ k. a.period) n zero_system.good) e)
    (ap {B = List ℕ} (λ (x : Seen). x.handed) l.invariant.3 ∙ c.started-system.ensures)
