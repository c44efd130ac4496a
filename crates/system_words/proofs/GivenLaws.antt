-- Laws of the words and the number that a call gives, by what the call under it gives.
use Rattle.std.specs.Prelude.{Result, Ok, Err, Some}
use mathlib.Core.Path.{◌≡◌}
use mathlib.Core.List.{List}
use Prim.Native.Nat.{ℕ}
use Rattle.answer.specs.declared.Refusal.{Refusal}
use Rattle.memory.specs.declared.Memory.{Memory}
use Rattle.system.specs.declared.System.{System}
use Rattle.system_words.specs.Words.{code_with, code_of, if_done, with_memory, memory_given, with_system, system_given}

module _ {A : Type 0} (given : Result A Refusal) where
  pub code-done : {x : A} → given ≡ Ok x → 0 ≡ code_of given
  unfolding code_of code_with
  code-done e = rw e

  pub code-refused : {r : Refusal} → given ≡ Err r → code_with (Some r) ≡ code_of given
  unfolding code_of
  code-refused e = rw e

  pub done-given : {x : A} → given ≡ Ok x → (new old : List ℕ) → new ≡ if_done given new old
  unfolding if_done
  done-given e new old = rw e

  pub done-kept : {r : Refusal} → given ≡ Err r → (new old : List ℕ) → old ≡ if_done given new old
  unfolding if_done
  done-kept e new old = rw e

  pub memory-given : {x : A} → given ≡ Ok x → (m : Memory) (ws : List ℕ) → with_memory m 0 ws ≡ memory_given given m ws
  unfolding memory_given
  memory-given e m ws = done-given e (with_memory m 0 ws) ws

  pub memory-kept : {r : Refusal} → given ≡ Err r → (m : Memory) (ws : List ℕ) → ws ≡ memory_given given m ws
  unfolding memory_given
  memory-kept e m ws = done-kept e (with_memory m 0 ws) ws

  pub system-given : {x : A} → given ≡ Ok x → (n : ℕ) (sys : System) (ws : List ℕ) → with_system n sys ws ≡ system_given given n sys ws
  unfolding system_given
  system-given e n sys ws = done-given e (with_system n sys ws) ws

  pub system-kept : {r : Refusal} → given ≡ Err r → (n : ℕ) (sys : System) (ws : List ℕ) → ws ≡ system_given given n sys ws
  unfolding system_given
  system-kept e n sys ws = done-kept e (with_system n sys ws) ws
