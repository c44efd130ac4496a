-- Laws of the words and bytes after a call, by what it gives.
use Rattle.std.specs.Prelude.{Result, Ok, Err}
use mathlib.Core.Path.{◌≡◌}
use mathlib.Core.List.{List}
use Prim.Native.Nat.{ℕ}
use Rattle.answer.specs.declared.Refusal.{Refusal}
use Rattle.system_words.proofs.GivenLaws.{done-given, done-kept}
use Rattle.card.specs.declared.Card.{Card}
use Rattle.card_words.specs.Words.{with_card, card_given, bins_given}

module _ {A : Type 0} (given : Result A Refusal) where
  pub card-given : {x : A} → given ≡ Ok x → (k : Card) (ws : List ℕ) → with_card k ws ≡ card_given given k ws
  unfolding card_given
  card-given e k ws = done-given given e (with_card k ws) ws

  pub card-kept : {r : Refusal} → given ≡ Err r → (k : Card) (ws : List ℕ) → ws ≡ card_given given k ws
  unfolding card_given
  card-kept e k ws = done-kept given e (with_card k ws) ws

  pub bins-given : {x : A} → given ≡ Ok x → (k : Card) (bytes : List ℕ) → k.bins ≡ bins_given given k bytes
  unfolding bins_given
  bins-given e k bytes = done-given given e k.bins bytes

  pub bins-kept : {r : Refusal} → given ≡ Err r → (k : Card) (bytes : List ℕ) → bytes ≡ bins_given given k bytes
  unfolding bins_given
  bins-kept e k bytes = done-kept given e k.bins bytes
