-- Laws of the frame that is agreed, by the counter that is decided.
use Rattle.std.specs.Prelude.{Option, None, Some}
use mathlib.Core.Path.{◌≡◌}
use Prim.Native.Nat.{ℕ, ◌≤◌, ◌<◌}
use borrow.Author.Tests.{lt-ltb, le-ltb}
use Rattle.row_counter.specs.Code.{frame_before, agreed_frame}

module _ (frames : ℕ) {o : Option ℕ} where
  pub agreed-none : o ≡ None → None ≡ agreed_frame frames o
  unfolding agreed_frame
  agreed-none e = rw e

  pub agreed-below : (x : ℕ) → o ≡ Some x → x < frames → Some (frame_before frames x) ≡ agreed_frame frames o
  unfolding agreed_frame
  agreed-below x e l = rw (e, lt-ltb x frames l)

  pub agreed-above : (x : ℕ) → o ≡ Some x → frames ≤ x → None ≡ agreed_frame frames o
  unfolding agreed_frame
  agreed-above x e l = rw (e, le-ltb x frames l)
