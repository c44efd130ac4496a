-- Laws of the page: what counts of a byte is its rest modulo 4; the bytes of the page one by one; bit 2 of byte 3 is 1 exactly while a masked-in flag is.
use mathlib.Core.Path.{◌≡◌, refl, sym, ap, ap₂, ◌∙◌}
use mathlib.Core.Bool.{Bool, true, false, cond, ◌&&◌, ◌||◌}
use Prim.Native.Nat.{ℕ, zero, suc, ◌+◌, ◌*◌, ◌/◌, ◌%◌, ◌^◌, ◌<◌}
use native.Mathlib.Omega.{arith}
use lib.Dec.{eqb}
use lib.ListN.{get_or, replicate}
use borrow.Author.Tests.{eqb-true, eqb-false, ne_eqb}
use Rattle.array.specs.Bit.{bit}
use Rattle.array.specs.Word.{bytes}
use Rattle.array.proofs.TestLaws.{split}
use Rattle.card_page.specs.declared.CardState.{CardState}
use Rattle.card_page.specs.Page.{mask_at, two_bits, named_bits, phase_of, timer_due, bins_full, interrupt, flag_byte, page, page_byte, with_flags, as_counts, with_mask, with_cleared, written_at}

-- ---- what counts of a byte

rest_of : (b : ℕ) → b % 4 ≡ b % 2 * 1 + b / 2 % 2 * 2
rest_of b = omega arith

pub bit-zero : (b : ℕ) → eqb (b % 2) 1 ≡ bit b 0
unfolding bit
bit-zero b = let e : b ≡ b / 2 ^ 0 = omega arith in ap (λ (x : ℕ). eqb (x % 2) 1) e

bit-one : (b : ℕ) → eqb (b / 2 % 2) 1 ≡ bit b 1
unfolding bit
bit-one b = refl

-- a number that is 0 or 1, by the test
zero-or-one : (x k : ℕ) → x % 2 * k ≡ cond (eqb (x % 2) 1) k 0
zero-or-one x k =
    split (eqb (x % 2) 1)
    (λ e. let h : x % 2 ≡ 1 = eqb-true _ _ e in rw (e, h) (omega arith))
    (λ e. let h : x % 2 ≡ 0 = even (eqb-false _ _ e) in rw (e, h) (omega arith))
  where
    even : (x % 2 ≡ 1 → ⊥) → x % 2 ≡ 0
    even h = omega (arith, h)

pub named-rest : (b : ℕ) → b % 4 ≡ named_bits b
unfolding named_bits two_bits
named-rest b = rest_of b ∙ ap₂ ◌+◌ (zero-or-one b 1 ∙ rw (bit-zero b)) (zero-or-one (b / 2) 2 ∙ rw (bit-one b))

pub named_small : (b : ℕ) → named_bits b < 4
named_small b = rw (sym (named-rest b)) (omega arith)

pub two_bits-is : {a b : Bool} (x y : Bool) → a ≡ x → b ≡ y → two_bits x y ≡ two_bits a b
two_bits-is x y e f = rw (e, f)

zeros-at : (n k : ℕ) → ◌≡◌ {A = ℕ} (get_or (replicate n 0) k 0) 0
zeros-at zero k = refl
zeros-at (suc n) zero = refl
zeros-at (suc n) (suc k) = zeros-at n k

-- the bits of a byte of two bits and a third
third-first : (a b c : Bool) → bit (two_bits a b + cond c 4 0) 0 ≡ a
unfolding two_bits bit
third-first true true true = refl
third-first true true false = refl
third-first true false true = refl
third-first true false false = refl
third-first false true true = refl
third-first false true false = refl
third-first false false true = refl
third-first false false false = refl

third-second : (a b c : Bool) → bit (two_bits a b + cond c 4 0) 1 ≡ b
unfolding two_bits bit
third-second true true true = refl
third-second true true false = refl
third-second true false true = refl
third-second true false false = refl
third-second false true true = refl
third-second false true false = refl
third-second false false true = refl
third-second false false false = refl

third-third : (a b c : Bool) → bit (two_bits a b + cond c 4 0) 2 ≡ c
unfolding two_bits bit
third-third true true true = refl
third-third true true false = refl
third-third true false true = refl
third-third true false false = refl
third-third false true true = refl
third-third false true false = refl
third-third false false true = refl
third-third false false false = refl

pub two_bits-first : (a b : Bool) → bit (two_bits a b) 0 ≡ a
unfolding two_bits bit
two_bits-first true true = refl
two_bits-first true false = refl
two_bits-first false true = refl
two_bits-first false false = refl

pub two_bits-second : (a b : Bool) → bit (two_bits a b) 1 ≡ b
unfolding two_bits bit
two_bits-second true true = refl
two_bits-second true false = refl
two_bits-second false true = refl
two_bits-second false false = refl

named-first : (b : ℕ) → bit (named_bits b) 0 ≡ bit b 0
unfolding named_bits
named-first b = two_bits-first (bit b 0) (bit b 1)

named-second : (b : ℕ) → bit (named_bits b) 1 ≡ bit b 1
unfolding named_bits
named-second b = two_bits-second (bit b 0) (bit b 1)

-- ---- the bytes of the page

module _ (s : CardState) where
  pub flag-on : {k : ℕ} {t : Bool} → k ≡ named_bits s.flags → t ≡ interrupt s → t ≡ true → k + 4 ≡ flag_byte s
  unfolding flag_byte named_bits timer_due bins_full
  flag-on e i t = rw (e, sym i, t)

  pub flag_off : {k : ℕ} {t : Bool} → k ≡ named_bits s.flags → t ≡ interrupt s → t ≡ false → k ≡ flag_byte s
  unfolding flag_byte named_bits timer_due bins_full
  flag_off e i t = rw (e, sym i, t) (omega arith)

  flag-due : bit (flag_byte s) 0 ≡ timer_due s
  unfolding flag_byte
  flag-due = third-first (timer_due s) (bins_full s) (interrupt s)

  flag-full : bit (flag_byte s) 1 ≡ bins_full s
  unfolding flag_byte
  flag-full = third-second (timer_due s) (bins_full s) (interrupt s)

  flag-line : bit (flag_byte s) 2 ≡ interrupt s
  unfolding flag_byte
  flag-line = third-third (timer_due s) (bins_full s) (interrupt s)

  interrupt-is : interrupt s ≡ (timer_due s && bit s.mask 0 || bins_full s && bit s.mask 1)
  unfolding interrupt
  interrupt-is = refl

  pub page-at : {at r : ℕ} (k : ℕ) → at ≡ k → r ≡ page_byte s k → r ≡ page_byte s at
  page-at k e f = f ∙ rw e

  pub page-high : s.memory.counter / 256 % 256 ≡ page_byte s 0
  unfolding page_byte page bytes
  page-high = refl

  pub page-low : s.memory.counter % 256 ≡ page_byte s 1
  unfolding page_byte page bytes
  page-low = refl

  pub page-phase : phase_of s ≡ page_byte s 2
  unfolding page_byte page bytes
  page-phase = refl

  pub page-flags : flag_byte s ≡ page_byte s 3
  unfolding page_byte page bytes
  page-flags = refl

  pub page-mask : named_bits s.mask ≡ page_byte s 4
  unfolding page_byte page bytes
  page-mask = refl

  pub page-rest : (at : ℕ) → (at ≡ 0 → ⊥) → (at ≡ 1 → ⊥) → (at ≡ 2 → ⊥) → (at ≡ 3 → ⊥) → (at ≡ 4 → ⊥) → 0 ≡ page_byte s at
  unfolding page_byte page bytes
  page-rest zero a b c d e = absurd (a refl)
  page-rest (suc zero) a b c d e = absurd (b refl)
  page-rest (suc (suc zero)) a b c d e = absurd (c refl)
  page-rest (suc (suc (suc zero))) a b c d e = absurd (d refl)
  page-rest (suc (suc (suc (suc zero)))) a b c d e = absurd (e refl)
  page-rest (suc (suc (suc (suc (suc k))))) a b c d e = sym (zeros-at 11 k)

  -- "bit 2 is 1 while a masked-in flag is, else 0": said of the bytes that the page shows
  pub interrupt-shown : bit (page_byte s 3) 2 ≡ (bit (page_byte s 3) 0 && bit (page_byte s 4) 0 || bit (page_byte s 3) 1 && bit (page_byte s 4) 1)
  interrupt-shown = rw (sym page-flags, sym page-mask) shown
    where
      shown : bit (flag_byte s) 2 ≡ (bit (flag_byte s) 0 && bit (named_bits s.mask) 0 || bit (flag_byte s) 1 && bit (named_bits s.mask) 1)
      shown = rw (flag-due, flag-full, flag-line, named-first s.mask, named-second s.mask) interrupt-is

  -- ---- what a host writes

  pub mask-set : (v : ℕ) {k : CardState} {m : ℕ} → k ≡ as_counts s → m ≡ named_bits v → ◌≡◌ {A = CardState} (record { memory = k.memory; phase = k.phase; flags = k.flags; mask = m }) (with_mask s v)
  unfolding with_mask as_counts with_flags
  mask-set v e f = rw (e, f)

  pub written-mask : {at : ℕ} (v : ℕ) {r : CardState} → at ≡ mask_at → r ≡ with_mask s v → r ≡ written_at s at v
  unfolding written_at
  written-mask v e f = rw e f

  pub written-clear : {at : ℕ} (v : ℕ) {r : CardState} → (at ≡ mask_at → ⊥) → r ≡ with_cleared s v → r ≡ written_at s at v
  unfolding written_at
  written-clear v e f = rw (ne_eqb _ _ e) f
