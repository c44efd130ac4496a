-- Laws of a part written into a buffer.
use mathlib.Core.Path.{◌≡◌, sym, ap, ◌∙◌, subst}
use mathlib.Core.List.{List, [], ◌∷◌, ◌++◌, append_assoc}
use Prim.Native.Nat.{ℕ, suc, ◌+◌, ◌≤◌, ◌<◌}
use native.Mathlib.Omega.{arith}
use native.Mathlib.Nat.{add-zero}
use lib.ListN.{length, get_or, take, drop, set, length-append, length-take, length-drop, take-append-drop, get_or-append}
use lib.Seq.{ext_get_or, get_or-append-add, get_or-take, get_or-drop, length-take-le, take_at, drop_at, drop-drop, set_split, take-set-le}
use Rattle.array.specs.Index.{from}
use Rattle.array.specs.Code.{placed}
use Rattle.array.proofs.PlacesLaws.{from-length, from_at}

module _ (s : List ℕ) (at : ℕ) where
  pub placed-none : s ≡ placed s at []
  placed-none = sym (rw (add-zero at) (take-append-drop at s))

  module _ (t : List ℕ) (fits : at + length t ≤ length s) where
    front_length : length (take at s) ≡ at
    front_length = length-take-le at s (omega arith)

    pub placed-length : length (placed s at t) ≡ length s
    placed-length = simp (length-append, length-take, length-drop) (omega arith)

    pub placed-in : (i : ℕ) → i < length t → get_or (placed s at t) (at + i) 0 ≡ get_or t i 0
    placed-in i l =
        subst (λ (n : ℕ). get_or (placed s at t) (n + i) 0 ≡ get_or t i 0) front_length
        (get_or-append-add (take at s) (t ++ drop (at + length t) s) i 0 ∙ get_or-append t (drop (at + length t) s) 0 i l)

    pub placed-before : (i : ℕ) → i < at → get_or (placed s at t) i 0 ≡ get_or s i 0
    placed-before i l =
        get_or-append (take at s) (t ++ drop (at + length t) s) 0 i (omega (arith, front_length)) ∙ get_or-take at s i 0 l

    pub placed-after : (i : ℕ) → get_or (placed s at t) (at + length t + i) 0 ≡ get_or s (at + length t + i) 0
    placed-after i =
        let head : length (take at s ++ t) ≡ at + length t = length-append (take at s) t ∙ rw front_length in
        rw (← append_assoc (take at s) t (drop (at + length t) s))
        (subst (λ (n : ℕ). get_or ((take at s ++ t) ++ drop (at + length t) s) (n + i) 0 ≡ get_or s (at + length t + i) 0) head
        (get_or-append-add (take at s ++ t) (drop (at + length t) s) i 0 ∙ get_or-drop (at + length t) s i 0))

-- behind the first n bytes
placed-behind : (p r u : List ℕ) (n : ℕ) → length p ≡ n → placed (p ++ r) n u ≡ p ++ (u ++ drop (length u) r)
placed-behind p r u n l = rw (take_at p r n l, ← drop-drop (length u) n (p ++ r), drop_at p r n l)

-- one more behind it
pub placed-more : (s : List ℕ) (at : ℕ) (t u : List ℕ) → at ≤ length s → placed (placed s at t) (at + length t) u ≡ placed s at (t ++ u)
placed-more s at t u l =
    let r : List ℕ = drop (at + length t) s in
    let n : length (take at s ++ t) ≡ at + length t = length-append (take at s) t ∙ rw (length-take-le at s l) in
    let m : at + length (t ++ u) ≡ at + length t + length u = omega (arith, length-append t u) in
    ap (λ (x : List ℕ). placed x (at + length t) u) (sym (append_assoc (take at s) t r))
    ∙ placed-behind (take at s ++ t) r u (at + length t) n
    ∙ rw (drop-drop (length u) (at + length t) s, m) (simp append_assoc)

-- the next part is placed behind those that are
pub placed-next :
    (s : List ℕ) (at : ℕ) (t xs u : List ℕ) (a : ℕ) → xs ≡ placed s at t → a ≡ at + length t → at ≤ length s → placed xs a u ≡ placed s at (t ++ u)
placed-next s at t xs u a h e l = rw (h, e) (placed-more s at t u l)

-- one entry stored before a part is placed in front of it: parts that are written from their end
pub placed-before-last : (s : List ℕ) (at : ℕ) (t : List ℕ) (a b : ℕ) → a ≡ at + length t → a < length s → placed (set s a b) at t ≡ placed s at (t ++ (b ∷ []))
placed-before-last s at t a b e l =
    let n : at + length (t ++ (b ∷ [])) ≡ suc a = omega (arith, length-append t (b ∷ []), e) in
    let own : drop a (set s a b) ≡ b ∷ drop (suc a) s =
    ap (λ (x : List ℕ). drop a x) (set_split s a b l) ∙ drop_at (take a s) (b ∷ drop (suc a) s) a (length-take-le a s (omega arith)) in
    rw (n, ← e, own, take-set-le at s a b (omega (arith, e))) (ap (λ (x : List ℕ). take at s ++ x) (sym (append_assoc t (b ∷ []) (drop (suc a) s))))

-- what is placed at a buffer's front is what is taken of it
pub front-taken : (s t : List ℕ) (n : ℕ) {xs : List ℕ} → length t ≡ n → n ≤ length s → xs ≡ placed s 0 t → (n ≤ length xs) × (take n xs ≡ t)
front-taken s t n e l f =
    (omega (arith, ap length f, placed-length s 0 t (omega (arith, e))), ap (take n) f ∙ take_at t (drop (0 + length t) s) n e)

-- ---- a part that is lent and comes back

pub part-back : (s t part : List ℕ) (at k : ℕ) → part ≡ t → length t ≡ k → take at s ++ (part ++ drop k (drop at s)) ≡ placed s at t
part-back s t part at k e l = rw (drop-drop k at s, e, ← l)

pub part_length : (s : List ℕ) (at k e : ℕ) → k ≡ e → at + k ≤ length s → length (take k (drop at s)) ≡ e
part_length s at k e z l = length-take-le k (drop at s) (rw length-drop (omega arith)) ∙ z

pub part-from : (s : List ℕ) (at k n : ℕ) → k ≡ n → at + k ≤ length s → take k (drop at s) ≡ from 0 s at n
part-from s at k n e l =
    let long : length (take k (drop at s)) ≡ n = part_length s at k n e l in
    ext_get_or 0 (take k (drop at s)) (from 0 s at n) (long ∙ sym (from-length 0 s at n))
    (λ i h. let b : i < n = omega (arith, long) in get_or-take k (drop at s) i 0 (omega arith) ∙ get_or-drop at s i 0 ∙ sym (from_at 0 s at n i b))
