-- Laws of the cam's table: the rule's numbers, and that entry i of the table is the rule at i.
use Rattle.std.proofs.Common.{◌≡◌, ℕ, ◌*◌, ◌^◌, ◌≤◌, true, eqb, leb, List, length, get_or, replicate, sym, refl, ◌∙◌, mul-le-mul_left, pow-suc, arith, ext_get_or, eqb-true, leb-true}
use lib.ListN.{length-replicate}
use Rattle.array.specs.Index.{all_below}
use Rattle.array.proofs.IndexLaws.{all_below-at}
use Rattle.array.proofs.PlacesLaws.{fill-length, fill-in}
use Rattle.array.proofs.TableLaws.{every_from, every-at}
use Rattle.cam.specs.Cam.{last_position, cam_size, cam_entry, cam_table}

-- ---- the rule

-- "entries 0, 256 and 512 are 0, 32,768 and 65,536"
pub entry_first : cam_entry 0 ≡ 0
unfolding cam_entry
entry_first = refl

pub entry-middle : cam_entry 256 ≡ 32768
unfolding cam_entry
entry-middle = refl

pub entry-last : cam_entry last_position ≡ 65536
unfolding cam_entry
entry-last = refl

-- at a position the difference of the rule is that of whole numbers: 2 × i³ is never the larger
pub entry-exact : (i : ℕ) → i ≤ last_position → 2 * i ^ 3 ≤ 1536 * i ^ 2
entry-exact i l =
    let e : i ^ 3 ≡ i ^ 2 * i = pow-suc i 2 in
    let h : i ^ 2 * i ≤ i ^ 2 * last_position = mul-le-mul_left (i ^ 2) l in
    omega (arith, e, h)

entry-test : all_below (λ i. leb (cam_entry i) 65536) cam_size ≡ true
unfolding cam_entry all_below
entry-test = refl

pub entry-bound : (i : ℕ) → i ≤ last_position → cam_entry i ≤ 65536
entry-bound i l = leb-true _ _ (all_below-at (λ k. leb (cam_entry k) 65536) cam_size i (omega arith) entry-test)

-- ---- the table

pub table-length : length cam_table ≡ cam_size
unfolding cam_table
table-length = fill-length cam_entry cam_size (replicate cam_size 0) ∙ length-replicate {A = ℕ} cam_size 0

pub table_at : (i : ℕ) → i ≤ last_position → get_or cam_table i 0 ≡ cam_entry i
unfolding cam_table
table_at i l =
    fill-in cam_entry cam_size (replicate cam_size 0) i 0 (omega arith) (omega (arith, length-replicate {A = ℕ} cam_size 0))

-- numbers that pass the rule at each place, tested over all of them together, are the table
pub table_is : (l : List ℕ) → length l ≡ cam_size → every_from (λ i x. eqb x (cam_entry i)) 0 l ≡ true → l ≡ cam_table
table_is l n e =
    ext_get_or 0 l cam_table (n ∙ sym table-length)
    (λ i h. eqb-true _ _ (every-at (λ i x. eqb x (cam_entry i)) l e i h) ∙ sym (table_at i (omega (arith, n, h))))
