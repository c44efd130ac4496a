-- `history_search::step::put_masks` meets its contract: the masks are the last bytes of the number.
use Rattle.std.proofs.Common.{ℕ, ◌-◌, List, take, drop, ap, ◌∙◌, arith}
use Rattle.std.proofs.lemmas.List.{take_all}
use Rattle.array.specs.Word.{bytes}
use Rattle.array.proofs.WordLaws.{bytes-length, last-of-eight, part-placed}
use Rattle.history_search.proofs.step.put_masks.Goals as goal

pub returns : goal.returns
returns c =
    let n = c.args.frames in
    let k = 8 - (8 - n) in
    part-placed c.args.out.now _ (bytes n c.args.past) c.args.at n
    (
    c.copy_from_slice.ensures.after
    ∙ ap (λ (l : List ℕ). take k (drop (8 - n) l)) c.to_be_bytes-masks.ensures
    ∙ ap (take k) (last-of-eight n c.args.past c.requires.0)
    ∙ take_all k (bytes n c.args.past) (omega (arith, bytes-length n c.args.past, c.requires.0))
    )
    (bytes-length n c.args.past)
