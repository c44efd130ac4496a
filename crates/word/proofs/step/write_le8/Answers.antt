-- `word::step::write_le8` meets its contract.
use mathlib.Core.Path.{refl, ◌∙◌}
use Rattle.word.specs.Word.{bytes_of}
use Rattle.array.proofs.WordLaws.{part-placed}
use Rattle.word.proofs.WordLaws.{bytes-eight}
use Rattle.word.proofs.step.write_le8.Goals as goal

pub returns : goal.returns
unfolding bytes_of
returns c =
    part-placed c.args.out.now _ _ c.args.i 8
    (c.copy_from_slice.ensures.after ∙ c.to_le_bytes.ensures ∙ bytes-eight c.args.w)
    refl
