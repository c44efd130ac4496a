-- `word::step::write_le4` meets its contract.
use mathlib.Core.Path.{refl, ◌∙◌}
use Rattle.word.specs.Word.{bytes_of}
use Rattle.array.proofs.WordLaws.{part-placed}
use Rattle.word.proofs.WordLaws.{bytes-four}
use Rattle.word.proofs.step.write_le4.Goals as goal

pub returns : goal.returns
unfolding bytes_of
returns c =
    part-placed c.args.out.now _ _ c.args.i 4
    (c.copy_from_slice.ensures.after ∙ c.to_le_bytes.ensures ∙ bytes-four c.args.w)
    refl
