-- `array::step::write_be2` meets its contract.
use mathlib.Core.Path.{◌∙◌}
use Rattle.array.proofs.WordLaws.{bytes-two, part-stored}
use Rattle.array.proofs.step.write_be2.Goals as goal

pub returns : goal.returns
returns c =
    part-stored c.args.s.now _ _ c.args.at 2
    (c.copy_from_slice.ensures.after ∙ c.to_be_bytes.ensures ∙ bytes-two c.args.x)
