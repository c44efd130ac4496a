-- `array::step::write_be8` meets its contract.
use mathlib.Core.Path.{◌∙◌}
use Rattle.array.proofs.WordLaws.{bytes-eight, part-stored}
use Rattle.array.proofs.step.write_be8.Goals as goal

pub returns : goal.returns
returns c =
    part-stored c.args.s.now _ _ c.args.at 8
    (c.copy_from_slice.ensures.after ∙ c.to_be_bytes.ensures ∙ bytes-eight c.args.x)
