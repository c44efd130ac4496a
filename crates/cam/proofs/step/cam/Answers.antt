-- `cam::step::cam` meets its contract: the lent table's entry at the position is the rule's.
use Rattle.std.proofs.Common.{◌≡◌, arith}
use Rattle.cam.specs.Cam.{cam_position, cam_of}
use Rattle.cam.proofs.TableLaws.{table_at}
use Rattle.cam.proofs.PositionLaws.{position-bound}
use Rattle.cam.proofs.step.cam.Goals as goal

pub offset_bounds-cams-i : goal.offset_bounds-cams-i
offset_bounds-cams-i c = record { fits = omega (arith, c.position-i.ensures, position-bound c.value.result) }

pub bounds-cams-i : goal.bounds-cams-i
bounds-cams-i c = omega (arith, c.position-i.ensures, position-bound c.value.result)

pub returns : goal.returns
unfolding cam_of
returns c =
    let x = c.value.result in
    let e : c.position-i.result ≡ cam_position x = c.position-i.ensures in
    rw (c.pattern.ensures, c.float.ensures, c.requires, e, table_at (cam_position x) (position-bound x), c.value.ensures)
