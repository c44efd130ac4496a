-- `cam::table` meets its contract: the rule is one test over all entries of the array, which antt computes.
use Rattle.std.proofs.Common.{refl}
use Rattle.array.proofs.TableLaws.{every_from}
use Rattle.cam.specs.Cam.{cam_entry}
use Rattle.cam.proofs.TableLaws.{table_is}
use Rattle.cam.proofs.table.Goals as goal

pub returns : goal.returns
unfolding every_from cam_entry
returns c = table_is _ refl refl
