-- `rows::RowWords::beside` meets its contract.
use Rattle.rows.proofs.RowLaws.{rows-beside}
use Rattle.rows.proofs.RowWords.beside.Goals as goal

pub returns : goal.returns
returns c = let put = c.put_memory.ensures in
    (rows-beside c.of-rows.ensures put.0 put.1 put.2, put.0.here)
