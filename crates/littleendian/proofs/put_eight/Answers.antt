-- `put_eight` writes the bytes that `low_first` has, one after the other: `low_le`.
use Rattle.littleendian.proofs.Laws.{low_le}
use Rattle.littleendian.proofs.put_eight.Goals as goal

pub returns : goal.returns
returns c = rw (c.to_le_bytes.ensures, low_le) at c.put_bytes.ensures
