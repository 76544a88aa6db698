-- `put_bytes` copies as much of s as there is room for.
-- What is behind the buffer's end does not matter: `full`, `cut_min`.
use Rattle.buffer.proofs.Laws.{full, cut_min}
use Rattle.buffer.proofs.put_bytes.Goals as goal

pub returns-then-out-at : goal.returns-then-out-at
returns-then-out-at c = full c.if-out-at.true

pub returns : goal.returns
returns c = cut_min c.min.ensures c.copy.ensures
