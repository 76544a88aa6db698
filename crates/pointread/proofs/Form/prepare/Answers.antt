-- `prepare` fills the table for a v0, and leaves it for a v1, which asks no text.
use Rattle.pointfields.specs.inner.Answers.{number_of}
use Rattle.pointread.proofs.Texts.{stops_filled}
use Rattle.pointread.proofs.Forms.{header_long, header_short}
use Rattle.pointread.proofs.Form.prepare.Goals as goal

pub returns-then-eq : goal.returns-then-eq
returns-then-eq c =
    let f = c.args.self in
    let v = number_of f.version in
    rw (c.fill_stops.ensures, c.data.ensures)
    (stops_filled v f.s.now c.args.stops.now (header_long v f.s.now f.header) (header_short v f.s.now f.header) c.requires)
