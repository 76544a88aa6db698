-- `put_event` writes all in front of the tags and then the tags: two writers in a row are one.
use Rattle.pointconvert.proofs.Event.{event_wrote}
use Rattle.pointconvert.proofs.Form.put_event.Goals as goal

pub returns : goal.returns
returns c =
    let n = c.named.ensures in
    event_wrote c.args.self.now.second.0 c.put_tags.ensures c.put_front-o.ensures n.0 n.1 n.2 c.args.self.now.holds
