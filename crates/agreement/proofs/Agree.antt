-- What the NSON reader accepts, the plain JSON reader accepts as the same event.
-- An accepted string is the writer's own text, whose tree is the event; the JSON reader shows what the tree is.
use mathlib.Core.Path.{◌≡◌, sym, ◌∙◌}
use Rattle.scan.specs.Choice.{shown}
use Rattle.scan.proofs.Many.{shown_same}
use Rattle.event.specs.Event.{Event, Valid}
use Rattle.jsonevent.specs.Object.{read_json}
use Rattle.jsonevent.proofs.Whole.{complete}
use Rattle.nson.specs.Nson.{nson}
use Rattle.nson.specs.Carries.{Carries}
use Rattle.nson.proofs.Sound.{accepted}
use Rattle.agreement.specs.Demand3.{NeverTwo, BothAccept}
use Rattle.agreement.proofs.Written.{tree_text}
use Rattle.agreement.proofs.Means.{tree_event}

-- NSON's text of an event that is carried and valid is shown as that event by the plain JSON reader
pub json_back : {e : Event} → Carries e → Valid e → read_json (nson e) ≡ shown e
json_back c v = complete (tree_text c v) (tree_event c v) c.whole

pub both_accept : BothAccept
both_accept s e r = let a = accepted r in rw a.text (json_back a.carries a.valid)

pub never_two : NeverTwo
never_two s a b p q = shown_same (sym (both_accept s a p) ∙ q)
