-- What a field says at the closing brace: where it is missing, or of another kind, there is nothing to give but 15.
-- Laws: an event that `close_at` reads is one whose parts the seven fields hold, and all else is 15 at the brace
-- (`Closing.close_told`); an event's own fields give the event (`Closing.close_event`); the whole reader shows an event
-- exactly if the text, of at most 65,536 bytes, has a tree that is that event (`Whole.exactly`). Of `is_missing`: what
-- one of the seven fields says is not missing (`Says.Says-some`), which is one direction only. Assumes nothing.
use Rattle.std.specs.Prelude.{ℕ, ◌+◌, Bool, true, false, List}
use Rattle.scan.specs.Choice.{Answer, shown, refused, Read, read, and_then}
use Rattle.event.specs.Event.{Text, Tag, Event}
use Rattle.jsonevent.specs.Field.{Value, missing, bytes, number, tags, text, Fields, field}

abbrev pub bytes_in : ℕ → Value → Answer (List ℕ)
bytes_in at missing = refused 15 at
bytes_in at (bytes l) = shown l
bytes_in at (number n) = refused 15 at
bytes_in at (tags l) = refused 15 at
bytes_in at (text t) = refused 15 at

abbrev pub number_in : ℕ → Value → Answer ℕ
number_in at missing = refused 15 at
number_in at (bytes l) = refused 15 at
number_in at (number n) = shown n
number_in at (tags l) = refused 15 at
number_in at (text t) = refused 15 at

abbrev pub tags_in : ℕ → Value → Answer (List Tag)
tags_in at missing = refused 15 at
tags_in at (bytes l) = refused 15 at
tags_in at (number n) = refused 15 at
tags_in at (tags l) = shown l
tags_in at (text t) = refused 15 at

abbrev pub text_in : ℕ → Value → Answer Text
text_in at missing = refused 15 at
text_in at (bytes l) = refused 15 at
text_in at (number n) = refused 15 at
text_in at (tags l) = refused 15 at
text_in at (text t) = shown t

abbrev pub is_missing : Value → Bool
is_missing missing = true
is_missing (bytes l) = false
is_missing (number n) = false
is_missing (tags l) = false
is_missing (text t) = false

-- at the closing brace: the event, where each of the seven says its part
unfoldable pub close_at : Fields → ℕ → Answer (Read Event)
close_at f at =
    and_then (bytes_in at (field f 0)) λ i.
    and_then (bytes_in at (field f 1)) λ p.
    and_then (bytes_in at (field f 2)) λ g.
    and_then (number_in at (field f 3)) λ n.
    and_then (number_in at (field f 4)) λ k.
    and_then (tags_in at (field f 5)) λ l.
    and_then (text_in at (field f 6)) λ t.
    read (record { id = i; pubkey = p; sig = g; created_at = n; kind = k; tags = l; content = t }) (at + 1)
