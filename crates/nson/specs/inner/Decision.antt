-- Whether NSON can carry an event: the decision. `proofs/Decision` shows that it is `Carries` (`carries_exactly`).
-- Assumes nothing.
use Rattle.std.specs.Prelude.{◌+◌, Bool, true, false, List, [], ◌∷◌, length, leb}
use Rattle.scan.specs.Choice.{pick}
use Rattle.scan.specs.Place.{within}
use Rattle.escape.specs.inner.Controls.{nson_text}
use Rattle.event.specs.Event.{Text, Tag, Event}
use Rattle.nson.specs.Nson.{escaped_size, nson}
use Rattle.nson.specs.Carries.{tag_bytes}

unfoldable pub fits : Text → Bool
fits t = pick (nson_text t) (leb (escaped_size t) 65_535) false

unfoldable pub all_fit : List Text → Bool
all_fit [] = true
all_fit (t ∷ l) = pick (fits t) (all_fit l) false

unfoldable pub tags_fit : List Tag → Bool
tags_fit [] = true
tags_fit (t ∷ l) = pick (all_fit t) (tags_fit l) false

unfoldable pub carries : Event → Bool
carries e =
    pick (within 1_000_000_000 9_999_999_999 e.created_at)
    (pick (fits e.content) (pick (tags_fit e.tags) (pick (leb (4 + tag_bytes e.tags) 127) (leb (length (nson e)) 65_536) false) false) false) false
