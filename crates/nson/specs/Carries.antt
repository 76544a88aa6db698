-- Which events NSON can carry (rule 6.14): the statement. Its decision is `inner/Decision`. Assumes nothing.
use Rattle.std.specs.Prelude.{ℕ, ◌+◌, ◌*◌, ◌≤◌, List, [], ◌∷◌, length}
use Rattle.scan.specs.Bytes.{All}
use Rattle.escape.specs.Escape.{Carried}
use Rattle.event.specs.Event.{Text, Tag, Event}
use Rattle.nson.specs.Nson.{escaped_size, nson}

-- the bytes of the descriptors of the tags: 1 for each tag, 2 for each item
unfoldable pub tag_bytes : List Tag → ℕ
tag_bytes [] = 0
tag_bytes (t ∷ l) = 1 + 2 * length t + tag_bytes l

-- a text with no byte below 20 other than 0A, and at most 65,535 bytes when escaped
pub record Fits (t : Text) : Type 0 where
  pub plain : All Carried t
  pub short : escaped_size t ≤ 65_535

pub record Carries (e : Event) : Type 0 where
  pub early : 1_000_000_000 ≤ e.created_at
  pub late : e.created_at ≤ 9_999_999_999
  pub content : Fits e.content
  pub texts : All (All Fits) e.tags
  pub few : 4 + tag_bytes e.tags ≤ 127
  pub whole : length (nson e) ≤ 65_536
