-- What the measure answers. Inner definitions: the writer's private functions go by them. Assumes nothing.
use Rattle.std.specs.Prelude.{ℕ, ◌+◌, ◌≤◌, ◌≡◌, Bool, true, false, List, map, length, take}
use Rattle.scan.specs.Choice.{pick}
use Rattle.buffer.specs.inner.Store.{Wrote}
use Rattle.escape.specs.Escape.{nson_byte}
use Rattle.event.specs.Event.{Text, Event}
use Rattle.jsontags.specs.TagText.{commaed, tag_text}
use Rattle.nson.specs.Nson.{escaped_size, counts, descriptors, nson}
use Rattle.nson.specs.inner.Decision.{fits, tags_fit, carries}
use Rattle.nsonwrite.specs.declared.Measured.{Measured}

-- whether NSON can carry each text
unfoldable pub texts_fit : Event → Bool
texts_fit e = pick (fits e.content) (tags_fit e.tags) false

-- the length of the content and the tags
unfoldable pub texts_length : Event → ℕ
texts_length e = escaped_size e.content + length (commaed (map (tag_text nson_byte) e.tags))

-- a text that NSON can carry, and its length between two quotes
pub record Fitting (t : Text) (n : ℕ) : Type 0 where
  pub fits : fits t ≡ true
  pub len : n ≡ escaped_size t
  pub short : n ≤ 65_535

-- texts that NSON can carry: their length, and their descriptors, which were written at a place
pub record Measures (fits : Bool) (counts : List ℕ) (size : ℕ) (d : List ℕ) (at : ℕ) (d' : List ℕ) (m : Measured) : Type 0 where
  pub fit : fits ≡ true
  pub wrote : Wrote d at counts d' m.out
  pub len : m.len ≡ size

-- an event that NSON can carry: the length of its text, and its descriptors in a buffer
pub record Ready (e : Event) (d : List ℕ) (m : Measured) : Type 0 where
  pub carries : carries e ≡ true
  pub few : m.out ≤ 127
  pub len : m.len ≡ length (nson e)
  pub descriptors : take m.out d ≡ descriptors (counts e)
