-- The layout of notepack (rules 2): which bytes lay out which event. Each number has one spelling. Says nothing of
-- refusals. Assumes nothing.
use Rattle.std.specs.Prelude.{ℕ, ◌+◌, ◌*◌, List, [], ◌∷◌, ◌++◌, length}
use Rattle.scan.specs.Bytes.{IsBytes}
use Rattle.varint.specs.Uleb.{Spells}
use Rattle.hexdigits.specs.Hex.{hexes}
use Rattle.event.specs.Event.{Text, Tag, Event}

-- an element: its word, 2 × length + b, as a varint, and behind it the payload
pub data Element : Text → List ℕ → Type 0 where
  -- b = 0: the bytes are the text
  as_text : {t w : List ℕ} → Spells (2 * length t) w → Element t (w ++ t)
  -- b = 1: the text is the lowercase hex of the bytes
  as_bytes : {p w : List ℕ} → IsBytes p → Spells (2 * length p + 1) w → Element (hexes p) (w ++ p)

-- elements, one after the other
pub data Elements : Tag → List ℕ → Type 0 where
  none : Elements [] []
  more : {t : Text} {ts : Tag} {l m : List ℕ} → Element t l → Elements ts m → Elements (t ∷ ts) (l ++ m)

-- a tag: how many elements it has, and behind that these
pub data TagLays : Tag → List ℕ → Type 0 where
  tag : {ts : Tag} {w l : List ℕ} → Spells (length ts) w → Elements ts l → TagLays ts (w ++ l)

-- tags, one after the other
pub data Tags : List Tag → List ℕ → Type 0 where
  none : Tags [] []
  more : {t : Tag} {ts : List Tag} {l m : List ℕ} → TagLays t l → Tags ts m → Tags (t ∷ ts) (l ++ m)

-- the whole event, in the order of rule 2.1
pub data Lays (e : Event) : List ℕ → Type 0 where
  lays : {time kind size count tags : List ℕ}
      → Spells e.created_at time → Spells e.kind kind → Spells (length e.content) size → Spells (length e.tags) count → Tags e.tags tags
      → Lays e (e.id ++ (e.pubkey ++ (e.sig ++ (time ++ (kind ++ (size ++ (e.content ++ (count ++ tags))))))))
