-- The key of an event (rules 8): which records are versions of one another. Assumes nothing.
use Rattle.std.specs.Prelude.{ℕ, Bool, true, false, List, [], ◌∷◌, eqb}
use Rattle.scan.specs.Ascii.{ascii}
use Rattle.scan.specs.Choice.{pick}
use Rattle.scan.specs.Place.{within}
use Rattle.scan.specs.Compare.{same_bytes}
use Rattle.event.specs.Event.{Text, Tag, Event}

-- whether a kind is replaceable: 0, 3, or 10000 to 19999
unfoldable pub is_replaceable : ℕ → Bool
is_replaceable k = pick (eqb k 0) true (pick (eqb k 3) true (within 10_000 19_999 k))

-- kinds 30000-39999 have a label in their key
unfoldable pub is_labelled : ℕ → Bool
is_labelled k = within 30_000 39_999 k

-- whether a tag's first text is `d`
abbrev pub isDTag : Tag → Bool
isDTag [] = false
isDTag (t ∷ ts) = same_bytes t (ascii "d")

-- the second text of a tag; the empty text where there is none
abbrev pub second_text : Tag → Text
second_text [] = []
second_text (t ∷ []) = []
second_text (t ∷ u ∷ ts) = u

-- the label: the text behind `d`, in the first tag with `d` in front; the empty text where there is no such tag
abbrev pub label_of : List Tag → Text
label_of [] = []
label_of (t ∷ ts) = pick (isDTag t) (second_text t) (label_of ts)

-- A key: pubkey and kind, and for the labelled kinds the label. (For the replaceable ones it is empty: no kind is in
-- both groups.)
pub record Key : Type 0 where
  pub pubkey : List ℕ
  pub kind : ℕ
  pub text : Text

pub data Keyed : Type 0 where
  keyless : Keyed
  keyed : Key → Keyed

-- the key of an author and a kind, and of the label, where the kind has one
unfoldable pub key_for : List ℕ → ℕ → Text → Keyed
key_for author k t =
    pick (is_replaceable k) (keyed (record { pubkey = author; kind = k; text = [] }))
    (pick (is_labelled k) (keyed (record { pubkey = author; kind = k; text = t })) keyless)

abbrev pub key_of : Event → Keyed
key_of e = key_for e.pubkey e.kind (label_of e.tags)

-- two keys are the same by pubkey, kind and text; no key is the same as any
abbrev pub same_key : Keyed → Keyed → Bool
same_key keyless k = false
same_key (keyed a) keyless = false
same_key (keyed a) (keyed b) = pick (eqb a.kind b.kind) (pick (same_bytes a.pubkey b.pubkey) (same_bytes a.text b.text) false) false
