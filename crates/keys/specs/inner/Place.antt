-- Where the key of a packed event stands: its kind, and the part that has its label. Total over any places;
-- `proofs/Keys` shows that on an accepted input it is the event's key. Assumes nothing.
use Rattle.std.specs.Prelude.{ℕ, zero, suc, Bool, false, Option, Some, None, List, take, drop, ltb}
use Rattle.scan.specs.Ascii.{ascii}
use Rattle.scan.specs.Choice.{pick}
use Rattle.scan.specs.Compare.{same_bytes}
use Rattle.notepack.specs.declared.Head.{Head}
use Rattle.notepack.specs.declared.Part.{Part}
use Rattle.notepack.specs.Unpack.{part_of, bytes_of, text_of}
use Rattle.notepack.specs.inner.Again.{part_again, count_again, texts_end}
use Rattle.keys.specs.declared.KeyPlace.{KeyPlace}
use Rattle.keys.specs.Key as key
use Rattle.keys.specs.Key.{is_replaceable, is_labelled}

-- whether the first of n texts is `d`: never a raw part's, whose text has an even length
unfoldable pub is_d : ℕ → List ℕ → Part → Bool
is_d n s p = pick (ltb 0 n) (pick p.raw false (same_bytes (bytes_of s p) (ascii "d"))) false

-- a part with no bytes: its text is empty
abbrev pub empty_part : Part
empty_part = part_of 0 0 false

-- the second of n texts, where the first ends at `at`
unfoldable pub second_at : ℕ → List ℕ → ℕ → Part
second_at n s at = pick (ltb 1 n) (part_again s at).value empty_part

-- the label among n tags from `at` on
unfoldable pub label_at : ℕ → List ℕ → ℕ → Part
label_at zero s at = empty_part
label_at (suc n) s at =
    pick (is_d (count_again s at).value s (part_again s (count_again s at).next).value)
    (second_at (count_again s at).value s (part_again s (count_again s at).next).next)
    (label_at n s (texts_end (count_again s at).value s (count_again s at).next))

-- the key of a packed event of which h is read; a replaceable kind's label is empty
unfoldable pub key_at : List ℕ → Head → Option KeyPlace
key_at s h =
    pick (is_replaceable h.kind) (Some (record { kind = h.kind; label = empty_part }))
    (pick (is_labelled h.kind) (Some (record { kind = h.kind; label = label_at h.tag_count s h.tags_at })) None)

-- the key that stands there
abbrev pub key_there : List ℕ → Option KeyPlace → key.Keyed
key_there s (Some k) = key.keyed (record { pubkey = take 32 (drop 32 s); kind = k.kind; text = text_of s k.label })
key_there s None = key.keyless
