-- The string form of a packed event (rules 14 and 17): a fixed prefix, and the base64 of packed bytes behind it. There
-- is one for each form: behind `notepack_` stand bare bytes, behind `notepack1_` versioned ones. Assumes nothing.
use Rattle.std.specs.Prelude.{ℕ, Bool, List, [], ◌∷◌, ◌++◌, length, drop, ltb}
use Rattle.scan.specs.Ascii.{ascii}
use Rattle.scan.specs.Choice.{pick, Answer, shown, refused, and_then}
use Rattle.scan.specs.Place.{stands_at, run_at}
use Rattle.base64text.specs.Base64.{in_alphabet, encoded, decoded, ends_whole}
use Rattle.event.specs.Event.{Event}
use Rattle.notepack.specs.Strict.{pack}
use Rattle.versioned.specs.Moves.{accepted}

-- what each string form starts with
unfoldable pub prefix : Bool → List ℕ
prefix bare = pick bare (ascii "notepack_") (ascii "notepack1_")

-- what stands in front of the bare bytes
unfoldable pub front : Bool → List ℕ
front bare = pick bare [] (1 ∷ [])

-- the string form of packed bytes
unfoldable pub string_form : Bool → List ℕ → List ℕ
string_form bare b = prefix bare ++ encoded b

-- the string form of an event: that of its strict bytes
unfoldable pub event_string : Bool → Event → List ℕ
event_string bare e = string_form bare (front bare ++ pack e)

-- The bytes that a string form holds: 20 where it starts otherwise; 21 at the first byte behind the prefix that is
-- outside the alphabet, and else at the text's length where its end is none of base64.
unfoldable pub held_bytes : Bool → List ℕ → Answer (List ℕ)
held_bytes bare t =
    pick (stands_at (prefix bare) t 0)
    (pick (ltb (run_at in_alphabet t (length (prefix bare))) (length t)) (refused 21 (run_at in_alphabet t (length (prefix bare))))
    (pick (ends_whole (drop (length (prefix bare)) t)) (shown (decoded (drop (length (prefix bare)) t))) (refused 21 (length t))))
    (refused 20 0)

-- The reading: the bytes held, where they are accepted. So the reader's limit of 65,536 counts these bytes, the version
-- byte too, and its places are places in them.
unfoldable pub read_string : Bool → List ℕ → Answer (List ℕ)
read_string bare t = and_then (held_bytes bare t) (accepted bare)

-- what the reader leaves in the buffer: the bytes as they are
abbrev pub itself : List ℕ → List ℕ
itself b = b
