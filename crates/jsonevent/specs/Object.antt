-- The plain JSON reader: the object's members one after the other, the seven fields remembered, then what the whole
-- says. Assumes nothing.
use Rattle.std.specs.Prelude.{ℕ, zero, suc, ◌+◌, List, [], ◌∷◌, length, set, leb, eqb}
use Rattle.scan.specs.Choice.{pick, Answer, shown, refused, Read, read, and_then}
use Rattle.scan.specs.Place.{byte_at}
use Rattle.event.specs.Event.{Event}
use Rattle.jsontext.specs.Token.{space_at}
use Rattle.jsonevent.specs.Field.{missing, text_at, field_of, field_at, Fields, field}
use Rattle.jsonevent.specs.inner.Closing.{is_missing, close_at}

abbrev pub no_fields : Fields
no_fields = missing ∷ missing ∷ missing ∷ missing ∷ missing ∷ missing ∷ missing ∷ []

-- behind the name of field k: a colon, then its value
unfoldable pub colon_at : ℕ → Fields → List ℕ → ℕ → Answer (Read Fields)
colon_at k f s p =
    pick (eqb (byte_at s p) 0x3A) (and_then (field_at k s (space_at s (p + 1))) λ v. read (set f k v.value) v.next) (refused 14 p)

-- a member: its name, which is 16 where the field has been found before, and its value
unfoldable pub member_at : Fields → List ℕ → ℕ → Answer (Read Fields)
member_at f s at =
    and_then (text_at s at) λ n.
    let k = field_of n.value in pick (is_missing (field f k)) (colon_at k f s (space_at s n.next)) (refused 16 at)

-- behind a member, at p: the closing brace, or a comma and more
unfoldable pub after_member : (ℕ → Answer (Read Event)) → Fields → List ℕ → ℕ → Answer (Read Event)
after_member more f s p =
    pick (eqb (byte_at s p) 0x7D) (close_at f p) (pick (eqb (byte_at s p) 0x2C) (more (space_at s (p + 1))) (refused 14 p))

-- members, at most as many as the fuel
unfoldable pub members_at : ℕ → Fields → List ℕ → ℕ → Answer (Read Event)
members_at zero f s at = refused 14 at
members_at (suc fuel) f s at =
    and_then (member_at f s at) λ m. after_member (members_at fuel m.value s) m.value s (space_at s m.next)

-- behind the opening brace and its white space, at p
unfoldable pub inside_at : List ℕ → ℕ → Answer (Read Event)
inside_at s p = pick (eqb (byte_at s p) 0x7D) (refused 15 p) (members_at (length s) no_fields s p)

-- an event's object at a place, and the place behind it
unfoldable pub object_at : List ℕ → ℕ → Answer (Read Event)
object_at s at = pick (eqb (byte_at s at) 0x7B) (inside_at s (space_at s (at + 1))) (refused 14 at)

-- behind the object nothing but white space
unfoldable pub whole_at : List ℕ → Answer Event
whole_at s =
    and_then (object_at s (space_at s 0)) λ e.
    let p = space_at s e.next in pick (eqb p (length s)) (shown e.value) (refused 10 p)

-- the event that a text shows, or the refusal: 1 first of all
unfoldable pub read_json : List ℕ → Answer Event
read_json s = pick (leb (length s) 65_536) (whole_at s) (refused 1 0)
