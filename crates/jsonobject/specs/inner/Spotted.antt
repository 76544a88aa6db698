-- An event's object, read as jsonevent/specs/Object reads it, with the spot of each field in place of what it says.
-- Every number of the answer is fixed, the length of the strict form among them. Assumes nothing.
use Rattle.std.specs.Prelude.{ℕ, zero, suc, ◌+◌, Option, Some, None, List, [], ◌∷◌, length, get_or, set, eqb}
use Rattle.std.specs.Option.{is_some, option_and_then}
use Rattle.scan.specs.Choice.{pick, Answer, refused, Read, read, and_then}
use Rattle.scan.specs.Place.{byte_at}
use Rattle.jsontext.specs.Token.{space_at}
use Rattle.jsonevent.specs.Field.{under, text_at, field_of}
use Rattle.jsonfields.specs.declared.Spot.{Spot}
use Rattle.jsonfields.specs.inner.Spots.{spot_at}
use Rattle.jsonobject.specs.declared.Fields.{Fields}
use Rattle.jsonobject.specs.declared.Found.{Found}
use Rattle.jsonobject.specs.declared.Object.{Object}

-- ---- the seven fields by number

abbrev pub known_of : Found → List (Option Spot)
known_of f = f.id ∷ f.pubkey ∷ f.sig ∷ f.created_at ∷ f.kind ∷ f.tags ∷ f.content ∷ []

abbrev pub found_by : List (Option Spot) → Found
found_by l = record {
  id = get_or l 0 None;
  pubkey = get_or l 1 None;
  sig = get_or l 2 None;
  created_at = get_or l 3 None;
  kind = get_or l 4 None;
  tags = get_or l 5 None;
  content = get_or l 6 None;
}

abbrev pub none_found : Found
none_found = found_by []

abbrev pub spot_of : Found → ℕ → Option Spot
spot_of f k = get_or (known_of f) k None

abbrev pub with_spot : Found → ℕ → Spot → Found
with_spot f k p = found_by (set (known_of f) k (Some p))

-- all seven, where none is missing
abbrev pub and_some : {A : Type 0} → Option A → (A → Option Fields) → Option Fields
and_some o f = option_and_then f o

unfoldable pub all_found : Found → Option Fields
all_found f =
    and_some f.id λ a.
    and_some f.pubkey λ b.
    and_some f.sig λ c.
    and_some f.created_at λ d.
    and_some f.kind λ e.
    and_some f.tags λ g.
    and_some f.content λ h.
    Some (record { id = a; pubkey = b; sig = c; created_at = d; kind = e; tags = g; content = h })

-- the length of the strict form
unfoldable pub measured : Fields → ℕ
measured f = f.id.len + f.pubkey.len + f.sig.len + f.created_at.len + f.kind.len + f.content.len + f.tags.len

-- ---- the object

-- behind the name of field number k: a colon, then its value
unfoldable pub colon_spots_at : ℕ → List ℕ → ℕ → Answer (Read Spot)
colon_spots_at k s p = pick (eqb (byte_at s p) 0x3A) (spot_at k s (space_at s (p + 1))) (refused 14 p)

-- a member: its name, which is 16 where the field has been found before, and its value
unfoldable pub member_spots_at : Found → List ℕ → ℕ → Answer (Read Found)
member_spots_at f s at =
    and_then (under field_of (text_at s at)) λ k.
    pick (is_some (spot_of f k.value)) (refused 16 at) (under (with_spot f k.value) (colon_spots_at k.value s (space_at s k.next)))

-- at the closing brace, at p
abbrev pub closed_at : ℕ → Option Fields → Answer (Read Object)
closed_at p None = refused 15 p
closed_at p (Some f) = read (record { fields = f; len = measured f }) (p + 1)

unfoldable pub close_spots_at : Found → ℕ → Answer (Read Object)
close_spots_at f p = closed_at p (all_found f)

-- behind a member, at p: the closing brace, or a comma and more
unfoldable pub after_spots : (ℕ → Answer (Read Object)) → Found → List ℕ → ℕ → Answer (Read Object)
after_spots more f s p =
    pick (eqb (byte_at s p) 0x7D) (close_spots_at f p) (pick (eqb (byte_at s p) 0x2C) (more (space_at s (p + 1))) (refused 14 p))

-- members, at most as many as the fuel
unfoldable pub members_spots_at : ℕ → Found → List ℕ → ℕ → Answer (Read Object)
members_spots_at zero f s at = refused 14 at
members_spots_at (suc fuel) f s at =
    and_then (member_spots_at f s at) λ m. after_spots (members_spots_at fuel m.value s) m.value s (space_at s m.next)

-- the object at a place; an empty one lacks its fields
unfoldable pub inside_spots_at : List ℕ → ℕ → Answer (Read Object)
inside_spots_at s p = pick (eqb (byte_at s p) 0x7D) (refused 15 p) (members_spots_at (length s) none_found s p)

unfoldable pub object_spots_at : List ℕ → ℕ → Answer (Read Object)
object_spots_at s at = pick (eqb (byte_at s at) 0x7B) (inside_spots_at s (space_at s (at + 1))) (refused 14 at)
