-- The value of each field as it is read at its first byte, with the refusals and places of rules 7, 10 and 11. Assumes
-- nothing.
use Rattle.std.specs.Prelude.{ℕ, zero, suc, ◌+◌, ◌*◌, ◌-◌, Bool, true, false, List, [], ◌∷◌, length, take, drop, get_or, leb, eqb}
use Rattle.scan.specs.Choice.{pick, Answer, shown, refused, Read, read, and_then}
use Rattle.scan.specs.Place.{byte_at}
use Rattle.hexdigits.specs.Hex.{unhex, all_digits}
use Rattle.decimal.specs.Decimal.{number_of, is_digit}
use Rattle.scan.specs.Compare.{same_bytes}
use Rattle.event.specs.Event.{Text, Tag}
use Rattle.jsontext.specs.declared.Spelled.{Spelled}
use Rattle.jsontext.specs.inner.Escape.{unescape}
use Rattle.jsontext.specs.Token.{space_at, skip_number}
use Rattle.jsontext.specs.Text.{string_at}
use Rattle.jsontext.specs.Value.{value_at}
use Rattle.jsonevent.specs.Meaning.{names}

-- the text of a spelled string
abbrev pub text_of : List ℕ → Spelled → Text
text_of s p = unescape (take p.count (drop p.from s))

-- a string, as its text
unfoldable pub text_at : List ℕ → ℕ → Answer (Read Text)
text_at s at = and_then (string_at s at) λ r. read (text_of s r.value) r.next

-- n bytes in lowercase hex: the whole string is read before 12 is tried
unfoldable pub is_hex_of : ℕ → Text → Bool
is_hex_of n t = pick (eqb (length t) (2 * n)) (all_digits t) false

unfoldable pub hex_at : ℕ → List ℕ → ℕ → Answer (Read (List ℕ))
hex_at n s at = and_then (text_at s at) λ t. pick (is_hex_of n t.value) (read (unhex t.value) t.next) (refused 12 at)

-- whether every byte is one of 0-9
unfoldable pub digits_only : List ℕ → Bool
digits_only [] = true
digits_only (b ∷ l) = pick (is_digit b) (digits_only l) false

-- digits that spell a number up to a maximum: 14 for a sign, a fraction or an exponent, then the range
unfoldable pub whole_of : ℕ → ℕ → List ℕ → ℕ → ℕ → Answer (Read ℕ)
whole_of max number l at next =
    pick (digits_only l) (pick (leb (number_of l) max) (read (number_of l) next) (refused number at)) (refused 14 at)

unfoldable pub whole_at : ℕ → ℕ → List ℕ → ℕ → Answer (Read ℕ)
whole_at max number s at = and_then (skip_number s at) λ r. whole_of max number (take (r.next - at) (drop at s)) at r.next

-- ---- arrays of up to 1 + left items, each read by `item`

-- behind an item, at p: the closing bracket, or a comma and more
unfoldable pub after_item : {A : Type 0} → (ℕ → Answer (Read (List A))) → A → List ℕ → ℕ → Answer (Read (List A))
after_item more x s p =
    pick (eqb (byte_at s p) 0x5D) (read (x ∷ []) (p + 1))
    (pick (eqb (byte_at s p) 0x2C) (and_then (more p) λ xs. read (x ∷ xs.value) xs.next) (refused 14 p))

-- 8 at the comma behind the last item that is allowed
unfoldable pub items_at : {A : Type 0} → (ℕ → Answer (Read A)) → ℕ → List ℕ → ℕ → Answer (Read (List A))
items_at item zero s at = and_then (item at) λ x. after_item (λ p. refused 8 p) x.value s (space_at s x.next)
items_at item (suc left) s at =
    and_then (item at) λ x. after_item (λ p. items_at item left s (space_at s (p + 1))) x.value s (space_at s x.next)

-- behind the opening bracket and its white space, at p
unfoldable pub inside_at : {A : Type 0} → (ℕ → Answer (Read A)) → ℕ → List ℕ → ℕ → Answer (Read (List A))
inside_at item left s p = pick (eqb (byte_at s p) 0x5D) (read [] (p + 1)) (items_at item left s p)

unfoldable pub array_at : {A : Type 0} → (ℕ → Answer (Read A)) → ℕ → List ℕ → ℕ → Answer (Read (List A))
array_at item left s at = pick (eqb (byte_at s at) 0x5B) (inside_at item left s (space_at s (at + 1))) (refused 14 at)

-- a tag: 1 to 255 texts; none is 9 at its bracket
unfoldable pub one_or_more : ℕ → Read Tag → Answer (Read Tag)
one_or_more at t = pick (eqb (length t.value) 0) (refused 9 at) (shown t)

unfoldable pub tag_at : List ℕ → ℕ → Answer (Read Tag)
tag_at s at = and_then (array_at (text_at s) 254 s at) (one_or_more at)

-- the tags: 0 to 1,000
unfoldable pub tags_standing : List ℕ → ℕ → Answer (Read (List Tag))
tags_standing s at = array_at (tag_at s) 999 s at

-- ---- the seven fields by number

-- what a field has been found to say; `missing` before
pub data Value : Type 0 where
  missing : Value
  bytes : List ℕ → Value
  number : ℕ → Value
  tags : List Tag → Value
  text : Text → Value

-- the place of a name in a list; the list's length where it is none of them
unfoldable pub index_in : List Text → Text → ℕ
index_in [] t = 0
index_in (n ∷ l) t = pick (same_bytes t n) 0 (suc (index_in l t))

-- the number of the field that has a name: 0 to 6, and 7 for a name that is ignored
unfoldable pub field_of : Text → ℕ
field_of t = index_in names t

-- a read's value under a constructor
abbrev pub under : {A B : Type 0} → (A → B) → Answer (Read A) → Answer (Read B)
under f r = and_then r λ x. read (f x.value) x.next

-- the value of field number k. A value that is ignored says nothing; it nests up to 16 deep.
unfoldable pub field_at : ℕ → List ℕ → ℕ → Answer (Read Value)
field_at k s at =
    pick (eqb k 0) (under bytes (hex_at 32 s at))
    (pick (eqb k 1) (under bytes (hex_at 32 s at))
    (pick (eqb k 2) (under bytes (hex_at 64 s at))
    (pick (eqb k 3) (under number (whole_at 9_223_372_036_854_775 7 s at))
    (pick (eqb k 4) (under number (whole_at 65_535 6 s at))
    (pick (eqb k 5) (under tags (tags_standing s at))
    (pick (eqb k 6) (under text (text_at s at)) (under (λ x. missing) (value_at 16 s at))))))))

-- ---- what has been found of all seven

-- what the seven fields say, by number
abbrev pub Fields : Type 0
Fields = List Value

-- field number k
abbrev pub field : Fields → ℕ → Value
field f k = get_or f k missing
