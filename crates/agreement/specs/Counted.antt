-- The true counts of a JSON text (rules 12.3.7 to 12.3.9): read off RFC 8259's tree alone, with no reader in it.
-- Assumes nothing.
use Rattle.std.specs.Prelude.{ℕ, ◌+◌, ◌≤◌, List, ◌∷◌, length}
use Rattle.scan.specs.Ascii.{ascii}
use Rattle.jsontext.specs.Grammar as json
use Rattle.jsonevent.specs.Meaning.{IsHex, IsArray, Once}
use Rattle.nson.specs.Nson.{Counts, descriptors}

-- members that differ in nson fields alone: k is m with some taken away and others put in, wherever they stand. A new
-- one nests at most 16 deep.
pub data OtherField : json.Members → json.Members → Type 0 where
  ended : OtherField json.no_member json.no_member
  kept : {n : List ℕ} {v : json.Json} {m k : json.Members} → OtherField m k → OtherField (json.member n v m) (json.member n v k)
  removed : {n : List ℕ} {v : json.Json} {m k : json.Members} → json.Chars n (ascii "nson") → OtherField m k → OtherField (json.member n v m) k
  added : {n : List ℕ} {v : json.Json} {m k : json.Members} → json.Chars n (ascii "nson") → json.nesting v ≤ 16 → OtherField m k
      → OtherField m (json.member n v k)

-- a string counts the bytes between its quotes, as they are spelled
pub data StringOf : json.Json → ℕ → Type 0 where
  string_of : {l : List ℕ} → StringOf (json.string l) (length l)

-- the characters of a number, as spelled
pub data NumberOf : json.Json → ℕ → Type 0 where
  number_of_lem : {l : List ℕ} → NumberOf (json.number l) (length l)

-- the true counts are what the members themselves have
pub record TrueCounts (m : json.Members) (size : ℕ) (c : Counts) : Type 0 where
  -- the hex characters after the two of the size
  pub behind : Once m (ascii "nson") StringOf (2 + size)
  pub kind : Once m (ascii "kind") NumberOf c.kind
  pub content : Once m (ascii "content") StringOf c.content
  -- so many tags, so many items in each, so many bytes in each item
  pub tags : Once m (ascii "tags") (IsArray (IsArray StringOf)) c.tags

-- the nson field holds these: it stands once, and is the hex of the size and of the counts as rule 6.6 lays them out
abbrev pub FieldHolds : json.Members → ℕ → Counts → Type 0
FieldHolds m size c = Once m (ascii "nson") IsHex (size ∷ descriptors c)
