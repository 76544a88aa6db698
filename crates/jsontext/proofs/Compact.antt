-- Texts without white space, piece by piece, are spelled as the grammar has it: objects, arrays, strings, numbers.
-- Each production with empty white space; a byte of ASCII is a character that stands for itself.
use Prim.Native.Nat.{ℕ, ◌<◌}
use mathlib.Core.Path.{◌≡◌, subst}
use mathlib.Core.Bool.{Bool, true, false}
use mathlib.Core.List.{List, [], ◌∷◌, ◌++◌, append-nil}
use mathlib.Core.Logic.{dite}
use native.Mathlib.Omega.{arith}
use native.Mathlib.Decide.{ℕ_discrete}
use lib.ListN.{length, get_or}
use Rattle.scan.specs.Choice.{pick}
use Rattle.scan.specs.Place.{within}
use Rattle.scan.specs.Bytes.{All, none, also, IsBytes}
use Rattle.scan.proofs.Step.{pick_true}
use Rattle.utf8.specs.Utf8 as utf8
use Rattle.hexdigits.specs.Hex.{hexes}
use Rattle.hexdigits.specs.inner.LowerHex as hex
use Rattle.scan.proofs.PlaceLaws.{within_bounds}
use Rattle.hexdigits.proofs.Texts.{hexes_digits}
use Rattle.decimal.specs.Decimal.{DecimalDigit, digit, decimal}
use Rattle.decimal.proofs.Spelling.{decimal_last, length_some, decimal_digits, decimal_first}
use Rattle.jsontext.specs.Grammar as json

-- ---- the text

-- "l"
abbrev pub string : List ℕ → List ℕ
string l = 0x22 ∷ (l ++ (0x22 ∷ []))

-- "n":v
abbrev pub member : List ℕ → List ℕ → List ℕ
member n v = string n ++ (0x3A ∷ v)

-- a,b
abbrev pub comma : List ℕ → List ℕ → List ℕ
comma a b = a ++ (0x2C ∷ b)

-- {l}
abbrev pub braces : List ℕ → List ℕ
braces l = 0x7B ∷ (l ++ (0x7D ∷ []))

-- [l]
abbrev pub brackets : List ℕ → List ℕ
brackets l = 0x5B ∷ (l ++ (0x5D ∷ []))

-- ---- objects and arrays

bare : (b : ℕ) → json.Separator b (b ∷ [])
bare b = json.separator {w = []} {x = []} none none

pub string_spells : {l t : List ℕ} → json.Chars l t → json.Spells (json.string l) (string l)
string_spells g = json.is_string (json.quoted g)

pub member_spells : {n t : List ℕ} {v : json.Json} {l : List ℕ} → json.Chars n t → json.Spells v l → json.SpellsMember n v (member n l)
member_spells {n} g h = json.is_member {c = 0x3A ∷ []} (json.quoted g) (bare 0x3A) h

pub more_members : {n : List ℕ} {v : json.Json} {l : List ℕ} {m : json.Members} {r : List ℕ} → json.SpellsMember n v l → json.SpellsMembers m r
    → json.SpellsMembers (json.member n v m) (comma l r)
more_members g h = json.more_members {c = 0x2C ∷ []} g (bare 0x2C) h

pub object_text : {m : json.Members} {l : List ℕ} → json.SpellsMembers m l → json.Spells (json.object m) (braces l)
object_text {m} {l} g = json.is_object {w = []} {l = l} {x = []} none g none

pub more_items : {v : json.Json} {l : List ℕ} {i : json.Items} {r : List ℕ} → json.Spells v l → json.SpellsItems i r → json.SpellsItems (json.item v i) (comma l r)
more_items g h = json.more_items {c = 0x2C ∷ []} g (bare 0x2C) h

pub array_text : {i : json.Items} {l : List ℕ} → json.SpellsItems i l → json.Spells (json.array i) (brackets l)
array_text {i} {l} g = json.is_array {w = []} {l = l} {x = []} none g none

pub array_none : json.Spells (json.array json.no_item) (brackets [])
array_none = json.empty_array {w = []} none

-- the items of an array, one tree for each
abbrev pub items : List json.Json → json.Items
items [] = json.no_item
items (v ∷ l) = json.item v (items l)

abbrev pub array_of : List json.Json → json.Json
array_of l = json.array (items l)

-- ---- characters that stand for themselves

one_char : {b : ℕ} {l : List ℕ} → json.Unescaped (b ∷ []) → json.Chars l l → json.Chars (b ∷ l) (b ∷ l)
one_char {b} g r = json.char {c = b ∷ []} {t = b ∷ []} (json.unescaped g) r

hex_char : {b : ℕ} → hex.LowerHex b → json.Unescaped (b ∷ [])
hex_char {b} (hex.number l h) = json.to_5_b (utf8.octet {b = b} (omega arith) (omega arith))
hex_char {b} (hex.letter l h) = json.to_7_f (utf8.octet {b = b} (omega arith) (omega arith))

-- hex digits
pub digits_chars : {l : List ℕ} → All hex.LowerHex l → json.Chars l l
digits_chars none = json.no_char
digits_chars (also p r) = one_char (hex_char p) (digits_chars r)

pub hexes_chars : {b : List ℕ} → IsBytes b → json.Chars (hexes b) (hexes b)
hexes_chars h = digits_chars (hexes_digits h)

-- small letters and the low line, and a name of them
abbrev pub letters : List ℕ → Bool
letters [] = true
letters (b ∷ l) = pick (within 0x5D 0x7F b) (letters l) false

pub name_chars : (l : List ℕ) → letters l ≡ true → json.Chars l l
name_chars [] h = json.no_char
name_chars (b ∷ l) h =
    let t = pick_true (within 0x5D 0x7F b) (letters l) h in
    let r = within_bounds 0x5D 0x7F b t.0 in
    one_char (json.to_7_f (utf8.octet r.0 r.1)) (name_chars l t.1)

-- ---- numbers

int_of : {l : List ℕ} → All DecimalDigit l → 0 < length l → (get_or l 0 0 ≡ 0x30 → l ≡ 0x30 ∷ []) → json.Int l
int_of none h z = absurd (omega arith)
int_of (also {b = b} (digit p q) r) h z =
    dite (ℕ_discrete b 0x30) (λ e. rw (z e) json.zero) (λ n. json.digit1_9 {b = b} (omega (arith, n)) q r)

-- the digits of a number are a number of the grammar
pub decimal_number : (n : ℕ) → json.Number (decimal n)
decimal_number n =
    let l = decimal n in
    let i = int_of (decimal_digits n) (length_some n) (λ e. let z = decimal_first n e in rw z (decimal_last 0 (omega arith))) in
    subst json.Number (append-nil l) (json.number json.no_minus i json.no_frac json.no_exp)
