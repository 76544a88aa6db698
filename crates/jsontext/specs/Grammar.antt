-- JSON as RFC 8259 has it: its productions, in its names; what a production needs stands before it. Assumes nothing.
use Rattle.std.specs.Prelude.{ℕ, suc, ◌+◌, ◌*◌, ◌-◌, ◌≤◌, max, List, [], ◌∷◌, ◌++◌}
use Rattle.scan.specs.Ascii.{ascii}
use Rattle.scan.specs.Bytes.{All}
use Rattle.utf8.specs.Utf8 as utf8
use Rattle.utf8.specs.Encode.{Scalar, encode}
use Rattle.decimal.specs.Decimal.{DecimalDigit}

-- ---- section 2: white space, and structural characters with the white space around them

-- ws = *( Space / Horizontal tab / Line feed or New line / Carriage return )
pub data Space : ℕ → Type 0 where
  blank : Space 0x20
  tab : Space 0x09
  feed : Space 0x0A
  return : Space 0x0D

abbrev pub Ws : List ℕ → Type 0
Ws = All Space

-- value-separator = ws %x2C ws, name-separator = ws %x3A ws
pub data Separator (b : ℕ) : List ℕ → Type 0 where
  separator : {w x : List ℕ} → Ws w → Ws x → Separator b (w ++ (b ∷ x))

-- ---- section 6: numbers

-- 1*DIGIT; DIGIT is decimal's
pub data SomeDigits : List ℕ → Type 0 where
  digits : {b : ℕ} {l : List ℕ} → DecimalDigit b → All DecimalDigit l → SomeDigits (b ∷ l)

-- [ minus ]
pub data Minus : List ℕ → Type 0 where
  no_minus : Minus []
  minus : Minus (0x2D ∷ [])

-- int = zero / ( digit1_9 *DIGIT )
pub data Int : List ℕ → Type 0 where
  zero : Int (0x30 ∷ [])
  digit1_9 : {b : ℕ} {l : List ℕ} → 0x31 ≤ b → b ≤ 0x39 → All DecimalDigit l → Int (b ∷ l)

-- [ frac ], frac = decimal-point 1*DIGIT
pub data Frac : List ℕ → Type 0 where
  no_frac : Frac []
  frac : {l : List ℕ} → SomeDigits l → Frac (0x2E ∷ l)

-- e = %x65 / %x45
pub data E : ℕ → Type 0 where
  small : E 0x65
  capital : E 0x45

-- [ minus / plus ]
pub data Sign : List ℕ → Type 0 where
  no_sign : Sign []
  minus_sign : Sign (0x2D ∷ [])
  plus_sign : Sign (0x2B ∷ [])

-- [ exp ], exp = e [ minus / plus ] 1*DIGIT
pub data Exp : List ℕ → Type 0 where
  no_exp : Exp []
  exp : {b : ℕ} {g l : List ℕ} → E b → Sign g → SomeDigits l → Exp (b ∷ (g ++ l))

-- number = [ minus ] int [ frac ] [ exp ]
pub data Number : List ℕ → Type 0 where
  number : {m i f e : List ℕ} → Minus m → Int i → Frac f → Exp e → Number (m ++ (i ++ (f ++ e)))

-- ---- section 7: strings. A character as it is spelled, and the bytes that it stands for in UTF-8.

-- unescaped = %x20-21 / %x23-5B / %x5D-10FFFF, where what is above 7F takes two bytes or more
pub data Unescaped : List ℕ → Type 0 where
  to_21 : {b : ℕ} → utf8.Octet 0x20 0x21 b → Unescaped (b ∷ [])
  to_5_b : {b : ℕ} → utf8.Octet 0x23 0x5B b → Unescaped (b ∷ [])
  to_7_f : {b : ℕ} → utf8.Octet 0x5D 0x7F b → Unescaped (b ∷ [])
  above : {a b : ℕ} {l : List ℕ} → utf8.Char (a ∷ b ∷ l) → Unescaped (a ∷ b ∷ l)

-- the byte behind the backslash, and the character that the two stand for
pub data Letter : ℕ → ℕ → Type 0 where
  quotation_mark : Letter 0x22 0x22
  reverse_solidus : Letter 0x5C 0x5C
  solidus : Letter 0x2F 0x2F
  backspace : Letter 0x62 0x08
  form_feed : Letter 0x66 0x0C
  line_feed : Letter 0x6E 0x0A
  carriage_return : Letter 0x72 0x0D
  tab : Letter 0x74 0x09

-- HEXDIG, in either case, and its value
pub data HexDigit : ℕ → ℕ → Type 0 where
  number : {b : ℕ} → 0x30 ≤ b → b ≤ 0x39 → HexDigit b (b - 0x30)
  capital : {b : ℕ} → 0x41 ≤ b → b ≤ 0x46 → HexDigit b (b - 0x37)
  small : {b : ℕ} → 0x61 ≤ b → b ≤ 0x66 → HexDigit b (b - 0x57)

-- uXXXX = %x75 4HEXDIG behind the backslash, and the number that it says
pub data Unit : List ℕ → ℕ → Type 0 where
  unit : {a b c d x y z w : ℕ} → HexDigit a x → HexDigit b y → HexDigit c z → HexDigit d w
      → Unit (0x5C ∷ 0x75 ∷ a ∷ b ∷ c ∷ d ∷ []) (((x * 16 + y) * 16 + z) * 16 + w)

-- the character that a pair of surrogates stands for
abbrev pub paired : ℕ → ℕ → ℕ
paired high low = 0x10000 + (high - 0xD800) * 0x400 + (low - 0xDC00)

-- char. \uXXXX stands for a scalar value, or two of them for a pair of surrogates: a lone surrogate has no meaning
-- (section 8.2), and is refused.
pub data SpelledChar : List ℕ → List ℕ → Type 0 where
  unescaped : {l : List ℕ} → Unescaped l → SpelledChar l l
  letter : {c b : ℕ} → Letter c b → SpelledChar (0x5C ∷ c ∷ []) (b ∷ [])
  unicode : {l : List ℕ} {u : ℕ} → Unit l u → Scalar u → SpelledChar l (encode u)
  pair : {l m : List ℕ} {u v : ℕ} → Unit l u → utf8.Octet 0xD800 0xDBFF u → Unit m v → utf8.Octet 0xDC00 0xDFFF v
      → SpelledChar (l ++ m) (encode (paired u v))

-- *char
pub data Chars : List ℕ → List ℕ → Type 0 where
  no_char : Chars [] []
  char : {c t l r : List ℕ} → SpelledChar c t → Chars l r → Chars (c ++ l) (t ++ r)

-- ---- sections 3 to 5: values

mutual
  -- false / null / true / object / array / number / string: a number, a string and a name as they are spelled, without
  -- the quotes
  pub data Json : Type 0 where
    false : Json
    null : Json
    true : Json
    object : Members → Json
    array : Items → Json
    number : List ℕ → Json
    string : List ℕ → Json

  pub data Members : Type 0 where
    no_member : Members
    member : List ℕ → Json → Members → Members

  pub data Items : Type 0 where
    no_item : Items
    item : Json → Items → Items

-- string = quotation_mark *char quotation_mark
pub data QuotedChars : List ℕ → List ℕ → Type 0 where
  quoted : {l t : List ℕ} → Chars l t → QuotedChars l (0x22 ∷ (l ++ (0x22 ∷ [])))

mutual
  -- The value v is spelled l, from its first byte to its last. The RFC's white space before an opening bracket and
  -- behind a closing one belongs to what stands around the value.
  pub data Spells : Json → List ℕ → Type 0 where
    is_false : Spells Json.false (ascii "false")
    is_null : Spells Json.null (ascii "null")
    is_true : Spells Json.true (ascii "true")
    -- object = begin-object [ member *( value-separator member ) ] end-object
    empty_object : {w : List ℕ} → Ws w → Spells (Json.object no_member) (0x7B ∷ (w ++ (0x7D ∷ [])))
    is_object : {m : Members} {w l x : List ℕ} → Ws w → SpellsMembers m l → Ws x → Spells (Json.object m) (0x7B ∷ (w ++ (l ++ (x ++ (0x7D ∷ [])))))
    -- array = begin-array [ value *( value-separator value ) ] end-array
    empty_array : {w : List ℕ} → Ws w → Spells (Json.array no_item) (0x5B ∷ (w ++ (0x5D ∷ [])))
    is_array : {i : Items} {w l x : List ℕ} → Ws w → SpellsItems i l → Ws x → Spells (Json.array i) (0x5B ∷ (w ++ (l ++ (x ++ (0x5D ∷ [])))))
    is_number : {l : List ℕ} → Number l → Spells (Json.number l) l
    is_string : {l q : List ℕ} → QuotedChars l q → Spells (Json.string l) q

  -- member = string name-separator value
  pub data SpellsMember : List ℕ → Json → List ℕ → Type 0 where
    is_member : {n q c : List ℕ} {v : Json} {l : List ℕ} → QuotedChars n q → Separator 0x3A c → Spells v l → SpellsMember n v (q ++ (c ++ l))

  -- member *( value-separator member )
  pub data SpellsMembers : Members → List ℕ → Type 0 where
    last_member : {n : List ℕ} {v : Json} {l : List ℕ} → SpellsMember n v l → SpellsMembers (member n v no_member) l
    more_members : {n : List ℕ} {v : Json} {l c : List ℕ} {m : Members} {r : List ℕ} → SpellsMember n v l → Separator 0x2C c → SpellsMembers m r
        → SpellsMembers (member n v m) (l ++ (c ++ r))

  -- value *( value-separator value )
  pub data SpellsItems : Items → List ℕ → Type 0 where
    last_item : {v : Json} {l : List ℕ} → Spells v l → SpellsItems (item v no_item) l
    more_items : {v : Json} {l c : List ℕ} {i : Items} {r : List ℕ} → Spells v l → Separator 0x2C c → SpellsItems i r
        → SpellsItems (item v i) (l ++ (c ++ r))

-- JSON-text = ws value ws
pub data JsonText : Json → List ℕ → Type 0 where
  text : {v : Json} {w l x : List ℕ} → Ws w → Spells v l → Ws x → JsonText v (w ++ (l ++ x))

-- how many arrays and objects stand inside one another
abbrev mutual
  pub nesting : Json → ℕ
  nesting Json.false = 0
  nesting Json.null = 0
  nesting Json.true = 0
  nesting (Json.object m) = suc (nesting_of_members m)
  nesting (Json.array i) = suc (nesting_of_items i)
  nesting (Json.number l) = 0
  nesting (Json.string l) = 0

  pub nesting_of_members : Members → ℕ
  nesting_of_members no_member = 0
  nesting_of_members (member n v m) = max (nesting v) (nesting_of_members m)

  pub nesting_of_items : Items → ℕ
  nesting_of_items no_item = 0
  nesting_of_items (item v i) = max (nesting v) (nesting_of_items i)
