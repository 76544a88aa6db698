-- The laws of escaped texts, said once for every byte function with `ReadBack`: parts, lengths, the text read back,
-- bytes and UTF-8.
-- By induction on the text; each step is the form of one byte.
use Prim.Native.Nat.{ℕ, ◌*◌, ◌<◌, ◌≤◌}
use mathlib.Core.Path.{◌≡◌, refl, sym, ap, ◌∙◌}
use mathlib.Core.Bool.{false}
use mathlib.Core.List.{List, [], ◌∷◌, ◌++◌, append_assoc, append-nil}
use native.Mathlib.Omega.{arith}
use lib.ListN.{length, length-append}
use borrow.Author.Tests.{ne_eqb}
use Rattle.scan.specs.Bytes.{All, none, also, IsBytes}
use Rattle.scan.proofs.AllLaws.{all_append}
use Rattle.utf8.specs.Utf8.{Octet, octet, Tail, Char, one, two, three_E0, three_E1, three_ED, three_EE, four_F0, four_F1, four_F4, Utf8, char}
use Rattle.utf8.proofs.Laws.{utf8_append, utf8_char, utf8_ascii}
use Rattle.escape.specs.declared.Escaping.{Escaping}
use Rattle.escape.specs.declared.Escaping.TheVariants.{Canonical, Nson}
use Rattle.escape.specs.Escape.{nson_byte, canonical_byte, escaped}
use Rattle.escape.specs.inner.Back.{plain_from, plain}
use Rattle.escape.specs.inner.Which.{byte_of, growth}
use Rattle.escape.proofs.ByteLaws.{Form, itself, letter, ReadBack, nson_escaping, canonical_escaping}

-- ---- with no condition

-- nothing, escaped
pub escaped_none : (f : ℕ → List ℕ) → escaped f [] ≡ []
unfolding escaped
escaped_none f = refl

-- a byte and the text behind it
pub escaped_more : (f : ℕ → List ℕ) (b : ℕ) (t : List ℕ) → escaped f (b ∷ t) ≡ f b ++ escaped f t
unfolding escaped
escaped_more f b t = refl

-- a text in parts
pub escaped_append : (f : ℕ → List ℕ) (s t : List ℕ) → escaped f (s ++ t) ≡ escaped f s ++ escaped f t
unfolding escaped
escaped_append f [] t = refl
escaped_append f (b ∷ s) t = ap (λ (l : List ℕ). f b ++ l) (escaped_append f s t) ∙ sym (append_assoc (f b) (escaped f s) (escaped f t))

-- ---- of one byte

-- a byte becomes one or two
pub form_length : {b : ℕ} {x : List ℕ} → Form b x → (1 ≤ length x) × (length x ≤ 2)
form_length (itself n) = (omega arith, omega arith)
form_length (letter c m h k) = (omega arith, omega arith)

-- what a byte becomes is read back as that byte
form_plain : {b : ℕ} {x : List ℕ} → Form b x → (l : List ℕ) → plain_from false (x ++ l) ≡ b ∷ plain_from false l
unfolding plain_from
form_plain {b} (itself n) l = rw (ne_eqb b 0x5C n)
form_plain (letter c m h k) l = rw m

-- what holds of the byte and of ASCII holds of what it becomes
form_all : {P : ℕ → Type 0} {b : ℕ} {x : List ℕ} → Form b x → P b → ((a : ℕ) → a < 0x80 → P a) → All P x
form_all (itself n) p f = also p none
form_all (letter c m h k) p f = also (f 0x5C (omega arith)) (also (f c k) none)

-- a byte that is not ASCII stands as it is
form_high : {b : ℕ} {x : List ℕ} → Form b x → 0x80 ≤ b → x ≡ b ∷ []
form_high (itself n) g = refl
form_high (letter c m h k) g = absurd (omega arith)

-- ---- of one character

abbrev pub Ascii : ℕ → Type 0
Ascii b = b < 0x80

abbrev pub High : ℕ → Type 0
High b = 0x80 ≤ b

high : {l h b : ℕ} → 0x80 ≤ l → Octet l h b → High b
high k (octet p q) = omega arith

tail : {b : ℕ} → Tail b → High b
tail t = high (omega arith) t

-- a character is one byte of ASCII, or has none
pub data Side : List ℕ → Type 0 where
  ascii : {b : ℕ} → Ascii b → Side (b ∷ [])
  above : {c : List ℕ} → All High c → Side c

pub char_side : {c : List ℕ} → Char c → Side c
char_side (one (octet {b = b} l h)) = ascii {b = b} (omega arith)
char_side (two p q) = above (also (high (omega arith) p) (also (tail q) none))
char_side (three_E0 p q) = above (also {b = 0xE0} (omega arith) (also (high (omega arith) p) (also (tail q) none)))
char_side (three_E1 p q r) = above (also (high (omega arith) p) (also (tail q) (also (tail r) none)))
char_side (three_ED p q) = above (also {b = 0xED} (omega arith) (also (high (omega arith) p) (also (tail q) none)))
char_side (three_EE p q r) = above (also (high (omega arith) p) (also (tail q) (also (tail r) none)))
char_side (four_F0 p q r) = above (also {b = 0xF0} (omega arith) (also (high (omega arith) p) (also (tail q) (also (tail r) none))))
char_side (four_F1 p q r t) = above (also (high (omega arith) p) (also (tail q) (also (tail r) (also (tail t) none))))
char_side (four_F4 p q r) = above (also {b = 0xF4} (omega arith) (also (high (omega arith) p) (also (tail q) (also (tail r) none))))

-- ---- of a text, for every escaping

module _ (f : ℕ → List ℕ) (e : ReadBack f) where
  -- an escaped text is at least as long as the text
  pub length_least : (t : List ℕ) → length t ≤ length (escaped f t)
  unfolding escaped
  length_least [] = omega arith
  length_least (b ∷ t) = let n = (form_length (e b)).0 in omega (arith, length-append (f b) (escaped f t), length_least t)

  -- and at most twice as long
  pub length_most : (t : List ℕ) → length (escaped f t) ≤ 2 * length t
  unfolding escaped
  length_most [] = omega arith
  length_most (b ∷ t) = let n = (form_length (e b)).1 in omega (arith, length-append (f b) (escaped f t), length_most t)

  -- an escaped text is read back
  pub plain_escaped : (t : List ℕ) → plain (escaped f t) ≡ t
  unfolding escaped plain plain_from
  plain_escaped [] = refl
  plain_escaped (b ∷ t) = form_plain (e b) (escaped f t) ∙ ap (λ (l : List ℕ). b ∷ l) (plain_escaped t)

  -- two different texts never have the same escaped form
  pub escaped_injective : (s t : List ℕ) → escaped f s ≡ escaped f t → s ≡ t
  escaped_injective s t q = sym (plain_escaped s) ∙ ap plain q ∙ plain_escaped t

  -- bytes are escaped as bytes
  pub escaped_bytes : {t : List ℕ} → IsBytes t → IsBytes (escaped f t)
  unfolding escaped
  escaped_bytes none = none
  escaped_bytes (also {b = b} p r) = all_append (form_all (e b) p (λ a h. omega arith)) (escaped_bytes r)

  -- a text of no ASCII stands as it is
  escaped_high : {t : List ℕ} → All High t → escaped f t ≡ t
  unfolding escaped
  escaped_high none = refl
  escaped_high (also {b = b} p r) = rw (form_high (e b) p, escaped_high r)

  escaped_side : {c : List ℕ} → Side c → Utf8 c → Utf8 (escaped f c)
  unfolding escaped
  escaped_side (ascii {b = b} h) u = rw (append-nil (f b)) (utf8_ascii (form_all (e b) h (λ a k. k)))
  escaped_side (above {c = c} h) u = rw (escaped_high {t = c} h) u

  -- UTF-8 is escaped as UTF-8
  pub escaped_utf8 : {t : List ℕ} → Utf8 t → Utf8 (escaped f t)
  unfolding escaped
  escaped_utf8 Utf8.none = Utf8.none
  escaped_utf8 (char {c = c} {l = l} g u) = rw (escaped_append f c l) (utf8_append (escaped_side (char_side g) (utf8_char g)) (escaped_utf8 u))

-- ---- each

-- an escaped text has at most `growth` bytes for each
pub growth_most : (k : Escaping) (t : List ℕ) → length (escaped (byte_of k) t) ≤ growth k * length t
growth_most Canonical = length_most canonical_byte canonical_escaping
growth_most Nson = length_most nson_byte nson_escaping

-- a text is read back from the canonical text
pub canonical_plain : (t : List ℕ) → plain (escaped canonical_byte t) ≡ t
canonical_plain = plain_escaped canonical_byte canonical_escaping

-- two different texts never have the same form in the canonical text
pub canonical_injective : (s t : List ℕ) → escaped canonical_byte s ≡ escaped canonical_byte t → s ≡ t
canonical_injective = escaped_injective canonical_byte canonical_escaping

-- a text is read back from NSON
pub nson_plain : (t : List ℕ) → plain (escaped nson_byte t) ≡ t
nson_plain = plain_escaped nson_byte nson_escaping

-- two different texts never have the same form in NSON
pub nson_injective : (s t : List ℕ) → escaped nson_byte s ≡ escaped nson_byte t → s ≡ t
nson_injective = escaped_injective nson_byte nson_escaping
