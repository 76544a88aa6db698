-- Base64 by RFC 4648, section 4, with no padding: the standard alphabet, a character for each six bits.
-- Assumes nothing.
use Rattle.std.specs.Prelude.{ℕ, ◌+◌, ◌*◌, ◌/◌, ◌%◌, Bool, true, false, List, [], ◌∷◌, ltb, eqb}
use Rattle.scan.specs.Ascii.{ascii}
use Rattle.scan.specs.Choice.{pick}
use Rattle.scan.specs.Place.{byte_at, run}

-- the alphabet, in the order of its table
unfoldable pub alphabet : List ℕ
alphabet = ascii "ABCDEFGHIJKLMNOPQRSTUVWXYZabcdefghijklmnopqrstuvwxyz0123456789+/"

-- the character of a value below 64
unfoldable pub character_of : ℕ → ℕ
character_of v = byte_at alphabet v

-- a character's six bits, which are its place in the alphabet; 64, the place behind it, where the byte is none of it
unfoldable pub six_bits : ℕ → ℕ
six_bits b = run (λ c. pick (eqb c b) false true) alphabet 0

-- whether a byte is of the alphabet
unfoldable pub in_alphabet : ℕ → Bool
in_alphabet b = ltb (six_bits b) 64

-- Three bytes are four characters; of one or two that are left over, the bits are filled up with zeros.
unfoldable pub encoded : List ℕ → List ℕ
encoded [] = []
encoded (a ∷ []) = character_of (a / 4) ∷ character_of (a % 4 * 16) ∷ []
encoded (a ∷ b ∷ []) = character_of (a / 4) ∷ character_of (a % 4 * 16 + b / 16) ∷ character_of (b % 16 * 4) ∷ []
encoded (a ∷ b ∷ c ∷ l) =
    character_of (a / 4) ∷ character_of (a % 4 * 16 + b / 16) ∷ character_of (b % 16 * 4 + c / 64) ∷ character_of (c % 64) ∷ encoded l

-- the bytes of six bits and six bits: the first, second and third of a group
abbrev pub first : ℕ → ℕ → ℕ
first a b = a % 64 * 4 + b % 64 / 16

abbrev pub second : ℕ → ℕ → ℕ
second b c = b % 16 * 16 + c % 64 / 4

abbrev pub third : ℕ → ℕ → ℕ
third c d = c % 4 * 64 + d % 64

-- a byte for each eight bits of the characters. (Any other byte counts as 0 here, and a lone last character as nothing;
-- a reader asks `in_alphabet` and `ends_whole` first.)
unfoldable pub decoded : List ℕ → List ℕ
decoded [] = []
decoded (a ∷ []) = []
decoded (a ∷ b ∷ []) = first (six_bits a) (six_bits b) ∷ []
decoded (a ∷ b ∷ c ∷ []) = first (six_bits a) (six_bits b) ∷ second (six_bits b) (six_bits c) ∷ []
decoded (a ∷ b ∷ c ∷ d ∷ t) =
    first (six_bits a) (six_bits b) ∷ second (six_bits b) (six_bits c) ∷ third (six_bits c) (six_bits d) ∷ decoded t

-- whether a text ends as base64 does: its length leaves 0, 2 or 3 after division by 4, and the bits left over are zero.
-- (Here too a reader asks `in_alphabet` of each byte first.)
unfoldable pub ends_whole : List ℕ → Bool
ends_whole [] = true
ends_whole (a ∷ []) = false
ends_whole (a ∷ b ∷ []) = eqb (six_bits b % 16) 0
ends_whole (a ∷ b ∷ c ∷ []) = eqb (six_bits c % 4) 0
ends_whole (a ∷ b ∷ c ∷ d ∷ t) = ends_whole t
