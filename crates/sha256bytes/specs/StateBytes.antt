-- A hash state in 104 lent bytes: 32 of words, 8 of the count, 64 that are pending; and what the entries over it
-- answer. Assumes nothing.
use Rattle.std.specs.Prelude.{ℕ, ◌+◌, ◌<◌, ◌^◌, ◌≡◌, List, [], ◌∷◌, ◌++◌, length, take, drop, leb}
use Rattle.scan.specs.Choice.{pick, Answer, shown, refused, and_then}
use Rattle.scan.specs.Place.{byte_at}
use Rattle.buffer.specs.Entry.{leaves}
use Rattle.littleendian.specs.LittleEndian.{number_of, low_first}
use Rattle.sha256.specs.declared.Words.{Words}
use Rattle.sha256.specs.declared.Hash.{Hash}
use Rattle.sha256.specs.Compression.{AreWords, word_of}
use Rattle.sha256.specs.Message.{digest_bytes}
use Rattle.sha256.specs.Pieces.{is_too_long, with_piece, finish_of}

-- ---- the layout

-- the word at a place, the highest byte first
unfoldable pub state_word : List ℕ → ℕ → ℕ
state_word b at = word_of (byte_at b at) (byte_at b (at + 1)) (byte_at b (at + 2)) (byte_at b (at + 3))

-- the eight words of the first 32 bytes
unfoldable pub chain_of : List ℕ → Words
chain_of b =
    record {
      a = state_word b 0;
      b = state_word b 4;
      c = state_word b 8;
      d = state_word b 12;
      e = state_word b 16;
      f = state_word b 20;
      g = state_word b 24;
      h = state_word b 28;
    }

-- the state that the first 104 bytes are: the words, the count with its lowest byte first, the pending bytes
unfoldable pub state_of : List ℕ → Hash
state_of b = record { chain = chain_of b; pending = take 64 (drop 40 b); count = number_of (take 8 (drop 32 b)) }

-- the bytes of a state
unfoldable pub bytes_of_state : Hash → List ℕ
bytes_of_state s = digest_bytes s.chain ++ low_first 8 s.count ++ s.pending

-- a state of numbers that the bytes have room for
pub record IsState (s : Hash) : Type 0 where
  pub words : AreWords s.chain
  pub counted : s.count < 2 ^ 64
  pub whole : length s.pending ≡ 64

-- ---- the entries

-- the state in a lent buffer, or 11 with 104
unfoldable pub lent_state : List ℕ → Answer Hash
lent_state b = pick (leb 104 (length b)) (shown (state_of b)) (refused 11 104)

-- one piece more: 11, then 35 at 0, or the state with the piece
unfoldable pub add_in : List ℕ → List ℕ → Answer Hash
add_in b p = and_then (lent_state b) λ s. pick (is_too_long s (length p)) (refused 35 0) (shown (with_piece s p))

-- finishing: 11, then 35 at 0, or the digest
unfoldable pub finish_in : List ℕ → Answer (List ℕ)
finish_in b = and_then (lent_state b) finish_of

-- the buffer after pieces that were added one after the other; a refusal leaves it as it was
unfoldable pub after_pieces : List ℕ → List (List ℕ) → List ℕ
after_pieces b [] = b
after_pieces b (p ∷ ps) = after_pieces (leaves bytes_of_state (add_in b p) b) ps
