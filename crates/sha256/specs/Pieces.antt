-- A message in consecutive pieces: the state between them, and what finishing answers. A state is a function of the
-- bytes so far, not of where they were cut. Assumes nothing.
use Rattle.std.specs.Prelude.{ℕ, ◌+◌, ◌-◌, ◌*◌, ◌/◌, ◌%◌, ◌^◌, Bool, List, [], ◌∷◌, ◌++◌, length, take, drop, replicate, nat_le}
use Rattle.scan.specs.Choice.{pick, Answer, shown, refused}
use Rattle.sha256.specs.declared.Words.{Words}
use Rattle.sha256.specs.declared.Hash.{Hash}
use Rattle.sha256.specs.Constants.{initial}
use Rattle.sha256.specs.Message.{digest_bytes, padding, hashed}

-- ---- what a state is

-- the bytes behind the whole blocks of l
unfoldable pub behind_blocks : List ℕ → List ℕ
behind_blocks l = drop (length l / 64 * 64) l

-- l with zeros behind it, up to a block
unfoldable pub zero_filled : List ℕ → List ℕ
zero_filled l = l ++ replicate (64 - length l) 0

-- the bytes that wait for their block
unfoldable pub waiting : Hash → List ℕ
waiting s = take (s.count % 64) s.pending

-- the state behind l: its whole blocks hashed from h on, its other bytes waiting, n bytes in all
unfoldable pub settled : Words → List ℕ → ℕ → Hash
settled h l n = record { chain = hashed h l; pending = zero_filled (behind_blocks l); count = n }

-- ---- what is done with it

-- before the first piece
unfoldable pub started : Hash
started = record { chain = initial; pending = replicate 64 0; count = 0 }

-- one piece more
unfoldable pub with_piece : Hash → List ℕ → Hash
with_piece s p = settled s.chain (waiting s ++ p) (s.count + length p)

-- n bytes more would bring the message to 2 ^ 61 bytes, that is 2 ^ 64 bits, or past it
unfoldable pub is_too_long : Hash → ℕ → Bool
is_too_long s n = nat_le (2 ^ 61) (s.count + n)

-- the piece added, or the state as it was where the message would be too long
unfoldable pub added_to : Hash → List ℕ → Hash
added_to s p = pick (is_too_long s (length p)) s (with_piece s p)

-- the hash value behind the padding, and its bytes
unfoldable pub final_words : Hash → Words
final_words s = hashed s.chain (waiting s ++ padding s.count)

unfoldable pub finished : Hash → List ℕ
finished s = digest_bytes (final_words s)

-- what finishing answers: the digest, or 35 at 0 where the message is too long
unfoldable pub finish_of : Hash → Answer (List ℕ)
finish_of s = pick (is_too_long s 0) (refused 35 0) (shown (finished s))

-- ---- all pieces of a list

-- added one after the other
unfoldable pub all_added : Hash → List (List ℕ) → Hash
all_added s [] = s
all_added s (p ∷ ps) = all_added (added_to s p) ps
