-- The pieces of a message, added one after the other as `add` does it and finished, give the digest of the whole; a
-- refused piece changes nothing. By induction on the pieces, with `added_append`.
use Rattle.std.proofs.Common.{◌≡◌, ℕ, ◌+◌, ◌%◌, ◌^◌, ◌<◌, true, false, List, [], ◌∷◌, ◌++◌, length, sym, refl, ap, ◌∙◌, append_assoc, append-nil, arith, length-append}
use mathlib.Core.List.{flatten}
use lib.ListN.{length-replicate}
use borrow.Author.Tests.{lt-leb}
use Rattle.scan.specs.Choice.{shown}
use Rattle.sha256.specs.declared.Hash.{Hash}
use Rattle.sha256.specs.Compression.{AreWords, blocks}
use Rattle.sha256.specs.Message.{zeros_behind, hashed, digest}
use Rattle.sha256.specs.Pieces.{behind_blocks, zero_filled, waiting, settled, started, with_piece, is_too_long, added_to, finished, finish_of, all_added}
use Rattle.sha256.proofs.WordLaws.{hashed_words, initial_words}
use Rattle.sha256.proofs.Cutting.{behind_length, added_append, finished_digest}

-- 5.1.1: the length ends a block, and with fewer zeros it would not
pub zeros_least : (n : ℕ) → ((n + 1 + zeros_behind n + 8) % 64 ≡ 0) × (zeros_behind n < 64)
unfolding zeros_behind
zeros_least n = (omega arith, omega arith)

-- ---- with the limit on the length

-- a refused piece changes nothing
pub refused_kept : (s : Hash) (p : List ℕ) → is_too_long s (length p) ≡ true → added_to s p ≡ s
unfolding added_to
refused_kept s p h = rw h

-- below the limit
pub not_too_long : (s : Hash) (n : ℕ) → s.count + n < 2 ^ 61 → is_too_long s n ≡ false
unfolding is_too_long
not_too_long s n h = lt-leb (2 ^ 61) (s.count + n) h

pub added_short : (s : Hash) (p : List ℕ) → s.count + length p < 2 ^ 61 → added_to s p ≡ with_piece s p
unfolding added_to
added_short s p h = rw (not_too_long s (length p) h)

pub count_added : (s : Hash) (p : List ℕ) → (with_piece s p).count ≡ s.count + length p
unfolding with_piece settled
count_added s p = refl

pub pending_added : (s : Hash) (p : List ℕ) → length (with_piece s p).pending ≡ 64
unfolding with_piece settled zero_filled
pending_added s p =
    let l : List ℕ = behind_blocks (waiting s ++ p) in
    simp (length-append, length-replicate) (omega (arith, behind_length (waiting s ++ p)))

pub words_added : (s : Hash) (p : List ℕ) → AreWords s.chain → AreWords (with_piece s p).chain
unfolding with_piece settled
words_added s p w = hashed_words s.chain (waiting s ++ p) w

-- all pieces of a list, one after the other, are one piece
pieces_one : (s : Hash) (ps : List (List ℕ)) (a : List ℕ) → length s.pending ≡ 64 → s.count + length (a ++ flatten ps) < 2 ^ 61
    → all_added (with_piece s a) ps ≡ with_piece s (a ++ flatten ps)
unfolding all_added flatten
pieces_one s [] a h k = rw (append-nil a)
pieces_one s (p ∷ ps) a h k =
    let n : length (a ++ (p ++ flatten ps)) ≡ length a + (length p + length (flatten ps)) = simp length-append in
    let m : length ((a ++ p) ++ flatten ps) ≡ length a + length p + length (flatten ps) = simp length-append in
    let e = added_short (with_piece s a) p (omega (arith, n, k, count_added s a)) in
    rw (e, added_append s a p h, ← append_assoc a p (flatten ps)) (pieces_one s ps (a ++ p) h (omega (arith, n, m, k)))

finish_short : (s : Hash) → s.count < 2 ^ 61 → finish_of s ≡ shown (finished s)
unfolding finish_of
finish_short s h = rw (not_too_long s 0 (omega arith))

started_empty : with_piece started [] ≡ started
unfolding with_piece settled started waiting behind_blocks zero_filled hashed blocks
started_empty = refl

pub count_started : started.count ≡ 0
unfolding started
count_started = refl

pub pending_started : length started.pending ≡ 64
unfolding started
pending_started = refl

pub words_started : AreWords started.chain
unfolding started
words_started = initial_words

-- the pieces of a message in any cut, added one after the other and finished, give its digest
pub pieces_digest : (ps : List (List ℕ)) → length (flatten ps) < 2 ^ 61 → finish_of (all_added started ps) ≡ shown (digest (flatten ps))
pieces_digest ps h =
    let z = count_started in
    let one = pieces_one started ps [] pending_started (omega (arith, h, z)) in
    let e : all_added started ps ≡ with_piece started (flatten ps) = ap (λ (s : Hash). all_added s ps) (sym started_empty) ∙ one in
    let k : (with_piece started (flatten ps)).count < 2 ^ 61 = omega (arith, h, z, count_added started (flatten ps)) in
    rw e (finish_short (with_piece started (flatten ps)) k ∙ ap shown (finished_digest (flatten ps)))

-- a message in one piece
pub message_digest : (m : List ℕ) → length m < 2 ^ 61 → finish_of (added_to started m) ≡ shown (digest m)
unfolding all_added flatten
message_digest m h = let e = append-nil m in rw e at (pieces_digest (m ∷ []) (rw e h))
