-- Cutting a message elsewhere changes nothing, and what is hashed in pieces is the digest.
-- The blocks of l ++ k are those of l, and then those of what is behind them and k (`hashed_append`).
use Rattle.std.proofs.Common.{◌≡◌, ℕ, zero, suc, ◌+◌, ◌*◌, ◌/◌, ◌%◌, ◌≤◌, List, [], ◌++◌, length, take, drop, sym, refl, ap, ◌∙◌, append_assoc, zero-add, arith, length-append, length-drop, length-take-le, drop-drop, take_at}
use lib.Seq.{take-append-le, drop-append-le}
use Rattle.sha256.specs.declared.Words.{Words}
use Rattle.sha256.specs.declared.Hash.{Hash}
use Rattle.sha256.specs.Compression.{compress, blocks}
use Rattle.sha256.specs.Constants.{initial}
use Rattle.sha256.specs.Message.{padding, hashed, digest}
use Rattle.sha256.specs.Pieces.{behind_blocks, zero_filled, waiting, settled, started, with_piece, final_words, finished}

-- n blocks lie in the front part
blocks_front : (n : ℕ) (h : Words) (l k : List ℕ) → 64 * n ≤ length l → blocks n h (l ++ k) ≡ blocks n h l
unfolding blocks
blocks_front zero h l k q = refl
blocks_front (suc n) h l k q =
    rw (take-append-le 64 l k (omega arith), drop-append-le 64 l k (omega arith)) (blocks_front n (compress h (take 64 l)) (drop 64 l) k (omega (arith, length-drop 64 l)))

-- n blocks, and m more
blocks_more : (n m : ℕ) (h : Words) (l : List ℕ) → blocks (n + m) h l ≡ blocks m (blocks n h l) (drop (n * 64) l)
unfolding blocks
blocks_more zero m h l = let e : zero + m ≡ m = omega arith in rw e
blocks_more (suc n) m h l =
    let e : suc n + m ≡ suc (n + m) = omega arith in
    let f : suc n * 64 ≡ 64 + n * 64 = omega arith in
    rw (e, f, ← drop-drop (n * 64) 64 l) (blocks_more n m (compress h (take 64 l)) (drop 64 l))

pub behind_length : (l : List ℕ) → length (behind_blocks l) ≡ length l % 64
unfolding behind_blocks
behind_length l = simp length-drop (omega arith)

-- the whole blocks of l ++ k are those of l, and then those of what is left of l, and k
pub hashed_append : (h : Words) (l k : List ℕ) → hashed h (l ++ k) ≡ hashed (hashed h l) (behind_blocks l ++ k)
unfolding hashed behind_blocks
hashed_append h l k =
    let n : ℕ = length l / 64 in
    let m : ℕ = length (drop (n * 64) l ++ k) / 64 in
    let e : length (l ++ k) / 64 ≡ n + m = simp (length-append, length-drop) (omega arith) in
    rw (e, blocks_more n m h (l ++ k), drop-append-le (n * 64) l k (omega arith), blocks_front n h l k (omega arith))

pub behind_append : (l k : List ℕ) → behind_blocks (l ++ k) ≡ behind_blocks (behind_blocks l ++ k)
unfolding behind_blocks
behind_append l k =
    let n : ℕ = length l / 64 in
    let m : ℕ = length (drop (n * 64) l ++ k) / 64 in
    let e : length (l ++ k) / 64 * 64 ≡ n * 64 + m * 64 = simp (length-append, length-drop) (omega arith) in
    rw (e, ← drop-drop (m * 64) (n * 64) (l ++ k), drop-append-le (n * 64) l k (omega arith))

-- settled behind l, and then k
settled_append : (h : Words) (l k : List ℕ) (n : ℕ) → settled h (l ++ k) n ≡ settled (hashed h l) (behind_blocks l ++ k) n
unfolding settled
settled_append h l k n = rw (hashed_append h l k, behind_append l k)

-- the bytes that wait in a settled state
pub settled_waiting : (h : Words) (l : List ℕ) (n : ℕ) → n % 64 ≡ length l % 64 → waiting (settled h l n) ≡ behind_blocks l
unfolding waiting settled zero_filled
settled_waiting h l n e = take_at (behind_blocks l) _ (n % 64) (behind_length l ∙ sym e)

waiting_length : (s : Hash) → length s.pending ≡ 64 → length (waiting s) ≡ s.count % 64
unfolding waiting
waiting_length s h = length-take-le (s.count % 64) s.pending (omega arith)

-- a settled state, taken apart
piece : (s : Hash) (l b : List ℕ) (n : ℕ)
    → settled (settled s.chain l n).chain (behind_blocks l ++ b) ((settled s.chain l n).count + length b) ≡ settled s.chain (l ++ b) (n + length b)
unfolding settled
piece s l b n = sym (settled_append s.chain l b (n + length b))

none_waiting : waiting started ≡ []
unfolding waiting started
none_waiting = refl

-- cutting elsewhere changes nothing
pub added_append : (s : Hash) (a b : List ℕ) → length s.pending ≡ 64 → with_piece (with_piece s a) b ≡ with_piece s (a ++ b)
unfolding with_piece
added_append s a b h =
    let l : List ℕ = waiting s ++ a in
    let n : ℕ = s.count + length a in
    let u : n % 64 ≡ length l % 64 = simp length-append (omega (arith, waiting_length s h)) in
    let w : waiting (settled s.chain l n) ≡ behind_blocks l = settled_waiting s.chain l n u in
    let k : n + length b ≡ s.count + length (a ++ b) = simp length-append (omega arith) in
    ap (λ (v : List ℕ). settled (settled s.chain l n).chain (v ++ b) ((settled s.chain l n).count + length b)) w
    ∙ piece s l b n
    ∙ ap (λ (j : ℕ). settled s.chain (l ++ b) j) k
    ∙ ap (λ (v : List ℕ). settled s.chain v (s.count + length (a ++ b))) (append_assoc (waiting s) a b)

settled_chain : (h : Words) (l : List ℕ) (n : ℕ) → (settled h l n).chain ≡ hashed h l
unfolding settled
settled_chain h l n = refl

settled_count : (h : Words) (l : List ℕ) (n : ℕ) → (settled h l n).count ≡ n
unfolding settled
settled_count h l n = refl

first_piece : (m : List ℕ) → with_piece started m ≡ settled initial m (length m)
unfolding with_piece started waiting
first_piece m = rw zero-add

-- what is hashed in pieces is the digest
pub finished_digest : (m : List ℕ) → finished (with_piece started m) ≡ digest m
unfolding finished final_words digest
finished_digest m =
    let w = settled_waiting initial m (length m) refl in
    rw (first_piece m, w, settled_chain, settled_count, ← hashed_append initial m (padding (length m)))
