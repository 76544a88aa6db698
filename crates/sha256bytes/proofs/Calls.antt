-- The theorem over calls: a buffer that was started, to which pieces were added in any cut, and which is then finished
-- gives the digest of the pieces joined, and cutting elsewhere leaves the same bytes. What stands in the buffer is
-- always the bytes of the state so far.
use Prim.Native.Nat.{ℕ, ◌+◌, ◌≤◌, ◌<◌, ◌^◌}
use mathlib.Core.Path.{◌≡◌, refl, sym, ap, ◌∙◌}
use mathlib.Core.List.{List, [], ◌∷◌, ◌++◌, flatten}
use native.Mathlib.Omega.{arith}
use lib.ListN.{length, drop, length-append}
use lib.Seq.{drop_at}
use borrow.Author.Tests.{le-leb}
use Rattle.scan.specs.Bytes.{IsBytes}
use Rattle.scan.specs.Choice.{shown}
use Rattle.buffer.specs.Entry.{filled, leaves}
use Rattle.sha256.specs.declared.Hash.{Hash}
use Rattle.sha256.specs.Message.{digest}
use Rattle.sha256.specs.Pieces.{started, with_piece, all_added}
use Rattle.sha256.proofs.Cutting.{added_append}
use Rattle.sha256.proofs.Joining.{count_started, pending_started, count_added, pending_added, not_too_long, added_short, words_started, words_added, pieces_digest}
use Rattle.sha256bytes.specs.StateBytes.{state_of, bytes_of_state, IsState, add_in, finish_in, after_pieces}
use Rattle.sha256bytes.proofs.StateLaws.{length_state, state_is, state_behind, state_front}
use Rattle.sha256bytes.proofs.Entries.{lent}

state_started : IsState started
state_started = record { words = words_started; counted = omega (arith, count_started); whole = pending_started }

state_with : (s : Hash) (p : List ℕ) → IsState s → s.count + length p < 2 ^ 61 → IsState (with_piece s p)
state_with s p k h = record { words = words_added s p k.words; counted = omega (arith, h, count_added s p); whole = pending_added s p }

-- the bytes of a state, with others behind them
abbrev held : Hash → List ℕ → List ℕ
held s rest = bytes_of_state s ++ rest

length_held : (s : Hash) (rest : List ℕ) → IsState s → length (held s rest) ≡ 104 + length rest
length_held s rest k = simp length-append (omega (arith, length_state s k.whole))

-- written over another state
filled_over : (s t : Hash) (rest : List ℕ) → IsState s → IsState t → filled (bytes_of_state t) (held s rest) ≡ held t rest
unfolding filled
filled_over s t rest k l =
    let n = length_state t l.whole in
    let m = le-leb (length (bytes_of_state t)) (length (held s rest)) (omega (arith, n, length_held s rest k)) in
    rw m (ap (λ (x : List ℕ). bytes_of_state t ++ x) (drop_at (bytes_of_state s) rest (length (bytes_of_state t)) (length_state s k.whole ∙ sym n)))

-- one piece more
held_added : (s : Hash) (p rest : List ℕ) → IsState s → s.count + length p < 2 ^ 61
    → leaves bytes_of_state (add_in (held s rest) p) (held s rest) ≡ held (with_piece s p) rest
unfolding add_in
held_added s p rest k h =
    let l = lent (held s rest) (omega (arith, length_held s rest k)) (sym (state_front s rest k)) in
    rw (l, not_too_long s (length p) h) (filled_over s (with_piece s p) rest k (state_with s p k h))

-- all pieces of a list
held_all : (s : Hash) (ps : List (List ℕ)) (rest : List ℕ) → IsState s → s.count + length (flatten ps) < 2 ^ 61
    → (after_pieces (held s rest) ps ≡ held (all_added s ps) rest) × IsState (all_added s ps)
unfolding after_pieces all_added flatten
held_all s [] rest k h = (refl, k)
held_all s (p ∷ ps) rest k h =
    let n = length-append p (flatten ps) in
    let e = held_added s p rest k (omega (arith, h, n)) in
    let f = added_short s p (omega (arith, h, n)) in
    let r = held_all (with_piece s p) ps rest (state_with s p k (omega (arith, h, n))) (omega (arith, h, n, count_added s p)) in
    rw (e, f) r

-- two pieces, and the two as one
two_joined : (p q : List ℕ) → length (flatten (p ∷ q ∷ [])) ≡ length p + length q
unfolding flatten
two_joined p q = simp length-append (omega arith)

one_joined : (p q : List ℕ) → length (flatten ((p ++ q) ∷ [])) ≡ length p + length q
unfolding flatten
one_joined p q = simp length-append (omega arith)

one_more : (s : Hash) (p q : List ℕ) → length s.pending ≡ 64 → s.count + length p + length q < 2 ^ 61
    → all_added s (p ∷ q ∷ []) ≡ all_added s ((p ++ q) ∷ [])
unfolding all_added
one_more s p q w k =
    rw (added_short s p (omega arith), added_short (with_piece s p) q (omega (arith, k, count_added s p)), added_short s (p ++ q) (omega (arith, k, length-append p q)))
    (added_append s p q w)

-- started, added to in any cut, finished
pub lent_digest : (b : List ℕ) (ps : List (List ℕ)) → 104 ≤ length b → length (flatten ps) < 2 ^ 61
    → finish_in (after_pieces (filled (bytes_of_state started) b) ps) ≡ shown (digest (flatten ps))
unfolding finish_in filled
lent_digest b ps h k =
    let n = length_state started pending_started in
    let m = le-leb (length (bytes_of_state started)) (length b) (omega (arith, n)) in
    let rest = drop (length (bytes_of_state started)) b in
    let r = held_all started ps rest state_started (omega (arith, k, count_started)) in
    let s = all_added started ps in
    let l = lent (held s rest) (omega (arith, length_held s rest r.1)) (sym (state_front s rest r.1)) in
    rw (m, r.0, l) (pieces_digest ps k)

-- cutting elsewhere changes nothing, whatever state the buffer held
pub lent_cut : (b p q : List ℕ) → IsBytes b → 104 ≤ length b → (state_of b).count + length (p ++ q) < 2 ^ 61
    → after_pieces b (p ∷ q ∷ []) ≡ after_pieces b ((p ++ q) ∷ [])
lent_cut b p q y h k =
    let s = state_of b in
    let i = state_is b y h in
    let n = length-append p q in
    let two : length (flatten (p ∷ q ∷ [])) ≡ length p + length q = two_joined p q in
    let one : length (flatten ((p ++ q) ∷ [])) ≡ length p + length q = one_joined p q in
    let f = held_all s (p ∷ q ∷ []) (drop 104 b) i (omega (arith, k, n, two)) in
    let g = held_all s ((p ++ q) ∷ []) (drop 104 b) i (omega (arith, k, n, one)) in
    let e = one_more s p q i.whole (omega (arith, k, n)) in
    rw (state_behind b y h) at (f.0 ∙ ap (λ (z : Hash). held z (drop 104 b)) e ∙ sym g.0)
