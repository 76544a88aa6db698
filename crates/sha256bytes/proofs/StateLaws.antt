-- 104 bytes and a state determine each other. Four bytes and a word do, eight bytes and the count do; the parts stand
-- behind one another on both sides.
use Prim.Native.Nat.{ℕ, ◌+◌, ◌≤◌, ◌<◌, ◌^◌}
use mathlib.Core.Path.{◌≡◌, refl, sym, ap, ◌∙◌}
use mathlib.Core.List.{List, [], ◌++◌, append-nil}
use native.Mathlib.Omega.{arith}
use lib.ListN.{length, get_or, take, drop, take-append-drop, length-append, length-drop}
use lib.Seq.{take_all, take_at, take-add, length-take-le}
use Rattle.scan.specs.Bytes.{IsBytes}
use Rattle.scan.proofs.Step.{rest_more}
use Rattle.scan.proofs.AllLaws.{all_at, all_take, all_drop}
use Rattle.littleendian.specs.LittleEndian.{number_of, low_first}
use Rattle.littleendian.proofs.Laws.{length_low, number_most, bytes_back, number_back}
use Rattle.sha256.specs.declared.Hash.{Hash}
use Rattle.sha256.specs.Compression.{word_of}
use Rattle.sha256.specs.Message.{word_bytes, digest_bytes}
use Rattle.sha256.proofs.WordLaws.{word_back, word_read, length_digest}
use Rattle.sha256bytes.specs.StateBytes.{state_word, chain_of, state_of, bytes_of_state, IsState}

pub length_state : (s : Hash) → length s.pending ≡ 64 → length (bytes_of_state s) ≡ 104
unfolding bytes_of_state
length_state s h = simp length-append (omega (arith, h, length_digest s.chain, length_low 8 s.count))

-- ---- the bytes of the state that bytes are

-- four bytes are those of their word
four : (b : List ℕ) (i : ℕ) → IsBytes b → i + 4 ≤ length b → word_bytes (state_word b i) ≡ take 4 (drop i b)
unfolding state_word
four b i y h =
    let p = rest_more b i (omega arith) in
    let q = rest_more b (i + 1) (omega arith) in
    let r = rest_more b (i + 1 + 1) (omega arith) in
    let s = rest_more b (i + 1 + 1 + 1) (omega arith) in
    let m : i + 1 + 1 ≡ i + 2 = omega arith in
    let n : i + 1 + 1 + 1 ≡ i + 3 = omega arith in
    word_back (get_or b i 0) (get_or b (i + 1) 0) (get_or b (i + 2) 0) (get_or b (i + 3) 0) (all_at i y (omega arith)) (all_at (i + 1) y (omega arith)) (all_at (i + 2) y (omega arith)) (all_at (i + 3) y (omega arith))
    ∙ rw (p, q, r, s, n, m)

-- a part behind the first n bytes
behind : (b : List ℕ) (n k m : ℕ) {x y : List ℕ} → n + k ≡ m → x ≡ take n b → y ≡ take k (drop n b) → x ++ y ≡ take m b
behind b n k m e f g = rw (f, g, ← e) (sym (take-add n k b))

words_back : (b : List ℕ) → IsBytes b → 32 ≤ length b → digest_bytes (chain_of b) ≡ take 32 b
unfolding digest_bytes chain_of
words_back b y h =
    let w : (i : ℕ) → i + 4 ≤ length b → word_bytes (state_word b i) ≡ take 4 (drop i b) = λ i k. four b i y k in
    let a = behind b 4 4 8 refl (w 0 (omega arith)) (w 4 (omega arith)) in
    let c = behind b 8 4 12 refl a (w 8 (omega arith)) in
    let d = behind b 12 4 16 refl c (w 12 (omega arith)) in
    let e = behind b 16 4 20 refl d (w 16 (omega arith)) in
    let f = behind b 20 4 24 refl e (w 20 (omega arith)) in
    let g = behind b 24 4 28 refl f (w 24 (omega arith)) in
    behind b 28 4 32 refl g (w 28 (omega arith))

-- the count
count_back : (b : List ℕ) → IsBytes b → length b ≡ 8 → low_first 8 (number_of b) ≡ b
count_back b y h = ap (λ (k : ℕ). low_first k (number_of b)) (sym h) ∙ bytes_back b y

-- the first 104 of them
front_back : (b : List ℕ) → IsBytes b → 104 ≤ length b → bytes_of_state (state_of b) ≡ take 104 b
unfolding bytes_of_state state_of
front_back b y h =
    let n : length (take 8 (drop 32 b)) ≡ 8 = length-take-le 8 (drop 32 b) (omega (arith, length-drop 32 b)) in
    let c = count_back (take 8 (drop 32 b)) (all_take 8 (all_drop 32 y)) n in
    let f = behind b 32 8 40 refl (words_back b y (omega arith)) c in
    behind b 40 64 104 refl f refl

pub state_back : (b : List ℕ) → IsBytes b → length b ≡ 104 → bytes_of_state (state_of b) ≡ b
state_back b y h = front_back b y (omega arith) ∙ take_all 104 b (omega arith)

-- it is one whose numbers the bytes have room for
word_most : (b : List ℕ) (i : ℕ) → IsBytes b → i + 4 ≤ length b → state_word b i < 2 ^ 32
unfolding state_word word_of
word_most b i y h = omega (arith, all_at i y (omega arith), all_at (i + 1) y (omega arith), all_at (i + 2) y (omega arith), all_at (i + 3) y (omega arith))

pub state_is : (b : List ℕ) → IsBytes b → 104 ≤ length b → IsState (state_of b)
unfolding state_of chain_of
state_is b y h =
    let w : (i : ℕ) → i + 4 ≤ length b → state_word b i < 2 ^ 32 = λ i k. word_most b i y k in
    let n : length (take 8 (drop 32 b)) ≡ 8 = length-take-le 8 (drop 32 b) (omega (arith, length-drop 32 b)) in
    record {
      words =
          (w 0 (omega arith), w 4 (omega arith), w 8 (omega arith), w 12 (omega arith), w 16 (omega arith), w 20 (omega arith), w 24 (omega arith), w 28 (omega arith));
      counted = omega (arith, number_most 8 (take 8 (drop 32 b)) (all_take 8 (all_drop 32 y)) (omega (arith, n)));
      whole = length-take-le 64 (drop 40 b) (omega (arith, length-drop 40 b));
    }

-- bytes with others behind them
pub state_behind : (b : List ℕ) → IsBytes b → 104 ≤ length b → bytes_of_state (state_of b) ++ drop 104 b ≡ b
state_behind b y h = ap (λ (l : List ℕ). l ++ drop 104 b) (front_back b y h) ∙ take-append-drop 104 b

-- ---- the state that the bytes of a state are

-- whatever stands behind them
pub state_front : (s : Hash) (rest : List ℕ) → IsState s → state_of (bytes_of_state s ++ rest) ≡ s
unfolding state_of chain_of state_word bytes_of_state digest_bytes word_bytes low_first
state_front s rest k =
    let v = s.chain in
    let w = k.words in
    let a = word_read v.a w.0 in
    let b = word_read v.b w.1 in
    let c = word_read v.c w.2 in
    let d = word_read v.d w.3 in
    let e = word_read v.e w.4 in
    let f = word_read v.f w.5 in
    let g = word_read v.g w.6 in
    let h = word_read v.h w.7 in
    let n = number_back 8 s.count k.counted in
    let p = take_at s.pending rest 64 k.whole in
    λ i. record { chain = record { a = a i; b = b i; c = c i; d = d i; e = e i; f = f i; g = g i; h = h i }; pending = p i; count = n i }

pub state_read : (s : Hash) → IsState s → state_of (bytes_of_state s) ≡ s
state_read s k = ap state_of (sym (append-nil (bytes_of_state s))) ∙ state_front s [] k
