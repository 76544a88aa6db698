-- What the code's blocks are: a piece that stays within a block, a piece that ends it, and the padding.
-- By what stands at the start of a buffer of zeros (`written_front`) and `hashed_append`.
use Rattle.std.proofs.Common.{◌≡◌, ℕ, ◌+◌, ◌-◌, ◌*◌, ◌/◌, ◌%◌, ◌^◌, ◌<◌, ◌≤◌, Bool, true, false, leb, List, [], ◌∷◌, ◌++◌, length, take, drop, replicate, sym, refl, ap, ◌∙◌, append_assoc, append-nil, zero-add, arith, length-append, length-drop, take-append-drop, length-take-le, take_all, take_at, le-leb, leb-false}
use mathlib.Core.Logic.{dite}
use native.Mathlib.Decide.{dec_le}
use Rattle.std.proofs.lemmas.List.{length-replicate, drop-replicate, take-replicate}
use borrow.Author.Tests.{lt-leb}
use Rattle.scan.proofs.Step.{rest_none}
use Rattle.buffer.specs.inner.Store.{Buffer, puts, Wrote}
use Rattle.buffer.proofs.Laws.{puts_eq, then, kept}
use Rattle.sha256.specs.declared.Words.{Words}
use Rattle.sha256.specs.declared.Hash.{Hash}
use Rattle.sha256.specs.Compression.{blocks}
use Rattle.sha256.specs.Message.{hashed, padding, zeros_behind, word_bytes, long_bytes}
use Rattle.sha256.specs.Pieces.{behind_blocks, zero_filled, waiting, settled, with_piece, is_too_long, added_to}
use Rattle.sha256.proofs.Cutting.{hashed_append, behind_append}

-- a text at the start of a buffer that has room for it
pub written_front : {d text d' : List ℕ} {r : ℕ} → Wrote d 0 text d' r → length text ≤ length d → (d' ≡ text ++ drop (length text) d) × (r ≡ length text)
written_front {d} {text} w h =
    let z : puts (d, 0) text ≡ (text ++ drop (length text) d, length text) = puts_eq d 0 text (omega arith) ∙ rw zero-add in
    let k = w.is ∙ z in
    (ap (λ (b : Buffer). b.0) k, ap (λ (b : Buffer). b.1) k)

pub block_filled : {text d : List ℕ} {r : ℕ} → Wrote (replicate 64 0) 0 text d r → length text ≤ 64 → d ≡ zero_filled text
unfolding zero_filled
block_filled {text} w h = (written_front w h).0 ∙ ap (λ (l : List ℕ). text ++ l) (drop-replicate (length text) 64 0)

-- fewer bytes than a block
hashed_none : (h : Words) (l : List ℕ) → length l < 64 → hashed h l ≡ h
unfolding hashed blocks
hashed_none h l k = let n : length l / 64 ≡ 0 = omega arith in rw n

behind_all : (l : List ℕ) → length l < 64 → behind_blocks l ≡ l
unfolding behind_blocks
behind_all l k = let n : length l / 64 * 64 ≡ 0 = omega arith in rw n

behind_whole : (l : List ℕ) → length l ≡ 64 → behind_blocks l ≡ []
unfolding behind_blocks
behind_whole l k = rest_none l (length l / 64 * 64) (omega arith)

filled_whole : (l : List ℕ) → length l ≡ 64 → zero_filled l ≡ l
unfolding zero_filled
filled_whole l k = let n : 64 - length l ≡ 0 = omega arith in rw n (append-nil l)

-- the code's last part: from `done` to the end, and nothing behind it
pub tail_block : (l t : List ℕ) → t ≡ zero_filled (take (length l - length l / 64 * 64) (drop (length l / 64 * 64) l) ++ []) → t ≡ zero_filled (behind_blocks l)
unfolding behind_blocks
tail_block l t e =
    let n : ℕ = length l / 64 * 64 in
    let a : take (length l - n) (drop n l) ≡ drop n l = take_all (length l - n) (drop n l) (omega (arith, length-drop n l)) in
    rw (a, append-nil (drop n l)) at e

pub not_long : (s : Hash) (p : List ℕ) (t : Bool) → t ≡ is_too_long s (length p) → t ≡ false → (added_to s p ≡ with_piece s p) × (s.count + length p < 2 ^ 61)
unfolding added_to is_too_long
not_long s p t e f = let u = sym e ∙ f in (rw u, leb-false (2 ^ 61) (s.count + length p) u)

pub long_shift : (a n : ℕ) → a < 2 ^ 61 → leb (2 ^ 61 - a) n ≡ leb (2 ^ 61) (a + n)
long_shift a n h =
    dite (dec_le (2 ^ 61) (a + n))
    (λ p. le-leb (2 ^ 61 - a) n (omega arith) ∙ sym (le-leb (2 ^ 61) (a + n) p))
    (λ q. lt-leb (2 ^ 61 - a) n (omega (arith, q)) ∙ sym (lt-leb (2 ^ 61) (a + n) (omega (arith, q))))

pub is_long : (s : Hash) (p : List ℕ) (t : Bool) → t ≡ is_too_long s (length p) → t ≡ true → s ≡ added_to s p
unfolding added_to
is_long s p t e f = let u = sym e ∙ f in rw u

module _ (s : Hash) (p : List ℕ) (whole : length s.pending ≡ 64) where
  waiting_long : length (take (s.count % 64) s.pending) ≡ s.count % 64
  waiting_long = length-take-le (s.count % 64) s.pending (omega arith)

  pub short_piece : (block : List ℕ) → length p < 64 - s.count % 64 → block ≡ zero_filled (take (s.count % 64) s.pending ++ p)
      → record { chain = s.chain; pending = block; count = s.count + length p } ≡ with_piece s p
  unfolding with_piece settled waiting
  short_piece block h e =
      let l : List ℕ = take (s.count % 64) s.pending ++ p in
      let k : length l < 64 = simp length-append (omega (arith, waiting_long)) in
      rw (hashed_none s.chain l k, behind_all l k, e)

  pub long_piece : (block rest t : List ℕ) (h₁ h₂ : Words) → 64 - s.count % 64 ≤ length p
      → block ≡ zero_filled (take (s.count % 64) s.pending ++ take (64 - s.count % 64) p)
      → h₁ ≡ hashed s.chain block → rest ≡ drop (64 - s.count % 64) p → h₂ ≡ hashed h₁ rest → t ≡ zero_filled (behind_blocks rest)
      → record { chain = h₂; pending = t; count = s.count + length p } ≡ with_piece s p
  unfolding with_piece settled waiting
  long_piece block rest t h₁ h₂ h e f g i j =
      let r : ℕ = s.count % 64 in
      let w : List ℕ = take r s.pending in
      let front : List ℕ = w ++ take (64 - r) p in
      let u : length (take (64 - r) p) ≡ 64 - r = length-take-le (64 - r) p h in
      let v : length front ≡ 64 = simp length-append (omega (arith, waiting_long, u)) in
      let b : block ≡ front = e ∙ filled_whole front v in
      let a : w ++ p ≡ front ++ drop (64 - r) p = ap (λ (l : List ℕ). w ++ l) (sym (take-append-drop (64 - r) p)) ∙ sym (append_assoc w (take (64 - r) p) (drop (64 - r) p)) in
      rw (a, hashed_append s.chain front (drop (64 - r) p), behind_append front (drop (64 - r) p), behind_whole front v, ← g, ← b, ← f, ← i, ← j)

-- nothing waits
pub none_waits : (s : Hash) (p : List ℕ) → s.count % 64 ≡ 0 → settled s.chain p (s.count + length p) ≡ with_piece s p
unfolding with_piece waiting
none_waits s p h = rw h

-- the rest behind a block that was ended
pub rest_settled : (s : Hash) (p : List ℕ) (whole : length s.pending ≡ 64) (block rest : List ℕ) (h : Words) (x : Hash) → 64 - s.count % 64 ≤ length p
    → block ≡ zero_filled (take (s.count % 64) s.pending ++ take (64 - s.count % 64) p)
    → h ≡ hashed s.chain block → rest ≡ drop (64 - s.count % 64) p → x ≡ settled h rest (s.count + length p) → x ≡ with_piece s p
unfolding settled
rest_settled s p whole block rest h x k e f g i = i ∙ long_piece s p whole block rest (zero_filled (behind_blocks rest)) h (hashed h rest) k e f g refl refl

-- ---- the padding

bytes8_long : (n : ℕ) → length (long_bytes n) ≡ 8
unfolding long_bytes word_bytes
bytes8_long n = refl

-- what the code writes: the bytes that wait, the bit, zeros, the length
pub record Padded (s : Hash) (d : List ℕ) (r : ℕ) : Type 0 where
  pub within : r ≤ length d
  pub long : r ≡ length (take r d)
  pub is : take r d ≡ waiting s ++ padding s.count

-- by the four writers
pub padded : (s : Hash) {d₁ d₂ d₃ d : List ℕ} {r₁ r₂ r₃ r : ℕ} → length s.pending ≡ 64
    → Wrote (replicate 128 0) 0 (take (s.count % 64) s.pending) d₁ r₁ → Wrote d₁ r₁ (128 ∷ []) d₂ r₂
    → Wrote d₂ r₂ (take ((119 - s.count % 64) % 64) (replicate 64 0)) d₃ r₃ → Wrote d₃ r₃ (long_bytes (8 * s.count)) d r → Padded s d r
unfolding waiting padding zeros_behind
padded s {d = d} {r = r} h w₁ w₂ w₃ w₄ =
    let w = then (then (then w₁ w₂) w₃) w₄ in
    let k : ℕ = s.count % 64 in
    let z : ℕ = (119 - k) % 64 in
    let front : List ℕ = take k s.pending in
    let text : List ℕ = front ++ (128 ∷ []) ++ take z (replicate 64 0) ++ long_bytes (8 * s.count) in
    let e : text ≡ front ++ ((128 ∷ []) ++ replicate z 0 ++ long_bytes (8 * s.count)) = rw (take-replicate {X = ℕ} z 64 0 (omega arith)) (regroup front (128 ∷ []) (replicate z 0) (long_bytes (8 * s.count))) in
    let m : length text ≤ 128 = simp (length-append, length-take-le k s.pending (omega arith), take-replicate {X = ℕ} z 64 0 (omega arith), length-replicate, bytes8_long) (omega arith) in
    let f = written_front w m in
    let g : take r d ≡ text = rw (f.0, f.1) (take_at text (drop (length text) (replicate 128 0)) (length text) refl) in
    let l : length d ≡ 128 = kept w in
    record { within = omega (arith, f.1, l); long = f.1 ∙ sym (ap length g); is = g ∙ e }
  where
    regroup : (a b c d : List ℕ) → a ++ b ++ c ++ d ≡ a ++ (b ++ c ++ d)
    regroup a b c d = simp append_assoc
