-- The word at a place and its eight bytes determine each other; so do a pointer and its two halves.
-- By the laws of numbers as bytes.
use Prim.Native.Nat.{ℕ, suc, ◌+◌, ◌*◌, ◌≤◌, ◌<◌}
use mathlib.Core.Path.{◌≡◌, sym, ap, ◌∙◌}
use mathlib.Core.List.{List, ◌++◌}
use native.Mathlib.Omega.{arith}
use lib.ListN.{length, take, drop, length-take}
use lib.Seq.{take-add, drop-drop}
use Rattle.scan.specs.Bytes.{IsBytes}
use Rattle.scan.specs.inner.Span.{Span}
use Rattle.scan.proofs.AllLaws.{all_take, all_drop}
use Rattle.scan.proofs.SpanLaws.{span_length, part_of_span, respell}
use Rattle.scan.proofs.Reading.{part_span, part_length}
use Rattle.littleendian.specs.LittleEndian.{number_of}
use Rattle.littleendian.proofs.Laws.{number_most, length_low, bytes_back, number_back}
use Rattle.pointer.specs.Pointer.{word_at, lower, upper}
use Rattle.pointer.specs.Layout.{pointer, word}

pub length_word : (w : ℕ) → length (word w) ≡ 8
length_word w = length_low 8 w

-- ---- a pointer's halves

pub pointer_halves : (w : ℕ) → pointer (upper w) (lower w) ≡ w
pointer_halves w = omega arith

module _ (o n : ℕ) (h : n < 4_294_967_296) where
  pub pointer_upper : upper (pointer o n) ≡ o
  pointer_upper = omega arith

  pub pointer_lower : lower (pointer o n) ≡ n
  pointer_lower = omega arith

-- ---- a word's bytes

module _ (s : List ℕ) where
  -- the word that stands there
  pub word_found : {at c : ℕ} (w : ℕ) → w < 18_446_744_073_709_551_616 → Span s at (word w) c → (word_at s at ≡ w) × (c ≡ at + 8)
  unfolding word_at
  word_found w h r = (ap number_of (part_of_span 8 (length_word w) r) ∙ number_back 8 w h, span_length r ∙ rw (length_word w))

  -- n words, and one more before them
  pub words_more : (n at : ℕ) → take (8 * suc n) (drop at s) ≡ take 8 (drop at s) ++ take (8 * n) (drop (at + 8) s)
  words_more n at =
      let e : 8 * suc n ≡ 8 + 8 * n = omega arith in
      ap (λ (k : ℕ). take k (drop at s)) e ∙ take-add 8 (8 * n) (drop at s) ∙ ap (λ (l : List ℕ). take 8 (drop at s) ++ take (8 * n) l) (drop-drop 8 at s)

  module _ (bytes : IsBytes s) (at : ℕ) where
    pub word_below : word_at s at < 18_446_744_073_709_551_616
    unfolding word_at
    word_below = number_most 8 (take 8 (drop at s)) (all_take 8 (all_drop at bytes)) (omega (arith, length-take 8 (drop at s)))

    module _ (h : at + 8 ≤ length s) where
      pub word_bytes : take 8 (drop at s) ≡ word (word_at s at)
      unfolding word_at
      word_bytes =
          let n = part_length s at 8 (omega arith) in
          sym (rw n at (bytes_back (take 8 (drop at s)) (all_take 8 (all_drop at bytes))))

      pub word_span : Span s at (word (word_at s at)) (at + 8)
      word_span = respell word_bytes (part_span s at 8 (omega arith))
