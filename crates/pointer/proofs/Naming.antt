-- A word within the data names the piece that stands there, and a pointer that names a piece is read as that piece.
-- The data is a span of the input; its parts are parts of the input 72 bytes further on.
use Prim.Native.Nat.{ℕ, zero, suc, ◌+◌, ◌-◌, ◌%◌, ◌≤◌, ◌<◌}
use mathlib.Core.Path.{◌≡◌, refl, sym, ap, ◌∙◌}
use mathlib.Core.Bool.{false}
use mathlib.Core.List.{List, [], ◌∷◌, ◌++◌}
use native.Mathlib.Omega.{arith}
use lib.ListN.{length, take, drop, length-append, take-append-drop}
use lib.Seq.{length-take-le, take-take, drop-drop}
use borrow.Author.Tests.{le-leb, eq-eqb}
use Rattle.scan.specs.Choice.{shown}
use Rattle.scan.specs.inner.Span.{Span}
use Rattle.scan.proofs.SpanLaws.{cut_at, span_length, respell}
use Rattle.scan.proofs.Reading.{part_length}
use Rattle.notepack.specs.Unpack.{part_of, bytes_of}
use Rattle.pointer.specs.Pointer.{lower, upper, data_size, named, piece_at}
use Rattle.pointer.specs.Layout.{pointer, word, Names, names}
use Rattle.pointer.specs.inner.Data.{data_in}
use Rattle.pointer.proofs.Pieces.{Inside}
use Rattle.pointer.proofs.Words.{length_word, pointer_halves, pointer_upper, pointer_lower, word_found}

-- a piece behind o bytes, n bytes long
pub stands : {dat : List ℕ} (before piece behind : List ℕ) (o n : ℕ) → dat ≡ before ++ (piece ++ behind) → length before ≡ o → length piece ≡ n → o % 8 ≡ 0
    → Names dat (word (pointer o n)) piece
stands before piece behind o n e l k z = let y : length before % 8 ≡ 0 = rw l z in rw (l, k) at (names before {piece = piece} behind e y)

-- a part of a part
inner_part : {A : Type 0} (n u m : ℕ) (l : List A) → u + m ≤ n → take m (drop u (take n l)) ≡ take m (drop u l)
inner_part n zero m l h = take-take m n l (omega arith)
inner_part zero (suc u) m l h = absurd (omega arith)
inner_part (suc n) (suc u) m [] h = refl
inner_part (suc n) (suc u) m (x ∷ l) h = inner_part n u m l (omega arith)

module _ (s : List ℕ) (long : 168 ≤ length s) where
  pub data_length_lem : length (data_in s) ≡ data_size s
  data_length_lem = part_length s 72 (data_size s) (omega arith)

  -- a part of the data
  data_part : (u n : ℕ) → u + n ≤ data_size s → take n (drop u (data_in s)) ≡ take n (drop (72 + u) s)
  data_part u n h = inner_part (data_size s) u n (drop 72 s) h ∙ ap (take n) (drop-drop u 72 s)

  pub word_names : (w : ℕ) → Inside s w → Names (data_in s) (word w) (bytes_of s (named w))
  word_names w h =
      let u = upper w in
      let n = lower w in
      let d = data_in s in
      let p = data_part u n h.ends in
      let e : d ≡ take u d ++ (bytes_of s (named w) ++ drop n (drop u d)) =
      sym (take-append-drop u d)
      ∙ ap (λ (l : List ℕ). take u d ++ l) (sym (take-append-drop n (drop u d)) ∙ ap (λ (l : List ℕ). l ++ drop n (drop u d)) p) in
      let l = length-take-le u d (omega (arith, h.ends, data_length_lem)) in
      let k = part_length s (72 + u) n (omega (arith, h.ends)) in
      rw (pointer_halves w) at (stands (take u d) (bytes_of s (named w)) (drop n (drop u d)) u n e l k h.even)

-- a pointer that names a piece is read as it
pub record Found (s : List ℕ) (at : ℕ) (t : List ℕ) (c : ℕ) : Type 0 where
  pub offset : ℕ
  pub next : c ≡ at + 8
  pub piece : piece_at s at ≡ shown (part_of (72 + offset) (length t) false)
  pub span : Span s (72 + offset) t (72 + offset + length t)

pub names_length : {dat p t : List ℕ} → Names dat p t → length p ≡ 8
names_length (names before {piece = piece} behind e z) = length_word (pointer (length before) (length piece))

pub names_found : {s dat p t : List ℕ} {at c : ℕ} → length s ≤ 65_536 → Span s 72 dat (length s - 96) → Names dat p t → Span s at p c → Found s at t c
unfolding piece_at
names_found {s} {dat} {at = at} short d (names before {piece = piece} behind e z) r =
    let o = length before in
    let n = length piece in
    let b = cut_at before o refl (respell e d) in
    let p = cut_at piece n refl b.1 in
    let all = span_length d in
    let parts = ap length e ∙ length-append before (piece ++ behind) in
    let part = length-append piece behind in
    let h : n < 4_294_967_296 = omega arith in
    let w = word_found s (pointer o n) (omega arith) r in
    record {
      offset = o;
      next = w.1;
      piece =
          rw (
            w.0,
            pointer_upper o n h,
            pointer_lower o n h,
            eq-eqb (o % 8) 0 z,
            le-leb (o + n) (data_size s) (omega arith),
          );
      span = p.0;
    }
