-- The turns of the loops over a key: the definition from the start is the definition from here.
-- The premises of a law are what its loop knows.
use Prim.Native.Nat.{ℕ, zero, suc, ◌+◌, ◌-◌, ◌/◌, ◌%◌, ◌≤◌, ◌<◌}
use mathlib.Core.Path.{◌≡◌, refl, sym}
use mathlib.Core.Bool.{Bool, true, false, beq}
use mathlib.Core.List.{List, [], ◌∷◌}
use native.Mathlib.Numerals.{sub-one}
use native.Mathlib.Omega.{arith}
use lib.ListN.{length, get_or, drop}
use lib.Dec.{eqb}
use borrow.Author.Tests.{ne_eqb}
use Rattle.scan.specs.Choice.{pick}
use Rattle.scan.specs.Compare.{same_bytes}
use Rattle.scan.specs.Bytes.{IsBytes}
use Rattle.scan.proofs.CompareLaws.{same_same, bytes_same, same_sym, both_ways}
use Rattle.scan.proofs.Step.{rest_none, rest_more}
use Rattle.hexdigits.specs.Hex.{digit_of, hexes}
use Rattle.hexdigits.proofs.Texts.{hexes_injective}
use Rattle.notepack.specs.declared.Part.{Part}
use Rattle.notepack.specs.Unpack.{bytes_of, text_of}
use Rattle.scan.proofs.AllLaws.{all_take, all_drop}
use Rattle.notepack.specs.inner.Again.{part_again, count_again, texts_end}
use Rattle.keys.specs.inner.Place.{empty_part, is_d, second_at, label_at}

-- ---- the hex of bytes

pick_false : (t : Bool) → pick t false false ≡ false
pick_false true = refl
pick_false false = refl

module _ (a t : List ℕ) (i : ℕ) where
  -- a byte is left, and no two digits
  pub hex_short : i < length a → length t < 2 → same_bytes (hexes (drop i a)) t ≡ false
  unfolding same_bytes
  hex_short h l = rw (rest_more a i h) (short t l)
    where
      short : (t : List ℕ) → length t < 2 → same_bytes (digit_of (get_or a i 0 / 16) ∷ digit_of (get_or a i 0 % 16) ∷ hexes (drop (i + 1) a)) t ≡ false
      short [] l = refl
      short (x ∷ []) l = pick_false (eqb (digit_of (get_or a i 0 / 16)) x)
      short (x ∷ y ∷ t) l = absurd (omega arith)

  -- a byte is left, and two digits
  pub hex_turn : i < length a → get_or a i 0 < 256 → 2 ≤ length t
      → same_bytes (hexes (drop i a)) t ≡ pick (eqb (digit_of (get_or a i 0 / 16 % 16)) (get_or t 0 0)) (pick (eqb (digit_of (get_or a i 0 % 16)) (get_or t 1 0)) (same_bytes (hexes (drop (i + 1) a)) (drop 2 t)) false) false
  unfolding same_bytes
  hex_turn h b l = let m : get_or a i 0 / 16 % 16 ≡ get_or a i 0 / 16 = omega arith in rw (rest_more a i h, m) (two t l)
    where
      two : (t : List ℕ) → 2 ≤ length t → same_bytes (digit_of (get_or a i 0 / 16) ∷ digit_of (get_or a i 0 % 16) ∷ hexes (drop (i + 1) a)) t
          ≡ pick (eqb (digit_of (get_or a i 0 / 16)) (get_or t 0 0)) (pick (eqb (digit_of (get_or a i 0 % 16)) (get_or t 1 0)) (same_bytes (hexes (drop (i + 1) a)) (drop 2 t)) false) false
      two [] l = absurd (omega arith)
      two (x ∷ []) l = absurd (omega arith)
      two (x ∷ y ∷ t) l = refl

  -- no byte is left
  pub hex_end : length a ≤ i → same_bytes (hexes (drop i a)) t ≡ eqb (length t) 0
  unfolding same_bytes
  hex_end h = rw (rest_none a i h) (none t)
    where
      none : (t : List ℕ) → same_bytes [] t ≡ eqb (length t) 0
      none [] = refl
      none (x ∷ t) = sym (ne_eqb (suc (length t)) 0 (λ h. omega arith))

-- ---- texts, whichever way each is stored

same_hexes : {a b : List ℕ} → IsBytes a → IsBytes b → same_bytes (hexes a) (hexes b) ≡ same_bytes a b
same_hexes {a} {b} p q =
    both_ways (same_bytes (hexes a) (hexes b)) (same_bytes a b)
    (λ h. rw (hexes_injective p q (bytes_same (hexes a) (hexes b) h)) (same_same b))
    (λ h. rw (bytes_same a b h) (same_same (hexes b)))

-- two parts compared as texts, by how each is stored
pub same_texts : (s t : List ℕ) (p q : Part) → IsBytes s → IsBytes t
    → same_bytes (text_of s p) (text_of t q)
    ≡ pick (beq p.raw q.raw) (same_bytes (bytes_of s p) (bytes_of t q))
    (pick p.raw (same_bytes (hexes (bytes_of s p)) (bytes_of t q)) (same_bytes (hexes (bytes_of t q)) (bytes_of s p)))
unfolding text_of
same_texts s t p q m n = by_raw p.raw q.raw
  where
    by_raw : (x y : Bool) → same_bytes (pick x (hexes (bytes_of s p)) (bytes_of s p)) (pick y (hexes (bytes_of t q)) (bytes_of t q))
        ≡ pick (beq x y) (same_bytes (bytes_of s p) (bytes_of t q))
        (pick x (same_bytes (hexes (bytes_of s p)) (bytes_of t q)) (same_bytes (hexes (bytes_of t q)) (bytes_of s p)))
    by_raw true true = same_hexes (all_take p.len (all_drop p.at m)) (all_take q.len (all_drop q.at n))
    by_raw true false = refl
    by_raw false true = same_sym _ _
    by_raw false false = refl

-- ---- the label

module _ (s : List ℕ) where
  -- a tag is left
  pub label_turn : (left at : ℕ) → 0 < left
      → label_at left s at
      ≡ pick (is_d (count_again s at).value s (part_again s (count_again s at).next).value)
      (second_at (count_again s at).value s (part_again s (count_again s at).next).next)
      (label_at (left - 1) s (texts_end (count_again s at).value s (count_again s at).next))
  unfolding label_at
  label_turn zero at l = absurd (omega arith)
  label_turn (suc left) at l = rw sub-one

  -- none is left
  pub label_none : (left at : ℕ) → left ≤ 0 → label_at left s at ≡ empty_part
  unfolding label_at
  label_none zero at l = refl
  label_none (suc left) at l = absurd (omega arith)
