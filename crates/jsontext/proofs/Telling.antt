-- What the reads of this crate may refuse with: 5, 14 or 18, at a place that does not pass the input's end; and a read
-- that succeeds ends within the input.
-- One line for each form of the definitions. A byte that passes a test stands within the input.
use Prim.{Unit, tt}
use Prim.Native.Nat.{ℕ, zero, suc, ◌+◌, ◌<◌, ◌≤◌}
use mathlib.Core.Path.{◌≡◌, refl}
use mathlib.Core.Bool.{true, false}
use mathlib.Core.List.{List}
use native.Mathlib.Omega.{arith}
use lib.ListN.{length, get_or}
use lib.Dec.{ltb, eqb}
use Rattle.scan.specs.Ascii.{ascii}
use Rattle.scan.specs.Choice.{Answer, Read}
use Rattle.scan.specs.Place.{stands_at}
use Rattle.scan.proofs.SpanLaws.{seen, span_length, span_fits}
use Rattle.scan.proofs.Reading.{Reads, reads, fails}
use Rattle.utf8.specs.inner.Width.{width_at}
use Rattle.event.specs.inner.Tells.{Tells, value, refusal}
use Rattle.event.proofs.TellsLaws.{Inside, then_tells, pick_tells}
use Rattle.jsontext.specs.inner.Escape.{escape_at}
use Rattle.jsontext.specs.Token.{Skipped, space_at, word_at, minus_at, int_at, number_from, unsigned_from, skip_number}
use Rattle.jsontext.specs.Text.{chars_at, string_at}
use Rattle.jsontext.specs.Value.{skip_colon, skip_member, skip_item, skip_after, skip_items, skip_inside, skip_value_by, skip_walk_by, value_at}
use Rattle.jsontext.specs.inner.Numbers.{value_numbers}
use Rattle.jsontext.proofs.TokenLaws.{word_consumes, number_consumes, space_inside}

-- ---- places within the input

-- a byte that is not 0 stands within the input
pub byte_inside : (s : List ℕ) (a b : ℕ) → eqb 0 b ≡ false → eqb (get_or s a 0) b ≡ true → a < length s
byte_inside s a b z t = seen (λ (x : ℕ). eqb x b) s a z t

-- the white space behind such a byte ends within the input
pub space_behind : (s : List ℕ) (a b : ℕ) → eqb 0 b ≡ false → eqb (get_or s a 0) b ≡ true → space_at s (a + 1) ≤ length s
space_behind s a b z t = let h = byte_inside s a b z t in space_inside s (a + 1) (omega arith)

-- what is read by a grammar ends within the input
pub reads_inside : {A : Type 0} {G : A → List ℕ → Type 0} {P : Read A → Type 0} {s : List ℕ} {a : ℕ} {r : Answer (Read A)} {numbers : List ℕ} → a ≤ length s
    → Reads G s a r → Tells numbers (length s) P r → Inside numbers (length s) r
reads_inside {s = s} h (reads {e = e} g r) (value p) = let q : e ≤ length s = omega (arith, span_length r, span_fits r) in value q
reads_inside h fails (refusal o q) = refusal o q

-- ---- tokens

pub word_tells : (w s : List ℕ) (a : ℕ) → a ≤ length s → Inside value_numbers (length s) (word_at w s a)
unfolding word_at
word_tells w s a h =
    let t : Tells value_numbers (length s) (λ (r : Read _). Unit {0}) (word_at w s a) = pick_tells (stands_at w s a) (λ t. value tt) (λ f. refusal refl h) in
    reads_inside h (word_consumes w s a) t

pub number_tells : (s : List ℕ) (a : ℕ) → a ≤ length s → Inside value_numbers (length s) (skip_number s a)
unfolding skip_number unsigned_from number_from
number_tells s a h =
    let t : Tells value_numbers (length s) (λ (r : Read _). Unit {0}) (skip_number s a) =
    pick_tells (eqb (int_at s (minus_at s a)) (minus_at s a)) (λ t. refusal refl h) (λ f. value tt) in
    reads_inside h (number_consumes s a) t

-- ---- strings

chars_tell : (k : ℕ) (s : List ℕ) (start i : ℕ) → start < length s → Inside value_numbers (length s) (chars_at k s start i)
unfolding chars_at
chars_tell zero s start i h = refusal {p = start} refl (omega arith)
chars_tell (suc k) s start i h =
    pick_tells (eqb (get_or s i 0) 0x22) (λ t. let n = byte_inside s i 0x22 refl t in value (omega arith))
    (λ quote.
    pick_tells (ltb (get_or s i 0) 0x20) (λ t. refusal {p = start} refl (omega arith))
    (λ control.
    pick_tells (eqb (get_or s i 0) 0x5C)
    (λ t. pick_tells (eqb (escape_at s i).width 0) (λ z. refusal {p = start} refl (omega arith)) (λ z. chars_tell k s start (i + (escape_at s i).width) h))
    (λ slash.
    pick_tells (ltb (get_or s i 0) 0x80) (λ t. chars_tell k s start (i + 1) h)
    (λ high. pick_tells (eqb (width_at s i) 0) (λ z. refusal {p = start + 1} refl (omega arith)) (λ z. chars_tell k s start (i + width_at s i) h)))))

pub string_tells : (s : List ℕ) (a : ℕ) → a ≤ length s → Inside value_numbers (length s) (string_at s a)
unfolding string_at
string_tells s a h =
    pick_tells (eqb (get_or s a 0) 0x22) (λ t. chars_tell (length s) s a (a + 1) (byte_inside s a 0x22 refl t)) (λ f. refusal refl h)

-- ---- values

module _ (s : List ℕ) where
  colon_tells : (val : ℕ → Skipped) → ((a : ℕ) → a ≤ length s → Inside value_numbers (length s) (val a)) → (p : ℕ) → p ≤ length s
      → Inside value_numbers (length s) (skip_colon val s p)
  unfolding skip_colon
  colon_tells val g p h = pick_tells (eqb (get_or s p 0) 0x3A) (λ t. g (space_at s (p + 1)) (space_behind s p 0x3A refl t)) (λ f. refusal refl h)

  member_tells : (val : ℕ → Skipped) → ((a : ℕ) → a ≤ length s → Inside value_numbers (length s) (val a)) → (a : ℕ) → a ≤ length s
      → Inside value_numbers (length s) (skip_member val s a)
  unfolding skip_member
  member_tells val g a h = then_tells _ (string_tells s a h) (λ n e. colon_tells val g (space_at s n.next) (space_inside s n.next e))

  item_tells : (close : ℕ) (val : ℕ → Skipped) → ((a : ℕ) → a ≤ length s → Inside value_numbers (length s) (val a)) → (a : ℕ) → a ≤ length s
      → Inside value_numbers (length s) (skip_item close val s a)
  unfolding skip_item
  item_tells close val g a h = pick_tells (eqb close 0x7D) (λ t. member_tells val g a h) (λ f. g a h)

  module _ (close : ℕ) (z : eqb 0 close ≡ false) (item : ℕ → Skipped) (g : (a : ℕ) → a ≤ length s → Inside value_numbers (length s) (item a)) where
    items_tell : (fuel a : ℕ) → a ≤ length s → Inside value_numbers (length s) (skip_items close item fuel s a)
    unfolding skip_items skip_after
    items_tell zero a h = refusal refl h
    items_tell (suc fuel) a h =
        then_tells _ (g a h)
        (λ r e.
        let p = space_at s r.next in
        pick_tells (eqb (get_or s p 0) close) (λ t. let n = byte_inside s p close z t in value (omega arith))
        (λ f.
        pick_tells (eqb (get_or s p 0) 0x2C) (λ t. items_tell fuel (space_at s (p + 1)) (space_behind s p 0x2C refl t))
        (λ n. refusal refl (space_inside s r.next e))))

    inside_tells : (p : ℕ) → p ≤ length s → Inside value_numbers (length s) (skip_inside close item s p)
    unfolding skip_inside
    inside_tells p h =
        pick_tells (eqb (get_or s p 0) close) (λ t. let n = byte_inside s p close z t in value (omega arith)) (λ f. items_tell (length s) p h)

  by_tells : (walk : ℕ → ℕ → Skipped) → ((close a : ℕ) → eqb 0 close ≡ false → a < length s → Inside value_numbers (length s) (walk close a)) → (a : ℕ) → a ≤ length s
      → Inside value_numbers (length s) (skip_value_by walk s a)
  unfolding skip_value_by
  by_tells walk g a h =
      pick_tells (eqb (get_or s a 0) 0x22) (λ t. then_tells _ (string_tells s a h) (λ r e. value e))
      (λ f.
      pick_tells (eqb (get_or s a 0) 0x7B) (λ t. g 0x7D a refl (byte_inside s a 0x7B refl t))
      (λ f.
      pick_tells (eqb (get_or s a 0) 0x5B) (λ t. g 0x5D a refl (byte_inside s a 0x5B refl t))
      (λ f.
      pick_tells (eqb (get_or s a 0) 0x74) (λ t. word_tells (ascii "true") s a h)
      (λ f.
      pick_tells (eqb (get_or s a 0) 0x66) (λ t. word_tells (ascii "false") s a h)
      (λ f. pick_tells (eqb (get_or s a 0) 0x6E) (λ t. word_tells (ascii "null") s a h) (λ f. number_tells s a h))))))

  -- THE law of a value's reading
  pub value_tells : (depth a : ℕ) → a ≤ length s → Inside value_numbers (length s) (value_at depth s a)
  unfolding value_at skip_walk_by
  value_tells zero a h = by_tells _ (λ close p z k. refusal {p = p} refl (omega arith)) a h
  value_tells (suc depth) a h =
      by_tells _
      (λ close p z k.
      inside_tells close z (skip_item close (value_at depth s) s) (item_tells close (value_at depth s) (value_tells depth)) (space_at s (p + 1)) (space_inside s (p + 1) (omega arith)))
      a
      h
