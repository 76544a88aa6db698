-- The elements as a second pass finds them: the turns of its loops, what a part of them is, and that on an accepted
-- input they are the record's own.
-- By induction on how many are left, along the reads.
use Prim.Native.Nat.{ℕ, zero, suc, min, ◌+◌, ◌-◌, ◌*◌, ◌<◌, ◌≤◌}
use mathlib.Core.Path.{◌≡◌, refl, sym, ap, ◌∙◌}
use mathlib.Core.List.{List, [], ◌∷◌, ◌++◌, append_assoc}
use mathlib.Core.Logic.{dite}
use native.Mathlib.Numerals.{sub-one}
use native.Mathlib.Omega.{arith}
use native.Mathlib.Decide.{dec_le}
use lib.ListN.{length, take, drop, length-append, length-drop, drop_of_length-le}
use lib.Seq.{take_all}
use Rattle.scan.specs.Choice.{pick, shown, Read, many}
use Rattle.scan.proofs.Reading.{read_same}
use Rattle.scan.proofs.Many.{many_apart}
use Rattle.littleendian.specs.LittleEndian.{low_first}
use Rattle.littleendian.proofs.Laws.{length_low}
use Rattle.notepack.specs.declared.Part.{Part}
use Rattle.notepack.specs.Unpack.{element_at, elements_at, tag_at, tags_standing}
use Rattle.notepack.specs.inner.Again.{part_again, count_again, texts_end}
use Rattle.notepack.proofs.Viewing.{tag_apart}
use Rattle.notepack.proofs.Again as again
use Rattle.elements.specs.Elements.{TagElement, in_tag, in_tags, row, rows}
use Rattle.elements.specs.inner.Again.{tag_again, all_again}

-- ---- rows

pub rows_append : (a b : List TagElement) → rows (a ++ b) ≡ rows a ++ rows b
rows_append [] b = refl
rows_append (e ∷ a) b = rw (rows_append a b) (sym (append_assoc (row e) (rows a) (rows b)))

row_length : (e : TagElement) → length (row e) ≡ 16
unfolding row
row_length e = four e.tag e.part.at e.part.len (pick e.part.raw 1 0)
  where
    four : (a b c d : ℕ) → length (low_first 4 a ++ low_first 4 b ++ low_first 4 c ++ low_first 4 d) ≡ 16
    four a b c d =
        omega (arith, length-append (low_first 4 a ++ low_first 4 b ++ low_first 4 c) (low_first 4 d), length-append (low_first 4 a ++ low_first 4 b) (low_first 4 c), length-append (low_first 4 a) (low_first 4 b), length_low 4 a, length_low 4 b, length_low 4 c, length_low 4 d)

-- an element takes 16 bytes
pub rows_length : (l : List TagElement) → length (rows l) ≡ 16 * length l
rows_length [] = refl
rows_length (e ∷ l) = omega (arith, length-append (row e) (rows l), row_length e, rows_length l)

-- ---- what is listed of two lists, one behind the other

take_two : (m : ℕ) (a b : List TagElement) → take m (a ++ b) ≡ take m a ++ take (m - length a) b
take_two zero [] b = refl
take_two zero (e ∷ a) b = let z : 0 - length (e ∷ a) ≡ 0 = omega arith in rw z
take_two (suc m) [] b = let z : suc m - 0 ≡ suc m = omega arith in rw z
take_two (suc m) (e ∷ a) b =
    let z : suc m - length (e ∷ a) ≡ m - length a = omega arith in rw z (ap (λ (l : List TagElement). e ∷ l) (take_two m a b))

drop_two : (k : ℕ) (a b : List TagElement) → drop k (a ++ b) ≡ drop k a ++ drop (k - length a) b
drop_two zero [] b = refl
drop_two zero (e ∷ a) b = let z : 0 - length (e ∷ a) ≡ 0 = omega arith in rw z
drop_two (suc k) [] b = let z : suc k - 0 ≡ suc k = omega arith in rw z
drop_two (suc k) (e ∷ a) b = let z : suc k - length (e ∷ a) ≡ k - length a = omega arith in rw z (drop_two k a b)

pub rows_two : (m k : ℕ) (a b : List TagElement)
    → rows (take m (drop k (a ++ b))) ≡ rows (take m (drop k a)) ++ rows (take (m - (length a - k)) (drop (k - length a) b))
rows_two m k a b =
    rw (drop_two k a b, take_two m (drop k a) (drop (k - length a) b), length-drop k a)
    (rows_append (take m (drop k a)) (take (m - (length a - k)) (drop (k - length a) b)))

-- the room that is left: a are left out of n, and b of the others are told
pub room_left : (m k n : ℕ) {a b : ℕ} → a ≡ min k n → b ≡ min m (n - a) → m - b ≡ m - (n - k)
room_left m k n {a} {b} e f =
    dite (dec_le k n)
    (λ h. let q : a ≡ k = omega (arith, e, h) in let g : b ≡ min m (n - k) = f ∙ rw q in fewer (n - k) g)
    (λ h. let q : a ≡ n = omega (arith, e, h) in let z : b ≡ 0 = omega (arith, f, q) in omega (arith, z, h))
  where
    fewer : (w : ℕ) → b ≡ min m w → m - b ≡ m - w
    fewer w g = omega (arith, g)

module _ (s : List ℕ) where
  -- ---- the elements of one tag

  module _ (i : ℕ) where
    pub again_turn : (left at : ℕ) {p : Part} {next : ℕ} → 0 < left → p ≡ (part_again s at).value → next ≡ (part_again s at).next
        → tag_again left i s at ≡ record { tag = i; part = p } ∷ tag_again (left - 1) i s next
    unfolding tag_again
    again_turn zero at h e f = absurd (omega arith)
    again_turn (suc left) at h e f = rw (e, f, sub-one)

    pub again_left : (left at : ℕ) → left ≤ 0 → tag_again left i s at ≡ []
    unfolding tag_again
    again_left zero at h = refl
    again_left (suc left) at h = absurd (omega arith)

    pub again_count : (n at : ℕ) → length (tag_again n i s at) ≡ n
    unfolding tag_again
    again_count zero at = refl
    again_count (suc n) at = ap suc (again_count n (part_again s at).next)

    skip_some : (a n at : ℕ) → a ≤ n → drop a (tag_again n i s at) ≡ tag_again (n - a) i s (texts_end a s at)
    unfolding tag_again texts_end
    skip_some zero n at h = let z : n - 0 ≡ n = omega arith in rw z
    skip_some (suc a) zero at h = absurd (omega arith)
    skip_some (suc a) (suc n) at h = let z : suc n - suc a ≡ n - a = omega arith in rw z (skip_some a n (part_again s at).next (omega arith))

    keep_some : (b n at : ℕ) → b ≤ n → take b (tag_again n i s at) ≡ tag_again b i s at
    unfolding tag_again
    keep_some zero n at h = refl
    keep_some (suc b) zero at h = absurd (omega arith)
    keep_some (suc b) (suc n) at h = ap (λ (l : List TagElement). record { tag = i; part = (part_again s at).value } ∷ l) (keep_some b n (part_again s at).next (omega arith))

    kept : (m n at : ℕ) {b : ℕ} → b ≡ min m n → take m (tag_again n i s at) ≡ tag_again b i s at
    kept m n at {b} e =
        dite (dec_le m n)
        (λ h. let q : b ≡ m = omega (arith, e, h) in rw q (keep_some m n at h))
        (λ h. let q : b ≡ n = omega (arith, e, h) in rw q (take_all m (tag_again n i s at) (omega (arith, h, again_count n at))))

    -- all but the first k, and of these m: b of them, from behind the first a
    pub some_again : (m k n at : ℕ) {a b : ℕ} → a ≡ min k n → b ≡ min m (n - a)
        → take m (drop k (tag_again n i s at)) ≡ tag_again b i s (texts_end a s at)
    some_again m k n at {a} {b} e f =
        dite (dec_le k n)
        (λ h. let q : a ≡ k = omega (arith, e, h) in rw (skip_some k n at h, q) (kept m (n - k) (texts_end k s at) (rw (← q) f)))
        (λ h.
        let q : a ≡ n = omega (arith, e, h) in
        let z : b ≡ 0 = omega (arith, f, q) in
        rw (drop_of_length-le (tag_again n i s at) {i = k} (omega (arith, h, again_count n at)), z) (nothing m ∙ sym (again_left 0 (texts_end a s at) (omega arith))))
      where
        nothing : (m : ℕ) → ◌≡◌ {A = List TagElement} (take m []) []
        nothing zero = refl
        nothing (suc m) = refl

  -- a texts and then b are a + b
  pub ends_two : (a b at : ℕ) → texts_end b s (texts_end a s at) ≡ texts_end (a + b) s at
  unfolding texts_end
  ends_two zero b at = let z : 0 + b ≡ b = omega arith in rw z
  ends_two (suc a) b at = let z : suc a + b ≡ suc (a + b) = omega arith in rw z (ends_two a b (part_again s at).next)

  -- ---- the elements of all tags

  pub all_turn : (left i at : ℕ) {n first end : ℕ} → 0 < left → n ≡ (count_again s at).value → first ≡ (count_again s at).next → end ≡ texts_end n s first
      → all_again left i s at ≡ tag_again n i s first ++ all_again (left - 1) (i + 1) s end
  unfolding all_again
  all_turn zero i at h e f g = absurd (omega arith)
  all_turn (suc left) i at h e f g = let z : suc i ≡ i + 1 = omega arith in rw (g, e, f, sub-one, z)

  pub all_left : (left i at : ℕ) → left ≤ 0 → all_again left i s at ≡ []
  unfolding all_again
  all_left zero i at h = refl
  all_left (suc left) i at h = absurd (omega arith)

  -- a turn of the loop over tags: k are still to be left out, and there is room for m
  pub list_turn : (m k left i at : ℕ) {n first end k' m' : ℕ} → 0 < left → n ≡ (count_again s at).value → first ≡ (count_again s at).next → end ≡ texts_end n s first
      → k' ≡ k - n → m' ≡ m - (n - k)
      → rows (take m (drop k (all_again left i s at)))
      ≡ rows (take m (drop k (tag_again n i s first))) ++ rows (take m' (drop k' (all_again (left - 1) (i + 1) s end)))
  list_turn m k left i at {n} {first} {end} h e f g p q =
      rw (all_turn left i at h e f g, p, q)
      (rows_two m k (tag_again n i s first) (all_again (left - 1) (i + 1) s end) ∙ rw (again_count i n first))

  -- nothing is listed of nothing
  pub list_left : (m k left i at : ℕ) → left ≤ 0 → rows (take m (drop k (all_again left i s at))) ≡ []
  list_left m k left i at h = rw (all_left left i at h) (none m k)
    where
      none : (m k : ℕ) → rows (take m (drop k [])) ≡ []
      none zero zero = refl
      none zero (suc k) = refl
      none (suc m) zero = refl
      none (suc m) (suc k) = refl

  -- ---- what was read

  tag_same : (n i at : ℕ) (v : Read (List Part)) → elements_at n s at ≡ shown v → tag_again n i s at ≡ in_tag i v.value
  unfolding tag_again many
  tag_same zero i at v e = ap (in_tag i) (read_same e).0
  tag_same (suc n) i at v e =
      let a = many_apart (element_at s) n at v e in
      rw (again.part_again_lem s at a.0 a.2, tag_same n i a.0.next a.1 a.3) (ap (in_tag i) (sym a.4))

  -- on an accepted input they are the record's own
  pub all_same : (n i at : ℕ) (v : Read (List (List Part))) → tags_standing n s at ≡ shown v → all_again n i s at ≡ in_tags i v.value
  unfolding all_again count_again many
  all_same zero i at v e = ap (in_tags i) (read_same e).0
  all_same (suc n) i at v e =
      let a = many_apart (tag_at s) n at v e in
      let t = tag_apart s at a.0.next a.0.value a.2 in
      let w = again.texts_again_lem s (length a.0.value) t.0 _ t.2 in
      rw (again.count_number s at _ t.1, tag_same (length a.0.value) i t.0 _ t.2, w.1, all_same n (suc i) a.0.next a.1 a.3)
      (ap (in_tags i) (sym a.4))
