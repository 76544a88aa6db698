-- What is seen of an input of either form is what is seen of its bare bytes, with every place counted in the bytes
-- given.
-- By cases of the start and of the reading.
use Prim.Native.Nat.{ℕ, zero, suc, ◌+◌, ◌≤◌}
use mathlib.Core.Path.{◌≡◌, refl, sym, ap, ◌∙◌}
use mathlib.Core.Bool.{Bool}
use mathlib.Core.List.{List, [], ◌∷◌, map}
use native.Mathlib.Omega.{arith}
use lib.ListN.{length, take, drop, length-map}
use Rattle.scan.specs.Choice.{Answer, shown, refused, and_then}
use Rattle.scan.proofs.Many.{after, then_shown, shown_same}
use Rattle.event.specs.inner.Tells.{Tells, value, refusal}
use Rattle.varint.proofs.Further.{drop_further}
use Rattle.notepack.specs.declared.Part.{Part}
use Rattle.notepack.specs.declared.Head.{Head}
use Rattle.notepack.specs.Unpack.{bytes_of, Packed, packed_at}
use Rattle.notepack.specs.Views.{numbers_of, nth, tag_of, texts_in, element_of}
use Rattle.notepack.proofs.Seen.{nth_map}
use Rattle.notepack.proofs.Telling.{packed_tells, numbers_tells, element_of_tells}
use Rattle.versioned.specs.Versioned.{start_of, behind}
use Rattle.versioned.specs.Views.{move_part, move_head, move_packed, packed_given, numbers_given, texts_given, element_given, content_given}
use Rattle.versioned.specs.inner.Moved.{is_readers, moved_place, moved}
use Rattle.versioned.proofs.Starting.{clash, refused_as, start_fits}
use Rattle.versioned.proofs.Moving.{other_stays, moved_behind}

module _ (bare : Bool) where
  -- 19 is none of the reader's numbers
  still_19 : moved_place bare 19 0 ≡ 0
  unfolding is_readers
  still_19 = other_stays bare 19 0 refl

  nth_moved : {A : Type 0} (i : ℕ) (l : List A) → moved bare (nth i l) ≡ nth i l
  nth_moved i [] = ap (λ (q : ℕ). refused 19 q) still_19
  nth_moved zero (x ∷ l) = refl
  nth_moved (suc i) (x ∷ l) = nth_moved i l

  module _ (s : List ℕ) where
    -- ---- the start is refused

    packed_none : {n p : ℕ} → start_of bare s ≡ refused n p → packed_given bare s ≡ refused n p
    unfolding packed_given
    packed_none e = rw e

    pub numbers_none : {n p : ℕ} → start_of bare s ≡ refused n p → numbers_given bare s ≡ refused n p
    unfolding numbers_given
    numbers_none e = rw (packed_none e)

    pub texts_none : (i : ℕ) {n p : ℕ} → start_of bare s ≡ refused n p → texts_given bare i s ≡ refused n p
    unfolding texts_given
    texts_none i e = rw (packed_none e)

    pub element_none : (i j : ℕ) {n p : ℕ} → start_of bare s ≡ refused n p → element_given bare i j s ≡ refused n p
    unfolding element_given
    element_none i j e = rw (packed_none e)

    -- ---- the bare bytes t start at k

    module _ {k : ℕ} (e : start_of bare s ≡ shown k) where
      -- everything stands k further on
      pub packed_start : packed_given bare s ≡ and_then (moved bare (packed_at (drop k s))) (λ (p : Packed). shown (move_packed k p))
      unfolding packed_given
      packed_start = rw (e, moved_behind s bare e (packed_tells (drop k s)))

      pub numbers_start : numbers_given bare s ≡ and_then (moved bare (numbers_of (drop k s))) (λ (h : Head). shown (move_head k h))
      unfolding numbers_given numbers_of
      numbers_start = rw packed_start (go (packed_at (drop k s)))
        where
          go : (x : Answer Packed)
              → and_then (and_then (moved bare x) (λ (p : Packed). shown (move_packed k p))) (λ (p : Packed). shown p.head)
              ≡ and_then (moved bare (and_then x (λ (p : Packed). shown p.head))) (λ (h : Head). shown (move_head k h))
          go (shown p) = refl
          go (refused n p) = refl

      pub texts_start : (i : ℕ) → texts_given bare i s ≡ moved bare (texts_in i (drop k s))
      unfolding texts_given texts_in tag_of
      texts_start i = rw packed_start (go (packed_at (drop k s)))
        where
          of : (a : Answer (List Part)) → moved bare a ≡ a
              → and_then (and_then a (λ (t : List Part). shown (map (move_part k) t))) (λ (t : List Part). shown (length t))
              ≡ moved bare (and_then a (λ (t : List Part). shown (length t)))
          of (shown t) h = ap shown (length-map t (move_part k))
          of (refused n p) h = let f : moved_place bare n p ≡ p = cc in ap (λ (q : ℕ). refused n q) (sym f)

          go : (x : Answer Packed)
              → and_then (and_then (moved bare x) (λ (p : Packed). shown (move_packed k p))) (λ (p : Packed). and_then (nth i p.tags) (λ (t : List Part). shown (length t)))
              ≡ moved bare (and_then (and_then x (λ (p : Packed). nth i p.tags)) (λ (t : List Part). shown (length t)))
          go (shown p) =
              ap (λ (a : Answer (List Part)). and_then a (λ (t : List Part). shown (length t))) (nth_map (map (move_part k)) i p.tags)
              ∙ of (nth i p.tags) (nth_moved i p.tags)
          go (refused n p) = refl

      pub element_start : (i j : ℕ) → element_given bare i j s ≡ and_then (moved bare (element_of i j (drop k s))) (λ (p : Part). shown (move_part k p))
      unfolding element_given element_of tag_of
      element_start i j = rw packed_start (go (packed_at (drop k s)))
        where
          of : (a : Answer (List Part)) → moved bare a ≡ a
              → and_then (and_then a (λ (t : List Part). shown (map (move_part k) t))) (λ (t : List Part). nth j t)
              ≡ and_then (moved bare (and_then a (λ (t : List Part). nth j t))) (λ (p : Part). shown (move_part k p))
          of (shown t) h = nth_map (move_part k) j t ∙ ap (λ (a : Answer Part). and_then a (λ (p : Part). shown (move_part k p))) (sym (nth_moved j t))
          of (refused n p) h = let f : moved_place bare n p ≡ p = cc in ap (λ (q : ℕ). refused n q) (sym f)

          go : (x : Answer Packed)
              → and_then (and_then (moved bare x) (λ (p : Packed). shown (move_packed k p))) (λ (p : Packed). and_then (nth i p.tags) (λ (t : List Part). nth j t))
              ≡ and_then (moved bare (and_then (and_then x (λ (p : Packed). nth i p.tags)) (λ (t : List Part). nth j t))) (λ (p : Part). shown (move_part k p))
          go (shown p) =
              ap (λ (a : Answer (List Part)). and_then a (λ (t : List Part). nth j t)) (nth_map (map (move_part k)) i p.tags)
              ∙ of (nth i p.tags) (nth_moved i p.tags)
          go (refused n p) = refl

      -- no place passes the input's end
      told_value : {A : Type 0} {P : A → Type 0} {numbers : List ℕ} {m : ℕ} {a : A} {x : Answer A} → Tells numbers m P x → x ≡ shown a → P a
      told_value {P = P} {a = a} (value {a = b} h) q = let f : b ≡ a = cc in rw (sym f) h
      told_value (refusal o h) q = clash q

      unmoved : {A : Type 0} {a : A} {x : Answer A} → shown a ≡ moved bare x → x ≡ shown a
      unmoved {x = shown b} q = sym q
      unmoved {x = refused n p} q = clash (sym q)

      pub head_fits : {h : Head} → shown h ≡ moved bare (numbers_of (drop k s)) → (h.content.at + k ≤ length s) × (h.tags_at + k ≤ length s)
      head_fits q =
          let i = told_value (numbers_tells (drop k s)) (unmoved q) in
          let l = start_fits bare s e in
          (omega (arith, i.0, l), omega (arith, i.1, l))

      pub part_fits : (i j : ℕ) {p : Part} → shown p ≡ moved bare (element_of i j (drop k s)) → p.at + k ≤ length s
      part_fits i j q = let h = told_value (element_of_tells (drop k s) i j) (unmoved q) in omega (arith, h, start_fits bare s e)

-- the content is that of the numbers
pub content_given_lem : (bare : Bool) (s : List ℕ) → content_given bare s ≡ and_then (numbers_given bare s) (λ (h : Head). shown h.content)
unfolding content_given numbers_given
content_given_lem bare s = go (packed_given bare s)
  where
    go : (x : Answer Packed) → and_then x (λ (p : Packed). shown p.head.content) ≡ and_then (and_then x (λ (p : Packed). shown p.head)) (λ (h : Head). shown h.content)
    go (shown p) = refl
    go (refused n p) = refl

-- a part of the bytes given has the bytes that it has in the bare ones
pub part_bytes : (k : ℕ) (s : List ℕ) (p : Part) → bytes_of s (move_part k p) ≡ bytes_of (drop k s) p
part_bytes k s p = ap (λ (l : List ℕ). take p.len l) (drop_further k s p.at)

-- ---- what was told, taken apart

-- the bare bytes start at k, and what stands there stands in them
pub record Placed (bare : Bool) (s : List ℕ) (p : Packed) : Type 0 where
  pub start : ℕ
  pub starts : start_of bare s ≡ shown start
  pub there : Packed
  pub found : packed_at (drop start s) ≡ shown there
  pub same : move_packed start there ≡ p

pub packed_placed : (bare : Bool) (s : List ℕ) (p : Packed) → packed_given bare s ≡ shown p → Placed bare s p
unfolding packed_given
packed_placed bare s p e =
    after (start_of bare s) _ p e
    (λ k a f.
    after (behind k (packed_at (drop k s))) _ p f
    (λ q b g. record { start = k; starts = a; there = q; found = unmoved k (packed_at (drop k s)) b; same = shown_same g }))
  where
    unmoved : (k : ℕ) (x : Answer Packed) {q : Packed} → behind k x ≡ shown q → x ≡ shown q
    unmoved k (shown y) h = h
    unmoved k (refused n i) h = clash h

-- the numbers are those of what stands there, and its refusal is theirs
pub numbers_packed : (bare : Bool) (s : List ℕ) (h : Head) → numbers_given bare s ≡ shown h → (p : Packed) × (packed_given bare s ≡ shown p) × (p.head ≡ h)
unfolding numbers_given
numbers_packed bare s h e = let a = then_shown (packed_given bare s) _ h e in (a.0, a.1, shown_same a.2)

pub packed_refused : (bare : Bool) (s : List ℕ) (n q : ℕ) → numbers_given bare s ≡ refused n q → packed_given bare s ≡ refused n q
unfolding numbers_given
packed_refused bare s n q e = go (packed_given bare s) e
  where
    go : (x : Answer Packed) → and_then x (λ (p : Packed). shown p.head) ≡ refused n q → x ≡ refused n q
    go (shown p) h = clash (sym h)
    go (refused m i) h = refused_as h
