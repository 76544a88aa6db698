-- The pass over elements and tags: each turn of its loops is one law, and the strict form so far is never longer than
-- what was read.
-- The premises of a law are what the loop knows; the room follows from the pieces that were read.
use Prim.Native.Nat.{ℕ, suc, ◌+◌, ◌-◌, ◌≤◌, ◌<◌}
use mathlib.Core.Path.{◌≡◌, refl, sym, ap, ◌∙◌}
use mathlib.Core.Bool.{Bool, true, false}
use mathlib.Core.List.{List, ◌∷◌, map}
use native.Mathlib.Nat.{add-zero}
use native.Mathlib.Omega.{arith}
use lib.ListN.{length, length-append, length-map}
use Rattle.scan.specs.Choice.{Answer, shown, refused, Read, read, and_then, many}
use Rattle.scan.specs.inner.Otherwise.{either}
use Rattle.scan.specs.Bytes.{IsBytes}
use Rattle.scan.proofs.SpanLaws.{span_length}
use Rattle.scan.proofs.Reading.{Reads, shown_reads, read_same}
use Rattle.varint.specs.Uleb.{uleb}
use Rattle.varint.proofs.UlebLaws.{uleb_shortest}
use Rattle.notepack.specs.declared.Part.{Part}
use Rattle.notepack.specs.declared.Tally.{Tally}
use Rattle.notepack.specs.declared.Passed.{Passed}
use Rattle.notepack.specs.Strict.{pack_element, pack_elements, pack_tag, pack_tags}
use Rattle.notepack.specs.Unpack.{text_of, element_at, elements_at, tag_count_at, tag_at, tags_standing}
use Rattle.notepack.specs.inner.Tally.{is_hollow, hollow_in, hollow_tags, more, pass_elements, pass_tag, pass_tags}
use Rattle.notepack.proofs.Sound.{LaidAll, element_reads, count_reads, elements_reads}

-- ---- tallies

tally_eq : {a b : ℕ} {h k : Bool} → a ≡ b → h ≡ k → ◌≡◌ {A = Tally} (record { len = a; hollow = h }) (record { len = b; hollow = k })
tally_eq p q = λ i. record { len = p i; hollow = q i }

either_assoc : (a b c : Bool) → either a (either b c) ≡ either (either a b) c
either_assoc true b c = refl
either_assoc false b c = refl

either_none : (a : Bool) → either a false ≡ a
either_none true = refl
either_none false = refl

-- nothing more
pub more_none : (t : Tally) → more t 0 false ≡ t
more_none t = tally_eq (add-zero t.len) (either_none t.hollow)

-- two in a row are one
pub more_more : (t : Tally) (n m : ℕ) (h k : Bool) → more (more t n h) m k ≡ more t (n + m) (either h k)
more_more t n m h k = tally_eq (omega arith) (sym (either_assoc t.hollow h k))

-- ---- elements

module _ (s : List ℕ) where
  element_first : (n at next : ℕ) (p : Part) (t : Tally) → element_at s at ≡ read p next
      → and_then (elements_at (suc n) s at) (pass_elements s t)
      ≡ and_then (elements_at n s next) (pass_elements s (more t (length (pack_element (text_of s p))) (is_hollow p)))
  unfolding many
  element_first n at next p t e = rw e (go (elements_at n s next))
    where
      go : (r : Answer (Read (List Part)))
          → and_then (and_then r (λ (es : Read (List Part)). read (p ∷ es.value) es.next)) (pass_elements s t)
          ≡ and_then r (pass_elements s (more t (length (pack_element (text_of s p))) (is_hollow p)))
      go (shown es) =
          let x = pack_element (text_of s p) in
          let xs = pack_elements (map (text_of s) es.value) in
          let e = more_more t (length x) (length xs) (is_hollow p) (hollow_in es.value) in
          rw (length-append x xs, sym e)
      go (refused n p) = refl

  -- n elements, of which k are passed over
  module _ (n k : ℕ) (t : Passed) {X : Answer (Read Tally)} (inv : X ≡ and_then (elements_at (n - k) s t.at) (pass_elements s t.tally)) where
    pub elements_passed : (u : Passed) {p : Part} {len next : ℕ} {h : Bool} → k < n → read p next ≡ element_at s t.at
        → len ≡ length (pack_element (text_of s p)) → h ≡ is_hollow p → u.tally ≡ more t.tally len h → u.at ≡ next
        → X ≡ and_then (elements_at (n - (k + 1)) s u.at) (pass_elements s u.tally)
    elements_passed u {p} {len} {next} {h} l e m f g a =
        let one : n - k ≡ suc (n - (k + 1)) = omega arith in
        rw (a, g, m, f) (inv ∙ rw one (element_first (n - (k + 1)) t.at next p t.tally (sym e)))

    pub elements_refused : {m q : ℕ} → k < n → refused m q ≡ element_at s t.at → refused m q ≡ X
    unfolding many
    elements_refused {m} {q} l e = let one : n - k ≡ suc (n - (k + 1)) = omega arith in sym (inv ∙ rw (one, sym e))

    pub elements_done : n ≤ k → read t.tally t.at ≡ X
    unfolding many
    elements_done l = let none : n - k ≡ 0 = omega arith in sym (inv ∙ rw (none, more_none t.tally))

  -- the strict form so far is no longer than what was read, also with this element
  pub element_room : (bytes : IsBytes s) (t : Passed) {n next : ℕ} {p : Part}
      → read p next ≡ element_at s t.at → n ≡ length (pack_element (text_of s p)) → t.tally.len + n ≤ next
  element_room bytes t {n} {next} {p} e len =
      let g = shown_reads (rw (sym e) at (element_reads s bytes t.at)) in
      omega (arith, len, t.len_bound, g.1.piece.least, span_length g.2)

  -- ---- a tag

  pub count_room : (bytes : IsBytes s) (t : Passed) {n v next : ℕ}
      → read n next ≡ tag_count_at s t.at → v ≡ length (uleb n) → t.tally.len + v ≤ next
  count_room bytes t {n} {v} {next} e len =
      let g = shown_reads (rw (sym e) at (count_reads s bytes t.at)) in
      omega (arith, len, t.len_bound, uleb_shortest g.1.0.spells.digits, span_length g.2)

  -- the elements, behind their count, are the tag
  tag_elements : (bytes : IsBytes s) (n a : ℕ) (t : Tally) (r : Answer (Read (List Part))) → Reads (LaidAll s bytes n) s a r
      → and_then r (pass_elements s (more t (length (uleb n)) false)) ≡ and_then r (pass_tag s t)
  unfolding pack_tag
  tag_elements bytes n a t (shown es) g =
      let h = (shown_reads g).1.count in
      let ts = map (text_of s) es.value in
      let c : length ts ≡ n = length-map es.value (text_of s) ∙ h in
      let e = more_more t (length (uleb n)) (length (pack_elements ts)) false (hollow_in es.value) in
      rw (e, length-append (uleb (length ts)) (pack_elements ts), c)
  tag_elements bytes n a t (refused k p) g = refl

  pub tag_pass : (bytes : IsBytes s) (t u : Passed) {X : Answer (Read Tally)} {n v next : ℕ}
      → read n next ≡ tag_count_at s t.at → v ≡ length (uleb n) → u.tally ≡ more t.tally v false → u.at ≡ next
      → X ≡ and_then (elements_at n s u.at) (pass_elements s u.tally) → X ≡ and_then (tag_at s t.at) (pass_tag s t.tally)
  unfolding tag_at
  tag_pass bytes t u {X} {n} {v} {next} e len g a x =
      x ∙ rw (a, g, len, sym e) (tag_elements bytes n next t.tally (elements_at n s next) (elements_reads s bytes n next))

  pub tag_refused : (t : Passed) {n q : ℕ} → refused n q ≡ tag_count_at s t.at → refused n q ≡ and_then (tag_at s t.at) (pass_tag s t.tally)
  unfolding tag_at
  tag_refused t e = rw (sym e)

  -- ---- tags

  tag_first : (n at next : ℕ) (ps : List Part) (t : Tally) → tag_at s at ≡ read ps next
      → and_then (tags_standing (suc n) s at) (pass_tags s t)
      ≡ and_then (tags_standing n s next) (pass_tags s (more t (length (pack_tag (map (text_of s) ps))) (hollow_in ps)))
  unfolding many
  tag_first n at next ps t e = rw e (go (tags_standing n s next))
    where
      go : (r : Answer (Read (List (List Part))))
          → and_then (and_then r (λ (ts : Read (List (List Part))). read (ps ∷ ts.value) ts.next)) (pass_tags s t)
          ≡ and_then r (pass_tags s (more t (length (pack_tag (map (text_of s) ps))) (hollow_in ps)))
      go (shown ts) =
          let x = pack_tag (map (text_of s) ps) in
          let xs = pack_tags (map (map (text_of s)) ts.value) in
          let e = more_more t (length x) (length xs) (hollow_in ps) (hollow_tags ts.value) in
          rw (length-append x xs, sym e)
      go (refused n p) = refl

  -- what passing over one tag tells
  tag_told : (t u : Tally) (next : ℕ) (r : Answer (Read (List Part))) → read u next ≡ and_then r (pass_tag s t)
      → (ps : List Part) × (r ≡ read ps next) × (u ≡ more t (length (pack_tag (map (text_of s) ps))) (hollow_in ps))
  tag_told t u next (shown v) e =
      let f = read_same e in
      (v.value, ap (λ (k : ℕ). read v.value k) (sym f.1), f.0)
  tag_told t u next (refused n p) e = let z : ◌≡◌ {A = ℕ} 0 1 = cc in absurd (omega arith)

  -- n tags, of which k are passed over
  module _ (n k : ℕ) (t : Passed) {X : Answer (Read Tally)} (inv : X ≡ and_then (tags_standing (n - k) s t.at) (pass_tags s t.tally)) where
    pub tags_passed : (u : Passed) → k < n → read u.tally u.at ≡ and_then (tag_at s t.at) (pass_tag s t.tally)
        → X ≡ and_then (tags_standing (n - (k + 1)) s u.at) (pass_tags s u.tally)
    tags_passed u l e =
        let r = tag_told t.tally u.tally u.at (tag_at s t.at) e in
        let one : n - k ≡ suc (n - (k + 1)) = omega arith in
        inv ∙ rw one (go (n - (k + 1)) r.0 r.1 r.2)
      where
        go : (left : ℕ) (ps : List Part) → tag_at s t.at ≡ read ps u.at → u.tally ≡ more t.tally (length (pack_tag (map (text_of s) ps))) (hollow_in ps)
            → and_then (tags_standing (suc left) s t.at) (pass_tags s t.tally) ≡ and_then (tags_standing left s u.at) (pass_tags s u.tally)
        go left ps e m = tag_first left t.at u.at ps t.tally e ∙ rw m

    pub tags_refused : {m q : ℕ} → k < n → refused m q ≡ and_then (tag_at s t.at) (pass_tag s t.tally) → refused m q ≡ X
    unfolding many
    tags_refused {m} {q} l e = let one : n - k ≡ suc (n - (k + 1)) = omega arith in sym (inv ∙ rw one (go (n - (k + 1)) (tag_at s t.at) e))
      where
        go : (left : ℕ) (r : Answer (Read (List Part))) → refused m q ≡ and_then r (pass_tag s t.tally)
            → and_then (and_then r (λ (t : Read (List Part)). and_then (tags_standing left s t.next) (λ (ts : Read (List (List Part))). read (t.value ∷ ts.value) ts.next))) (pass_tags s t.tally)
            ≡ refused m q
        go left (shown v) e = let z : ◌≡◌ {A = ℕ} 0 1 = cc in absurd (omega arith)
        go left (refused i p) e = sym e

    pub tags_done : n ≤ k → read t.tally t.at ≡ X
    unfolding many
    tags_done l = let none : n - k ≡ 0 = omega arith in sym (inv ∙ rw (none, more_none t.tally))

-- what the loops over elements and tags need
pub ruleset pass_steps = (elements_passed, elements_refused, elements_done, tag_refused, tags_passed, tags_refused, tags_done)
