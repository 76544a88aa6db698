-- What the second pass writes of texts and tags, turn by turn; and that it is their strict form where the first pass
-- read them.
-- Along the items as they were taken apart; the byte behind each is there, so that the second pass comes to the same
-- places.
use Prim.Native.Nat.{ℕ, zero, suc, ◌+◌, ◌-◌, ◌≤◌, ◌<◌}
use mathlib.Core.Path.{◌≡◌, refl, sym, ap, ◌∙◌}
use mathlib.Core.List.{List, [], ◌∷◌, ◌++◌, append_assoc}
use native.Mathlib.Omega.{arith}
use native.Mathlib.Numerals.{sub-one}
use lib.ListN.{length, get_or}
use lib.Dec.{eqb}
use borrow.Author.Tests.{eq-eqb, ne_eqb, lt-ltb}
use Rattle.scan.specs.Choice.{pick, Answer, shown, refused, Read, read}
use Rattle.varint.specs.Uleb.{uleb}
use Rattle.event.specs.Event.{Tag}
use Rattle.notepack.specs.Strict.{pack_element, pack_elements, pack_tags}
use Rattle.notepack.proofs.Lengths.{tag_form}
use Rattle.jsontext.specs.declared.Spelled.{Spelled}
use Rattle.jsontext.specs.Token.{space_at}
use Rattle.jsontext.specs.Text.{string_at}
use Rattle.scan.proofs.Fits.{byte_positive}
use Rattle.jsonevent.specs.Field.{text_of, text_at, tag_at}
use Rattle.jsonstring.specs.declared.Text.{Text}
use Rattle.jsonstring.specs.declared.Text.TheVariants as text
use Rattle.jsonstring.specs.inner.Plain.{PlainText}
use Rattle.jsonstring.specs.inner.Answers.{spelled_of as text_spelled}
use Rattle.jsonread.specs.inner.Copy.{said, behind_at, next_at, text_end, count_texts, texts_text, json_texts_end, json_tag_text, json_tags_text}
use Rattle.jsonfields.proofs.Strings.{string_ends, text_string}
use Rattle.jsonfields.proofs.Values.{tag_took}
use Rattle.jsonfields.proofs.Items.{Took, last, more}

-- ---- the turns of the loops

module _ (s : List ℕ) where
  pub texts_turn : (left at : ℕ) {p : Spelled} {e : ℕ} → 0 < left → string_at s at ≡ read p e
      → (texts_text left s at ≡ pack_element (text_of s p) ++ texts_text (left - 1) s (next_at s e)) × (json_texts_end left s at ≡ json_texts_end (left - 1) s (next_at s e))
  unfolding texts_text json_texts_end
  texts_turn zero at h r = absurd (omega arith)
  texts_turn (suc left) at h r = (rw (r, sub-one), rw (r, sub-one))

  pub texts_stop : (left at : ℕ) {n q : ℕ} → 0 < left → string_at s at ≡ refused n q → (texts_text left s at ≡ []) × (json_texts_end left s at ≡ at)
  unfolding texts_text json_texts_end
  texts_stop zero at h r = absurd (omega arith)
  texts_stop (suc left) at h r = (rw r, rw r)

  pub texts_left : (left at : ℕ) → left ≤ 0 → (texts_text left s at ≡ []) × (json_texts_end left s at ≡ at)
  unfolding texts_text json_texts_end
  texts_left zero at h = (refl, refl)
  texts_left (suc left) at h = absurd (omega arith)

  pub tags_turn : (left at : ℕ) → 0 < left
      → json_tags_text left s at ≡ json_tag_text s (behind_at s at) ++ json_tags_text (left - 1) s (behind_at s (json_texts_end (count_texts 255 s (behind_at s at)) s (behind_at s at)))
  unfolding json_tags_text
  tags_turn zero at h = absurd (omega arith)
  tags_turn (suc left) at h = rw sub-one

  -- a tag more: its count and its texts are written, and the others are left
  pub tags_again_lem : (left at : ℕ) → 0 < left → {first n end next : ℕ} → first ≡ behind_at s at → n ≡ count_texts 255 s first → end ≡ json_texts_end n s first → next ≡ behind_at s end
      → json_tags_text left s at ≡ uleb n ++ (texts_text n s first ++ json_tags_text (left - 1) s next)
  unfolding json_tag_text
  tags_again_lem left at h {first} {n} {end} {next} e f g k =
      tags_turn left at h ∙ rw (← e, ← f, ← g, ← k) (append_assoc (uleb n) (texts_text n s first) (json_tags_text (left - 1) s next))

  -- behind a text
  pub next_place : (e : ℕ) {p j : ℕ} → p ≡ space_at s e → j ≡ behind_at s p → next_at s e ≡ j
  unfolding next_at
  next_place e f g = sym (g ∙ ap (behind_at s) f)

  pub tags_left_lem : (left at : ℕ) → left ≤ 0 → json_tags_text left s at ≡ []
  unfolding json_tags_text
  tags_left_lem zero at h = refl
  tags_left_lem (suc left) at h = absurd (omega arith)

  -- ---- the count: n texts are counted, and those from here on are still to be

  pub record Counting (at i n : ℕ) : Type 0 where
    pub same : count_texts 255 s at ≡ n + count_texts (255 - n) s i
    pub few : n ≤ 255

  pub counting_start : (at : ℕ) → Counting at at 0
  counting_start at = record { same = omega arith; few = omega arith }

  -- the place behind a text, and 0 where none is read
  end_shown : (i : ℕ) {end : ℕ} → end ≡ text_end s i → (end ≡ 0 → ⊥) → (x : Spelled) × (string_at s i ≡ read x end)
  unfolding text_end
  end_shown i {end} e h = go (string_at s i) refl
    where
      go : (r : Answer (Read Spelled)) → string_at s i ≡ r → (x : Spelled) × (string_at s i ≡ read x end)
      go (shown v) f = let z : end ≡ v.next = e ∙ rw f in (v.value, f ∙ ap (λ (n : ℕ). read v.value n) (sym z))
      go (refused n p) f = let z : end ≡ 0 = e ∙ rw f in absurd (h z)

  end_none : (i : ℕ) {end : ℕ} → end ≡ text_end s i → end ≡ 0 → (n : ℕ) × (q : ℕ) × (string_at s i ≡ refused n q)
  unfolding text_end
  end_none i {end} e h = go (string_at s i) refl
    where
      go : (r : Answer (Read Spelled)) → string_at s i ≡ r → (n : ℕ) × (q : ℕ) × (string_at s i ≡ refused n q)
      go (shown v) f = let z : end ≡ v.next = e ∙ rw f in absurd (omega (arith, z, h, string_ends s i f))
      go (refused n p) f = (n, p, f)

  module _ {at i n end : ℕ} (v : Counting at i n) (e : end ≡ text_end s i) (h : n < 255) where
    pub counting_stop : end ≡ 0 → n ≡ count_texts 255 s at
    unfolding count_texts
    counting_stop z = sym (v.same ∙ go (255 - n) (omega arith))
      where
        go : (k : ℕ) → 0 < k → n + count_texts k s i ≡ n
        go zero l = absurd (omega arith)
        go (suc k) l = let r = (end_none i e z).2 in rw r (omega arith)

    module _ (f : end ≡ 0 → ⊥) {q b : ℕ} (w : q ≡ space_at s end) (y : b ≡ get_or s q 0) where
      counted : (k : ℕ) → 255 - n ≡ suc k → count_texts 255 s at ≡ n + suc (pick (eqb (get_or s (space_at s end) 0) 0x2C) (count_texts k s (next_at s end)) 0)
      unfolding count_texts
      counted k d = let r = (end_shown i e f).1 in v.same ∙ rw (d, r)

      pub counting_last : (b ≡ 0x2C → ⊥) → n + 1 ≡ count_texts 255 s at
      counting_last z =
          let d : 255 - n ≡ suc (255 - n - 1) = omega arith in
          sym (counted (255 - n - 1) d ∙ rw (← w, ne_eqb (get_or s q 0) 0x2C (λ u. z (y ∙ u))))

      pub counting_again : {j : ℕ} → b ≡ 0x2C → j ≡ behind_at s q → Counting at j (n + 1)
      unfolding next_at
      counting_again {j} z t =
          let d : 255 - n ≡ suc (255 - (n + 1)) = omega arith in
          let k : count_texts 255 s at ≡ n + suc (count_texts (255 - (n + 1)) s j) = counted (255 - (n + 1)) d ∙ rw (← w, eq-eqb (get_or s q 0) 0x2C (sym y ∙ z), ← t) in
          record { same = k ∙ omega arith; few = omega arith }

  pub counting_all : {at i n : ℕ} → Counting at i n → 255 ≤ n → n ≡ count_texts 255 s at
  unfolding count_texts
  counting_all {at} {i} {n} v h = let d : 255 - n ≡ 0 = omega arith in sym (v.same ∙ rw d (omega arith))

  -- ---- what they write

  behind_there : (p b : ℕ) → get_or s p 0 ≡ b → 0 < b → behind_at s p ≡ space_at s (p + 1)
  unfolding behind_at
  behind_there p b e h = rw (lt-ltb p (length s) (byte_positive s p b b (sym e) refl h))

  -- texts that were read are counted right, written in strict form, and end where they were read to
  pub record TextsWritten (left at : ℕ) (l : Tag) (c : ℕ) : Type 0 where
    pub count : count_texts (suc left) s at ≡ length l
    pub text : texts_text (length l) s at ≡ pack_elements l
    pub end : json_texts_end (length l) s at ≡ space_at s c

  pub texts_written : {left at : ℕ} {l : Tag} {c : ℕ} → Took (text_at s) s left at l c → TextsWritten left at l c
  unfolding count_texts texts_text json_texts_end next_at
  texts_written (last {i = i} {e = e} {x = x} f b) =
      let g = text_string s i f in
      let n = behind_there (space_at s e) 0x5D b (omega arith) in
      record {
        count = rw (g.1, b);
        text = rw (g.1, g.2);
        end = rw (g.1, n);
      }
  texts_written (more {i = i} {e = e} {x = x} f b r) =
      let g = text_string s i f in
      let n = behind_there (space_at s e) 0x2C b (omega arith) in
      let u = texts_written r in
      record {
        count = rw (g.1, b, n) (ap suc u.count);
        text = rw (g.1, g.2, n) (ap (λ (l : List ℕ). pack_element x ++ l) u.text);
        end = rw (g.1, n) u.end;
      }

  -- a tag and those behind it
  one_tag : (at n : ℕ) {x : Tag} {e : ℕ} (ts : List Tag) → tag_at s at ≡ read x e → json_tags_text n s (behind_at s (space_at s e)) ≡ pack_tags ts
      → json_tags_text (suc n) s at ≡ pack_tags (x ∷ ts)
  unfolding json_tags_text json_tag_text
  one_tag at n {x} {e} ts f h =
      let g = tag_took s at f in
      let first = space_at s (at + 1) in
      let u = texts_written g.1 in
      let b : behind_at s at ≡ first = behind_there at 0x5B g.0 (omega arith) in
      rw (b, u.count, u.text, u.end, h) (ap (λ (l : List ℕ). l ++ pack_tags ts) (sym (tag_form x)))

  -- tags that were read are written in strict form
  pub tags_written : {left at : ℕ} {l : List Tag} {c : ℕ} → Took (tag_at s) s left at l c → json_tags_text (length l) s at ≡ pack_tags l
  tags_written (last {i = i} {e = e} f b) = one_tag i 0 [] f (tags_left_lem 0 (behind_at s (space_at s e)) (omega arith))
  tags_written (more {i = i} {e = e} {l = l} f b r) =
      one_tag i (length l) l f (rw (behind_there (space_at s e) 0x2C b (omega arith)) (tags_written r))

-- a string that was read says its text: a plain one is its own
pub said_text : (s : List ℕ) (at : ℕ) (x : Text) → PlainText s at x → said s x ≡ text_of s (text_spelled x)
said_text s at (text.Plain p) w = sym w.1
said_text s at (text.Other p) w = refl
