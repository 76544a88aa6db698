-- The strict question and the strict writer, over the walk of an input: what they answer and what is written.
-- By how the input stands to its strict form, and by the event that is gone over again.
use Prim.Native.Nat.{ℕ, ◌≤◌, ◌<◌}
use mathlib.Core.Path.{◌≡◌, refl, sym, ap, ◌∙◌, subst}
use mathlib.Core.Bool.{true, false, not}
use mathlib.Core.List.{List, ◌∷◌, ◌++◌, append_assoc}
use mathlib.Core.Logic.{◌↔◌}
use native.Mathlib.Omega.{arith}
use lib.ListN.{length, take, drop}
use lib.Seq.{take-add, drop-drop}
use lib.Dec.{eqb}
use borrow.Author.Tests.{eq-eqb, ne_eqb}
use Rattle.scan.specs.Choice.{pick, Answer, shown, refused, and_then}
use Rattle.scan.specs.Compare.{same_bytes}
use Rattle.scan.proofs.CompareLaws.{same_same, bytes_same}
use Rattle.buffer.specs.inner.Store.{Wrote}
use Rattle.buffer.specs.Entry.{writes, leaves}
use Rattle.buffer.proofs.EntryLaws.{short, fitted}
use Rattle.varint.specs.Uleb.{uleb}
use Rattle.event.specs.Event.{Tag, Event}
use Rattle.notepack.specs.Strict.{pack_elements, pack_tag, pack_tags, pack}
use Rattle.notepack.specs.Unpack.{unpack}
use Rattle.notepack.specs.inner.Again.{texts_again, event_again}
use Rattle.notepack.specs.inner.Answers.{Walked, walk_at}
use Rattle.notepack.proofs.Piece.{piece_decides}
use Rattle.notepack.proofs.Lengths.{tag_form}
use Rattle.notepack.proofs.Walking.{walk_refuses}
use Rattle.notepack.proofs.Again.{texts_count, tags_count, Accepted}
use Rattle.strict.specs.Strict.{strict}
use Rattle.strict.specs.inner.Copy.{packed_head, packed_pieces}

-- ---- the strict question

module _ (s : List ℕ) (w : Walked) (g : Accepted s w) where
  strict_shown : strict s ≡ shown (pick (eqb w.tally.len (length s)) (not w.tally.hollow) false)
  unfolding strict
  strict_shown =
      rw (g.shows, piece_decides g.piece) (ap (λ (n : ℕ). shown (pick (eqb n (length s)) (not w.tally.hollow) false)) (sym g.len))

  -- as long as the strict form, with no hollow element
  pub strict_so : w.tally.len ≡ length s → shown (not w.tally.hollow) ≡ strict s
  strict_so n = sym (strict_shown ∙ rw (eq-eqb w.tally.len (length s) n))

  -- longer than the strict form
  pub strict_not : (w.tally.len ≡ length s → ⊥) → shown (eqb w.tally.len (length s)) ≡ strict s
  strict_not n = sym (strict_shown ∙ rw (ne_eqb w.tally.len (length s) n))

pub strict_refused : (s : List ℕ) (n q : ℕ) → refused n q ≡ walk_at s → refused n q ≡ strict s
unfolding strict
strict_refused s n q e = rw (walk_refuses s n q (sym e))

-- ---- the writer

ids : (s : List ℕ) → take 128 s ≡ take 32 s ++ (take 32 (drop 32 s) ++ take 64 (drop 64 s))
ids s = take-add 32 96 s ∙ ap (λ (l : List ℕ). take 32 s ++ l) (take-add 32 64 (drop 32 s) ∙ ap (λ (l : List ℕ). take 32 (drop 32 s) ++ take 64 l) (drop-drop 32 32 s))

-- a tag more: its count and its elements
pub tag_more : (s : List ℕ) (n at : ℕ) {tags l : List Tag} → tags ≡ texts_again n s at ∷ l → pack_tags tags ≡ uleb n ++ (pack_elements (texts_again n s at) ++ pack_tags l)
tag_more s n at {l = l} e =
    let ts = texts_again n s at in
    let f : pack_tag ts ≡ uleb n ++ pack_elements ts = tag_form ts ∙ rw (texts_count s n at) in
    ap pack_tags e ∙ ap (λ (x : List ℕ). x ++ pack_tags l) f ∙ append_assoc (uleb n) (pack_elements ts) (pack_tags l)

module _ (s : List ℕ) (w : Walked) (g : Accepted s w) where
  -- what stands in front of the tags and the tags make the strict form
  pub pack_written : packed_pieces s w.head ≡ pack (event_again s w.head)
  unfolding packed_pieces packed_head pack event_again
  pack_written = rw (ids s, tags_count s w.head.tag_count w.head.tags_at, g.size, g.plain) (simp append_assoc)

  module _ {d d' : List ℕ} {r : ℕ} where
    -- bytes that are strict already, copied whole
    pub copied_whole : w.tally.len ≡ length s → w.tally.hollow ≡ false → Wrote d 0 s d' r → Wrote d 0 (pack (event_again s w.head)) d' r
    copied_whole n k v = subst (λ (l : List ℕ). Wrote d 0 l d' r) (g.piece.same (sym g.len ∙ n) k) v

    -- what stands in front of the tags, and then the tags
    pub copied_pieces : Wrote d 0 (packed_pieces s w.head) d' r → Wrote d 0 (pack (event_again s w.head)) d' r
    copied_pieces v = subst (λ (l : List ℕ). Wrote d 0 l d' r) pack_written v

  -- ---- the entry: its answer and what it leaves

  module _ (d : List ℕ) where
    pub write_short : length d < w.tally.len → (refused 11 w.tally.len ≡ writes pack (unpack s) d) × (d ≡ leaves pack (unpack s) d)
    write_short l = let f = short (pack (event_again s w.head)) d g.len l in (rw g.shows f.0, rw g.shows f.1)

    pub write_fitted : {d' : List ℕ} {n : ℕ} → w.tally.len ≤ length d → Wrote d 0 (pack (event_again s w.head)) d' n
        → (shown n ≡ writes pack (unpack s) d) × (d' ≡ leaves pack (unpack s) d)
    write_fitted l v = let f = fitted g.len l v in (rw g.shows f.0, rw g.shows f.1)

-- the reader's refusal is told, and the buffer is left as it was
pub refusal_told : (s d : List ℕ) (n q : ℕ) → refused n q ≡ walk_at s → (refused n q ≡ writes pack (unpack s) d) × (d ≡ leaves pack (unpack s) d)
refusal_told s d n q e = let f = walk_refuses s n q (sym e) in (rw f, rw f)

-- ---- the theorem

-- Bytes are strict exactly if they are the strict form of the event that they show.
pub strict_exactly : (s : List ℕ) → (strict s ≡ shown true) ↔ ((e : Event) × (unpack s ≡ shown e) × (s ≡ pack e))
unfolding strict
strict_exactly s = (λ h. there (unpack s) refl h, λ p. back p.0 p.1 p.2)
  where
    there : (r : Answer Event) → unpack s ≡ r → and_then r (λ (e : Event). shown (same_bytes s (pack e))) ≡ shown true → (e : Event) × (unpack s ≡ shown e) × (s ≡ pack e)
    there (shown e) u h = let t : same_bytes s (pack e) ≡ true = cc in (e, u, bytes_same s (pack e) t)
    there (refused n q) u h = let z : ◌≡◌ {A = ℕ} 0 1 = cc in absurd (omega arith)

    back : (e : Event) → unpack s ≡ shown e → s ≡ pack e → and_then (unpack s) (λ (x : Event). shown (same_bytes s (pack x))) ≡ shown true
    back e u q = rw u (ap shown (ap (λ (l : List ℕ). same_bytes l (pack e)) q ∙ same_same (pack e)))
