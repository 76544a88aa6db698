-- The strict form of the event that a form shows is what the second pass writes, all in front of the tags and the tags;
-- and what writing it answers and leaves. The pieces have the lengths that the input holds.
use Prim.Native.Nat.{ℕ, ◌+◌, ◌-◌, ◌≤◌, ◌<◌}
use mathlib.Core.Path.{◌≡◌, refl, sym, ap, ◌∙◌}
use mathlib.Core.Bool.{true}
use mathlib.Core.List.{List, ◌++◌, append_assoc}
use native.Mathlib.Omega.{arith}
use lib.ListN.{length, take, drop, length-drop, length-append}
use lib.Seq.{take_all}
use lib.Dec.{leb}
use borrow.Author.Tests.{le-leb}
use Rattle.std.proofs.Common.{Option, Some, None}
use Rattle.scan.specs.Choice.{shown, refused}
use Rattle.scan.proofs.Reading.{part_length}
use Rattle.buffer.specs.inner.Store.{Wrote}
use Rattle.buffer.specs.Entry.{writes, leaves}
use Rattle.buffer.proofs.EntryLaws.{short, fitted}
use Rattle.buffer.proofs.Laws.{then}
use Rattle.varint.specs.Uleb.{uleb}
use Rattle.event.specs.Event.{Event}
use Rattle.notepack.specs.Strict.{pack_tags, pack}
use Rattle.pointer.specs.Pointer.{entries_in}
use Rattle.pointer.specs.Entries.{within65536}
use Rattle.pointer.specs.Named.{part_named}
use Rattle.pointer.specs.inner.Again.{tags_from}
use Rattle.pointer.proofs.Again.{tags_count}
use Rattle.pointread.specs.inner.Answers.{Fields}
use Rattle.pointconvert.specs.inner.Again.{form_event, packed_front, Holds}
use Rattle.pointconvert.specs.inner.Fitting.{fitting}
use Rattle.pointconvert.proofs.Turns.{fits_so, fits_not, not_fits}

module _ (s : List ℕ) (o : Fields) (t : ℕ) where
  module _ (h : Holds s o) where
    content_long : length (take o.content.len (drop o.content.at s)) ≡ o.content.len
    content_long = part_length s o.content.at o.content.len (omega (arith, h.content))

    pub front_length : {a b c e : ℕ} → a ≡ length (uleb t) → b ≡ length (uleb o.kind) → c ≡ length (uleb o.content.len) → e ≡ length (uleb o.tag_count)
        → 128 + a + b + c + o.content.len + e ≡ length (packed_front s o t)
    unfolding packed_front
    front_length p q r u =
        let id = part_length s (length s - 96) 32 (omega (arith, h.least)) in
        let pubkey = part_length s 8 32 (omega (arith, h.least)) in
        let sig = part_length s (length s - 64) 64 (omega (arith, h.least)) in
        simp (length-append, id, pubkey, sig, content_long) (omega (arith, p, q, r, u))

    pack_cut : packed_front s o t ++ pack_tags (tags_from o.tag_count s (part_named s 64).at) ≡ pack (form_event s o t)
    unfolding packed_front pack form_event
    pack_cut =
        let last = drop (length s - 64) s in
        let sig = take_all 64 last (omega (arith, length-drop (length s - 64) s, h.least)) in
        rw (content_long, tags_count s o.tag_count (part_named s 64).at, sig) (simp append_assoc)

    -- the tags stand behind what is in front of them
    module _ {b : List ℕ} {at n : ℕ} (same : b ≡ s) (place : at ≡ (part_named s 64).at) (count : n ≡ entries_in (part_named s 64)) where
      abbrev tags : List ℕ
      tags = pack_tags (tags_from n b at)

      event_cut : packed_front s o t ++ tags ≡ pack (form_event s o t)
      event_cut = let n : n ≡ o.tag_count = count ∙ sym h.tags in rw (same, place, n) pack_cut

      whole : length (packed_front s o t) + length tags ≡ length (pack (form_event s o t))
      whole = omega (arith, ap length event_cut, length-append (packed_front s o t) tags)

    -- all in front of the tags is too long
    pub front_long : {f : ℕ} {r : Option ℕ} → f ≡ length (packed_front s o t) → None ≡ fitting f → r ≡ None → r ≡ fitting (length (pack (form_event s o t)))
    front_long e l n = not_fits n (omega (arith, e, fits_not l, whole {b = s} {at = (part_named s 64).at} {n = entries_in (part_named s 64)} refl refl refl))

-- what was written is the event; what was measured is its length
module _ {s b : List ℕ} {o : Fields} (t : ℕ) {at n : ℕ} where
  pub event_wrote : {d d₁ d₂ : List ℕ} {a r : ℕ}
      → Wrote d₁ a (pack_tags (tags_from n b at)) d₂ r → Wrote d 0 (packed_front s o t) d₁ a
      → b ≡ s → at ≡ (part_named s 64).at → n ≡ entries_in (part_named s 64) → Holds s o
      → Wrote d 0 (pack (form_event s o t)) d₂ r
  event_wrote w v same place count h = rw (← event_cut s o t h same place count) (then v w)

  pub event_measured : {f g : ℕ} {r : Option ℕ}
      → r ≡ fitting (f + length (pack_tags (tags_from n b at))) → Some f ≡ fitting g → g ≡ length (packed_front s o t)
      → b ≡ s → at ≡ (part_named s 64).at → n ≡ entries_in (part_named s 64) → Holds s o
      → r ≡ fitting (length (pack (form_event s o t)))
  event_measured m l e same place count h = let f = (fits_so l).0 ∙ e in rw (sym (whole s o t h same place count), sym f) m

-- ---- the answer, and what is left in the buffer

module _ (e : Event) (d : List ℕ) {n : ℕ} where
  within : Some n ≡ fitting (length (pack e)) → leb (length (pack e)) 65_536 ≡ true
  within size = let f = fits_so size in le-leb (length (pack e)) 65_536 (omega (arith, f.0, f.1))

  pub short_value : length d < n → Some n ≡ fitting (length (pack e)) → refused 11 n ≡ writes pack (within65536 pack (shown e)) d
  short_value l size = rw (within size) (short (pack e) d (fits_so size).0 l).0

  pub short_after : length d < n → Some n ≡ fitting (length (pack e)) → d ≡ leaves pack (within65536 pack (shown e)) d
  short_after l size = rw (within size) (short (pack e) d (fits_so size).0 l).1

  pub fitted_value : {d' : List ℕ} {r : ℕ} → Wrote d 0 (pack e) d' r → n ≤ length d → Some n ≡ fitting (length (pack e)) → shown r ≡ writes pack (within65536 pack (shown e)) d
  fitted_value w room size = rw (within size) (fitted (fits_so size).0 room w).0

  pub fitted_after : {d' : List ℕ} {r : ℕ} → Wrote d 0 (pack e) d' r → n ≤ length d → Some n ≡ fitting (length (pack e)) → d' ≡ leaves pack (within65536 pack (shown e)) d
  fitted_after w room size = rw (within size) (fitted (fits_so size).0 room w).1

pub ruleset measured = (front_long, event_measured)
