-- The data and all in front of it, as they are written of a packed event; and what the entry answers and leaves.
-- What was measured stands for what it is; the event is gone over again.
use Prim.Native.Nat.{ℕ, ◌+◌, ◌*◌, ◌≤◌, ◌<◌}
use mathlib.Core.Path.{◌≡◌, refl, sym, subst}
use mathlib.Core.List.{List, ◌++◌}
use native.Mathlib.Omega.{arith}
use lib.ListN.{length, take, drop}
use borrow.Author.Tests.{le-leb, lt-leb}
use Rattle.scan.specs.Choice.{Answer, shown, refused}
use Rattle.scan.specs.Bytes.{IsBytes}
use Rattle.buffer.specs.inner.Store.{Wrote}
use Rattle.buffer.specs.Entry.{writes, leaves}
use Rattle.buffer.proofs.EntryLaws.{short, fitted}
use Rattle.moment.specs.Moment.{millis_of}
use Rattle.event.specs.Event.{Event}
use Rattle.notepack.specs.declared.Head.{Head}
use Rattle.notepack.specs.Unpack.{text_of, unpack}
use Rattle.notepack.specs.inner.Again.{tags_again, event_again}
use Rattle.notepack.specs.inner.Answers.{Walked, walk_at}
use Rattle.notepack.proofs.Walking.{walk_refuses}
use Rattle.notepack.proofs.Again.{tags_count, Accepted, accepted}
use Rattle.pointer.specs.Layout.{pointer, word}
use Rattle.pointer.specs.Written.{padded_text, tag_pieces, tag_pointers, pointer_data, pointer_form}
use Rattle.pointer.specs.Entries.{within65536}
use Rattle.pointwrite.specs.inner.Pieces.{tags_size, data_length, form_front}
use Rattle.pointwrite.proofs.Lengths.{form_cut, form_length}

-- ---- what is written

module _ (s : List ℕ) (h : Head) where
  -- the content, the table of tags and the tags
  pub data_parts : length (padded_text (text_of s h.content)) + 8 * h.tag_count + tags_size (tags_again h.tag_count s h.tags_at)
      ≡ data_length (event_again s h)
  unfolding data_length event_again
  data_parts = rw (tags_count s h.tag_count h.tags_at)

  module _ {d : List ℕ} {at : ℕ} {d' : List ℕ} {r k : ℕ} (padded : k ≡ length (padded_text (text_of s h.content))) where
    pub front_wrote : {len n t : ℕ} → len ≡ data_length (event_again s h) → n ≡ length (text_of s h.content) → t ≡ millis_of h.created_at
        → Wrote d at
        (word (72 + len)
        ++ (take 32 (drop 32 s)
        ++ (word h.kind ++ (word t ++ (word (pointer 0 n) ++ word (pointer k (8 * h.tag_count)))))))
        d'
        r
        → Wrote d at (form_front (event_again s h)) d' r
    unfolding form_front event_again
    front_wrote e f g w = rw (tags_count s h.tag_count h.tags_at, ← e, ← f, ← g, ← padded) w

    pub data_wrote : Wrote d at
        (padded_text (text_of s h.content)
        ++ (tag_pointers (k + 8 * h.tag_count) (tags_again h.tag_count s h.tags_at)
        ++ tag_pieces (k + 8 * h.tag_count) (tags_again h.tag_count s h.tags_at)))
        d'
        r
        → Wrote d at (pointer_data (event_again s h)) d' r
    unfolding pointer_data event_again
    data_wrote w = rw (tags_count s h.tag_count h.tags_at, ← padded) w

  pub form_wrote : {d : List ℕ} {at : ℕ} {d' : List ℕ} {r : ℕ}
      → Wrote d at (form_front (event_again s h) ++ (pointer_data (event_again s h) ++ (take 32 s ++ take 64 (drop 64 s)))) d' r
      → Wrote d at (pointer_form (event_again s h)) d' r
  unfolding event_again
  form_wrote {d} {at} {d'} {r} w = subst (λ (l : List ℕ). Wrote d at l d' r) (form_cut (event_again s h)) w

-- ---- the entry: its answer and what it leaves

abbrev Answers : List ℕ → List ℕ → Answer ℕ → List ℕ → Type 0
Answers s d r d' =
    (r ≡ writes pointer_form (within65536 pointer_form (unpack s)) d) × (d' ≡ leaves pointer_form (within65536 pointer_form (unpack s)) d)

module _ (s : List ℕ) (d : List ℕ) where
  pub write_refused : (n q : ℕ) → refused n q ≡ walk_at s → Answers s d (refused n q) d
  write_refused n q e = let u = walk_refuses s n q (sym e) in (rw u, rw u)

  module _ (bytes : IsBytes s) {w : Walked} (walked : shown w ≡ walk_at s) {n : ℕ} (measured : n ≡ data_length (event_again s w.head)) where
    abbrev pub e : Event
    e = event_again s w.head

    event : Accepted s w
    event = accepted s bytes w (shown w) walked refl

    long : 168 + n ≡ length (pointer_form e)
    long = omega (arith, measured, form_length e event.sound.valid)

    pub write_long : 65_536 < 168 + n → Answers s d (refused 29 0) d
    write_long h = let u = lt-leb (length (pointer_form e)) 65_536 (omega (arith, long)) in (rw (event.shows, u), rw (event.shows, u))

    module _ (h : 168 + n ≤ 65_536) where
      pub write_short : length d < 168 + n → Answers s d (refused 11 (168 + n)) d
      write_short l =
          let u = le-leb (length (pointer_form e)) 65_536 (omega (arith, long)) in
          let f = short (pointer_form e) d long l in
          (rw (event.shows, u) f.0, rw (event.shows, u) f.1)

      pub write_fitted : {d' : List ℕ} {o : ℕ} → 168 + n ≤ length d → Wrote d 0 (pointer_form e) d' o → Answers s d (shown o) d'
      write_fitted l w =
          let u = le-leb (length (pointer_form e)) 65_536 (omega (arith, long)) in
          let f = fitted long l w in
          (rw (event.shows, u) f.0, rw (event.shows, u) f.1)
