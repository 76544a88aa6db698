-- The text that the writer puts together is the canonical text of the event that is gone over again; how long it can
-- be;
-- and what the entry answers and leaves. Rearranging and counting.
use Prim.Native.Nat.{ℕ, ◌+◌, ◌*◌, ◌≤◌, ◌<◌}
use mathlib.Core.Path.{◌≡◌, refl, sym, subst}
use mathlib.Core.Bool.{true}
use mathlib.Core.List.{List, [], ◌∷◌, ◌++◌, map, append_assoc}
use native.Mathlib.Omega.{arith}
use lib.ListN.{length, length-append}
use Rattle.scan.specs.Choice.{shown, refused}
use Rattle.scan.specs.Bytes.{IsBytes}
use Rattle.buffer.specs.inner.Store.{Wrote}
use Rattle.buffer.specs.Entry.{writes, leaves}
use Rattle.buffer.proofs.EntryLaws.{short, fitted}
use Rattle.decimal.specs.Decimal.{decimal}
use Rattle.decimal.proofs.Spelling.{length_u64}
use Rattle.escape.specs.declared.Escaping.TheVariants.{Canonical}
use Rattle.escape.specs.Escape.{canonical_byte}
use Rattle.escape.proofs.TextLaws.{growth_most}
use Rattle.event.specs.Event.{Event, Valid}
use Rattle.notepack.specs.declared.Head.{Head}
use Rattle.notepack.specs.Strict.{pack_tags, pack}
use Rattle.notepack.specs.Unpack.{part_of, text_of, unpack}
use Rattle.notepack.specs.inner.Again.{tags_again, event_again}
use Rattle.notepack.specs.inner.Answers.{Walked, walk_at}
use Rattle.notepack.proofs.Sound.{sound}
use Rattle.notepack.proofs.Walking.{walk_refuses}
use Rattle.notepack.proofs.Again.{Accepted, accepted}
use Rattle.jsontags.specs.TagText.{quoted, commaed, tag_text, tags_text}
use Rattle.jsontags.proofs.Texts.{length_array}
use Rattle.jsontags.proofs.Room.{arrays_room}
use Rattle.canonical.specs.Canonical.{canonical}
use Rattle.canonical.specs.inner.Opening.{opening}
use Rattle.canonical.proofs.Texts.{length_canonical}

-- the writer's pieces in a row are the text
row : (e : Event) → opening e ++ commaed (map (tag_text canonical_byte) e.tags) ++ (0x5D ∷ 0x2C ∷ []) ++ quoted canonical_byte e.content ++ (0x5D ∷ []) ≡ canonical e
unfolding opening canonical tags_text
row e = simp append_assoc

module _ (s : List ℕ) (h : Head) where
  pub row_wrote : {d : List ℕ} {at : ℕ} {d' : List ℕ} {r : ℕ}
      → Wrote d at (opening (event_again s h) ++ commaed (map (tag_text canonical_byte) (tags_again h.tag_count s h.tags_at)) ++ (0x5D ∷ 0x2C ∷ []) ++ quoted canonical_byte (text_of s h.content) ++ (0x5D ∷ [])) d' r
      → Wrote d at (canonical (event_again s h)) d' r
  unfolding event_again
  row_wrote {d} {at} {d'} {r} w = subst (λ (l : List ℕ). Wrote d at l d' r) (row (event_again s h)) w

  -- the length of the text, piece by piece
  pub row_length : length (canonical (event_again s h))
      ≡ 10 + length (quoted canonical_byte (text_of s (part_of 32 32 true))) + length (decimal h.created_at) + length (decimal h.kind) + length (commaed (map (tag_text canonical_byte) (tags_again h.tag_count s h.tags_at))) + length (quoted canonical_byte (text_of s h.content))
  unfolding canonical event_again text_of tags_text
  row_length = simp length-append (omega arith)

-- the strict form has at least the keys, the content and the tags
length_pack : (e : Event) → length e.id + length e.pubkey + length e.sig + length e.content + length (pack_tags e.tags) ≤ length (pack e)
unfolding pack
length_pack e = simp length-append (omega arith)

-- at most three times the strict form: id and sig have room for the fixed bytes and the numbers
canonical_room : (e : Event) → Valid e → length (canonical e) ≤ 3 * length (pack e)
unfolding tags_text
canonical_room e v =
    omega (
      arith,
      length_canonical e v.pubkey32.each,
      length_u64 e.created_at (let w = v.time in omega arith),
      length_u64 e.kind (let w = v.kind16 in omega arith),
      length_array (map (tag_text canonical_byte) e.tags),
      arrays_room Canonical e.tags,
      growth_most Canonical e.content,
      v.id32.count,
      v.pubkey32.count,
      v.sig64.count,
      length_pack e,
    )

-- three times the packed length is always room enough
pub canonical_most : (s : List ℕ) → IsBytes s → (e : Event) → unpack s ≡ shown e → length (canonical e) ≤ 3 * length s
canonical_most s bytes e u = let g = sound s bytes e u in omega (arith, canonical_room e g.valid, g.least)

-- ---- the entry: its answer and what it leaves

module _ (s : List ℕ) (d : List ℕ) where
  pub write_refused : (n q : ℕ) → refused n q ≡ walk_at s → (refused n q ≡ writes canonical (unpack s) d) × (d ≡ leaves canonical (unpack s) d)
  write_refused n q e = let u = walk_refuses s n q (sym e) in (rw u, rw u)

  module _ (bytes : IsBytes s) {w : Walked} (walked : shown w ≡ walk_at s) where
    event : Accepted s w
    event = accepted s bytes w (shown w) walked refl

    pub write_short : {n : ℕ} → n ≡ length (canonical (event_again s w.head)) → length d < n
        → (refused 11 n ≡ writes canonical (unpack s) d) × (d ≡ leaves canonical (unpack s) d)
    write_short m l = let f = short (canonical (event_again s w.head)) d m l in (rw event.shows f.0, rw event.shows f.1)

    pub write_fitted : {n : ℕ} {d' : List ℕ} {r : ℕ} → n ≡ length (canonical (event_again s w.head)) → n ≤ length d → Wrote d 0 (canonical (event_again s w.head)) d' r
        → (shown r ≡ writes canonical (unpack s) d) × (d' ≡ leaves canonical (unpack s) d)
    write_fitted m l v = let f = fitted m l v in (rw event.shows f.0, rw event.shows f.1)

    -- room by the bound
    pub write_wide : {d' : List ℕ} {r : ℕ} → 3 * length s ≤ length d → Wrote d 0 (canonical (event_again s w.head)) d' r
        → (shown r ≡ writes canonical (unpack s) d) × (d' ≡ leaves canonical (unpack s) d)
    write_wide l v = write_fitted refl (omega (arith, canonical_room (event_again s w.head) event.sound.valid, event.sound.least)) v
