-- The pieces that the writer puts together are the event's NSON; and how long it is.
-- Rearranging and counting.
use Prim.Native.Nat.{ℕ, ◌+◌, ◌*◌}
use mathlib.Core.Path.{◌≡◌, ◌∙◌, subst}
use mathlib.Core.List.{List, [], ◌∷◌, ◌++◌, map, append_assoc}
use native.Mathlib.Omega.{arith}
use lib.ListN.{length, length-append}
use Rattle.scan.specs.Ascii.{ascii}
use Rattle.buffer.specs.inner.Store.{Wrote}
use Rattle.hexdigits.specs.Hex.{hexes}
use Rattle.hexdigits.proofs.Texts.{length_hexes}
use Rattle.decimal.specs.Decimal.{decimal}
use Rattle.escape.specs.Escape.{nson_byte, escaped}
use Rattle.event.specs.Event.{Event, Valid}
use Rattle.jsontags.specs.TagText.{commaed, tag_text, tags_text}
use Rattle.nson.specs.Nson.{id_label, pubkey_label, sig_label, time_label, nson_label, kind_label, content_label, tags_label, escaped_size, counts, descriptors, nson_field, head_text, body_text, nson}
use Rattle.nsonwrite.specs.inner.Measure.{texts_length}

-- the writer has the brackets of the tags with what stands beside them
brackets : (x label before tags behind end : List ℕ) → x ++ (label ++ before) ++ tags ++ (behind ++ end) ≡ x ++ label ++ (before ++ (tags ++ behind)) ++ end
brackets x label before tags behind end = simp append_assoc

-- the pieces' lengths, of any texts in their places and any size byte
pieces : (id key sig time : List ℕ) (size : ℕ) (d kind content tags : List ℕ)
    → length (id_label ++ hexes id ++ pubkey_label ++ hexes key ++ sig_label ++ hexes sig ++ time_label ++ time ++ nson_label ++ hexes (size ∷ d) ++ (kind_label ++ kind ++ content_label ++ content ++ tags_label ++ (0x5B ∷ (tags ++ (0x5D ∷ []))) ++ (ascii "}")))
    ≡ 87 + 2 * length id + 2 * length key + 2 * length sig + length time + 2 * length d + length kind + length content + length tags
pieces id key sig time size d kind content tags = simp (length-append, length_hexes) (omega arith)

module _ (e : Event) where
  pub body_wrote : {d : List ℕ} {at : ℕ} {d' : List ℕ} {r : ℕ}
      → Wrote d at (kind_label ++ decimal e.kind ++ content_label ++ escaped nson_byte e.content ++ (tags_label ++ (0x5B ∷ [])) ++ commaed (map (tag_text nson_byte) e.tags) ++ (0x5D ∷ (ascii "}"))) d' r
      → Wrote d at (body_text e) d' r
  unfolding body_text tags_text
  body_wrote {d} {at} {d'} {r} w =
      let x = kind_label ++ decimal e.kind ++ content_label ++ escaped nson_byte e.content in
      subst (λ (l : List ℕ). Wrote d at l d' r) (brackets x tags_label (0x5B ∷ []) (commaed (map (tag_text nson_byte) e.tags)) (0x5D ∷ []) (ascii "}")) w

  -- as long as is measured: two digits for each byte of the descriptors
  pub nson_length : Valid e
      → length (nson e) ≡ 343 + length (decimal e.created_at) + 2 * length (descriptors (counts e)) + length (decimal e.kind) + texts_length e
  unfolding nson head_text nson_field body_text tags_text texts_length escaped_size
  nson_length v =
      pieces e.id e.pubkey e.sig (decimal e.created_at) (2 * length (descriptors (counts e))) (descriptors (counts e)) (decimal e.kind) (escaped nson_byte e.content) (commaed (map (tag_text nson_byte) e.tags))
      ∙ omega (arith, v.id32.count, v.pubkey32.count, v.sig64.count)
