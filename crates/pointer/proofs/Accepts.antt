-- Whatever lays out a valid event within the limit is read as that event: each definition meets the piece that the
-- layout puts there.
-- By cutting the input at each `++`; the pieces in front of the data stand at fixed places.
use Prim.Native.Nat.{ℕ, ◌+◌, ◌-◌, ◌≤◌}
use mathlib.Core.Path.{◌≡◌, refl, ap, ◌∙◌}
use mathlib.Core.List.{List, ◌++◌, append-nil, map}
use native.Mathlib.Omega.{arith}
use lib.ListN.{length, take, drop}
use lib.Seq.{drop-length}
use borrow.Author.Tests.{le-leb, eq-eqb}
use Rattle.scan.specs.Choice.{shown, read}
use Rattle.scan.specs.inner.Span.{Span}
use Rattle.scan.proofs.SpanLaws.{cut_at, span_length, part_of_span, from_span, input_span}
use Rattle.moment.specs.Moment.{millis_of}
use Rattle.event.specs.Event.{Event, Valid}
use Rattle.event.proofs.Laws.{all_seven}
use Rattle.notepack.specs.declared.Part.{Part}
use Rattle.notepack.specs.Unpack.{bytes_of}
use Rattle.pointer.specs.Pointer.{word_at, lower, version_in, reserved_in, is_header, header_at, kind_at, millis_at, second_at, time_at, pointed_text_at, pointed_tags_at, form_at, pointed_event, pointer_event}
use Rattle.pointer.specs.Layout.{word, LaysPointer}
use Rattle.pointer.proofs.Words.{length_word, word_found}
use Rattle.pointer.proofs.Times.{millis_second, millis_fit}
use Rattle.pointer.proofs.Naming.{names_length}
use Rattle.pointer.proofs.Complete.{text_full, all_tags_full}

module _ (s : List ℕ) where
  -- a header of a v0 with n bytes of data
  header_full : (n : ℕ) → word_at s 0 ≡ 72 + n → length s ≡ n + 168 → length s ≤ 65_536 → header_at s ≡ shown 0
  unfolding header_at is_header
  header_full n e long short =
      let r : reserved_in (72 + n) ≡ 0 = omega arith in
      let v : version_in (72 + n) ≡ 0 = omega arith in
      let l : lower (72 + n) ≡ 72 + n = omega arith in
      rw (
        le-leb (length s) 65_536 short,
        e,
        r,
        v,
        l,
        le-leb 72 (72 + n) (omega arith),
        eq-eqb (72 + n + 96) (length s) (omega arith),
      )

  kind_full : (k : ℕ) → word_at s 40 ≡ k → k ≤ 65_535 → kind_at 0 s ≡ shown k
  unfolding kind_at
  kind_full k e h = rw (e, le-leb k 65_535 h)

  second_full : (t : ℕ) → word_at s 48 ≡ millis_of t → t ≤ 9_223_372_036_854_775 → second_at s ≡ shown t
  unfolding second_at
  second_full t e h = rw (e, millis_second t h)

  time_full : (t : ℕ) → word_at s 48 ≡ millis_of t → t ≤ 9_223_372_036_854_775 → time_at 0 s ≡ shown (millis_at s)
  unfolding time_at
  time_full t e h = rw (second_full t e h)

  -- a v0 whose fields are all read, and are an event's
  form_full : (e : Event) (c : Part) (ts : List (List Part)) → header_at s ≡ shown 0 → kind_at 0 s ≡ shown e.kind → time_at 0 s ≡ shown (millis_at s)
      → second_at s ≡ shown e.created_at → pointed_text_at 0 s 56 ≡ read c 64 → pointed_tags_at 0 s ≡ shown ts → take 32 (drop (length s - 96) s) ≡ e.id
      → take 32 (drop 8 s) ≡ e.pubkey → drop (length s - 64) s ≡ e.sig → map (map (bytes_of s)) ts ≡ e.tags → bytes_of s c ≡ e.content
      → pointer_event s ≡ shown e
  unfolding pointer_event form_at pointed_event
  form_full e c ts h k f t u v id pubkey sig tags content = rw (h, k, f, u, v, t) (ap shown (all_seven id pubkey sig refl refl tags content))

  complete_span : {e : Event} {l : List ℕ} → LaysPointer e l → Valid e → Span s 0 l (length s) → length s ≤ 65_536 → pointer_event s ≡ shown e
  complete_span {e} (LaysPointer.lays {dat = dat} {content = content} {tags = tags} n m g) v r short =
      let r0 = cut_at (word (72 + length dat)) 8 (length_word (72 + length dat)) r in
      let r1 = cut_at e.pubkey 32 v.pubkey32.count r0.1 in
      let r2 = cut_at (word e.kind) 8 (length_word e.kind) r1.1 in
      let r3 = cut_at (word (millis_of e.created_at)) 8 (length_word (millis_of e.created_at)) r2.1 in
      let r4 = cut_at content 8 (names_length n) r3.1 in
      let r5 = cut_at tags 8 (names_length m) r4.1 in
      let r6 = cut_at dat (length dat) refl r5.1 in
      let r7 = cut_at e.id 32 v.id32.count r6.1 in
      let end = span_length r7.1 in
      let long : length s ≡ length dat + 168 = omega (arith, end, v.sig64.count) in
      let ids : 72 + length dat ≡ length s - 96 = omega arith in
      let sigs : 72 + length dat + 32 ≡ length s - 64 = omega arith in
      let d : Span s 72 dat (length s - 96) = rw ids at r6.0 in
      let c = text_full short d n v.text r4.0 in
      let ts = all_tags_full short d m g v.each v.few r5.0 in
      let w = (word_found s (72 + length dat) (omega arith) r0.0).0 in
      let k = (word_found s e.kind (omega (arith, v.kind16)) r2.0).0 in
      let t = (word_found s (millis_of e.created_at) (millis_fit e.created_at v.time) r3.0).0 in
      let id : take 32 (drop (length s - 96) s) ≡ e.id = rw ids at (part_of_span 32 v.id32.count r7.0) in
      let sig : drop (length s - 64) s ≡ e.sig =
      rw sigs at (from_span r7.1) ∙ ap (λ (x : List ℕ). e.sig ++ x) (drop-length s) ∙ append-nil e.sig in
      form_full e c.0 ts.0
      (header_full (length dat) w long short)
      (kind_full e.kind k v.kind16)
      (time_full e.created_at t v.time)
      (second_full e.created_at t v.time)
      c.1
      ts.1
      id
      (part_of_span 32 v.pubkey32.count r1.0)
      sig
      ts.2
      c.2

-- Complete: whatever lays out a valid event within the limit is read as that event.
pub complete : (s : List ℕ) (e : Event) → LaysPointer e s → Valid e → length s ≤ 65_536 → pointer_event s ≡ shown e
complete s e g v short = complete_span s g v (input_span s) short
