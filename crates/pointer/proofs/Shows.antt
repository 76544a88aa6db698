-- What is read of a v0 is laid out by the input and valid.
-- The input is its pieces one after the other; each word is the number that its field is.
use Prim.{Unit, tt}
use Prim.Native.Nat.{ℕ, ◌+◌, ◌-◌, ◌≤◌}
use mathlib.Core.Path.{◌≡◌, refl, sym, ap, ◌∙◌, subst}
use mathlib.Core.List.{List, [], ◌++◌, append-nil}
use native.Mathlib.Omega.{arith}
use lib.ListN.{length, take, drop, length-drop}
use lib.Dec.{leb, eqb}
use borrow.Author.Tests.{leb-true, eqb-true}
use Rattle.scan.specs.Choice.{Answer, shown, refused, and_then}
use Rattle.scan.specs.Bytes.{IsBytes}
use Rattle.scan.specs.inner.Span.{Span}
use Rattle.scan.proofs.AllLaws.{all_take, all_drop}
use Rattle.scan.proofs.SpanLaws.{join, to_span, whole_span}
use Rattle.scan.proofs.Reading.{part_span, part_length, Gives, gives, lacks, shown_gives, pick_gives, then_gives}
use Rattle.scan.proofs.Many.{after, pick_shown, shown_same}
use Rattle.utf8.specs.Utf8.{Utf8}
use Rattle.utf8.proofs.Laws.{is_utf8_lem}
use Rattle.moment.specs.Moment.{Second, whole, split, signed_of, millis_of, seconds_of}
use Rattle.event.specs.Event.{Event, Valid}
use Rattle.notepack.specs.Unpack.{bytes_of}
use Rattle.pointer.specs.Pointer.{word_at, data_size, header_at, kind_at, second_told, second_at, time_at, Form, form_at, pointed_event, pointer_event}
use Rattle.pointer.specs.Layout.{word, Names, LaysPointer}
use Rattle.pointer.specs.inner.Data.{data_in}
use Rattle.pointer.proofs.Pieces.{Headed, header_gives, text_gives}
use Rattle.pointer.proofs.Words.{word_span}
use Rattle.pointer.proofs.Times.{second_millis}
use Rattle.pointer.proofs.Naming.{data_length_lem}
use Rattle.pointer.proofs.Sound.{pointed_names, AllTags, all_tags_give}

-- the second that was told is the one that the word says
pub second_told_lem : (x : Second) (t : ℕ) → second_told x ≡ shown t → x ≡ whole t
second_told_lem (whole n) t e = ap whole (shown_same e)
second_told_lem split t e = let z : ◌≡◌ {A = ℕ} 0 1 = cc in absurd (omega arith)

-- a value of which nothing is asked
something : {A : Type 0} (r : Answer A) → Gives (λ (a : A). Unit {0}) r
something (shown a) = gives tt
something (refused n p) = lacks

module _ (s : List ℕ) (bytes : IsBytes s) where
  -- the rest of the input is a span
  rest_span : (a : ℕ) → a ≤ length s → Span s a (drop a s) (length s)
  rest_span a h =
      let e : a + length (drop a s) ≡ length s = omega (arith, length-drop a s) in
      rw e at (to_span s (drop a s) [] a (sym (append-nil (drop a s))))

  -- a word that is known
  known : (at w : ℕ) → word_at s at ≡ w → at + 8 ≤ length s → Span s at (word w) (at + 8)
  known at w e h = rw e at (word_span s bytes at h)

  -- the input, piece by piece
  pieces : (kind time : ℕ) → 168 ≤ length s → word_at s 0 ≡ 72 + length (data_in s) → word_at s 40 ≡ kind → word_at s 48 ≡ time
      → s
      ≡ word (72 + length (data_in s))
      ++ (take 32 (drop 8 s)
      ++ (word kind
      ++ (word time
      ++ (word (word_at s 56)
      ++ (word (word_at s 64) ++ (data_in s ++ (take 32 (drop (length s - 96) s) ++ drop (length s - 64) s)))))))
  pieces kind time long h k t =
      let a : 72 + data_size s ≡ length s - 96 = omega arith in
      let b : length s - 96 + 32 ≡ length s - 64 = omega arith in
      let d : Span s 72 (data_in s) (length s - 96) = rw a at (part_span s 72 (data_size s) (omega arith)) in
      let i : Span s (length s - 96) (take 32 (drop (length s - 96) s)) (length s - 64) = rw b at (part_span s (length s - 96) 32 (omega arith)) in
      whole_span
      (join (known 0 (72 + length (data_in s)) h (omega arith))
      (join (part_span s 8 32 (omega arith))
      (join (known 40 kind k (omega arith))
      (join (known 48 time t (omega arith))
      (join (known 56 (word_at s 56) refl (omega arith))
      (join (known 64 (word_at s 64) refl (omega arith)) (join d (join i (rest_span (length s - 64) (omega arith))))))))))

  -- the fields of a v0
  record Fields (long : 168 ≤ length s) (f : Form) : Type 0 where
    kind : f.kind ≡ word_at s 40
    kind16 : f.kind ≤ 65_535
    content : Names (data_in s) (word (word_at s 56)) (bytes_of s f.content)
    text : Utf8 (bytes_of s f.content)
    tags : AllTags s bytes long f.tags

  fields_give : (long : 168 ≤ length s) → header_at s ≡ shown 0 → Gives (Fields long) (form_at s)
  unfolding form_at kind_at
  fields_give long h =
      rw h
      (then_gives {P = λ (k : ℕ). (k ≡ word_at s 40) × (k ≤ 65_535)} _
      (pick_gives (leb (word_at s 40) 65_535) (λ t. gives (refl, leb-true (word_at s 40) 65_535 t)) (λ _. lacks))
      (λ k e.
      then_gives _ (something (time_at 0 s))
      (λ t _.
      then_gives _ (text_gives s 0 56)
      (λ c g.
      then_gives _ (all_tags_give s bytes long)
      (λ ts v.
      gives
      (record {
        kind = e.0;
        kind16 = e.1;
        content = pointed_names s bytes long 56 c.value g.pointed;
        text = (is_utf8_lem (bytes_of s c.value)).0 g.text;
        tags = v;
      }))))))

  -- what a v0 shows
  shown_event : (t : ℕ) (f : Form) (long : 168 ≤ length s) → Headed s 0 → Fields long f → seconds_of (signed_of (word_at s 48)) ≡ whole t
      → LaysPointer (pointed_event s t f) s × Valid (pointed_event s t f) × (length s ≤ 65_536)
  unfolding pointed_event
  shown_event t f long h g e =
      let time = second_millis (word_at s 48) t e in
      let size : word_at s 0 ≡ 72 + length (data_in s) = omega (arith, h.version, h.reserved, h.size, data_length_lem s long) in
      let all = pieces f.kind (millis_of t) long size (sym g.kind) time.0 in (
        subst (λ (x : List ℕ). LaysPointer (pointed_event s t f) x) (sym all) (LaysPointer.lays g.content g.tags.names g.tags.table),
        record {
          id32 = record { count = part_length s (length s - 96) 32 (omega arith); each = all_take 32 (all_drop (length s - 96) bytes) };
          pubkey32 = record { count = part_length s 8 32 (omega arith); each = all_take 32 (all_drop 8 bytes) };
          sig64 = record { count = length-drop (length s - 64) s ∙ omega arith; each = all_drop (length s - 64) bytes };
          time = time.1;
          kind16 = g.kind16;
          few = g.tags.few;
          each = g.tags.good;
          text = g.text;
        },
        h.short,
      )

  shown_fields : (long : 168 ≤ length s) (e : Event) → header_at s ≡ shown 0 → Headed s 0
      → and_then (form_at s) (λ (f : Form). and_then (second_at s) (λ (t : ℕ). shown (pointed_event s t f))) ≡ shown e
      → LaysPointer e s × Valid e × (length s ≤ 65_536)
  unfolding second_at
  shown_fields long e z h r =
      after (form_at s) _ e r
      (λ f q r₁.
      after (second_at s) _ e r₁
      (λ t u r₂.
      let g = shown_gives (rw q at (fields_give long z)) in
      let k = second_told_lem (seconds_of (signed_of (word_at s 48))) t u in
      subst (λ (x : Event). LaysPointer x s × Valid x × (length s ≤ 65_536)) (shown_same r₂) (shown_event t f long h g k)))

  -- Sound: the event that a v0 shows is valid, and the bytes lay it out within the limit.
  pub sound : (e : Event) → pointer_event s ≡ shown e → LaysPointer e s × Valid e × (length s ≤ 65_536)
  unfolding pointer_event
  sound e r =
      after (header_at s) _ e r
      (λ v h r₁.
      let p = pick_shown (eqb v 0) _ 26 0 e r₁ in
      let z : header_at s ≡ shown 0 = h ∙ ap shown (eqb-true v 0 p.0) in
      let d = shown_gives (rw z at (header_gives s)) in
      shown_fields (omega (arith, d.least, d.size)) e z d p.1)
