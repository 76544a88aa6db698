-- Whatever lays out a valid event within the limit is read as that event: each definition meets the piece that the
-- layout puts there.
-- By matching the layout, cutting the span at each `++`, and rewriting each read by what it finds.
use Prim.Native.Nat.{ℕ, ◌+◌, ◌*◌, ◌-◌, ◌/◌, ◌%◌, ◌≤◌}
use mathlib.Core.Path.{◌≡◌, refl, sym, ap, ◌∙◌}
use mathlib.Core.Bool.{Bool, true, false}
use mathlib.Core.List.{List, [], ◌∷◌, map}
use native.Mathlib.Omega.{arith}
use lib.ListN.{length, take, drop}
use lib.Seq.{take_at}
use lib.Dec.{eqb}
use borrow.Author.Tests.{le-leb, eq-eqb, ne_eqb}
use Rattle.scan.specs.Choice.{shown, read, many}
use Rattle.scan.specs.Bytes.{All, none, also}
use Rattle.scan.specs.inner.Span.{Span}
use Rattle.scan.proofs.Reading.{read_same}
use Rattle.scan.proofs.SpanLaws.{cut, cut_at, none_span, span_length, span_fits, from_span, input_span}
use Rattle.varint.specs.Uleb.{Spells}
use Rattle.varint.proofs.VarintLaws.{accepts}
use Rattle.utf8.specs.Utf8.{Utf8}
use Rattle.utf8.proofs.Laws.{is_utf8_lem}
use Rattle.hexdigits.specs.Hex.{hexes}
use Rattle.event.specs.Event.{Tag, Event, ValidTag, Valid}
use Rattle.event.proofs.Laws.{all_seven}
use Rattle.notepack.specs.declared.Part.{Part}
use Rattle.notepack.specs.declared.Head.{Head}
use Rattle.notepack.specs.Layout.{Element, as_text, as_bytes, Elements, TagLays, Tags, Lays}
use Rattle.notepack.specs.Unpack.{part_of, text_of, payload_at, text_at, number_at, content_at, element_at, elements_at, tag_count_at, tag_at, tags_standing, numbers_at, head_at, packed_at, event_of, unpack}

-- where everything of an event stands that the input lays out: no limit is asked here
record Stands (s : List ℕ) (e : Event) : Type 0 where
  head : Head
  parts : List (List Part)
  heads : head_at s ≡ shown head
  tags : tags_standing head.tag_count s head.tags_at ≡ read parts (length s)
  event : event_of s (record { head = head; tags = parts }) ≡ e

module _ {s : List ℕ} where
  -- the bytes of a span are the bytes of the part
  span_bytes : {a c : ℕ} {l : List ℕ} → Span s a l c → take (length l) (drop a s) ≡ l
  span_bytes {c = c} {l = l} r = rw (from_span r) (take_at l (drop c s) (length l) refl)

  pub payload_full : (place : ℕ) (raw : Bool) {a c : ℕ} {l : List ℕ} → Span s a l c → payload_at place raw (length l) s a ≡ read (part_of a (length l) raw) c
  unfolding payload_at
  payload_full place raw {a} {c} {l} r = rw (le-leb (length l) (length s - a) (span_fits r), span_length r)

  pub text_full : (place : ℕ) {a c : ℕ} {l : List ℕ} → Utf8 l → Span s a l c → text_at place (length l) s a ≡ read (part_of a (length l) false) c
  unfolding text_at
  text_full place u r = rw (payload_full place false r, span_bytes r, (is_utf8_lem _).1 u)

  pub number_full : (max number : ℕ) {n a c : ℕ} {l : List ℕ} → Spells n l → n ≤ max → Span s a l c → number_at max number s a ≡ read n c
  unfolding number_at
  number_full max number {n} d h r = rw (accepts d r, le-leb n max h)

  -- an element is read as a part whose text it is
  pub element_full : {t l : List ℕ} {a c : ℕ} → Element t l → Utf8 t → Span s a l c → (p : Part) × (element_at s a ≡ read p c) × (text_of s p ≡ t)
  unfolding element_at text_of
  element_full {a = a} (as_text {t = t} {w = w} d) u r =
      let q = cut w r in
      let e : 2 * length t / 2 ≡ length t = omega arith in
      let odd : eqb (2 * length t % 2) 1 ≡ false = ne_eqb (2 * length t % 2) 1 (omega arith) in
      (part_of q.0 (length t) false, rw (accepts d q.1, odd, e) (text_full a u q.2), span_bytes q.2)
  element_full {a = a} (as_bytes {p = p} {w = w} b d) u r =
      let q = cut w r in
      let e : (2 * length p + 1) / 2 ≡ length p = omega arith in
      let odd : eqb ((2 * length p + 1) % 2) 1 ≡ true = eq-eqb ((2 * length p + 1) % 2) 1 (omega arith) in
      (part_of q.0 (length p) true, rw (accepts d q.1, odd, e) (payload_full a true q.2), ap hexes (span_bytes q.2))

  pub elements_full : {ts : Tag} {l : List ℕ} {a c : ℕ} → Elements ts l → All Utf8 ts → Span s a l c
      → (ps : List Part) × (elements_at (length ts) s a ≡ read ps c) × (map (text_of s) ps ≡ ts)
  unfolding many
  elements_full Elements.none none r = ([], rw (none_span r), refl)
  elements_full (Elements.more {l = l} g h) (also u v) r =
      let q = cut l r in
      let e = element_full g u q.1 in
      let es = elements_full h v q.2 in
      (e.0 ∷ es.0, rw (e.1, es.1), cc)

  -- a tag
  pub tag_full : {ts : Tag} {l : List ℕ} {a c : ℕ} → TagLays ts l → ValidTag ts → Span s a l c
      → (ps : List Part) × (tag_at s a ≡ read ps c) × (map (text_of s) ps ≡ ts)
  unfolding tag_at tag_count_at
  tag_full {ts = ts} (TagLays.tag {w = w} d g) v r =
      let q = cut w r in
      let n = number_full 255 8 d v.few q.1 in
      let z = ne_eqb (length ts) 0 (λ e. let h = v.one in omega arith) in
      let es = elements_full g v.texts q.2 in
      (es.0, rw (n, z) es.1, es.2)

  pub tags_full : {ts : List Tag} {l : List ℕ} {a c : ℕ} → Tags ts l → All ValidTag ts → Span s a l c
      → (ps : List (List Part)) × (tags_standing (length ts) s a ≡ read ps c) × (map (map (text_of s)) ps ≡ ts)
  unfolding many
  tags_full Tags.none none r = ([], rw (none_span r), refl)
  tags_full (Tags.more {l = l} g h) (also u v) r =
      let q = cut l r in
      let e = tag_full g u q.1 in
      let es = tags_full h v q.2 in
      (e.0 ∷ es.0, rw (e.1, es.1), cc)

  -- a fixed field of n bytes
  field_full : (place n : ℕ) {a c : ℕ} {l : List ℕ} → length l ≡ n → Span s a l c → payload_at place true n s a ≡ read (part_of a n true) c
  field_full place n e r = rw e at (payload_full place true r)

  field_bytes : (n : ℕ) {a c : ℕ} {l : List ℕ} → length l ≡ n → Span s a l c → take n (drop a s) ≡ l
  field_bytes n e r = rw e at (span_bytes r)

  stands : {e : Event} {l : List ℕ} → Lays e l → Valid e → Span s 0 l (length s) → Stands s e
  unfolding head_at numbers_at content_at event_of text_of
  stands {e} (Lays.lays {time = time} {kind = kind} {size = size} {count = count} t k z n g) v r =
      let ri = cut_at e.id 32 v.id32.count r in
      let rp = cut_at e.pubkey 32 v.pubkey32.count ri.1 in
      let rs = cut_at e.sig 64 v.sig64.count rp.1 in
      let rt = cut time rs.1 in
      let rk = cut kind rt.2 in
      let rz = cut size rk.2 in
      let rc = cut e.content rz.2 in
      let rn = cut count rc.2 in
      let ts = tags_full g v.each rn.2 in
      let i = field_full 0 32 v.id32.count ri.0 in
      let p = field_full 32 32 v.pubkey32.count rp.0 in
      let y = field_full 64 64 v.sig64.count rs.0 in
      record {
        head =
            record {
              created_at = e.created_at;
              kind = e.kind;
              content = part_of rz.0 (length e.content) false;
              tag_count = length e.tags;
              tags_at = rn.0;
            };
        parts = ts.0;
        heads =
            rw (
              i,
              p,
              y,
              number_full 9_223_372_036_854_775 7 t v.time rt.1,
              number_full 65_535 6 k v.kind16 rk.1,
              accepts z rz.1,
              text_full rk.0 v.text rc.1,
              number_full 1_000 8 n v.few rn.1,
            );
        tags = ts.1;
        event =
            all_seven
            (field_bytes 32 v.id32.count ri.0)
            (field_bytes 32 v.pubkey32.count rp.0)
            (field_bytes 64 v.sig64.count rs.0)
            refl
            refl
            ts.2
            (span_bytes rc.1);
      }

  -- one input has one head and one list of tags
  stands_once : {a b : Event} → Stands s a → Stands s b → a ≡ b
  stands_once x y =
      let h : x.head ≡ y.head = let q = sym x.heads ∙ y.heads in cc in
      let t : x.parts ≡ y.parts = (read_same (sym (rw h at x.tags) ∙ y.tags)).0 in
      sym x.event ∙ ap (λ (d : Head). event_of s (record { head = d; tags = x.parts })) h
      ∙ ap (λ (p : List (List Part)). event_of s (record { head = y.head; tags = p })) t
      ∙ y.event

-- Complete: whatever lays out a valid event within the limit is read as that event.
pub complete : (s : List ℕ) (e : Event) → Lays e s → Valid e → length s ≤ 65_536 → unpack s ≡ shown e
unfolding unpack packed_at
complete s e g v short =
    let d = stands g v (input_span s) in
    rw (le-leb (length s) 65_536 short, d.heads, d.tags, eq-eqb (length s) (length s) refl) (ap shown d.event)

-- One byte string, of any length, lays out at most one valid event.
pub one_event : {s : List ℕ} {a b : Event} → Lays a s → Lays b s → Valid a → Valid b → a ≡ b
one_event {s} g h v w = stands_once (stands g v (input_span s)) (stands h w (input_span s))
