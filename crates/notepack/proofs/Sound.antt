-- What `unpack` shows is laid out by the input and valid: a walk over the reading definitions, one law for each.
-- `Reads G s a r` says that a value of r is spelled, by the grammar G, from a to the place behind it.
use Prim.Native.Nat.{ℕ, zero, suc, ◌+◌, ◌*◌, ◌-◌, ◌/◌, ◌%◌, ◌≤◌}
use mathlib.Core.Path.{◌≡◌, refl, sym, ap, ◌∙◌, subst}
use mathlib.Core.Bool.{Bool, true, false}
use mathlib.Core.List.{List, ◌++◌, map}
use native.Mathlib.Omega.{arith}
use lib.ListN.{length, take, drop, length-map}
use lib.Dec.{leb, eqb}
use borrow.Author.Tests.{leb-true, eqb-true, eqb-false}
use Rattle.scan.specs.Choice.{shown, many}
use Rattle.scan.specs.Bytes.{All, also, IsBytes}
use Rattle.scan.specs.inner.Span.{here, Span}
use Rattle.scan.proofs.SpanLaws.{join, cut, span_length, whole_span}
use Rattle.scan.proofs.Reading.{Reads, reads, fails, pick_reads, then_reads, from_reads, part_span, part_length, Gives, gives, lacks, shown_gives, pick_gives, then_gives, read_gives}
use Rattle.scan.proofs.AllLaws.{all_take, all_drop}
use Rattle.varint.specs.Uleb.{Spells}
use Rattle.varint.proofs.VarintLaws.{varint_reads}
use Rattle.hexdigits.proofs.Texts.{hexes_digits, digits_ascii}
use Rattle.utf8.specs.Utf8.{Utf8}
use Rattle.utf8.specs.inner.Width.{is_utf8}
use Rattle.utf8.proofs.Laws.{is_utf8_lem, utf8_ascii}
use Rattle.hexdigits.specs.Hex.{hexes}
use Rattle.event.specs.Event.{Event, ValidTag, Valid}
use Rattle.notepack.specs.declared.Part.{Part}
use Rattle.notepack.specs.declared.Head.{Head}
use Rattle.notepack.specs.Layout.{Element, as_text, as_bytes, Elements, TagLays, Tags, Lays}
use Rattle.notepack.specs.Unpack.{part_of, bytes_of, text_of, payload_at, text_at, number_at, content_at, element_at, elements_at, tag_count_at, tag_at, tags_standing, numbers_at, head_at, Packed, packed_at, event_of, unpack}
use Rattle.notepack.specs.Strict.{pack_element, pack_elements, pack_tag, pack_tags, pack}
use Rattle.notepack.specs.inner.Tally.{is_hollow, hollow_in, hollow_tags}
use Rattle.notepack.proofs.Piece.{Piece, whole, number, beside, text_piece, bytes_piece}

-- a payload of n bytes at `at`: the part is these bytes
pub record Payload (s : List ℕ) (at n : ℕ) (raw : Bool) (p : Part) (l : List ℕ) : Type 0 where
  pub is : p ≡ part_of at n raw
  pub bytes : l ≡ take n (drop at s)
  pub long : length l ≡ n

pub payload_reads : (place : ℕ) (raw : Bool) (n : ℕ) (s : List ℕ) (at : ℕ) → Reads (Payload s at n raw) s at (payload_at place raw n s at)
unfolding payload_at
payload_reads place raw n s at =
    pick_reads (leb n (length s - at))
    (λ t. let h = leb-true n (length s - at) t in reads (record { is = refl; bytes = refl; long = part_length s at n h }) (part_span s at n h))
    (λ f. fails)

payload_span : {s : List ℕ} {at n : ℕ} {raw : Bool} {p : Part} {l : List ℕ} {e : ℕ} → Payload s at n raw p l → Span s at l e
    → Span s at (take n (drop at s)) (at + n)
payload_span {at = at} {n = n} {e = e} g r = let k : e ≡ at + n = omega (arith, span_length r, g.long) in rw (g.bytes, k) at r

payload_long : {s : List ℕ} {at n : ℕ} {raw : Bool} {p : Part} {l : List ℕ} → Payload s at n raw p l → length (take n (drop at s)) ≡ n
payload_long g = rw g.bytes at g.long

-- a payload that is text
pub record Told (s : List ℕ) (at n : ℕ) (p : Part) (l : List ℕ) : Type 0 where
  pub payload : Payload s at n false p l
  pub text : Utf8 l

pub text_reads : (place n : ℕ) (s : List ℕ) (at : ℕ) → Reads (Told s at n) s at (text_at place n s at)
unfolding text_at
text_reads place n s at =
    then_reads _ (payload_reads place false n s at)
    (λ p l e g r.
    pick_reads (is_utf8 (bytes_of s p))
    (λ t. reads (record { payload = g; text = rw g.bytes (rw g.is at ((is_utf8_lem _).0 t)) }) r)
    (λ f. fails))

-- a number up to a maximum
pub record Number (max : ℕ) (n : ℕ) (l : List ℕ) : Type 0 where
  pub spells : Spells n l
  pub within : n ≤ max

-- a well-formed text behind its length
pub data Sized (s : List ℕ) (p : Part) : List ℕ → Type 0 where
  sized : {t w : List ℕ} → text_of s p ≡ t → bytes_of s p ≡ t → p.len ≡ length t → Utf8 t → Spells (length t) w → Sized s p (w ++ t)

pub sized_text : {s : List ℕ} {p : Part} {l : List ℕ} → Sized s p l
    → (w : List ℕ) × (l ≡ w ++ text_of s p) × Utf8 (text_of s p) × Spells (length (text_of s p)) w × (length (text_of s p) ≡ p.len) × (text_of s p ≡ bytes_of s p)
sized_text (sized {t = t} {w = w} e b n u g) = (w, rw e, rw e u, rw e g, rw e (sym n), e ∙ sym b)

-- an element, with its text well-formed, beside its strict form
pub record Laid (s : List ℕ) (p : Part) (l : List ℕ) : Type 0 where
  pub element : Element (text_of s p) l
  pub text : Utf8 (text_of s p)
  pub piece : Piece (pack_element (text_of s p)) l (is_hollow p)

module _ (s : List ℕ) (bytes : IsBytes s) where
  pub number_reads : (max number at : ℕ) → Reads (Number max) s at (number_at max number s at)
  unfolding number_at
  number_reads max number at =
      then_reads _ (varint_reads s at bytes)
      (λ n l e g r. pick_reads (leb n max) (λ t. reads (record { spells = g; within = leb-true n max t }) r) (λ f. fails))

  pub content_reads : (at : ℕ) → Reads (Sized s) s at (content_at s at)
  unfolding content_at text_of
  content_reads at =
      then_reads _ (varint_reads s at bytes)
      (λ n w e g r.
      from_reads (text_reads at n s e)
      (λ p l f u q.
      let v = u.payload in
      let is = v.is in
      reads (sized {w = w} (rw is (sym v.bytes)) (rw is (sym v.bytes)) (rw is (sym v.long)) u.text (rw v.long g)) (join r q)))

  pub element_reads : (at : ℕ) → Reads (Laid s) s at (element_at s at)
  unfolding element_at text_of is_hollow
  element_reads at =
      then_reads _ (varint_reads s at bytes)
      (λ n w e g r.
      pick_reads (eqb (n % 2) 1)
      (λ t.
      from_reads (payload_reads at true (n / 2) s e)
      (λ p l f v q.
      let odd = eqb-true (n % 2) 1 t in
      let is = v.is in
      let word : n ≡ 2 * length l + 1 = omega (arith, v.long) in
      let b : IsBytes l = rw v.bytes (all_take (n / 2) (all_drop e bytes)) in
      let text : text_of s p ≡ hexes l = rw is (ap hexes (sym v.bytes)) in
      let hollow : is_hollow p ≡ eqb (length l) 0 = rw (is, v.long) in
      reads
      (record {
        element = rw text (as_bytes b (rw word at g));
        text = rw text (utf8_ascii (digits_ascii (hexes_digits b)));
        piece = rw (text, hollow) (bytes_piece l b (rw word at g));
      })
      (join r q)))
      (λ k.
      from_reads (text_reads at (n / 2) s e)
      (λ p l f u q.
      let odd = eqb-false (n % 2) 1 k in
      let v = u.payload in
      let is = v.is in
      let word : n ≡ 2 * length l = omega (arith, v.long) in
      let text : text_of s p ≡ l = rw is (sym v.bytes) in
      let hollow : is_hollow p ≡ false = rw is in
      reads
      (record { element = rw text (as_text (rw word at g)); text = rw text u.text; piece = rw (text, hollow) (text_piece l (rw word at g)) })
      (join r q))))

  -- n elements
  pub record LaidAll (n : ℕ) (ps : List Part) (l : List ℕ) : Type 0 where
    pub elements : Elements (map (text_of s) ps) l
    pub texts : All Utf8 (map (text_of s) ps)
    pub count : length ps ≡ n
    pub piece : Piece (pack_elements (map (text_of s) ps)) l (hollow_in ps)

  pub elements_reads : (n at : ℕ) → Reads (LaidAll n) s at (elements_at n s at)
  unfolding many
  elements_reads zero at = reads (record { elements = Elements.none; texts = All.none; count = refl; piece = whole }) here
  elements_reads (suc n) at =
      then_reads _ (element_reads at)
      (λ p l e g r.
      then_reads _ (elements_reads n e)
      (λ ps m f h q.
      reads
      (record {
        elements = Elements.more g.element h.elements;
        texts = also g.text h.texts;
        count = ap suc h.count;
        piece = beside g.piece h.piece;
      })
      (join r q)))

  -- a tag: one to 255 elements behind their number
  pub record LaidTag (ps : List Part) (l : List ℕ) : Type 0 where
    pub tag : TagLays (map (text_of s) ps) l
    pub good : ValidTag (map (text_of s) ps)
    pub piece : Piece (pack_tag (map (text_of s) ps)) l (hollow_in ps)

  pub count_reads : (at : ℕ) → Reads (λ (n : ℕ) (l : List ℕ). Number 255 n l × (1 ≤ n)) s at (tag_count_at s at)
  unfolding tag_count_at
  count_reads at =
      then_reads _ (number_reads 255 8 at)
      (λ n l e g r. pick_reads (eqb n 0) (λ t. fails) (λ f. let h = eqb-false n 0 f in reads (g, omega arith) r))

  pub tag_reads : (at : ℕ) → Reads LaidTag s at (tag_at s at)
  unfolding tag_at pack_tag
  tag_reads at =
      then_reads _ (count_reads at)
      (λ n w e g r.
      from_reads (elements_reads n e)
      (λ ps l f h q.
      let c : length (map (text_of s) ps) ≡ n = length-map ps (text_of s) ∙ h.count in
      reads
      (record { tag = TagLays.tag {w = w} (rw c g.0.spells) h.elements; good = record { one = rw c g.1; few = rw c g.0.within; texts = h.texts }; piece = beside (number {l = w} (rw c g.0.spells)) h.piece })
      (join r q)))

  -- n tags
  pub record LaidTags (n : ℕ) (ts : List (List Part)) (l : List ℕ) : Type 0 where
    pub tags : Tags (map (map (text_of s)) ts) l
    pub good : All ValidTag (map (map (text_of s)) ts)
    pub count : length ts ≡ n
    pub piece : Piece (pack_tags (map (map (text_of s)) ts)) l (hollow_tags ts)

  pub tags_reads : (n at : ℕ) → Reads (LaidTags n) s at (tags_standing n s at)
  unfolding many
  tags_reads zero at = reads (record { tags = Tags.none; good = All.none; count = refl; piece = whole }) here
  tags_reads (suc n) at =
      then_reads _ (tag_reads at)
      (λ p l e g r.
      then_reads _ (tags_reads n e)
      (λ ps m f h q.
      reads (record { tags = Tags.more g.tag h.tags; good = also g.good h.good; count = ap suc h.count; piece = beside g.piece h.piece }) (join r q)))

  -- all in front of the tags, piece by piece
  pub record Headed (h : Head) : Type 0 where
    pub id : Span s 0 (take 32 s) 32
    pub pubkey : Span s 32 (take 32 (drop 32 s)) 64
    pub sig : Span s 64 (take 64 (drop 64 s)) 128
    pub ids : (length (take 32 s) ≡ 32) × (length (take 32 (drop 32 s)) ≡ 32) × (length (take 64 (drop 64 s)) ≡ 64)
    pub time : (l : List ℕ) × (a : ℕ) × Number 9_223_372_036_854_775 h.created_at l × Span s 128 l a
    pub kind : (l : List ℕ) × (a : ℕ) × Number 65_535 h.kind l × Span s time.1 l a
    pub content : (l : List ℕ) × (a : ℕ) × Sized s h.content l × Span s kind.1 l a
    pub count : (l : List ℕ) × Number 1_000 h.tag_count l × Span s content.1 l h.tags_at

  pub head_gives : Gives Headed (head_at s)
  unfolding head_at numbers_at
  head_gives =
      read_gives _ (payload_reads 0 true 32 s 0)
      (λ _ _ i p r.
      read_gives _ (payload_reads 32 true 32 s 32)
      (λ _ _ k q u.
      read_gives _ (payload_reads 64 true 64 s 64)
      (λ _ _ g v w.
      read_gives _ (number_reads 9_223_372_036_854_775 7 128)
      (λ t lt et gt rt.
      read_gives _ (number_reads 65_535 6 et)
      (λ n ln en gn rn.
      read_gives _ (content_reads en)
      (λ c lc ec gc rc.
      read_gives _ (number_reads 1_000 8 ec)
      (λ m lm em gm rm.
      gives
      (record {
        id = payload_span p r;
        pubkey = payload_span q u;
        sig = payload_span v w;
        ids = (payload_long p, payload_long q, payload_long v);
        time = (lt, et, gt, rt);
        kind = (ln, en, gn, rn);
        content = (lc, ec, gc, rc);
        count = (lm, gm, rm);
      }))))))))

  -- what the whole input shows
  pub record Sound (p : Packed) : Type 0 where
    pub lays : Lays (event_of s p) s
    pub valid : Valid (event_of s p)
    pub short : length s ≤ 65_536
    pub piece : Piece (pack (event_of s p)) s (hollow_tags p.tags)

  sound_packed : (h : Head) → Headed h → (ts : List (List Part)) (l : List ℕ) → LaidTags h.tag_count ts l → Span s h.tags_at l (length s)
      → length s ≤ 65_536 → Sound (record { head = h; tags = ts })
  unfolding event_of pack
  sound_packed h d ts l g r k =
      let c = sized_text d.content.2 in
      let q = cut c.0 (rw c.1 at d.content.3) in
      let n : length (map (map (text_of s)) ts) ≡ h.tag_count = length-map ts (map (text_of s)) ∙ g.count in
      let count : Spells (length (map (map (text_of s)) ts)) d.count.0 = rw n d.count.1.spells in
      let behind = join d.time.3 (join d.kind.3 (join q.1 (join q.2 (join d.count.2 r)))) in
      let all = whole_span (join d.id (join d.pubkey (join d.sig behind))) in
      record {
        lays =
            subst (λ (x : List ℕ). Lays (event_of s (record { head = h; tags = ts })) x) (sym all)
            (Lays.lays d.time.2.spells d.kind.2.spells c.3 count g.tags);
        valid =
            record {
              id32 = record { count = d.ids.0; each = all_take 32 bytes };
              pubkey32 = record { count = d.ids.1; each = all_take 32 (all_drop 32 bytes) };
              sig64 = record { count = d.ids.2; each = all_take 64 (all_drop 64 bytes) };
              time = d.time.2.within;
              kind16 = d.kind.2.within;
              few = rw n d.count.1.within;
              each = g.good;
              text = c.2;
            };
        short = k;
        piece =
            subst (λ (x : List ℕ). Piece (pack (event_of s (record { head = h; tags = ts }))) x (hollow_tags ts)) (sym all)
            (beside (whole {l = take 32 s})
            (beside (whole {l = take 32 (drop 32 s)})
            (beside (whole {l = take 64 (drop 64 s)})
            (beside (number d.time.2.spells)
            (beside (number d.kind.2.spells)
            (beside (number c.3) (beside (whole {l = text_of s h.content}) (beside (number count) g.piece))))))));
      }

  pub packed_gives : Gives Sound (packed_at s)
  unfolding packed_at
  packed_gives =
      pick_gives (leb (length s) 65_536)
      (λ t.
      then_gives _ head_gives
      (λ h d.
      read_gives _ (tags_reads h.tag_count h.tags_at)
      (λ ts l e g r.
      pick_gives (eqb e (length s))
      (λ q. gives (sound_packed h d ts l g (rw (eqb-true e (length s) q) at r) (leb-true (length s) 65_536 t)))
      (λ f. lacks))))
      (λ f. lacks)

-- Sound: the event that packed bytes show is valid, the bytes lay it out within the limit, and its strict form is no
-- longer than they are.
pub record Shows (s : List ℕ) (e : Event) : Type 0 where
  pub lays : Lays e s
  pub valid : Valid e
  pub short : length s ≤ 65_536
  pub least : length (pack e) ≤ length s

pub sound : (s : List ℕ) → IsBytes s → (e : Event) → unpack s ≡ shown e → Shows s e
unfolding unpack
sound s bytes e h =
    let g =
    then_gives {Q = Shows s} _ (packed_gives s bytes)
    (λ p k. gives (record { lays = k.lays; valid = k.valid; short = k.short; least = k.piece.least })) in
    shown_gives (rw h at g)
