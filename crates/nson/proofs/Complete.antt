-- THE completeness: the text of an event that is carried and valid is read as that event; so the text is the event's
-- alone.
-- The text is cut into its pieces, whose places are known, and each piece is rewritten by its *accepts*.
use Prim.Native.Nat.{ℕ, ◌*◌}
use mathlib.Core.Path.{◌≡◌, refl, sym, ap, ◌∙◌, subst}
use mathlib.Core.List.{List, ◌++◌, append_assoc}
use mathlib.Core.Logic.{◌↔◌}
use native.Mathlib.Omega.{arith}
use lib.ListN.{length}
use borrow.Author.Tests.{le-leb, eq-eqb}
use Rattle.scan.specs.Choice.{shown, read}
use Rattle.scan.specs.inner.Span.{Span}
use Rattle.scan.proofs.SpanLaws.{cut, cut_at, span_length, input_span, respell, part_of_span}
use Rattle.scan.proofs.Many.{shown_same}
use Rattle.hexdigits.specs.Hex.{hexes, unhex}
use Rattle.hexdigits.proofs.Texts.{length_hexes, hexes_digits, unhex_hexes}
use Rattle.decimal.specs.Decimal.{decimal}
use Rattle.decimal.proofs.Spelling.{length_ten}
use Rattle.event.specs.Event.{Event, Bytes, Valid}
use Rattle.nson.specs.Nson.{id_label, pubkey_label, sig_label, time_label, nson_label, counts, nson_field, head_text, body_text, nson}
use Rattle.nson.specs.Carries.{Carries}
use Rattle.nson.specs.Read.{hex_at, labelled_at, keys_at, time_at, head_at, Body, event_read, event_at, read_nson}
use Rattle.nson.proofs.Pieces.{piece_accepts, hex_accepts, decimal_accepts}
use Rattle.nson.proofs.Field.{counts_accept}
use Rattle.nson.proofs.Body.{GoodBody, body_accepts}
use Rattle.nson.proofs.Head.{key_at}
use Rattle.nson.proofs.Sound.{Accepted, accepted}
use Rattle.nson.proofs.Carrying.{descriptors_length, carried_tags, carried_holds}

-- ---- the head

key_length : {n : ℕ} {l : List ℕ} → Bytes n l → length (hexes l) ≡ 2 * n
key_length {n} {l} b = length_hexes l ∙ ap (λ (k : ℕ). 2 * k) b.count

-- n bytes in hex at a place are read there, and are what is taken from there
key_accepts : {n : ℕ} {s l : List ℕ} {at p : ℕ} → Bytes n l → Span s at (hexes l) p → (hex_at (2 * n) s at ≡ shown p) × (key_at (2 * n) s at ≡ l)
key_accepts {n} {s} {l} {at} b r =
    (hex_accepts (2 * n) r (key_length b) (hexes_digits b.each), ap unhex (part_of_span (2 * n) (key_length b) r) ∙ unhex_hexes b.each)

record HeadRead (s : List ℕ) (e : Event) (q : ℕ) : Type 0 where
  place : q ≡ 318
  shows : head_at s ≡ read e.created_at q
  id : key_at 64 s 7 ≡ e.id
  pubkey : key_at 64 s 83 ≡ e.pubkey
  sig : key_at 128 s 156 ≡ e.sig

right : (e : Event) → head_text e
    ≡ id_label ++ (hexes e.id ++ (pubkey_label ++ (hexes e.pubkey ++ (sig_label ++ (hexes e.sig ++ (time_label ++ (decimal e.created_at ++ nson_label)))))))
unfolding head_text
right e = simp append_assoc

head_accepts : {s : List ℕ} {e : Event} {q : ℕ} → Carries e → Valid e → Span s 0 (head_text e) q → HeadRead s e q
unfolding head_at keys_at labelled_at time_at
head_accepts {s} {e} {q} c v r =
    let ten = length_ten e.created_at c.early c.late in
    let a₁ = cut_at id_label 7 refl (respell (right e) r) in
    let a₂ = cut_at (hexes e.id) 64 (key_length v.id32) a₁.1 in
    let b₁ = cut_at pubkey_label 12 refl a₂.1 in
    let b₂ = cut_at (hexes e.pubkey) 64 (key_length v.pubkey32) b₁.1 in
    let c₁ = cut_at sig_label 9 refl b₂.1 in
    let c₂ = cut_at (hexes e.sig) 128 (key_length v.sig64) c₁.1 in
    let d₁ = cut_at time_label 15 refl c₂.1 in
    let d₂ = cut_at (decimal e.created_at) 10 ten d₁.1 in
    let i = key_accepts v.id32 a₂.0 in
    let p = key_accepts v.pubkey32 b₂.0 in
    let z = key_accepts v.sig64 c₂.0 in
    record {
      place = span_length d₂.1;
      shows =
          rw (
            piece_accepts 12 a₁.0,
            i.0,
            piece_accepts 12 b₁.0,
            p.0,
            piece_accepts 12 c₁.0,
            z.0,
            piece_accepts 12 d₁.0,
            decimal_accepts 12 10 e.created_at d₂.0 ten,
            piece_accepts 12 d₂.1,
          );
      id = i.1;
      pubkey = p.1;
      sig = z.1;
    }

-- ---- the whole

abbrev body_of : Event → Body
body_of e = record { kind = e.kind; content = e.content; tags = e.tags }

good_body : {e : Event} → Carries e → Valid e → GoodBody (body_of e)
good_body c v =
    let fit = c.content in
    record { kind16 = v.kind16; content = record { carried = fit.plain; utf8 = v.text }; texts = (carried_tags c.texts v.each).0 }

pub event_accepts : {s : List ℕ} {e : Event} {end : ℕ} → Carries e → Valid e → Span s 0 (nson e) end → event_at s ≡ read e end
unfolding event_at event_read counts nson body_text
event_accepts {s} {e} {end} c v r =
    let u = cut (head_text e ++ nson_field (counts e)) r in
    let w = cut (head_text e) u.1 in
    let h = head_accepts c v w.1 in
    let few = c.few in
    let at : Span s 318 (nson_field (counts e)) u.0 = subst (λ (k : ℕ). Span s k (nson_field (counts e)) u.0) h.place w.2 in
    let n = counts_accept (carried_holds c v) (omega (arith, descriptors_length e)) at in
    let b = body_accepts (good_body c v) u.2 in
    rw (h.shows, n, b, h.id, h.pubkey, h.sig)

-- THE completeness: what the writer may write is read back as the event
pub read_back : {e : Event} → Carries e → Valid e → read_nson (nson e) ≡ shown e
unfolding read_nson
read_back {e} c v =
    let s = nson e in
    rw (le-leb (length s) 65_536 c.whole, event_accepts c v (input_span s), eq-eqb (length s) (length s) refl)

-- the text is one event's alone
pub nson_injective : {d e : Event} → Carries d → Valid d → Carries e → Valid e → nson d ≡ nson e → d ≡ e
nson_injective c v k w t = shown_same (sym (read_back c v) ∙ ap read_nson t ∙ read_back k w)

-- both: a string shows an event exactly if it is the event's text and the event is carried and valid
pub exactly : (s : List ℕ) (e : Event) → (read_nson s ≡ shown e) ↔ Accepted s e
exactly s e = (accepted, λ a. rw a.text (read_back a.carries a.valid))
