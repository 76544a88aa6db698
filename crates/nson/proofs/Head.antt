-- Up to the field: id, pubkey, sig and the time are read exactly where they stand, and the places of all are fixed: the
-- field is at 318.
-- Piece after piece; each has a length that is known, so each has one place.
use Prim.Native.Nat.{ℕ, ◌+◌, ◌/◌, ◌%◌}
use mathlib.Core.Path.{◌≡◌, refl, sym, ap, ◌∙◌}
use mathlib.Core.List.{List, ◌++◌}
use native.Mathlib.Omega.{arith}
use lib.ListN.{length}
use Rattle.scan.specs.Choice.{shown, Read}
use Rattle.scan.specs.inner.Span.{Span}
use Rattle.scan.proofs.SpanLaws.{join, span_length, respell}
use Rattle.scan.proofs.Many.{after, shown_same}
use Rattle.hexdigits.specs.Hex.{hexes, unhex}
use Rattle.hexdigits.proofs.Texts.{hexes_unhex, length_unhex, unhex_bytes}
use Rattle.decimal.specs.Decimal.{decimal}
use Rattle.event.specs.Event.{Bytes}
use Rattle.nson.specs.Nson.{id_label, pubkey_label, sig_label, time_label, nson_label}
use Rattle.nson.specs.Read.{piece_at, part_at, hex_at, labelled_at, keys_at, time_at, head_at}
use Rattle.nson.proofs.Pieces.{piece_shown, hex_shown, decimal_shown}

-- ---- a label and hex digits

-- the bytes that the n hex digits at a place say
abbrev pub key_at : ℕ → List ℕ → ℕ → List ℕ
key_at n s at = unhex (part_at n s at)

-- n digits stand between two places
pub record Key (n : ℕ) (s : List ℕ) (at p : ℕ) : Type 0 where
  pub span : Span s at (hexes (key_at n s at)) p
  pub bytes : Bytes (n / 2) (key_at n s at)

key_shown : (n : ℕ) (s : List ℕ) (at p : ℕ) → n % 2 ≡ 0 → hex_at n s at ≡ shown p → Key n s at p × (p ≡ at + n)
key_shown n s at p even e =
    let h = hex_shown n s at p e in
    let l = part_at n s at in
    let c = h.count in
    let half = length_unhex l in
    let k = span_length h.span in
    (record { span = respell (sym (hexes_unhex h.digits (omega arith))) h.span; bytes = record { count = half ∙ ap (λ (m : ℕ). m / 2) c; each = unhex_bytes l } }, omega arith)

labelled_shown : (w : List ℕ) (n : ℕ) (s : List ℕ) (at p : ℕ) → n % 2 ≡ 0 → labelled_at w n s at ≡ shown p
    → Span s at w (at + length w) × Key n s (at + length w) p × (p ≡ at + length w + n)
unfolding labelled_at
labelled_shown w n s at p even e =
    after (piece_at 12 w s at) _ p e
    (λ a q e₁.
    let r = piece_shown 12 w s at a q in
    let f : a ≡ at + length w = span_length r in
    let k = key_shown n s (at + length w) p even (rw f at e₁) in
    (rw f at r, k.0, k.1))

-- ---- the whole head

-- what an accepted head says: the three keys and the time, at their places
pub record Head (s : List ℕ) (time : ℕ) : Type 0 where
  pub id : Bytes 32 (key_at 64 s 7)
  pub pubkey : Bytes 32 (key_at 64 s 83)
  pub sig : Bytes 64 (key_at 128 s 156)
  pub ten : length (decimal time) ≡ 10
  pub text : Span s 0 (id_label ++ hexes (key_at 64 s 7) ++ pubkey_label ++ hexes (key_at 64 s 83) ++ sig_label ++ hexes (key_at 128 s 156) ++ time_label ++ decimal time ++ nson_label) 318

pub record Keys (s : List ℕ) (p : ℕ) : Type 0 where
  pub id : Bytes 32 (key_at 64 s 7)
  pub pubkey : Bytes 32 (key_at 64 s 83)
  pub sig : Bytes 64 (key_at 128 s 156)
  pub text : Span s 0 (id_label ++ hexes (key_at 64 s 7) ++ pubkey_label ++ hexes (key_at 64 s 83) ++ sig_label ++ hexes (key_at 128 s 156)) 284
  pub next : p ≡ 284

keys_shown : (s : List ℕ) (p : ℕ) → keys_at s ≡ shown p → Keys s p
unfolding keys_at
keys_shown s p e =
    after (labelled_at id_label 64 s 0) _ p e
    (λ a q e₁.
    let i = labelled_shown id_label 64 s 0 a refl q in
    let f : a ≡ 71 = i.2 in
    let idSpan : Span s 7 (hexes (key_at 64 s 7)) 71 = rw f at i.1.span in
    after (labelled_at pubkey_label 64 s 71) _ p (rw f at e₁)
    (λ b r e₂.
    let k = labelled_shown pubkey_label 64 s 71 b refl r in
    let g : b ≡ 147 = k.2 in
    let keySpan : Span s 83 (hexes (key_at 64 s 83)) 147 = rw g at k.1.span in
    let z = labelled_shown sig_label 128 s 147 p refl (rw g at e₂) in
    let h : p ≡ 284 = z.2 in
    let sigSpan : Span s 156 (hexes (key_at 128 s 156)) 284 = rw h at z.1.span in
    let text = join (join (join (join (join i.0 idSpan) k.0) keySpan) z.0) sigSpan in
    record { id = i.1.bytes; pubkey = k.1.bytes; sig = z.1.bytes; text = text; next = h }))

time_shown : (s : List ℕ) (at : ℕ) (v : Read ℕ) → time_at s at ≡ shown v → (a : ℕ) × Span s at time_label a × Span s a (decimal v.value) v.next × (length (decimal v.value) ≡ 10)
unfolding time_at
time_shown s at v e =
    after (piece_at 12 time_label s at) _ v e
    (λ a p e₁. let d = decimal_shown 12 10 s a v e₁ in (a, piece_shown 12 time_label s at a p, d.1, d.0))

-- consumes
pub head_shown : (s : List ℕ) (v : Read ℕ) → head_at s ≡ shown v → Head s v.value
unfolding head_at
head_shown s v e =
    after (keys_at s) _ v e
    (λ a p e₁.
    let k = keys_shown s a p in
    after (time_at s 284) _ v (rw k.next at e₁)
    (λ t q e₂.
    after (piece_at 12 nson_label s t.next) _ v e₂
    (λ b r e₃.
    let f : record { value = t.value; next = b } ≡ v = shown_same e₃ in
    let d = time_shown s 284 t q in
    let label = piece_shown 12 nson_label s t.next b r in
    let n = span_length d.1 in
    let m = span_length d.2 in
    let o = span_length label in
    let ten = d.3 in
    let last : b ≡ 318 = omega arith in
    let text = join (join (join k.text d.1) d.2) label in
    rw (sym f) record { id = k.id; pubkey = k.pubkey; sig = k.sig; ten = ten; text = rw last at text })))
