-- One descriptor: two hex digits at a place are the byte that stands there, four are the number of two bytes; and back.
-- By `unhex` of the digits, which is what the byte at a place is computed from.
use Prim.Native.Nat.{ℕ, ◌+◌, ◌*◌, ◌/◌, ◌%◌, ◌≤◌}
use mathlib.Core.Path.{◌≡◌, refl, sym, ap, ◌∙◌}
use mathlib.Core.List.{List, [], ◌∷◌}
use native.Mathlib.Omega.{arith}
use lib.ListN.{length}
use lib.Dec.{leb}
use borrow.Author.Tests.{le-leb}
use Rattle.scan.specs.Choice.{shown, Read, read}
use Rattle.scan.specs.Bytes.{All, none, also, IsBytes}
use Rattle.scan.specs.inner.Span.{here, step, Span}
use Rattle.scan.proofs.SpanLaws.{cut_at, span_length, respell}
use Rattle.scan.proofs.Many.{after, pick_shown, shown_same}
use Rattle.hexdigits.specs.Hex.{hexes, unhex}
use Rattle.hexdigits.specs.inner.LowerHex.{LowerHex}
use Rattle.hexdigits.proofs.Texts.{hexes_digits, hexes_unhex, unhex_hexes}
use Rattle.nson.specs.Nson.{word}
use Rattle.nson.specs.Read.{hex_at, byte_here, word_here, descriptor_at, byte_count_at, word_count_at}
use Rattle.nson.proofs.Pieces.{HexHere, hex_shown, hex_accepts}

-- ---- the byte and the number at a place

pub byte_most : (s : List ℕ) (at : ℕ) → byte_here s at ≤ 255
unfolding byte_here
byte_most s at = omega arith

two_here : {s : List ℕ} {at a b c : ℕ} → Span s at (a ∷ b ∷ []) c → unhex (a ∷ b ∷ []) ≡ byte_here s at ∷ []
unfolding unhex byte_here
two_here (step h e (step k f here)) = rw (e, f)

unhex_two : {s l : List ℕ} {at c : ℕ} → length l ≡ 2 → Span s at l c → unhex l ≡ byte_here s at ∷ []
unhex_two {l = []} n r = absurd (omega arith)
unhex_two {l = a ∷ []} n r = absurd (omega arith)
unhex_two {l = a ∷ b ∷ []} n r = two_here r
unhex_two {l = a ∷ b ∷ d ∷ l} n r = absurd (omega arith)

unhex_four : {s l : List ℕ} {at c : ℕ} → length l ≡ 4 → Span s at l c → unhex l ≡ byte_here s at ∷ byte_here s (at + 2) ∷ []
unfolding unhex
unhex_four {l = []} n r = absurd (omega arith)
unhex_four {l = a ∷ []} n r = absurd (omega arith)
unhex_four {s} {l = a ∷ b ∷ l} {at = at} n r =
    let u = cut_at (a ∷ b ∷ []) 2 refl r in
    let f = two_here u.0 in
    let g = unhex_two {l = l} (omega arith) u.1 in
    cc

-- the number's two bytes are those that stand there
word_here_lem : (s : List ℕ) (at : ℕ) → word (word_here s at) ≡ byte_here s at ∷ byte_here s (at + 2) ∷ []
unfolding word_here
word_here_lem s at =
    let x = byte_here s at in
    let y = byte_here s (at + 2) in
    let h = byte_most s (at + 2) in
    let p : (256 * x + y) / 256 ≡ x = omega arith in
    let q : (256 * x + y) % 256 ≡ y = omega arith in
    cc

pub word_most : (s : List ℕ) (at : ℕ) → word_here s at ≤ 65_535
unfolding word_here
word_most s at = omega (arith, byte_most s at, byte_most s (at + 2))

-- digits that stand at a place are the byte, and the number, there
pub byte_digits : {s : List ℕ} {at p : ℕ} → HexHere 2 s at p → Span s at (hexes (byte_here s at ∷ [])) p
byte_digits {s} {at} h =
    let n = h.count in
    respell (sym (hexes_unhex h.digits (omega arith)) ∙ ap hexes (unhex_two n h.span)) h.span

pub word_digits : {s : List ℕ} {at p : ℕ} → HexHere 4 s at p → Span s at (hexes (word (word_here s at))) p
word_digits {s} {at} h =
    let n = h.count in
    let e = sym (hexes_unhex h.digits (omega arith)) ∙ ap hexes (unhex_four n h.span) ∙ ap hexes (sym (word_here_lem s at)) in
    respell e h.span

pub byte_bytes : {b : ℕ} → b ≤ 255 → IsBytes (b ∷ [])
byte_bytes {b} h = also {b = b} (omega arith) none

word_bytes : {n : ℕ} → n ≤ 65_535 → IsBytes (word n)
word_bytes {n} h = also {b = n / 256} (omega arith) (also {b = n % 256} (omega arith) none)

pub digits_byte : {s : List ℕ} {at b p : ℕ} → b ≤ 255 → Span s at (hexes (b ∷ [])) p → byte_here s at ≡ b
digits_byte {s} {at} {b} h r = let e = sym (unhex_two refl r) ∙ unhex_hexes (byte_bytes h) in cc

pub digits_word : {s : List ℕ} {at n p : ℕ} → n ≤ 65_535 → Span s at (hexes (word n)) p → word_here s at ≡ n
unfolding word_here
digits_word {s} {at} {n} h r =
    let e = sym (unhex_four refl r) ∙ unhex_hexes (word_bytes h) in
    let x : byte_here s at ≡ n / 256 = cc in
    let y : byte_here s (at + 2) ≡ n % 256 = cc in
    omega arith

-- ---- one descriptor, which does not pass the end

descriptor_shown : (n end : ℕ) (s : List ℕ) (at p : ℕ) → descriptor_at n end s at ≡ shown p → HexHere n s at p
unfolding descriptor_at
descriptor_shown n end s at p e = hex_shown n s at p (pick_shown (leb (at + n) end) (hex_at n s at) 13 318 p e).1

descriptor_accepts : {s l : List ℕ} {at p : ℕ} (n end : ℕ) → p ≤ end → Span s at l p → length l ≡ n → All LowerHex l → descriptor_at n end s at ≡ shown p
unfolding descriptor_at
descriptor_accepts {at = at} n end h r e d = let k = span_length r in rw (le-leb (at + n) end (omega arith)) (hex_accepts n r e d)

pub byte_count_shown : (end : ℕ) (s : List ℕ) (at : ℕ) (v : Read ℕ) → byte_count_at end s at ≡ shown v
    → Span s at (hexes (v.value ∷ [])) v.next × (v.value ≤ 255)
unfolding byte_count_at
byte_count_shown end s at v e =
    after (descriptor_at 2 end s at) _ v e
    (λ p q e₁.
    let f : record { value = byte_here s at; next = p } ≡ v = shown_same e₁ in
    rw (sym f) (byte_digits (descriptor_shown 2 end s at p q), byte_most s at))

pub word_count_shown : (end : ℕ) (s : List ℕ) (at : ℕ) (v : Read ℕ) → word_count_at end s at ≡ shown v
    → Span s at (hexes (word v.value)) v.next × (v.value ≤ 65_535)
unfolding word_count_at
word_count_shown end s at v e =
    after (descriptor_at 4 end s at) _ v e
    (λ p q e₁.
    let f : record { value = word_here s at; next = p } ≡ v = shown_same e₁ in
    rw (sym f) (word_digits (descriptor_shown 4 end s at p q), word_most s at))

pub byte_count_accepts : (end : ℕ) (s : List ℕ) (b at p : ℕ) → p ≤ end → b ≤ 255 → Span s at (hexes (b ∷ [])) p → byte_count_at end s at ≡ read b p
unfolding byte_count_at
byte_count_accepts end s b at p h k r = rw (descriptor_accepts 2 end h r refl (hexes_digits (byte_bytes k)), digits_byte k r)

pub word_count_accepts : (end : ℕ) (s : List ℕ) (n at p : ℕ) → p ≤ end → n ≤ 65_535 → Span s at (hexes (word n)) p → word_count_at end s at ≡ read n p
unfolding word_count_at
word_count_accepts end s n at p h k r = rw (descriptor_accepts 4 end h r refl (hexes_digits (word_bytes k)), digits_word k r)
