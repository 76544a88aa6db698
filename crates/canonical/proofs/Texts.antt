-- A canonical string ends where its text ends, and how long the whole text is.
-- By the first bare quote; the rest is counting.
use Prim.Native.Nat.{ℕ, ◌+◌, ◌*◌}
use mathlib.Core.Path.{◌≡◌, sym, ◌∙◌}
use mathlib.Core.List.{List, [], ◌∷◌, ◌++◌, append_assoc}
use native.Mathlib.Omega.{arith}
use lib.ListN.{length, length-append}
use Rattle.scan.specs.Bytes.{IsBytes}
use Rattle.decimal.specs.Decimal.{decimal}
use Rattle.escape.specs.declared.Escaping.TheVariants.{Canonical}
use Rattle.escape.specs.Escape.{canonical_byte, escaped}
use Rattle.escape.proofs.TextLaws.{canonical_injective}
use Rattle.escape.proofs.QuotedLaws.{canonical_quoted, canonical_ends}
use Rattle.event.specs.Event.{Event}
use Rattle.jsontags.specs.TagText.{quoted, tags_text}
use Rattle.jsontags.proofs.Texts.{length_quoted, length_quoted_hexes}
use Rattle.canonical.specs.Canonical.{canonical}

-- a string ends where its text ends: two strings, whatever stands behind them, are the same where the bytes are
pub quoted_ends : (s t x y : List ℕ) → quoted canonical_byte s ++ x ≡ quoted canonical_byte t ++ y → (s ≡ t) × (x ≡ y)
unfolding quoted
quoted_ends s t x y e =
    let a = escaped canonical_byte s in
    let b = escaped canonical_byte t in
    let f : (a ++ (0x22 ∷ [])) ++ x ≡ (b ++ (0x22 ∷ [])) ++ y = cc in
    let g = sym (append_assoc a (0x22 ∷ []) x) ∙ f ∙ append_assoc b (0x22 ∷ []) y in
    let r = canonical_ends (canonical_quoted s) (canonical_quoted t) x y g in
    (canonical_injective s t r.0, r.1)

-- the canonical text is twelve fixed bytes, the pubkey's digits, two numbers, the tags, and the content with its
-- escapes
pub length_canonical : (e : Event) → IsBytes e.pubkey
    → length (canonical e)
    ≡ 12 + 2 * length e.pubkey + length (decimal e.created_at) + length (decimal e.kind) + length (tags_text canonical_byte e.tags) + length (escaped canonical_byte e.content)
unfolding canonical
length_canonical e b = simp (length-append, length_quoted_hexes Canonical b, length_quoted) (omega arith)
