-- The strict element by the form in which it goes, and how long it is.
-- The one place where `pack_element` is opened; writers and measures cite these.
use Prim.Native.Nat.{ℕ, ◌+◌, ◌*◌, ◌/◌}
use mathlib.Core.Path.{◌≡◌, refl, sym, ap, ◌∙◌}
use mathlib.Core.Bool.{Bool, true, false}
use mathlib.Core.List.{List, [], ◌∷◌, ◌++◌, append-nil}
use native.Mathlib.Omega.{arith}
use lib.ListN.{length, length-append}
use Rattle.scan.specs.Bytes.{IsBytes}
use Rattle.scan.proofs.Step.{pick_by}
use Rattle.varint.specs.Uleb.{uleb}
use Rattle.varint.proofs.UlebLaws.{uleb_last}
use Rattle.hexdigits.specs.Hex.{hexes, unhex, goes_as_bytes}
use Rattle.hexdigits.proofs.Texts.{hexes_go, unhex_hexes, length_unhex, go_digits}
use Rattle.event.specs.Event.{Tag}
use Rattle.notepack.specs.Strict.{pack_element, pack_elements, pack_tag}

-- a text that goes as bytes
pub element_bytes : (t : List ℕ) (g : Bool) → g ≡ goes_as_bytes t → g ≡ true → pack_element t ≡ uleb (2 * (length t / 2) + 1) ++ unhex t
unfolding pack_element
element_bytes t g e h = rw (sym e ∙ h, length_unhex t)

-- a text that goes as text
pub element_text : (t : List ℕ) (g : Bool) → g ≡ goes_as_bytes t → g ≡ false → pack_element t ≡ uleb (2 * length t) ++ t
unfolding pack_element
element_text t g e h = rw (sym e ∙ h)

-- the hex of some bytes
pub element_hex : (p : List ℕ) → IsBytes p → (length p ≡ 0 → ⊥) → pack_element (hexes p) ≡ uleb (2 * length p + 1) ++ p
unfolding pack_element
element_hex p b h = rw (hexes_go (omega (arith, h)) b, unhex_hexes b)

-- the hex of no bytes
pub element_none : (p : List ℕ) → length p ≡ 0 → pack_element (hexes p) ≡ 0 ∷ []
unfolding pack_element
element_none [] h =
    pick_by (λ (l : List ℕ). l ≡ 0 ∷ []) (goes_as_bytes []) (λ g. absurd (let k = (go_digits [] g).0 in omega arith))
    (λ f. append-nil (uleb 0) ∙ uleb_last 0 (omega arith))
element_none (x ∷ p) h = absurd (omega arith)

-- a tag is its count and its elements
pub tag_form : (ts : Tag) → pack_tag ts ≡ uleb (length ts) ++ pack_elements ts
unfolding pack_tag
tag_form ts = refl

-- ---- their lengths

pub length_as_bytes : (t : List ℕ) (g : Bool) → g ≡ goes_as_bytes t → g ≡ true → length (pack_element t) ≡ length (uleb (2 * (length t / 2) + 1)) + length t / 2
length_as_bytes t g e h = ap length (element_bytes t g e h) ∙ length-append (uleb (2 * (length t / 2) + 1)) (unhex t) ∙ rw (length_unhex t)

pub length_as_text : (t : List ℕ) (g : Bool) → g ≡ goes_as_bytes t → g ≡ false → length (pack_element t) ≡ length (uleb (2 * length t)) + length t
length_as_text t g e h = ap length (element_text t g e h) ∙ length-append (uleb (2 * length t)) t

pub length_hex : (p : List ℕ) → IsBytes p → (length p ≡ 0 → ⊥) → length (pack_element (hexes p)) ≡ length (uleb (2 * length p + 1)) + length p
length_hex p b h = ap length (element_hex p b h) ∙ length-append (uleb (2 * length p + 1)) p

pub length_no_hex : (p : List ℕ) → length p ≡ 0 → length (pack_element (hexes p)) ≡ 1
length_no_hex p h = ap length (element_none p h)
