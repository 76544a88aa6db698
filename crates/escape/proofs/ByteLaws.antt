-- What each of the two byte functions makes of a byte: the byte itself, or a backslash and a letter that means the
-- byte.
-- By the tests of the definitions, one after the other. `ReadBack f` is all that the laws of texts ask of a byte
-- function.
use Prim.Native.Nat.{ℕ, ◌+◌, ◌<◌, ◌≤◌}
use mathlib.Core.Path.{◌≡◌, refl, sym, ◌∙◌}
use mathlib.Core.Bool.{Bool, true, false}
use mathlib.Core.List.{List, [], ◌∷◌}
use mathlib.Core.Logic.{dite}
use native.Mathlib.Omega.{arith}
use native.Mathlib.Decide.{dec_lt, ℕ_discrete}
use lib.Dec.{eqb}
use borrow.Author.Tests.{eqb-true, eqb-false, ne_eqb, le-leb, lt-leb}
use Rattle.scan.specs.Choice.{pick}
use Rattle.scan.specs.Place.{within}
use Rattle.scan.proofs.Step.{pick_by}
use Rattle.escape.specs.declared.Escaping.{Escaping}
use Rattle.escape.specs.declared.Escaping.TheVariants.{Canonical, Nson}
use Rattle.escape.specs.Escape.{backslashed, nson_byte, canonical_byte}
use Rattle.escape.specs.inner.Back.{meaning}
use Rattle.escape.specs.inner.Which.{byte_of}
use Rattle.escape.specs.inner.Block.{is_escaped, escape_letter}

-- what a byte becomes: itself, or a backslash and a letter that means it
pub data Form (b : ℕ) : List ℕ → Type 0 where
  itself : (b ≡ 0x5C → ⊥) → Form b (b ∷ [])
  letter : (c : ℕ) → meaning c ≡ b → b < 0x80 → c < 0x80 → Form b (0x5C ∷ c ∷ [])

-- a byte function with which texts can be read back
abbrev pub ReadBack : (ℕ → List ℕ) → Type 0
ReadBack f = (b : ℕ) → Form b (f b)

-- a byte that is a given one becomes a backslash and a letter that means it
to_letter : (b k c : ℕ) → eqb b k ≡ true → meaning c ≡ k → k < 0x80 → c < 0x80 → Form b (backslashed c)
to_letter b k c t m h l = let e = eqb-true b k t in letter c (m ∙ sym e) (omega arith) l

-- NSON's is one
pub nson_escaping : ReadBack nson_byte
unfolding nson_byte meaning
nson_escaping b =
    pick_by (Form b) (eqb b 0x0A) (λ t. to_letter b 0x0A 0x6E t refl (omega arith) (omega arith))
    (λ n.
    pick_by (Form b) (eqb b 0x22) (λ t. to_letter b 0x22 0x22 t refl (omega arith) (omega arith))
    (λ m. pick_by (Form b) (eqb b 0x5C) (λ t. to_letter b 0x5C 0x5C t refl (omega arith) (omega arith)) (λ k. itself (eqb-false b 0x5C k))))

-- the canonical text's is one
pub canonical_escaping : ReadBack canonical_byte
unfolding canonical_byte meaning
canonical_escaping b =
    pick_by (Form b) (eqb b 0x0D) (λ t. to_letter b 0x0D 0x72 t refl (omega arith) (omega arith))
    (λ n.
    pick_by (Form b) (eqb b 0x09) (λ t. to_letter b 0x09 0x74 t refl (omega arith) (omega arith))
    (λ n.
    pick_by (Form b) (eqb b 0x08) (λ t. to_letter b 0x08 0x62 t refl (omega arith) (omega arith))
    (λ n. pick_by (Form b) (eqb b 0x0C) (λ t. to_letter b 0x0C 0x66 t refl (omega arith) (omega arith)) (λ n. nson_escaping b))))

-- and so each
pub escaping : (k : Escaping) → ReadBack (byte_of k)
escaping Canonical = canonical_escaping
escaping Nson = nson_escaping

-- ---- by the code's tests

not_below : (k b : ℕ) → (b < k → ⊥) → k ≤ b
not_below k b q = omega (arith, q)

next : (k b : ℕ) → k ≤ b → (b ≡ k → ⊥) → k + 1 ≤ b
next k b h n = omega arith

-- a byte that is none of 08 to 0D is not in the range
outside : (b : ℕ) → (b ≡ 0x08 → ⊥) → (b ≡ 0x09 → ⊥) → (b ≡ 0x0A → ⊥) → (b ≡ 0x0B → ⊥) → (b ≡ 0x0C → ⊥) → (b ≡ 0x0D → ⊥) → within 0x08 0x0D b ≡ false
unfolding within
outside b n8 n9 nA nB nC nD =
    dite (dec_lt b 0x08) (λ l. simp (lt-leb 0x08 b l))
    (λ l.
    let h = not_below 0x08 b l in
    simp (le-leb 0x08 b h, lt-leb b 0x0D (next 0x0D b (next 0x0C b (next 0x0B b (next 0x0A b (next 0x09 b (next 0x08 b h n8) n9) nA) nB) nC) nD)))

-- what a byte becomes, by the two tests that the code makes
pub byte_tests : (k : Escaping) (b : ℕ) → byte_of k b ≡ pick (is_escaped k b) (backslashed (escape_letter b)) (b ∷ [])
unfolding nson_byte canonical_byte is_escaped escape_letter within
byte_tests Canonical b =
    dite (ℕ_discrete b 0x0D) (λ e. rw e refl)
    (λ r.
    dite (ℕ_discrete b 0x09) (λ e. rw e refl)
    (λ h.
    dite (ℕ_discrete b 0x08) (λ e. rw e refl)
    (λ g.
    dite (ℕ_discrete b 0x0C) (λ e. rw e refl)
    (λ f.
    dite (ℕ_discrete b 0x0A) (λ e. rw e refl)
    (λ n.
    dite (ℕ_discrete b 0x22) (λ e. rw e refl)
    (λ m.
    dite (ℕ_discrete b 0x5C) (λ e. rw e refl)
    (λ k.
    dite (ℕ_discrete b 0x0B) (λ e. rw e refl)
    (λ v.
    simp (ne_eqb b 0x0A n, ne_eqb b 0x22 m, ne_eqb b 0x5C k, ne_eqb b 0x0D r, ne_eqb b 0x09 h, ne_eqb b 0x08 g, ne_eqb b 0x0C f, outside b g h n v f r)))))))))
byte_tests Nson b =
    dite (ℕ_discrete b 0x0A) (λ e. rw e refl)
    (λ n.
    dite (ℕ_discrete b 0x22) (λ e. rw e refl)
    (λ m.
    dite (ℕ_discrete b 0x5C) (λ e. rw e refl)
    (λ k. simp (ne_eqb b 0x0A n, ne_eqb b 0x22 m, ne_eqb b 0x5C k))))

-- a byte that passed the test
pub byte_two : (k : Escaping) (b : ℕ) {t : Bool} → t ≡ is_escaped k b → t ≡ true → byte_of k b ≡ backslashed (escape_letter b)
byte_two k b p q = byte_tests k b ∙ rw (sym p, q)

-- a byte that did not
pub byte_one : (k : Escaping) (b : ℕ) {t : Bool} → t ≡ is_escaped k b → t ≡ false → byte_of k b ≡ b ∷ []
byte_one k b p q = byte_tests k b ∙ rw (sym p, q)
