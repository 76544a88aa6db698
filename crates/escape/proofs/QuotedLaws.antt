-- An escaped text may stand between quotes, and the first bare quote ends it. What NSON can carry is a property of each
-- byte.
-- By the tests of the byte functions, and induction on the text.
use Prim.Native.Nat.{ℕ, ◌≤◌}
use mathlib.Core.Path.{◌≡◌, refl, sym}
use mathlib.Core.Bool.{true}
use mathlib.Core.List.{List, [], ◌∷◌, ◌++◌}
use mathlib.Core.Logic.{◌↔◌, dite}
use native.Mathlib.Omega.{arith}
use native.Mathlib.Decide.{dec_lt, ℕ_discrete}
use lib.ListN.{length, length-append}
use lib.Dec.{eqb}
use borrow.Author.Tests.{eqb-true, eqb-false, eq-eqb, ne_eqb, lt-ltb, le-ltb}
use Rattle.scan.specs.Bytes.{All, also}
use Rattle.scan.proofs.Step.{pick_by}
use Rattle.escape.specs.Escape.{backslashed, nson_byte, canonical_byte, escaped, Carried, newline, other}
use Rattle.escape.specs.inner.Controls.{is_uncarried, controls, nson_text}
use Rattle.escape.specs.inner.Quoted.{Quoted, none, bare, escape, NsonBare, nson_bare, NsonLetter, letter_n, letter_quote, letter_backslash, CanonicalBare, canonical_bare, CanonicalLetter, letter_nson, letter_r, letter_t, letter_b, letter_f}
use Rattle.escape.proofs.ByteLaws.{nson_escaping}
use Rattle.escape.proofs.TextLaws.{form_length, length_least}

-- ---- what NSON can carry

-- a byte that NSON can carry counts for nothing
carried_none : {b : ℕ} → Carried b → is_uncarried b ≡ 0
unfolding is_uncarried
carried_none newline = refl
carried_none (other {b = b} h) = rw (le-ltb b 0x20 h)

none_carried : (b : ℕ) → is_uncarried b ≡ 0 → Carried b
unfolding is_uncarried
none_carried b h =
    dite (dec_lt b 0x20)
    (λ l.
    dite (ℕ_discrete b 0x0A) (λ e. rw e newline)
    (λ n. let z = rw (lt-ltb b 0x20 l, ne_eqb b 0x0A n) at h in absurd (omega arith)))
    (λ g. other (omega (arith, g)))

text_all : (t : List ℕ) → controls t ≡ 0 → All Carried t
unfolding controls
text_all [] h = All.none
text_all (b ∷ t) h = also (none_carried b (omega arith)) (text_all t (omega arith))

all_text : {t : List ℕ} → All Carried t → controls t ≡ 0
unfolding controls
all_text All.none = refl
all_text (also p r) = let n = carried_none p in omega (arith, all_text r)

-- NSON can carry a text exactly if it can carry each of its bytes
pub nson_text_lem : (t : List ℕ) → (nson_text t ≡ true) ↔ All Carried t
unfolding nson_text
nson_text_lem t = (λ h. text_all t (eqb-true (controls t) 0 h), λ a. eq-eqb (controls t) 0 (all_text a))

-- ---- between quotes

-- what one byte becomes
data Piece (Bare Letter : ℕ → Type 0) : List ℕ → Type 0 where
  stands : {b : ℕ} → Bare b → Piece Bare Letter (b ∷ [])
  hides : {c : ℕ} → Letter c → Piece Bare Letter (backslashed c)

quoted_more : {Bare Letter : ℕ → Type 0} {x l : List ℕ} → Piece Bare Letter x → Quoted Bare Letter l → Quoted Bare Letter (x ++ l)
quoted_more (stands p) q = bare p q
quoted_more (hides p) q = escape p q

quoted_all : {Bare Letter P : ℕ → Type 0} (f : ℕ → List ℕ) → ((b : ℕ) → P b → Piece Bare Letter (f b)) → {t : List ℕ} → All P t → Quoted Bare Letter (escaped f t)
unfolding escaped
quoted_all f g All.none = none
quoted_all f g (also {b = b} p r) = quoted_more (g b p) (quoted_all f g r)

carried_least : {b : ℕ} → Carried b → (b ≡ 0x0A → ⊥) → 0x20 ≤ b
carried_least newline n = absurd (n refl)
carried_least (other h) n = h

nson_piece : (b : ℕ) → Carried b → Piece NsonBare NsonLetter (nson_byte b)
unfolding nson_byte
nson_piece b p =
    let Q = Piece NsonBare NsonLetter in
    pick_by Q (eqb b 0x0A) (λ t. hides letter_n)
    (λ n.
    pick_by Q (eqb b 0x22) (λ t. hides letter_quote)
    (λ m.
    pick_by Q (eqb b 0x5C) (λ t. hides letter_backslash)
    (λ k. stands (nson_bare (carried_least p (eqb-false b 0x0A n)) (eqb-false b 0x22 m) (eqb-false b 0x5C k)))))

-- what NSON can carry may stand between quotes once it is escaped: no byte below 20, no quote and no backslash is bare
pub nson_quoted : (t : List ℕ) → nson_text t ≡ true → Quoted NsonBare NsonLetter (escaped nson_byte t)
nson_quoted t h = quoted_all nson_byte nson_piece ((nson_text_lem t).0 h)

canonical_piece : (b : ℕ) → Piece CanonicalBare CanonicalLetter (canonical_byte b)
unfolding canonical_byte nson_byte
canonical_piece b =
    let Q = Piece CanonicalBare CanonicalLetter in
    pick_by Q (eqb b 0x0D) (λ t. hides letter_r)
    (λ r.
    pick_by Q (eqb b 0x09) (λ t. hides letter_t)
    (λ h.
    pick_by Q (eqb b 0x08) (λ t. hides letter_b)
    (λ g.
    pick_by Q (eqb b 0x0C) (λ t. hides letter_f)
    (λ f.
    pick_by Q (eqb b 0x0A) (λ t. hides (letter_nson letter_n))
    (λ n.
    pick_by Q (eqb b 0x22) (λ t. hides (letter_nson letter_quote))
    (λ m.
    pick_by Q (eqb b 0x5C) (λ t. hides (letter_nson letter_backslash))
    (λ k.
    stands
    (canonical_bare (eqb-false b 0x0A n) (eqb-false b 0x22 m) (eqb-false b 0x5C k) (eqb-false b 0x0D r) (eqb-false b 0x09 h) (eqb-false b 0x08 g) (eqb-false b 0x0C f)))))))))

-- in the canonical text none of the seven bytes is bare
pub canonical_quoted : (t : List ℕ) → Quoted CanonicalBare CanonicalLetter (escaped canonical_byte t)
unfolding escaped
canonical_quoted [] = none
canonical_quoted (b ∷ t) = quoted_more (canonical_piece b) (canonical_quoted t)

-- ---- where it ends

-- of a bare byte: it is no quote and no backslash
abbrev Closed : (ℕ → Type 0) → Type 0
Closed Bare = (b : ℕ) → Bare b → (b ≡ 0x22 → ⊥) × (b ≡ 0x5C → ⊥)

-- two quoted texts, each with a quote behind it, are the same where the bytes are
quoted_ends : {Bare Letter : ℕ → Type 0} → Closed Bare → {l m : List ℕ} → Quoted Bare Letter l → Quoted Bare Letter m
    → (x y : List ℕ) → l ++ (0x22 ∷ x) ≡ m ++ (0x22 ∷ y) → (l ≡ m) × (x ≡ y)
quoted_ends k none none x y e = (refl, (cc))
quoted_ends k none (bare {b = b} p q) x y e = let f : 0x22 ≡ b = cc in absurd ((k b p).0 (sym f))
quoted_ends k none (escape p q) x y e = let f : ◌≡◌ {A = ℕ} 0x22 0x5C = cc in absurd (omega arith)
quoted_ends k (bare {b = b} p q) none x y e = let f : b ≡ 0x22 = cc in absurd ((k b p).0 f)
quoted_ends k (bare {l = l} p q) (bare {l = m} p' q') x y e =
    let f : l ++ (0x22 ∷ x) ≡ m ++ (0x22 ∷ y) = cc in
    let r = quoted_ends k q q' x y f in
    ((cc), r.1)
quoted_ends k (bare {b = b} p q) (escape p' q') x y e = let f : b ≡ 0x5C = cc in absurd ((k b p).1 f)
quoted_ends k (escape p q) none x y e = let f : ◌≡◌ {A = ℕ} 0x22 0x5C = cc in absurd (omega arith)
quoted_ends k (escape p q) (bare {b = b} p' q') x y e = let f : b ≡ 0x5C = cc in absurd ((k b p').1 f)
quoted_ends k (escape {l = l} p q) (escape {l = m} p' q') x y e =
    let f : l ++ (0x22 ∷ x) ≡ m ++ (0x22 ∷ y) = cc in
    let r = quoted_ends k q q' x y f in
    ((cc), r.1)

nson_closed : Closed NsonBare
nson_closed b (nson_bare h n m) = (n, m)

canonical_closed : Closed CanonicalBare
canonical_closed b (canonical_bare n m k r h g f) = (m, k)

-- what stands between quotes in NSON ends at the first bare quote
pub nson_ends : {l m : List ℕ} → Quoted NsonBare NsonLetter l → Quoted NsonBare NsonLetter m → (x y : List ℕ) → l ++ (0x22 ∷ x) ≡ m ++ (0x22 ∷ y) → (l ≡ m) × (x ≡ y)
nson_ends = quoted_ends nson_closed

-- and so in the canonical text
pub canonical_ends : {l m : List ℕ} → Quoted CanonicalBare CanonicalLetter l → Quoted CanonicalBare CanonicalLetter m → (x y : List ℕ) → l ++ (0x22 ∷ x) ≡ m ++ (0x22 ∷ y) → (l ≡ m) × (x ≡ y)
canonical_ends = quoted_ends canonical_closed

-- ---- a text that needs no escape

-- a byte that stands as one and can be carried is bare
one_bare : (b : ℕ) → length (nson_byte b) ≤ 1 → Carried b → NsonBare b
unfolding nson_byte
one_bare _ h newline = absurd (omega arith)
one_bare b h (other m) =
    dite (ℕ_discrete b 0x22) (λ e. let q = rw (ne_eqb b 0x0A (λ f. omega arith), eq-eqb b 0x22 e) at h in absurd (omega arith))
    (λ n.
    dite (ℕ_discrete b 0x5C) (λ e. let q = rw (ne_eqb b 0x0A (λ f. omega arith), ne_eqb b 0x22 n, eq-eqb b 0x5C e) at h in absurd (omega arith))
    (λ k. nson_bare m n k))

carried_bare : {t : List ℕ} → All Carried t → length (escaped nson_byte t) ≡ length t → All NsonBare t
unfolding escaped
carried_bare All.none e = All.none
carried_bare (also {b = b} {l = t} c r) e =
    let k = length-append (nson_byte b) (escaped nson_byte t) in
    let m = length_least nson_byte nson_escaping t in
    let n = (form_length (nson_escaping b)).0 in
    also (one_bare b (omega arith) c) (carried_bare r (omega arith))

-- a text that NSON can carry and that is no longer when escaped is bare bytes
pub bare_text : (t : List ℕ) → length (escaped nson_byte t) ≡ length t → nson_text t ≡ true → All NsonBare t
bare_text t e c = carried_bare ((nson_text_lem t).0 c) e
