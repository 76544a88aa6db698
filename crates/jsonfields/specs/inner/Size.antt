-- What is measured of texts and tags: the length that they take in the strict form. Assumes nothing.
use Rattle.std.specs.Prelude.{ℕ, ◌+◌, ◌^◌, ◌<◌, ◌≤◌, ◌≡◌, List, [], ◌∷◌, length, Result, Ok, Err}
use Rattle.scan.specs.Choice.{Answer, Read}
use Rattle.event.specs.Event.{Text, Tag}
use Rattle.event.specs.declared.Refusal.{Refusal}
use Rattle.event.specs.inner.Told.{read_answer}
use Rattle.notepack.specs.Strict.{pack_element, pack_tag}
use Rattle.jsonfields.specs.declared.Sized.{Sized}

unfoldable pub element_size : Text → ℕ
element_size t = length (pack_element t)

unfoldable pub tag_size : Tag → ℕ
tag_size t = length (pack_tag t)

-- the sum over a list
unfoldable pub total : {A : Type 0} → (A → ℕ) → List A → ℕ
total size [] = 0
total size (x ∷ l) = size x + total size l

-- how many items, and their length
abbrev pub sized : {A : Type 0} → (A → ℕ) → List A → Sized
sized size l = record { count = length l; len = total size l }

-- the same of items that are told by their length
abbrev pub lengths : List ℕ → Sized
lengths l = sized (λ n. n) l

-- ---- a function that reads items, and tells each by its length with the place behind it: its answers are `tell`'s ..
abbrev pub Tells : (ℕ → Answer (Read ℕ)) → (ℕ → Result (ℕ × ℕ) Refusal → Type 0) → Type 0
Tells tell reads = (i : ℕ) (r : Result (ℕ × ℕ) Refusal) → i < 2 ^ 64 → reads i r → read_answer r ≡ tell i

-- an item from a place on that ends within the input, and takes at most 2,560 bytes more in the strict form than here
abbrev pub IsSmall : (most from : ℕ) → Result (ℕ × ℕ) Refusal → Type 0
IsSmall most from (Ok x) = (from ≤ x.1) × (x.1 ≤ most) × (x.0 + from ≤ x.1 + 2_560)
IsSmall most from (Err r) = Unit {0}

-- .. and each is small
abbrev pub KeepsSmall : ℕ → (ℕ → Result (ℕ × ℕ) Refusal → Type 0) → Type 0
KeepsSmall most reads = (i : ℕ) (r : Result (ℕ × ℕ) Refusal) → i < 2 ^ 64 → reads i r → IsSmall most i r
