-- The table on the way: in front as it was, then the stops of the words from i on, then the rest as it was.
-- A turn of the backward pass sets the entry before the stops.
use Prim.Native.Nat.{ℕ, suc, ◌+◌, ◌-◌, ◌*◌, ◌<◌, ◌≤◌}
use mathlib.Core.Path.{◌≡◌, refl, sym, ap, ◌∙◌}
use mathlib.Core.List.{List, [], ◌∷◌, ◌++◌, append_assoc}
use native.Mathlib.Omega.{arith}
use lib.ListN.{length, get_or, set, take, drop, length-append, length-drop, take-append-drop, get_or-append}
use lib.Seq.{get_or-append-add, length-take-le, set_at, take-suc}
use Rattle.utf8stops.specs.Stops.{stop_at, words, stop_list}
use Rattle.utf8stops.specs.inner.Pass.{Told}
use Rattle.utf8stops.proofs.Table.{list_length, list_entry}

-- the table with the stops of the words from i on
unfoldable pub filled_from : (d t : List ℕ) → ℕ → List ℕ
filled_from d t i = take i t ++ (stop_list (words d - i) d i ++ drop (words d) t)

-- the table is filled from word i on
pub record Filled (d t₀ : List ℕ) (i : ℕ) (t : List ℕ) : Type 0 where
  pub most : i ≤ words d
  pub is : t ≡ filled_from d t₀ i

list_none : (k : ℕ) (d : List ℕ) (i : ℕ) → k ≡ 0 → stop_list k d i ≡ []
unfolding stop_list
list_none k d i e = rw e

list_more : (k j : ℕ) (d : List ℕ) (i : ℕ) → k ≡ suc j → stop_list k d i ≡ stop_at d (8 * i) ∷ stop_list j d (i + 1)
unfolding stop_list
list_more k j d i e = rw e

pub fill_none : (d t : List ℕ) → Filled d t (words d) t
unfolding filled_from
fill_none d t =
    record { most = omega arith; is = sym (rw (list_none (words d - words d) d (words d) (omega arith)) (take-append-drop (words d) t)) }

module _ (d t₀ : List ℕ) (i : ℕ) {t : List ℕ} (room : words d ≤ length t₀) (f : Filled d t₀ i t) where
  -- the length stays
  pub fill_length : length t ≡ length t₀
  unfolding filled_from
  fill_length =
      let k = stop_list (words d - i) d i in
      let r = drop (words d) t₀ in
      ap length f.is
      ∙ omega (
        arith,
        f.most,
        room,
        length-append (take i t₀) (k ++ r),
        length-append k r,
        length-take-le i t₀ (omega (arith, f.most, room)),
        length-drop (words d) t₀,
        list_length (words d - i) d i,
      )

  -- the entry of a later word
  entry : (j : ℕ) → i ≤ j → j < words d → get_or t j 0 ≡ stop_at d (8 * j)
  unfolding filled_from
  entry j h l =
      let k = stop_list (words d - i) d i in
      let r = drop (words d) t₀ in
      let n = length-take-le i t₀ (omega (arith, f.most, room)) in
      let e : j ≡ length (take i t₀) + (j - i) = omega arith in
      let g : i + (j - i) ≡ j = omega arith in
      ap (λ (x : List ℕ). get_or x j 0) f.is
      ∙ ap (λ (x : ℕ). get_or (take i t₀ ++ (k ++ r)) x 0) e
      ∙ get_or-append-add (take i t₀) (k ++ r) (j - i) 0
      ∙ get_or-append k r 0 (j - i) (omega (arith, l, h, list_length (words d - i) d i))
      ∙ list_entry (words d - i) d i (j - i) (omega (arith, l, h))
      ∙ ap (λ (x : ℕ). stop_at d (8 * x)) g

  -- so the table tells all that stands behind the word before
  pub fill_told : 0 < i → Told d (8 * (i - 1) + 1) t
  fill_told h = record { each = λ j k l. entry j (omega (arith, h, k)) (omega (arith, l)); room = omega (arith, fill_length, room) }

  -- one word more
  pub fill_more : (v : ℕ) → 0 < i → v ≡ stop_at d (8 * (i - 1)) → Filled d t₀ (i - 1) (set t (i - 1) v)
  unfolding filled_from
  fill_more v h e =
      let m = i - 1 in
      let r = stop_list (words d - i) d i ++ drop (words d) t₀ in
      let a : i ≡ suc m = omega arith in
      let b : m + 1 ≡ i = omega arith in
      let l : m < length t₀ = omega (arith, f.most, room) in
      let g = ap (λ (x : ℕ). take x t₀) a ∙ take-suc t₀ m 0 l in
      let c = f.is ∙ ap (λ (x : List ℕ). x ++ r) g ∙ append_assoc (take m t₀) (get_or t₀ m 0 ∷ []) r in
      let n = list_more (words d - m) (words d - i) d m (omega (arith, f.most, h)) ∙ ap (λ (x : ℕ). stop_at d (8 * m) ∷ stop_list (words d - i) d x) b in
      record {
        most = omega (arith, f.most);
        is =
            ap (λ (x : List ℕ). set x m v) c
            ∙ set_at (take m t₀) (get_or t₀ m 0) r v m (length-take-le m t₀ (omega arith))
            ∙ ap (λ (x : ℕ). take m t₀ ++ (x ∷ r)) e
            ∙ sym (ap (λ (x : List ℕ). take m t₀ ++ (x ++ drop (words d) t₀)) n);
      }

pub fill_done : (d t₀ t : List ℕ) (i : ℕ) → i ≡ 0 → Filled d t₀ i t → t ≡ stop_list (words d) d 0 ++ drop (words d) t₀
unfolding filled_from
fill_done d t₀ t i e f =
    let z : words d - i ≡ words d = omega arith in
    f.is
    ∙ ap (λ (x : ℕ). take i t₀ ++ (stop_list x d i ++ drop (words d) t₀)) z
    ∙ ap (λ (x : ℕ). take x t₀ ++ (stop_list (words d) d x ++ drop (words d) t₀)) e
    ∙ ap (λ (x : List ℕ). x ++ (stop_list (words d) d 0 ++ drop (words d) t₀)) (take_zero t₀)
  where
    take_zero : (l : List ℕ) → take 0 l ≡ []
    take_zero [] = refl
    take_zero (x ∷ l) = refl

pub ruleset turns = (fill_none, fill_length, fill_more)
