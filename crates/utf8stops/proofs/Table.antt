-- What the table has: entry i is the stop of word i, the rest is as it was, and so is the length.
-- By induction on the number of entries.
use Prim.Native.Nat.{ℕ, zero, suc, ◌+◌, ◌*◌, ◌<◌, ◌≤◌}
use mathlib.Core.Path.{◌≡◌, refl, ap, ◌∙◌}
use mathlib.Core.Bool.{Bool, true, false, ◌&&◌}
use mathlib.Core.List.{List, ◌++◌}
use native.Mathlib.Omega.{arith}
use lib.ListN.{length, get_or, drop, length-append, length-drop, get_or-append}
use lib.Dec.{leb}
use borrow.Author.Tests.{le-leb, leb-true}
use Rattle.scan.proofs.Step.{pick_by, false_true}
use Rattle.utf8stops.specs.Stops.{stop_at, words, stop_list, has_room, stops_left}

pub list_length : (k : ℕ) (d : List ℕ) (i : ℕ) → length (stop_list k d i) ≡ k
unfolding stop_list
list_length zero d i = refl
list_length (suc k) d i = ap suc (list_length k d (i + 1))

pub list_entry : (k : ℕ) (d : List ℕ) (i j : ℕ) → j < k → get_or (stop_list k d i) j 0 ≡ stop_at d (8 * (i + j))
unfolding stop_list
list_entry zero d i j h = absurd (omega arith)
list_entry (suc k) d i zero h = let e : i ≡ i + 0 = omega arith in ap (λ (x : ℕ). stop_at d (8 * x)) e
list_entry (suc k) d i (suc j) h =
    let e : i + 1 + j ≡ i + suc j = omega arith in
    list_entry k d (i + 1) j (omega arith) ∙ ap (λ (x : ℕ). stop_at d (8 * x)) e

-- ---- the table as it is left

pub room_bounds : (d t : List ℕ) → has_room d t ≡ true → (length d ≤ 65_535) × (words d ≤ length t)
unfolding has_room
room_bounds d t e =
    let b = both (leb (length d) 65_535) (leb (words d) (length t)) e in
    (leb-true (length d) 65_535 b.0, leb-true (words d) (length t) b.1)
  where
    both : (x y : Bool) → (x && y) ≡ true → (x ≡ true) × (y ≡ true)
    both true y e = (refl, e)
    both false y e = absurd (false_true e)

table_room : (d t : List ℕ) → length d ≤ 65_535 → words d ≤ length t → has_room d t ≡ true
unfolding has_room
table_room d t h k = rw (le-leb (length d) 65_535 h, le-leb (words d) (length t) k)

-- with room, and without
pub left_room : (d t : List ℕ) → has_room d t ≡ true → stops_left d t ≡ stop_list (words d) d 0 ++ drop (words d) t
unfolding stops_left
left_room d t e = rw e

pub left_none : (d t : List ℕ) → has_room d t ≡ false → stops_left d t ≡ t
unfolding stops_left
left_none d t e = rw e

-- THE law: the entry of a word is its stop
pub table_entry : (d t : List ℕ) (i : ℕ) → length d ≤ 65_535 → words d ≤ length t → i < words d → get_or (stops_left d t) i 0 ≡ stop_at d (8 * i)
table_entry d t i h k l =
    let n = list_length (words d) d 0 in
    let e : 0 + i ≡ i = omega arith in
    ap (λ (x : List ℕ). get_or x i 0) (left_room d t (table_room d t h k))
    ∙ get_or-append (stop_list (words d) d 0) (drop (words d) t) 0 i (rw n l)
    ∙ list_entry (words d) d 0 i l
    ∙ ap (λ (x : ℕ). stop_at d (8 * x)) e

-- the length stays
pub table_length : (d t : List ℕ) → length (stops_left d t) ≡ length t
unfolding stops_left
table_length d t =
    pick_by (λ (x : List ℕ). length x ≡ length t) (has_room d t)
    (λ e.
    let n = list_length (words d) d 0 in
    let m = length-drop (words d) t in
    omega (arith, (room_bounds d t e).1, n, m, length-append (stop_list (words d) d 0) (drop (words d) t)))
    (λ e. refl)

pub ruleset room = (room_bounds, left_room, left_none)
