-- What the functions over slots know on the way: a slot is made of its three parts, a table filled up to i has the
-- slots up to i, and the bytes left are those of the slots left. Each premise is a fact of the code.
use Prim.Native.Nat.{ℕ, ◌+◌, ◌*◌, ◌<◌, ◌≤◌}
use mathlib.Core.Path.{◌≡◌, sym, ap, ◌∙◌}
use mathlib.Core.List.{List, [], ◌++◌}
use native.Mathlib.Numerals.{add-one}
use native.Mathlib.Omega.{arith}
use lib.ListN.{length, get_or, take, drop, set, length-take, drop_of_length-le}
use lib.Seq.{take_all, take-take, take-suc, take-suc-set, drop-cons}
use Rattle.scan.specs.Place.{byte_at}
use Rattle.littleendian.specs.LittleEndian.{number_of}
use Rattle.slots.specs.declared.Slot.{Slot}
use Rattle.slots.specs.Slots.{free_slot}
use Rattle.slotbytes.specs.SlotBytes.{slot_of, slots_in, slot_bytes, slots_bytes}
use Rattle.slotbytes.proofs.Laws.{length_slots, slot_at}

pub slot_made : (b p q : List ℕ) (m u v : ℕ) → m ≡ byte_at b 0 → p ≡ take 7 (drop 1 b) → u ≡ number_of (take 8 p) → q ≡ take 8 (drop 8 b) → v ≡ number_of (take 8 q)
    → record { mark = m; spare = u; len = v } ≡ slot_of b
unfolding slot_of
slot_made b p q m u v d e f g h =
    let s = f ∙ ap number_of (ap (take 8) e ∙ take_all 8 (take 7 (drop 1 b)) (omega (arith, length-take 7 (drop 1 b)))) in
    let l = h ∙ ap number_of (ap (take 8) g ∙ take-take 8 8 (drop 8 b) (omega arith)) in
    λ i. record { mark = d i; spare = s i; len = l i }

-- ---- a table filled from the front

pub table_turn : (n : ℕ) (b p : List ℕ) (t : List Slot) (i : ℕ) (s : Slot) → length t ≡ n → take i t ≡ take i (slots_in n b) → i < n
    → p ≡ take 16 (drop (16 * i) b) → s ≡ slot_of p → take (i + 1) (set t i s) ≡ take (i + 1) (slots_in n b)
table_turn n b p t i s k h l e f =
    let m = length_slots n b in
    rw (add-one i, take-suc-set t i s (omega arith), take-suc (slots_in n b) i free_slot (omega arith), h, slot_at n b i free_slot l, f, e)

pub table_end : (n : ℕ) (b : List ℕ) (t : List Slot) (i : ℕ) → length t ≡ n → take i t ≡ take i (slots_in n b) → n ≤ i → t ≡ slots_in n b
table_end n b t i k h l = sym (take_all i t (omega arith)) ∙ h ∙ take_all i (slots_in n b) (omega (arith, length_slots n b))

-- ---- slots left to write

pub bytes_turn : (t : List Slot) (i : ℕ) (d : Slot) → i < length t → slots_bytes (drop i t) ≡ slot_bytes (get_or t i d) ++ slots_bytes (drop (i + 1) t)
bytes_turn t i d h = rw (add-one i, drop-cons t i d h)

pub bytes_end : (t : List Slot) (i : ℕ) → length t ≤ i → slots_bytes (drop i t) ≡ []
bytes_end t i h = rw (drop_of_length-le t h)
