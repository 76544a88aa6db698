-- The laws of slots as bytes: 16 bytes and a slot determine each other, and to change one slot is to change its 16
-- bytes. By induction on the number of slots, 16 bytes at a time.
use Prim.Native.Nat.{ℕ, zero, suc, ◌+◌, ◌*◌, ◌<◌, ◌^◌}
use mathlib.Core.Path.{◌≡◌, refl, sym, ap, ◌∙◌}
use mathlib.Core.List.{List, [], ◌∷◌, ◌++◌, append_assoc}
use native.Mathlib.Omega.{arith}
use lib.ListN.{length, get_or, take, drop, set, replicate, length-append, length-drop, take-append-drop, replicate-append-replicate}
use lib.Seq.{take_all, take_at, drop_at, take-add, drop-drop, length-take-le}
use Rattle.scan.specs.Bytes.{also, IsBytes}
use Rattle.scan.proofs.AllLaws.{all_append, all_take, all_drop}
use Rattle.littleendian.specs.LittleEndian.{number_of, low_first}
use Rattle.littleendian.proofs.Laws.{length_low, low_bytes, bytes_back, number_back}
use Rattle.slots.specs.declared.Slot.{Slot}
use Rattle.slots.specs.Slots.{free_slot}
use Rattle.slotbytes.specs.SlotBytes.{slot_of, slots_in, slot_bytes, slots_bytes}

-- ---- one slot

pub length_slot : (s : Slot) → length (slot_bytes s) ≡ 16
unfolding slot_bytes
length_slot s = omega (arith, length-append (low_first 7 s.spare) (low_first 8 s.len), length_low 7 s.spare, length_low 8 s.len)

pub slot_bytes_lem : (s : Slot) → s.mark < 256 → IsBytes (slot_bytes s)
unfolding slot_bytes
slot_bytes_lem s h = also h (all_append (low_bytes 7 s.spare) (low_bytes 8 s.len))

-- so many bytes are the lowest bytes of their number
low_back : (n : ℕ) (l : List ℕ) → IsBytes l → length l ≡ n → low_first n (number_of l) ≡ l
low_back n l b h = ap (λ (k : ℕ). low_first k (number_of l)) (sym h) ∙ bytes_back l b

pub slot_back : (b : List ℕ) → IsBytes b → length b ≡ 16 → slot_bytes (slot_of b) ≡ b
unfolding slot_of slot_bytes
slot_back [] b h = absurd (omega arith)
slot_back (x ∷ l) (also p b) h =
    let f = low_back 7 (take 7 l) (all_take 7 b) (length-take-le 7 l (omega arith)) in
    let m : length (drop 7 l) ≡ 8 = length-drop 7 l ∙ omega arith in
    let t = take_all 8 (drop 7 l) (omega arith) in
    let g = low_back 8 (drop 7 l) (all_drop 7 b) m in
    rw (f, t, g, take-append-drop 7 l)

pub slot_read : (s : Slot) → s.spare < 256 ^ 7 → s.len < 2 ^ 64 → slot_of (slot_bytes s) ≡ s
unfolding slot_of slot_bytes
slot_read s h k =
    let a = low_first 7 s.spare in
    let z = low_first 8 s.len in
    let n = length_low 7 s.spare in
    let f = ap number_of (take_at a z 7 n) ∙ number_back 7 s.spare h in
    let g = ap number_of (ap (take 8) (drop_at a z 7 n) ∙ take_all 8 z (omega (arith, length_low 8 s.len))) ∙ number_back 8 s.len k in
    λ i. record { mark = s.mark; spare = f i; len = g i }

-- ---- all slots

pub length_slots : (n : ℕ) (b : List ℕ) → length (slots_in n b) ≡ n
length_slots zero b = refl
length_slots (suc n) b = ap suc (length_slots n (drop 16 b))

pub length_bytes : (l : List Slot) → length (slots_bytes l) ≡ 16 * length l
length_bytes [] = refl
length_bytes (s ∷ l) = omega (arith, length-append (slot_bytes s) (slots_bytes l), length_slot s, length_bytes l)

-- slot i is that of the 16 bytes from 16 i on
pub slot_at : (n : ℕ) (b : List ℕ) (i : ℕ) (d : Slot) → i < n → get_or (slots_in n b) i d ≡ slot_of (take 16 (drop (16 * i) b))
slot_at zero b i d h = absurd (omega arith)
slot_at (suc n) b zero d h = refl
slot_at (suc n) b (suc i) d h =
    let e : 16 + 16 * i ≡ 16 * suc i = omega arith in
    slot_at n (drop 16 b) i d (omega arith) ∙ ap (λ (l : List ℕ). slot_of (take 16 l)) (drop-drop (16 * i) 16 b ∙ ap (λ (k : ℕ). drop k b) e)

-- 16 bytes, and those behind them
cut : (n : ℕ) (b : List ℕ) → length b ≡ 16 * suc n → (length (take 16 b) ≡ 16) × (length (drop 16 b) ≡ 16 * n)
cut n b h = (length-take-le 16 b (omega arith), length-drop 16 b ∙ omega arith)

pub slots_back : (n : ℕ) (b : List ℕ) → IsBytes b → length b ≡ 16 * n → slots_bytes (slots_in n b) ≡ b
slots_back zero [] y h = refl
slots_back zero (x ∷ b) y h = absurd (omega arith)
slots_back (suc n) b y h =
    let c = cut n b h in
    rw (slot_back (take 16 b) (all_take 16 y) c.0, slots_back n (drop 16 b) (all_drop 16 y) c.1) (take-append-drop 16 b)

-- ---- one slot of all

-- b with the 16 bytes of s from 16 i on
abbrev over : ℕ → Slot → List ℕ → List ℕ
over i s b = take (16 * i) b ++ slot_bytes s ++ drop (16 * i + 16) b

-- of a slot behind the first: the first 16 bytes, and the others with it
over_next : (i : ℕ) (s : Slot) (b : List ℕ) → over (suc i) s b ≡ take 16 b ++ over i s (drop 16 b)
over_next i s b =
    let e : 16 * suc i ≡ 16 + 16 * i = omega arith in
    let f : 16 * suc i + 16 ≡ 16 + (16 * i + 16) = omega arith in
    rw (f, e, take-add 16 (16 * i) b, ← drop-drop (16 * i + 16) 16 b)
    (ap (λ (l : List ℕ). l ++ drop (16 * i + 16) (drop 16 b)) (append_assoc (take 16 b) (take (16 * i) (drop 16 b)) (slot_bytes s))
    ∙ append_assoc (take 16 b) (take (16 * i) (drop 16 b) ++ slot_bytes s) (drop (16 * i + 16) (drop 16 b)))

pub slots_set : (n : ℕ) (b : List ℕ) (i : ℕ) (s : Slot) → IsBytes b → length b ≡ 16 * n → i < n
    → slots_bytes (set (slots_in n b) i s) ≡ take (16 * i) b ++ slot_bytes s ++ drop (16 * i + 16) b
slots_set zero b i s y h l = absurd (omega arith)
slots_set (suc n) b zero s y h l = rw (slots_back n (drop 16 b) (all_drop 16 y) (cut n b h).1)
slots_set (suc n) b (suc i) s y h l =
    let c = cut n b h in
    rw (slot_back (take 16 b) (all_take 16 y) c.0, slots_set n (drop 16 b) i s (all_drop 16 y) c.1 (omega arith)) (sym (over_next i s b))

-- 16 bytes and others, read
slots_join : (n : ℕ) (a c : List ℕ) → length a ≡ 16 → slots_in (suc n) (a ++ c) ≡ slot_of a ∷ slots_in n c
slots_join n a c h = rw (take_at a c 16 h, drop_at a c 16 h)

pub slots_over : (n : ℕ) (b : List ℕ) (i : ℕ) (s : Slot) → s.spare < 256 ^ 7 → s.len < 2 ^ 64 → length b ≡ 16 * n → i < n
    → slots_in n (take (16 * i) b ++ slot_bytes s ++ drop (16 * i + 16) b) ≡ set (slots_in n b) i s
slots_over zero b i s p q h l = absurd (omega arith)
slots_over (suc n) b zero s p q h l =
    slots_join n (slot_bytes s) (drop 16 b) (length_slot s) ∙ ap (λ (x : Slot). x ∷ slots_in n (drop 16 b)) (slot_read s p q)
slots_over (suc n) b (suc i) s p q h l =
    let c = cut n b h in
    ap (slots_in (suc n)) (over_next i s b)
    ∙ slots_join n (take 16 b) (over i s (drop 16 b)) c.0
    ∙ ap (λ (l : List Slot). slot_of (take 16 b) ∷ l) (slots_over n (drop 16 b) i s p q c.1 (omega arith))

-- zero bytes are free slots
pub slots_zero : (n : ℕ) → slots_in n (replicate (16 * n) 0) ≡ replicate n free_slot
unfolding slot_of number_of
slots_zero zero = refl
slots_zero (suc n) =
    let e : 16 + 16 * n ≡ 16 * suc n = omega arith in
    ap (slots_in (suc n)) (ap (λ (k : ℕ). replicate k 0) (sym e) ∙ sym (replicate-append-replicate 16 (16 * n) 0))
    ∙ slots_join n (replicate 16 0) (replicate (16 * n) 0) refl
    ∙ ap (λ (l : List Slot). free_slot ∷ l) (slots_zero n)
