-- A slot as 16 lent bytes (rules 15): its mark, seven that nobody looks at, its length, the lowest byte first.
-- Assumes nothing.
use Rattle.std.specs.Prelude.{ℕ, zero, suc, List, [], ◌∷◌, ◌++◌, take, drop}
use Rattle.scan.specs.Place.{byte_at}
use Rattle.littleendian.specs.LittleEndian.{number_of, low_first}
use Rattle.slots.specs.declared.Slot.{Slot}

-- the slot that 16 bytes are
unfoldable pub slot_of : List ℕ → Slot
slot_of b = record { mark = byte_at b 0; spare = number_of (take 7 (drop 1 b)); len = number_of (take 8 (drop 8 b)) }

-- n slots, one after the other
abbrev pub slots_in : ℕ → List ℕ → List Slot
slots_in zero b = []
slots_in (suc n) b = slot_of (take 16 b) ∷ slots_in n (drop 16 b)

-- the 16 bytes of a slot
unfoldable pub slot_bytes : Slot → List ℕ
slot_bytes s = s.mark ∷ (low_first 7 s.spare ++ low_first 8 s.len)

abbrev pub slots_bytes : List Slot → List ℕ
slots_bytes [] = []
slots_bytes (s ∷ l) = slot_bytes s ++ slots_bytes l
