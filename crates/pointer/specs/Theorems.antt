-- What the pointer form promises (rules 18), sentence by sentence: each formal line stands under the words that it is
-- of. `proofs/Theorems` proves them. Assumes nothing.
use Rattle.std.specs.Prelude.{ℕ, ◌≤◌, ◌≡◌, List, ◌↔◌, length}
use Rattle.scan.specs.Choice.{shown, refused}
use Rattle.scan.specs.Bytes.{IsBytes}
use Rattle.event.specs.Event.{Event, Valid}
use Rattle.notepack.specs.Unpack.{unpack}
use Rattle.pointer.specs.Pointer.{header_at, Form, form_at, pointer_event}
use Rattle.pointer.specs.Layout.{LaysPointer}
use Rattle.pointer.specs.Entries.{convertible}
use Rattle.pointer.specs.Written.{pointer_form}
use Rattle.pointer.specs.Seen.{Stands, PointerSeen}

pub record PointerForm : Type 0 where
  -- Converting shows the event that the v0 lays out, valid, within 65,536 bytes, and no other.
  pub reads_layout : (s : List ℕ) → IsBytes s → (e : Event) → (pointer_event s ≡ shown e) ↔ (LaysPointer e s × Valid e × (length s ≤ 65_536))
  -- What the writer writes lays out the event. (The words of a longer form would wrap, so nothing is said of one.)
  pub writes_layout : (e : Event) → Valid e → length (pointer_form e) ≤ 65_536 → LaysPointer e (pointer_form e)
  -- And it converts back to the event: for every packed event that the reader accepts, where the v0 is not too long.
  pub there_and_back : (s : List ℕ) → IsBytes s → (e : Event) → unpack s ≡ shown e → length (pointer_form e) ≤ 65_536 → convertible (pointer_form e) ≡ shown e
  -- A v1 is shown and not converted: whatever it holds.
  pub v1_refused : (s : List ℕ) → header_at s ≡ shown 1 → pointer_event s ≡ refused 26 0
  -- Of a v1 nothing is asked but its header and its pointers: once the header is read, 27 is all that can come.
  pub v1_asks : (s : List ℕ) (n p : ℕ) → header_at s ≡ shown 1 → form_at s ≡ refused n p → n ≡ 27
  -- What is shown of a form of either version is what stands at its places.
  pub shows : (s : List ℕ) (f : Form) → form_at s ≡ shown f → Stands s f
  -- What is shown of a v0 is what the event has that it lays out.
  pub seen : (s : List ℕ) (e : Event) → pointer_event s ≡ shown e → PointerSeen s e
