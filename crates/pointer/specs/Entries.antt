-- What is asked of a pointer form, and what converting it writes (rules 18). Assumes nothing.
use Rattle.std.specs.Prelude.{ℕ, List, length, leb}
use Rattle.scan.specs.Choice.{pick, Answer, shown, refused, and_then}
use Rattle.event.specs.Event.{Event}
use Rattle.notepack.specs.declared.Part.{Part}
use Rattle.notepack.specs.Strict.{pack}
use Rattle.notepack.specs.Views.{nth}
use Rattle.pointer.specs.Pointer.{form_at, pointer_event}

-- the number of texts in tag i
unfoldable pub pointer_texts : ℕ → List ℕ → Answer ℕ
pointer_texts i s =
    and_then (form_at s) λ f.
    and_then (nth i f.tags) λ t.
    shown (length t)

-- where text j of tag i stands
unfoldable pub pointer_element : ℕ → ℕ → List ℕ → Answer Part
pointer_element i j s =
    and_then (form_at s) λ f.
    and_then (nth i f.tags) λ t.
    nth j t

-- an event whose form, by `text`, has at most 65,536 bytes; else 29
abbrev pub within65536 : (Event → List ℕ) → Answer Event → Answer Event
within65536 text a = and_then a λ e. pick (leb (length (text e)) 65_536) (shown e) (refused 29 0)

-- the event that converting a v0 writes in strict form
abbrev pub convertible : List ℕ → Answer Event
convertible s = within65536 pack (pointer_event s)
