-- The promises of the pointer form (`specs/Theorems`), each by the law that has it.
-- Reading is sound and complete; what is written lays out the event, and a packed event's strict form is no longer than
-- its bytes; of a v1 all is shown or 27; what is shown stands at its places.
use Prim.Native.Nat.{ℕ, ◌≤◌}
use mathlib.Core.Path.{◌≡◌}
use mathlib.Core.List.{List}
use native.Mathlib.Omega.{arith}
use lib.ListN.{length}
use borrow.Author.Tests.{le-leb}
use Rattle.scan.specs.Choice.{shown, refused}
use Rattle.scan.specs.Bytes.{IsBytes}
use Rattle.event.specs.Event.{Event}
use Rattle.notepack.specs.Unpack.{unpack}
use Rattle.notepack.specs.Strict.{pack}
use Rattle.notepack.proofs.Sound.{sound as packed-sound}
use Rattle.pointer.specs.Pointer.{header_at, pointer_event}
use Rattle.pointer.specs.Entries.{convertible}
use Rattle.pointer.specs.Written.{pointer_form}
use Rattle.pointer.specs.Theorems.{PointerForm}
use Rattle.pointer.proofs.Accepts.{complete}
use Rattle.pointer.proofs.Shows.{sound}
use Rattle.pointer.proofs.Writing.{form_lays}
use Rattle.pointer.proofs.Points.{v1_asks}
use Rattle.pointer.proofs.Seen.{form_stands, event_seen}

back : (s : List ℕ) → IsBytes s → (e : Event) → unpack s ≡ shown e → length (pointer_form e) ≤ 65_536 → convertible (pointer_form e) ≡ shown e
back s bytes e h short =
    let u = packed-sound s bytes e h in
    let reads = complete (pointer_form e) e (form_lays e) u.valid short in
    let small : length (pack e) ≤ 65_536 = omega (arith, u.least, u.short) in
    rw (reads, le-leb (length (pack e)) 65_536 small)

v1 : (s : List ℕ) → header_at s ≡ shown 1 → pointer_event s ≡ refused 26 0
unfolding pointer_event
v1 s h = rw h

pub pointer_form_lem : PointerForm
pointer_form_lem =
    record {
      reads_layout = λ s bytes e. (sound s bytes e, λ g. complete s e g.0 g.1 g.2);
      writes_layout = λ e v short. form_lays e;
      there_and_back = back;
      v1_refused = v1;
      v1_asks = v1_asks;
      shows = form_stands;
      seen = event_seen;
    }
