-- Demand 3 on room: both readers write one length and one form, and both need one length (rules 12.3.3 and 12.3.5).
-- Both readings show one event, so both entries have one text to write.
use Prim.Native.Nat.{ℕ, ◌<◌, ◌≤◌}
use mathlib.Core.Path.{◌≡◌, refl, sym, ◌∙◌}
use mathlib.Core.List.{List}
use native.Mathlib.Omega.{arith}
use lib.ListN.{length}
use Rattle.scan.specs.Choice.{shown}
use Rattle.event.specs.Event.{Event}
use Rattle.notepack.specs.Strict.{pack}
use Rattle.nson.specs.Read.{read_nson}
use Rattle.agreement.specs.Demand3.{GivenRoom, OnlyRoom, had, SameNeed, NeedEnough}
use Rattle.agreement.proofs.Entries.{wrote, lacked, fits, lacks, left}
use Rattle.agreement.proofs.Agree.{both_accept}
use Rattle.nson.proofs.Telling.{nson_tells}

pub given_room : GivenRoom
given_room s d₁ d₂ n r h =
    let f = wrote pack (read_nson s) d₁ n r in
    let e = f.value in
    let long : length (pack e) ≡ n = f.long in
    let j = both_accept s e f.reads in
    let bytes = left pack d₁ n f.reads long f.room in
    let short : length (pack e) ≤ length d₂ = omega arith in
    record {
      event = e;
      nson_shows = f.reads;
      json_shows = j;
      length_same = rw long at (fits pack d₂ j short).0;
      bytes_same = left pack d₂ n j long h ∙ sym bytes;
      bytes_event = bytes;
    }

-- the event of a text that the NSON reader refuses for its room alone
needed : {s : List ℕ} {n : ℕ} → OnlyRoom s n → (e : Event) × (read_nson s ≡ shown e) × (length (pack e) ≡ n)
needed {s} {n} (had d r) = let f = wrote pack (read_nson s) d n r in (f.value, f.reads, f.long)
needed {s} {n} (OnlyRoom.lacked d r) = let f = lacked pack d n refl (nson_tells s) r in (f.value, f.reads, f.long)

pub same_need : SameNeed
same_need s n o d h =
    let f = needed o in
    let long : length (pack f.0) ≡ n = f.2 in
    let k : length d < length (pack f.0) = omega arith in
    (rw long at (lacks pack d f.1 k).0, rw long at (lacks pack d (both_accept s f.0 f.1) k).0)

pub need_enough : NeedEnough
need_enough s n o d h =
    let f = needed o in
    let long : length (pack f.0) ≡ n = f.2 in
    let k : length (pack f.0) ≤ length d = omega arith in
    (rw long at (fits pack d f.1 k).0, rw long at (fits pack d (both_accept s f.0 f.1) k).0)
