-- What was measured is the event's own where NSON can carry it; and what the entry answers and leaves.
-- Descriptors that end before the 128 bytes lent do are all there; else they are too many.
use Prim.Native.Nat.{ℕ, ◌+◌, ◌*◌, ◌≤◌, ◌<◌}
use mathlib.Core.Path.{◌≡◌, sym, ◌∙◌}
use mathlib.Core.Bool.{false}
use mathlib.Core.List.{List}
use native.Mathlib.Omega.{arith}
use lib.ListN.{length}
use Rattle.scan.specs.Choice.{Answer, shown, refused}
use Rattle.buffer.specs.inner.Store.{Wrote}
use Rattle.buffer.specs.Entry.{writes, leaves}
use Rattle.buffer.proofs.Places.{ends}
use Rattle.buffer.proofs.EntryLaws.{short, fitted}
use Rattle.decimal.specs.Decimal.{decimal}
use Rattle.event.specs.Event.{Event, Valid}
use Rattle.notepack.specs.Unpack.{unpack}
use Rattle.notepack.specs.inner.Answers.{Walked, walk_at}
use Rattle.notepack.proofs.Walking.{walk_refuses}
use Rattle.nson.specs.Nson.{counts, descriptors, nson}
use Rattle.nson.specs.inner.Decision.{carries}
use Rattle.nson.specs.Entries.{carried}
use Rattle.nson.proofs.Carrying.{descriptors_length}
use Rattle.nsonwrite.specs.declared.Measured.{Measured}
use Rattle.nsonwrite.specs.inner.Measure.{Measures, Ready, texts_fit, texts_length}
use Rattle.nsonwrite.proofs.Carried as tests
use Rattle.nsonwrite.proofs.Whole.{nson_length}

-- ---- what was measured

-- descriptors that fill the buffer are too many
pub too_many : (e : Event) {d d' : List ℕ} {m : Measured} → length d ≡ 128 → Measures (texts_fit e) (descriptors (counts e)) (texts_length e) d 0 d' m → 127 < m.out
    → carries e ≡ false
too_many e room t h = let k = (ends t.wrote).full (omega arith) in tests.full e (omega (arith, descriptors_length e))

module _ {e : Event} {d d' : List ℕ} {m : Measured} {n : ℕ} (v : Valid e) (room : length d ≡ 128) (t : Measures (texts_fit e) (descriptors (counts e)) (texts_length e) d 0 d' m) (len : n ≡ 343 + length (decimal e.created_at) + 2 * m.out + length (decimal e.kind) + m.len) where
  -- descriptors that end in the buffer are all there, and the length is that of the text
  all_there : m.out ≤ 127 → (m.out ≡ length (descriptors (counts e))) × (n ≡ length (nson e))
  all_there h =
      let k : m.out ≡ length (descriptors (counts e)) = (ends t.wrote).place (omega arith) in
      (k, omega (arith, nson_length e v, t.len))

  pub ready : 1_000_000_000 ≤ e.created_at → e.created_at ≤ 9_999_999_999 → m.out ≤ 127 → n ≤ 65_536 → Ready e d' (record { len = n; out = m.out })
  ready a b h k =
      let x = all_there h in
      record {
        carries = tests.carried e a b t.fit (omega (arith, x.0, descriptors_length e)) (omega (arith, x.1));
        few = h;
        len = x.1;
        descriptors = (ends t.wrote).stands (omega arith);
      }

  pub too_long : m.out ≤ 127 → 65_536 < n → carries e ≡ false
  too_long h k = let x = all_there h in tests.long e (omega (arith, x.1))

-- ---- the entry: its answer and what it leaves

module _ (s : List ℕ) (d : List ℕ) where
  pub write_refused : (r : Answer Walked) (n q : ℕ) → r ≡ walk_at s → r ≡ refused n q → (refused n q ≡ writes nson (carried (unpack s)) d) × (d ≡ leaves nson (carried (unpack s)) d)
  write_refused r n q e k = let u = walk_refuses s n q (sym e ∙ k) in (rw u, rw u)

  module _ {e : Event} (shows : unpack s ≡ shown e) where
    pub write_misfit : carries e ≡ false → (refused 17 0 ≡ writes nson (carried (unpack s)) d) × (d ≡ leaves nson (carried (unpack s)) d)
    write_misfit c = (rw (shows, c), rw (shows, c))

    module _ {b : List ℕ} {m : Measured} (y : Ready e b m) where
      pub write_short : length d < m.len → (refused 11 m.len ≡ writes nson (carried (unpack s)) d) × (d ≡ leaves nson (carried (unpack s)) d)
      write_short l = let f = short (nson e) d y.len l in (rw (shows, y.carries) f.0, rw (shows, y.carries) f.1)

      pub write_fitted : {d' : List ℕ} {o : ℕ} → m.len ≤ length d → Wrote d 0 (nson e) d' o
          → (shown o ≡ writes nson (carried (unpack s)) d) × (d' ≡ leaves nson (carried (unpack s)) d)
      write_fitted k w = let f = fitted y.len k w in (rw (shows, y.carries) f.0, rw (shows, y.carries) f.1)
