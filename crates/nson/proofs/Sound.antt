-- THE soundness: a string that shows an event is the event's own text, and the event is carried and valid; its counts
-- are the event's.
-- From what stands in the input (`Stands`): the bounds of the field give what is carried, the pieces give what is
-- valid.
use Prim.Native.Nat.{ℕ, ◌*◌, ◌≤◌}
use mathlib.Core.Path.{◌≡◌, refl, sym, ◌∙◌}
use mathlib.Core.List.{List, [], ◌∷◌, map}
use native.Mathlib.Omega.{arith}
use lib.ListN.{length, length-map}
use Rattle.scan.specs.Choice.{shown, read}
use Rattle.scan.specs.inner.Span.{Span}
use Rattle.scan.proofs.SpanLaws.{cut_at, whole_span}
use Rattle.scan.proofs.Reading.{read_same}
use Rattle.hexdigits.specs.Hex.{hexes}
use Rattle.decimal.proofs.Spelling.{ten_length}
use Rattle.event.specs.Event.{Event, Valid}
use Rattle.nson.specs.Nson.{Counts, escaped_size, counts, descriptors, nson_field, nson}
use Rattle.nson.specs.Carries.{Carries}
use Rattle.nson.specs.Read.{byte_here, counts_at, read_nson}
use Rattle.nson.proofs.Descriptors.{digits_byte}
use Rattle.nson.proofs.Carrying.{descriptors_length, tags_carried}
use Rattle.nson.proofs.Stands.{string_stands}

pub record Accepted (s : List ℕ) (e : Event) : Type 0 where
  pub text : s ≡ nson e
  pub carries : Carries e
  pub valid : Valid e

-- THE soundness: what is accepted is the writer's own text, of an event that NSON can carry and that is valid
pub accepted : {s : List ℕ} {e : Event} → read_nson s ≡ shown e → Accepted s e
unfolding counts
accepted {s} {e} r =
    let u = string_stands r in
    let w = u.0 in
    let text : s ≡ nson e = whole_span w.text in
    let time = ten_length e.created_at w.ten in
    let held = w.holds in
    let good = w.content in
    let tags = tags_carried w.texts held.each in
    let few = w.few in
    let short : length (nson e) ≤ 65_536 = rw text at u.1 in
    record {
      text = text;
      carries =
          record {
            early = time.0;
            late = time.1;
            content = record { plain = good.carried; short = held.content };
            texts = tags.0;
            few = omega (arith, descriptors_length e);
            whole = short;
          };
      valid =
          record {
            id32 = w.id;
            pubkey32 = w.pubkey;
            sig64 = w.sig;
            time = omega (arith, time.1);
            kind16 = w.kind16;
            few = omega (arith, held.few, length-map e.tags (map escaped_size));
            each = tags.1;
            text = good.utf8;
          };
    }

-- every count that an accepted string's field holds is that of the event
pub counts_true : (s : List ℕ) {e : Event} {c : Counts} {p : ℕ} → read_nson s ≡ shown e → counts_at s ≡ read c p → c ≡ counts e
counts_true s r q = let w = (string_stands r).0 in (read_same (sym q ∙ w.counted)).0

-- and an accepted string has counts: its field at 318 is the event's, with the size that its descriptors take
pub field_true : {s : List ℕ} {e : Event} → read_nson s ≡ shown e → (p : ℕ) × (counts_at s ≡ read (counts e) p) × Span s 318 (nson_field (counts e)) p
field_true r = let w = (string_stands r).0 in (w.behind, w.counted, w.field_text)

-- the size at 318 counts the hex characters of the descriptors
pub size_true : (s : List ℕ) {e : Event} → read_nson s ≡ shown e → byte_here s 318 ≡ 2 * length (descriptors (counts e))
unfolding nson_field
size_true s {e} r =
    let w = (string_stands r).0 in
    let few = w.few in
    let u = cut_at (hexes (2 * length (descriptors (counts e)) ∷ [])) 2 refl w.field_text in
    digits_byte (omega arith) u.0

-- two accepted strings that show one event are one string
pub one_string : {s t : List ℕ} {e : Event} → read_nson s ≡ shown e → read_nson t ≡ shown e → s ≡ t
one_string p q = (accepted p).text ∙ sym (accepted q).text
