-- The reader and the meaning are one: `read_json` shows an event exactly if the input is a JSON text whose tree is that
-- event, of at most 65,536 bytes.
-- The object's two laws, with the white space around it and the input's end.
use Prim.Native.Nat.{ℕ, ◌≤◌}
use mathlib.Core.Path.{◌≡◌, refl}
use mathlib.Core.List.{List, ◌++◌}
use mathlib.Core.Logic.{◌↔◌}
use lib.ListN.{length}
use lib.Dec.{leb, eqb}
use borrow.Author.Tests.{le-leb, leb-true, eq-eqb, eqb-true}
use Rattle.scan.specs.Choice.{shown}
use Rattle.scan.specs.inner.Span.{Span}
use Rattle.scan.proofs.SpanLaws.{join, cut, input_span, whole_span}
use Rattle.scan.proofs.Reading.{Gives, gives, lacks, shown_gives, pick_gives, read_gives}
use Rattle.event.specs.Event.{Event}
use Rattle.jsontext.specs.Grammar as json
use Rattle.jsontext.specs.Token.{space_at}
use Rattle.jsontext.proofs.OneValue.{end_solid}
use Rattle.jsontext.proofs.TokenLaws.{bind, space_consumes, space_accepts}
use Rattle.jsontext.proofs.FirstByte.{first_at, begins_value}
use Rattle.jsonevent.specs.Meaning.{IsEvent}
use Rattle.jsonevent.specs.Object.{whole_at, read_json}
use Rattle.jsonevent.proofs.FieldSound.{Saying, saying}
use Rattle.jsonevent.proofs.ObjectSound.{object_consumes}
use Rattle.jsonevent.proofs.ObjectComplete.{object_accepts}

-- s is a JSON text that is the event e, and is not too long
pub record Shows (s : List ℕ) (e : Event) : Type 0 where
  pub value : json.Json
  pub text : json.JsonText value s
  pub event : IsEvent value e
  pub short : length s ≤ 65_536

-- ---- sound

shows : {s l w x : List ℕ} {e : Event} {a c : ℕ} → json.Ws w → Span s 0 w a → Saying IsEvent e l → Span s a l c → json.Ws x → Span s c x (length s) → length s ≤ 65_536
    → Shows s e
shows {s} {l} {w} {x} g p (saying {v = v} h y) q k r n =
    let e : s ≡ w ++ (l ++ x) = whole_span (join p (join q r)) in
    let t : json.JsonText v s = rw e (json.text g h k) in
    record { value = v; text = t; event = y; short = n }

read_shows : (s : List ℕ) → Gives (Shows s) (read_json s)
unfolding read_json whole_at
read_shows s =
    pick_gives (leb (length s) 65_536)
    (λ t.
    bind (space_consumes s 0)
    (λ w g p.
    read_gives _ (object_consumes s (space_at s 0))
    (λ e l c y q.
    bind (space_consumes s c)
    (λ x k r.
    pick_gives (eqb (space_at s c) (length s))
    (λ u. gives (shows g p y q k (rw (eqb-true (space_at s c) (length s) u) at r) (leb-true (length s) 65_536 t)))
    (λ f. lacks)))))
    (λ f. lacks)

-- THE soundness: what the reader shows is the event of a JSON text (RFC 8259) that stands there whole, within 65,536
-- bytes
pub sound : {s : List ℕ} {e : Event} → read_json s ≡ shown e → Shows s e
sound {s} f = shown_gives (rw f at (read_shows s))

-- ---- complete

-- THE completeness: a JSON text within 65,536 bytes whose tree is an event is shown as that event
pub complete : {v : json.Json} {s : List ℕ} {e : Event} → json.JsonText v s → IsEvent v e → length s ≤ 65_536 → read_json s ≡ shown e
unfolding read_json whole_at
complete {v} {s} {e} (json.text {w = w} {l = l} {x = x} g h k) y n =
    let u = cut w (input_span s) in
    let z = cut l u.2 in
    rw (
      le-leb (length s) 65_536 n,
      space_accepts g u.1 (first_at (begins_value h) z.1).solid,
      object_accepts h y z.1,
      space_accepts k z.2 (end_solid s),
      eq-eqb (length s) (length s) refl,
    )

-- the two together
pub exactly : (s : List ℕ) (e : Event) → (read_json s ≡ shown e) ↔ Shows s e
exactly s e = ((λ f. sound f), (λ h. complete h.text h.event h.short))
