-- Completeness of the object: an object of the grammar whose tree is an event is read as that event, to its closing
-- brace.
-- Along the members with the fields that they leave (`Tracks`); each member takes a byte, so the input's length is fuel
-- enough.
use Prim.Native.Nat.{ℕ, zero, suc, ◌+◌, ◌<◌}
use mathlib.Core.Path.{◌≡◌, sym, ap, ◌∙◌}
use mathlib.Core.Bool.{true}
use mathlib.Core.List.{List}
use native.Mathlib.Omega.{arith}
use lib.ListN.{length, get_or, set, length-append}
use Rattle.scan.specs.Choice.{Answer, Read, read}
use Rattle.scan.specs.inner.Span.{step, Span}
use Rattle.scan.proofs.SpanLaws.{cut, close_span, span_length, span_fits}
use Rattle.scan.proofs.Reading.{read_same}
use Rattle.event.specs.Event.{Event}
use Rattle.jsontext.specs.Grammar as json
use Rattle.jsontext.specs.Token.{space_at}
use Rattle.jsontext.proofs.TokenLaws.{Stop, stop_brace, space_accepts}
use Rattle.jsontext.proofs.FirstByte.{first_at, begins_value, begins_members}
use Rattle.jsontext.proofs.ValueComplete.{ws_stop, not_space, separator_accepts, separator_stop, comma_solid, colon_solid, brace_solid, separator_some}
use Rattle.jsonevent.specs.Meaning.{IsEvent, is_event}
use Rattle.jsonevent.specs.Field.{Value, field_of, Fields, field}
use Rattle.jsonevent.specs.Object.{colon_at, member_at, after_member, members_at, inside_at, object_at}
use Rattle.jsonevent.specs.inner.Closing.{is_missing, close_at}
use Rattle.jsonevent.proofs.Says.{FieldSays}
use Rattle.jsonevent.proofs.Tracks.{Tracks, tracks_none, then, no_event, event_tracks}
use Rattle.jsonevent.proofs.Closing.{close_event}
use Rattle.jsonevent.proofs.FieldComplete.{quoted_accepts, field_accepts}

-- a member whose name was missing is read, and its field is remembered
member_accepts : (f : Fields) {n t : List ℕ} {v : json.Json} {x : Value} {s l : List ℕ} {a c : ℕ} → json.SpellsMember n v l → json.Chars n t
    → is_missing (field f (field_of t)) ≡ true → FieldSays (field_of t) v x → Span s a l c → Stop (get_or s c 0) → member_at f s a ≡ read (set f (field_of t) x) c
unfolding member_at colon_at
member_accepts f (json.is_member {q = q} {c = c} g k v) d i y r st =
    let u = cut q r in
    let w = cut c u.2 in
    let z = separator_accepts 0x3A colon_solid k w.1 (first_at (begins_value v) w.2).solid in
    rw (quoted_accepts g d u.1, i, z.1, z.2, z.3, field_accepts y v w.2 st)

-- ---- members up to the closing brace

module _ (s : List ℕ) (f g : Fields) where
  member_last : (X : Answer (Read Event)) (k a b c : ℕ) → 0 < k → member_at f s a ≡ read g b → space_at s b ≡ c → get_or s c 0 ≡ 0x7D → close_at g c ≡ X
      → members_at k f s a ≡ X
  unfolding members_at after_member
  member_last X zero a b c h e i j n = absurd (omega arith)
  member_last X (suc k) a b c h e i j n = rw (e, i, j) n

  member_more : (X : Answer (Read Event)) (k n a b c d : ℕ) → suc n < k → member_at f s a ≡ read g b → space_at s b ≡ c → get_or s c 0 ≡ 0x2C → space_at s (c + 1) ≡ d
      → ((j : ℕ) → n < j → members_at j g s d ≡ X) → members_at k f s a ≡ X
  unfolding members_at after_member
  member_more X zero n a b c d h e i j o r = absurd (omega arith)
  member_more X (suc k) n a b c d h e i j o r = rw (e, i, j, o) (r k (omega arith))

-- members that are tracked are read up to the closing brace, where the fields that they leave decide
pub members_accept : {m : json.Members} {f g : Fields} {X : Answer (Read Event)} {s l : List ℕ} {a b c : ℕ} (k : ℕ) → json.SpellsMembers m l → Tracks f m g
    → close_at g c ≡ X → Span s a l b → Stop (get_or s b 0) → space_at s b ≡ c → get_or s c 0 ≡ 0x7D → length l < k → members_at k f s a ≡ X
members_accept {f = f} {g = g} {s = s} {a = a} {b = b} {c = c} k (json.last_member y) (then d i z p) n r st e o h =
    member_last s f g _ k a b c (omega arith) (member_accepts f y d i z r st ∙ ap (λ (h : Fields). read h b) (tracks_none p)) e o n
members_accept {f = f} {g = g} {s = s} {a = a} {c = c} k (json.more_members {l = l} {c = m} {r = r} y q ys) (then {t = t} {x = x} j i z p) n v st e o h =
    let u = cut l v in
    let w = cut m u.2 in
    let d = separator_accepts 0x2C comma_solid q w.1 (first_at (begins_members ys) w.2).solid in
    member_more s f (set f (field_of t) x) _ k (length r) a u.0 d.0 w.0 (omega (arith, simp length-append at h, separator_some q))
    (member_accepts f y j i z u.1 (separator_stop q w.1)) d.1 d.2 d.3
    (λ j h. members_accept j ys p n w.2 st e o h)

-- ---- the object

-- THE completeness: an object of the grammar that is an event is read as it, whatever stands behind it
pub object_accepts : {v : json.Json} {e : Event} {s l : List ℕ} {a c : ℕ} → json.Spells v l → IsEvent v e → Span s a l c → object_at s a ≡ read e c
unfolding object_at inside_at
object_accepts json.is_false y r = elim y [ ]
object_accepts json.is_null y r = elim y [ ]
object_accepts json.is_true y r = elim y [ ]
object_accepts (json.empty_array g) y r = elim y [ ]
object_accepts (json.is_array g gs k) y r = elim y [ ]
object_accepts (json.is_number g) y r = elim y [ ]
object_accepts (json.is_string g) y r = elim y [ ]
object_accepts (json.empty_object g) (is_event y v w) r = absurd (no_event (is_event y v w))
object_accepts {e = e} {s = s} {c = c} (json.is_object {m = m} {w = w} {l = l} {x = x} g gs k) (is_event y₀ v₀ w₀) (step p q r) =
    let u = cut w r in
    let v = cut l u.2 in
    let y = cut x v.2 in
    let z = close_span y.2 in
    let f = first_at (begins_members gs) v.1 in
    rw (q, space_accepts g u.1 f.solid, f.no_brace)
    (members_accept _ gs (event_tracks (is_event y₀ v₀ w₀)) (close_event e y.0) v.1 (ws_stop k y.1 (rw z.0 stop_brace))
    (space_accepts k y.1 (not_space 0x7D z.0 brace_solid)) z.0 (omega (arith, p, span_length u.1, span_fits v.1))
    ∙ ap (read e) (sym z.1))

-- two objects at one place that are events are one event, and end alike
pub object_one : {v w : json.Json} {d e : Event} {s l m : List ℕ} {a b c : ℕ} → json.Spells v l → IsEvent v d → Span s a l b → json.Spells w m → IsEvent w e → Span s a m c
    → (d ≡ e) × (b ≡ c)
object_one g p r h q t = read_same (sym (object_accepts g p r) ∙ object_accepts h q t)
