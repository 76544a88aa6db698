-- Soundness of the object: what is read as an event stands there as an object of the grammar, and the object's tree is
-- that event.
-- A walk over the definitions of `specs/Object`: the members read are tracked (`Tracks`), and tracked members say their
-- event.
use Prim.Native.Nat.{ℕ, zero, suc, ◌+◌, ◌<◌, ◌≤◌}
use mathlib.Core.Path.{◌≡◌, refl}
use mathlib.Core.Bool.{true}
use mathlib.Core.List.{List, [], ◌∷◌, ◌++◌, append_assoc}
use lib.ListN.{length, get_or, set}
use lib.Dec.{eqb}
use Rattle.scan.specs.Choice.{pick, Answer, refused, Read, read}
use Rattle.scan.specs.inner.Span.{here, Span}
use Rattle.scan.proofs.SpanLaws.{join, bite}
use Rattle.scan.proofs.Reading.{Reads, reads, fails, pick_reads, then_reads, from_reads}
use Rattle.event.specs.Event.{Text, Event}
use Rattle.jsontext.specs.Grammar as json
use Rattle.jsontext.specs.Token.{space_at}
use Rattle.jsontext.proofs.TokenLaws.{bind, space_consumes}
use Rattle.jsontext.proofs.FirstByte.{begins_member, some_bytes}
use Rattle.jsonevent.specs.Meaning.{IsEvent}
use Rattle.jsonevent.specs.Field.{Value, field_of, Fields, field}
use Rattle.jsonevent.specs.Object.{no_fields, colon_at, member_at, after_member, members_at, inside_at, object_at}
use Rattle.jsonevent.specs.inner.Closing.{is_missing}
use Rattle.jsonevent.proofs.Says.{FieldSays, Holds}
use Rattle.jsonevent.proofs.Tracks.{Tracks, no_more, then, tracks_event}
use Rattle.jsonevent.proofs.Closing.{Closes, closes, lacks, close_told}
use Rattle.jsonevent.proofs.FieldSound.{Saying, saying, Quotes, quotes, text_consumes, field_says, says_bytes}

-- ---- a member

-- a member whose name was missing, and the fields with it
data MemberTo (f : Fields) : Fields → List ℕ → Type 0 where
  member_to : {n t : List ℕ} {v : json.Json} {x : Value} {l : List ℕ} → json.SpellsMember n v l → json.Chars n t → is_missing (field f (field_of t)) ≡ true
      → FieldSays (field_of t) v x → MemberTo f (set f (field_of t) x) l

member_consumes : (f : Fields) (s : List ℕ) (a : ℕ) → Reads (MemberTo f) s a (member_at f s a)
unfolding member_at colon_at
member_consumes f s a = then_reads _ (text_consumes s a) (λ t q e g r. named g r)
  where
    valued : {n t q c l : List ℕ} {x : Value} {e : ℕ} → json.QuotedChars n q → json.Chars n t → json.Separator 0x3A c → is_missing (field f (field_of t)) ≡ true
        → Saying (FieldSays (field_of t)) x l → Span s a (q ++ (c ++ l)) e → Reads (MemberTo f) s a (read (set f (field_of t) x) e)
    valued g z k i (saying v y) r = reads (member_to (json.is_member g k v) z i y) r

    named : {t : Text} {q : List ℕ} {e : ℕ} → Quotes t q → Span s a q e
        → Reads (MemberTo f) s a (pick (is_missing (field f (field_of t))) (colon_at (field_of t) f s (space_at s e)) (refused 16 a))
    named {t} {e = e} (quotes g z) r =
        let k = field_of t in
        pick_reads (is_missing (field f k))
        (λ i.
        bind (space_consumes s e)
        (λ w h p.
        let b = space_at s e in
        pick_reads (eqb (get_or s b 0) 0x3A)
        (λ d.
        bind (space_consumes s (b + 1))
        (λ w₂ h₂ q₂.
        then_reads (λ v. read (set f k v.value) v.next) (field_says k s (space_at s (b + 1)))
        (λ x l e₂ y r₂. valued g z (json.separator h h₂) i y (join r (join (join p (bite 0x3A refl d q₂)) r₂)))))
        (λ u. fails)))
        (λ u. fails)

-- a member that is read takes a byte or more, and ends within the input
pub member_some : (f : Fields) (s : List ℕ) (a : ℕ) {g : Fields} {e : ℕ} → member_at f s a ≡ read g e → (a < e) × (e ≤ length s)
member_some f s a q = go (rw q at (member_consumes f s a))
  where
    go : {g : Fields} {e : ℕ} → Reads (MemberTo f) s a (read g e) → (a < e) × (e ≤ length s)
    go (reads (member_to g z i y) r) = some_bytes (begins_member g) r

-- ---- members up to the closing brace

-- members that are tracked from f on, and leave the fields of an event
data MembersTo (f : Fields) : Event → List ℕ → Type 0 where
  members_to : {m : json.Members} {l w : List ℕ} {g : Fields} {e : Event} → json.SpellsMembers m l → json.Ws w → Tracks f m g → Holds g e
      → MembersTo f e (l ++ (w ++ (0x7D ∷ [])))

module _ (s : List ℕ) (a : ℕ) where
  last_member : {f g : Fields} {l w : List ℕ} {p : ℕ} {r : Answer (Read Event)} → MemberTo f g l → json.Ws w → Span s a (l ++ (w ++ (0x7D ∷ []))) (p + 1)
      → Closes g p r → Reads (MembersTo f) s a r
  last_member {p = p} (member_to g z i y) h r (closes n) = reads {e = p + 1} (members_to (json.last_member g) h (then z i y no_more) n) r
  last_member y h r lacks = fails

  one_more : {f g : Fields} {l c m : List ℕ} {d : Event} {e : ℕ} → MemberTo f g l → json.Separator 0x2C c → MembersTo g d m → Span s a (l ++ (c ++ m)) e
      → Reads (MembersTo f) s a (read d e)
  one_more {e = e} (member_to g z i y) k (members_to gs h t n) r =
      reads {e = e} (members_to (json.more_members g k gs) h (then z i y t) n) (simp append_assoc r)

members_consume : (fuel : ℕ) (f : Fields) (s : List ℕ) (a : ℕ) → Reads (MembersTo f) s a (members_at fuel f s a)
unfolding members_at after_member
members_consume zero f s a = fails
members_consume (suc fuel) f s a =
    then_reads (λ m. after_member (members_at fuel m.value s) m.value s (space_at s m.next)) (member_consumes f s a)
    (λ g l e y r.
    bind (space_consumes s e)
    (λ w h q.
    let p = space_at s e in
    pick_reads (eqb (get_or s p 0) 0x7D)
    (λ t. last_member s a y h (join r (join q (bite 0x7D refl t here))) (close_told g p))
    (λ u.
    pick_reads (eqb (get_or s p 0) 0x2C)
    (λ t.
    bind (space_consumes s (p + 1))
    (λ w₂ h₂ q₂.
    from_reads (members_consume fuel g s (space_at s (p + 1)))
    (λ d m e₂ ys r₂. one_more s a y (json.separator h h₂) ys (join r (join (join q (bite 0x2C refl t q₂)) r₂)))))
    (λ n. fails))))

-- ---- the object

-- THE soundness: what is read as an event's object is spelled by the grammar, and its tree is that event
pub object_consumes : (s : List ℕ) (a : ℕ) → Reads (Saying IsEvent) s a (object_at s a)
unfolding object_at inside_at
object_consumes s a =
    pick_reads (eqb (get_or s a 0) 0x7B)
    (λ t.
    bind (space_consumes s (a + 1))
    (λ w h q.
    let p = space_at s (a + 1) in
    pick_reads (eqb (get_or s p 0) 0x7D) (λ u. fails)
    (λ u. from_reads (members_consume _ no_fields s p) (λ d m e ys r. closed h ys (bite 0x7B refl t (join q r))))))
    (λ u. fails)
  where
    closed : {d : Event} {w m : List ℕ} {e : ℕ} → json.Ws w → MembersTo no_fields d m → Span s a (0x7B ∷ (w ++ m)) e → Reads (Saying IsEvent) s a (read d e)
    closed h (members_to gs h₂ t n) r = reads (saying (json.is_object h gs h₂) (tracks_event t n)) r

-- the same in terms of the answer: the object at a place, and the place behind it
pub object_reads : {s : List ℕ} {a c : ℕ} {e : Event} → object_at s a ≡ read e c → (v : json.Json) × (l : List ℕ) × json.Spells v l × Span s a l c × IsEvent v e
object_reads {s} {a} f = go (rw f at (object_consumes s a))
  where
    go : {c : ℕ} {e : Event} → Reads (Saying IsEvent) s a (read e c) → (v : json.Json) × (l : List ℕ) × json.Spells v l × Span s a l c × IsEvent v e
    go (reads {l = l} (saying {v = v} g y) r) = (v, l, g, r, y)

-- it takes a byte or more, and ends within the input
pub object_some : (s : List ℕ) (a : ℕ) {e : ℕ} {d : Event} → object_at s a ≡ read d e → (a < e) × (e ≤ length s)
object_some s a f = says_bytes (rw f at (object_consumes s a))
