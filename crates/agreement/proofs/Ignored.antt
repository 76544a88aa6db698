-- The plain JSON reader ignores the nson field: with another value there, with the field added or taken away, it shows
-- the same event.
-- No name of the seven is `nson`, so each name has the same values in both texts.
use mathlib.Core.Path.{◌≡◌, refl, sym, ◌∙◌}
use mathlib.Core.Bool.{false}
use mathlib.Core.List.{List}
use Rattle.scan.specs.Ascii.{ascii}
use Rattle.scan.proofs.Step.{false_true}
use Rattle.scan.specs.Compare.{same_bytes}
use Rattle.event.specs.Event.{Text, Event}
use Rattle.scan.proofs.CompareLaws.{same_same}
use Rattle.jsontext.proofs.OneValue.{chars_one, one_value}
use Rattle.jsontext.specs.Grammar as json
use Rattle.jsonevent.specs.Meaning.{Values, named, other, Once, once, Says, Shallow, known, ignored, IsEvent, is_event}
use Rattle.jsonevent.proofs.Whole.{sound, complete}
use Rattle.agreement.specs.Counted.{OtherField, ended, kept, removed, added}
use Rattle.agreement.specs.Demand3.{FieldIgnored}

-- a name other than `nson` has the same values
same_values : {m k : json.Members} {t : Text} {l : List json.Json} → ((ascii "nson") ≡ t → ⊥) → OtherField m k → Values t m l → Values t k l
same_values h ended r = r
same_values h (kept o) (named c r) = named c (same_values h o r)
same_values h (kept o) (other c x r) = other c x (same_values h o r)
same_values h (removed d o) (named c r) = absurd (h (chars_one d c))
same_values h (removed d o) (other c x r) = same_values h o r
same_values h (added d n o) r = other d h (same_values h o r)

-- found by comparing
differs : {t : Text} → same_bytes (ascii "nson") t ≡ false → (ascii "nson") ≡ t → ⊥
differs {t} h e = false_true (sym h ∙ rw (← e) (same_same (ascii "nson")))

same_once : {A : Type 0} {m k : json.Members} {t : Text} {Is : json.Json → A → Type 0} {x : A} → same_bytes (ascii "nson") t ≡ false → OtherField m k
    → Once m t Is x → Once k t Is x
same_once h o (once e g) = once (same_values (differs h) o e) g

same_says : {m k : json.Members} {e : Event} → OtherField m k → Says m e → Says k e
unfolding same_bytes
same_says o y =
    record {
      id = same_once refl o y.id;
      pubkey = same_once refl o y.pubkey;
      sig = same_once refl o y.sig;
      created_at = same_once refl o y.created_at;
      kind = same_once refl o y.kind;
      tags = same_once refl o y.tags;
      content = same_once refl o y.content;
    }

same_shallow : {m k : json.Members} → OtherField m k → Shallow m → Shallow k
same_shallow ended r = r
same_shallow (kept o) (known c p r) = known c p (same_shallow o r)
same_shallow (kept o) (ignored n r) = ignored n (same_shallow o r)
same_shallow (removed d o) (known c p r) = same_shallow o r
same_shallow (removed d o) (ignored n r) = same_shallow o r
same_shallow (added d n o) r = ignored n (same_shallow o r)

same_event_lem : {m k : json.Members} {e : Event} → OtherField m k → IsEvent (json.object m) e → IsEvent (json.object k) e
same_event_lem o (is_event y v r) = is_event (same_says o y) v (same_shallow o r)

pub field_ignored : FieldIgnored
field_ignored s t m k e g h o n r =
    let u = sound r in
    let same : u.value ≡ json.object m = one_value u.text g in
    complete h (same_event_lem o (rw same at u.event)) n
