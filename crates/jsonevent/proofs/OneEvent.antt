-- At most one event for a text, by the grammar alone: a JSON text spells one value, and a value is one event.
-- White space before the value ends where the value begins, so two values of one text start alike; what a value says is
-- told by its shape.
use Prim.Native.Nat.{ℕ}
use mathlib.Core.Path.{◌≡◌, refl, ap}
use mathlib.Core.List.{List, [], ◌∷◌}
use Rattle.scan.specs.Bytes.{IsBytes}
use Rattle.hexdigits.proofs.Texts.{hexes_injective}
use Rattle.event.specs.Event.{Text, Event}
use Rattle.event.proofs.Laws.{all_seven}
use Rattle.jsontext.specs.Grammar as json
use Rattle.jsontext.proofs.OneValue.{chars_one, one_value}
use Rattle.jsonevent.specs.Meaning.{Values, no_value, named, other, IsText, is_text, IsHex, is_hex, IsNumber, is_number, Each, none, also, IsArray, is_array, Once, once, IsEvent, is_event}

-- ---- a value is one event

text_one : {v : json.Json} {t u : Text} → IsText v t → IsText v u → t ≡ u
text_one (is_text c) (is_text d) = chars_one c d

hex_one : {v : json.Json} {a b : List ℕ} → IsBytes a → IsBytes b → IsHex v a → IsHex v b → a ≡ b
hex_one p q (is_hex c) (is_hex d) = hexes_injective p q (chars_one c d)

number_one : {v : json.Json} {m n : ℕ} → IsNumber v m → IsNumber v n → m ≡ n
number_one (is_number g) (is_number h) = refl

module _ {A : Type 0} {Is : json.Json → A → Type 0} (one : (v : json.Json) (x y : A) → Is v x → Is v y → x ≡ y) where
  each_one : {i : json.Items} {k l : List A} → Each Is i k → Each Is i l → k ≡ l
  each_one none none = refl
  each_one (also {v = v} {x = x} g p) (also {x = y} h q) =
      let e = one v x y g h in
      let f = each_one p q in
      cc

  array_one : {v : json.Json} {k l : List A} → IsArray Is v k → IsArray Is v l → k ≡ l
  array_one (is_array g) (is_array h) = each_one g h

-- a name has one list of values
pub values_one : {t : Text} {m : json.Members} {k l : List json.Json} → Values t m k → Values t m l → k ≡ l
values_one no_value no_value = refl
values_one (named {v = v} c p) (named d q) = ap (λ (r : List json.Json). v ∷ r) (values_one p q)
values_one (named c p) (other d x q) = absurd (x (chars_one d c))
values_one (other c x p) (named d q) = absurd (x (chars_one c d))
values_one (other c x p) (other d y q) = values_one p q

-- a name that stands once has one value
once_one : {A : Type 0} {m : json.Members} {t : Text} {Is : json.Json → A → Type 0} {x y : A} → ((v : json.Json) → Is v x → Is v y → x ≡ y)
    → Once m t Is x → Once m t Is y → x ≡ y
once_one {Is = Is} {y = y} one (once {v = v} e g) (once {v = w} f h) =
    let q : v ∷ [] ≡ w ∷ [] = values_one e f in
    let p : v ≡ w = cc in
    one v g (rw p h)

-- THE meaning is one: a value is at most one event
pub event_one : {v : json.Json} {d e : Event} → IsEvent v d → IsEvent v e → d ≡ e
event_one (is_event a p x) (is_event b q y) =
    all_seven (once_one (λ v. hex_one p.id32.each q.id32.each) a.id b.id)
    (once_one (λ v. hex_one p.pubkey32.each q.pubkey32.each) a.pubkey b.pubkey)
    (once_one (λ v. hex_one p.sig64.each q.sig64.each) a.sig b.sig)
    (once_one (λ v. number_one) a.created_at b.created_at)
    (once_one (λ v. number_one) a.kind b.kind)
    (once_one (λ v. array_one (λ w k l. array_one (λ w k l. text_one))) a.tags b.tags)
    (once_one (λ v. text_one) a.content b.content)

-- THE two together: a text has at most one event
pub one_event : {v w : json.Json} {s : List ℕ} {d e : Event} → json.JsonText v s → IsEvent v d → json.JsonText w s → IsEvent w e → d ≡ e
one_event {v} {w} {e = e} g p h q = event_one p (rw (one_value g h) q)
