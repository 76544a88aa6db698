-- The closing brace: an event is read there exactly where the fields hold its seven parts, and else 15 is told.
-- Field by field along `close_at`.
use Prim.Native.Nat.{ℕ, ◌+◌}
use mathlib.Core.Path.{◌≡◌, refl}
use Rattle.scan.specs.Choice.{Answer, shown, refused, Read, read, and_then}
use Rattle.event.specs.Event.{Event}
use Rattle.jsonevent.specs.Field.{Value, missing, bytes, number, tags, text, Fields, field}
use Rattle.jsonevent.specs.inner.Closing.{close_at, bytes_in, number_in, tags_in, text_in}
use Rattle.jsonevent.proofs.Names.{by_seven}
use Rattle.jsonevent.proofs.Says.{fields_of, Holds, holds}

-- ---- one field

-- the value is of the kind that is asked for, or 15 is told
pub data Part {A : Type 0} (kind : A → Value) (at : ℕ) (v : Value) : Answer A → Type 0 where
  is : {x : A} → v ≡ kind x → Part kind at v (shown x)
  is_not : Part kind at v (refused 15 at)

pub bytes_part : (at : ℕ) (v : Value) → Part bytes at v (bytes_in at v)
bytes_part at missing = is_not
bytes_part at (bytes l) = is refl
bytes_part at (number n) = is_not
bytes_part at (tags l) = is_not
bytes_part at (text t) = is_not

pub number_part : (at : ℕ) (v : Value) → Part number at v (number_in at v)
number_part at missing = is_not
number_part at (bytes l) = is_not
number_part at (number n) = is refl
number_part at (tags l) = is_not
number_part at (text t) = is_not

pub tags_part : (at : ℕ) (v : Value) → Part tags at v (tags_in at v)
tags_part at missing = is_not
tags_part at (bytes l) = is_not
tags_part at (number n) = is_not
tags_part at (tags l) = is refl
tags_part at (text t) = is_not

pub text_part : (at : ℕ) (v : Value) → Part text at v (text_in at v)
text_part at missing = is_not
text_part at (bytes l) = is_not
text_part at (number n) = is_not
text_part at (tags l) = is_not
text_part at (text t) = is refl

-- ---- all seven

pub data Closes (f : Fields) (at : ℕ) : Answer (Read Event) → Type 0 where
  closes : {e : Event} → Holds f e → Closes f at (read e (at + 1))
  lacks : Closes f at (refused 15 at)

then_closes : {A : Type 0} {kind : A → Value} {f : Fields} {at : ℕ} {v : Value} {r : Answer A} (next : A → Answer (Read Event)) → Part kind at v r
    → ((x : A) → v ≡ kind x → Closes f at (next x)) → Closes f at (and_then r next)
then_closes next (is {x = x} e) k = k x e
then_closes next is_not k = lacks

-- THE law of the closing brace
pub close_told : (f : Fields) (at : ℕ) → Closes f at (close_at f at)
unfolding close_at
close_told f at =
    then_closes _ (bytes_part at (field f 0))
    (λ i a.
    then_closes _ (bytes_part at (field f 1))
    (λ p b.
    then_closes _ (bytes_part at (field f 2))
    (λ g c.
    then_closes _ (number_part at (field f 3))
    (λ n d.
    then_closes _ (number_part at (field f 4))
    (λ k e.
    then_closes _ (tags_part at (field f 5))
    (λ l h.
    then_closes _ (text_part at (field f 6))
    (λ t j. seven (record { id = i; pubkey = p; sig = g; created_at = n; kind = k; tags = l; content = t }) a b c d e h j)))))))
  where
    seven : (e : Event) → field f 0 ≡ bytes e.id → field f 1 ≡ bytes e.pubkey → field f 2 ≡ bytes e.sig → field f 3 ≡ number e.created_at
        → field f 4 ≡ number e.kind → field f 5 ≡ tags e.tags → field f 6 ≡ text e.content → Closes f at (read e (at + 1))
    seven e a b c d h i j = closes (holds (by_seven (λ (k : ℕ). field f k ≡ field (fields_of e) k) a b c d h i j))

-- and an event's own fields give the event
pub close_event : (e : Event) (at : ℕ) → close_at (fields_of e) at ≡ read e (at + 1)
unfolding close_at
close_event e at = refl
