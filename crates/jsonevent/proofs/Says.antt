-- What the seven fields say, for every field number at once: `FieldSays k v x`, the value v says x of field k, within
-- its limit.
-- So the record `Says` with `Valid` is one statement for all k below 7, and what holds of it is proved once.
use Prim.Native.Nat.{ℕ, ◌<◌, ◌≤◌}
use mathlib.Core.Path.{◌≡◌, refl}
use mathlib.Core.Bool.{false}
use mathlib.Core.List.{List, [], ◌∷◌}
use native.Mathlib.Omega.{arith}
use lib.ListN.{length}
use Rattle.scan.specs.Bytes.{All}
use Rattle.utf8.specs.Utf8.{Utf8}
use Rattle.event.specs.Event.{Text, Tag, Event, Bytes, ValidTag, Valid}
use Rattle.jsontext.specs.Grammar as json
use Rattle.jsonevent.specs.Meaning.{IsText, IsHex, IsNumber, IsArray, IsTag, Once, once, Says}
use Rattle.jsonevent.specs.Field.{Value, missing, bytes, number, tags, text, Fields, field}
use Rattle.jsonevent.specs.inner.Closing.{is_missing}
use Rattle.jsonevent.proofs.Names.{name, by_seven}

-- what the value of field k says. From 7 on the name is ignored, and so is the value, which nests at most 16 deep.
pub data FieldSays : ℕ → json.Json → Value → Type 0 where
  id_says : {v : json.Json} {b : List ℕ} → IsHex v b → Bytes 32 b → FieldSays 0 v (bytes b)
  pubkey_says : {v : json.Json} {b : List ℕ} → IsHex v b → Bytes 32 b → FieldSays 1 v (bytes b)
  sig_says : {v : json.Json} {b : List ℕ} → IsHex v b → Bytes 64 b → FieldSays 2 v (bytes b)
  time_says : {v : json.Json} {n : ℕ} → IsNumber v n → n ≤ 9_223_372_036_854_775 → FieldSays 3 v (number n)
  kind_says : {v : json.Json} {n : ℕ} → IsNumber v n → n ≤ 65_535 → FieldSays 4 v (number n)
  tags_says : {v : json.Json} {l : List Tag} → IsArray IsTag v l → length l ≤ 1_000 → All ValidTag l → FieldSays 5 v (tags l)
  content_says : {v : json.Json} {t : Text} → IsText v t → Utf8 t → FieldSays 6 v (text t)
  ignored_says : {k : ℕ} {v : json.Json} → 7 ≤ k → json.nesting v ≤ 16 → FieldSays k v missing

-- a field of the seven says something
pub says_some : {k : ℕ} {v : json.Json} {x : Value} → k < 7 → FieldSays k v x → is_missing x ≡ false
says_some h (id_says g b) = refl
says_some h (pubkey_says g b) = refl
says_some h (sig_says g b) = refl
says_some h (time_says g b) = refl
says_some h (kind_says g b) = refl
says_some h (tags_says g b c) = refl
says_some h (content_says g b) = refl
says_some h (ignored_says k n) = absurd (omega arith)

-- a field beyond the seven has a value that nests at most 16 deep
pub says_shallow : {k : ℕ} {v : json.Json} {x : Value} → 7 ≤ k → FieldSays k v x → json.nesting v ≤ 16
says_shallow h (id_says g b) = absurd (omega arith)
says_shallow h (pubkey_says g b) = absurd (omega arith)
says_shallow h (sig_says g b) = absurd (omega arith)
says_shallow h (time_says g b) = absurd (omega arith)
says_shallow h (kind_says g b) = absurd (omega arith)
says_shallow h (tags_says g b c) = absurd (omega arith)
says_shallow h (content_says g b) = absurd (omega arith)
says_shallow h (ignored_says k n) = n

-- ---- the record, and the one statement

-- all seven in the members of an object
abbrev pub AllSay : json.Members → Fields → Type 0
AllSay m f = (k : ℕ) → k < 7 → Once m (name k) (FieldSays k) (field f k)

-- the fields of an event
abbrev pub fields_of : Event → Fields
fields_of e = bytes e.id ∷ bytes e.pubkey ∷ bytes e.sig ∷ number e.created_at ∷ number e.kind ∷ tags e.tags ∷ text e.content ∷ []

-- seven fields that hold the parts of an event
pub data Holds (f : Fields) (e : Event) : Type 0 where
  holds : ((k : ℕ) → k < 7 → field f k ≡ field (fields_of e) k) → Holds f e

with_once : {A B : Type 0} {m : json.Members} {t : Text} {Is : json.Json → A → Type 0} {Js : json.Json → B → Type 0} {x : A} {y : B}
    → ((v : json.Json) → Is v x → Js v y) → Once m t Is x → Once m t Js y
with_once f (once {v = v} e g) = once e (f v g)

-- an event's fields, said and valid, are all said
pub says_all : {m : json.Members} {e : Event} → Says m e → Valid e → AllSay m (fields_of e)
says_all {m} {e} y v =
    by_seven (λ (k : ℕ). Once m (name k) (FieldSays k) (field (fields_of e) k)) (with_once (λ w g. id_says g v.id32) y.id)
    (with_once (λ w g. pubkey_says g v.pubkey32) y.pubkey)
    (with_once (λ w g. sig_says g v.sig64) y.sig)
    (with_once (λ w g. time_says g v.time) y.created_at)
    (with_once (λ w g. kind_says g v.kind16) y.kind)
    (with_once (λ w g. tags_says g v.few v.each) y.tags)
    (with_once (λ w g. content_says g v.text) y.content)

-- ---- what each field says, taken apart

id_of : {v : json.Json} {b : List ℕ} → FieldSays 0 v (bytes b) → IsHex v b × Bytes 32 b
id_of (id_says g h) = (g, h)

pubkey_of : {v : json.Json} {b : List ℕ} → FieldSays 1 v (bytes b) → IsHex v b × Bytes 32 b
pubkey_of (pubkey_says g h) = (g, h)

sig_of : {v : json.Json} {b : List ℕ} → FieldSays 2 v (bytes b) → IsHex v b × Bytes 64 b
sig_of (sig_says g h) = (g, h)

time_of : {v : json.Json} {n : ℕ} → FieldSays 3 v (number n) → IsNumber v n × (n ≤ 9_223_372_036_854_775)
time_of (time_says g h) = (g, h)

kind_of : {v : json.Json} {n : ℕ} → FieldSays 4 v (number n) → IsNumber v n × (n ≤ 65_535)
kind_of (kind_says g h) = (g, h)

tags_of : {v : json.Json} {l : List Tag} → FieldSays 5 v (tags l) → IsArray IsTag v l × (length l ≤ 1_000) × All ValidTag l
tags_of (tags_says g h i) = (g, h, i)

content_of_lem : {v : json.Json} {t : Text} → FieldSays 6 v (text t) → IsText v t × Utf8 t
content_of_lem (content_says g h) = (g, h)

-- the limit that a said field keeps
limit : {A : Type 0} {m : json.Members} {t : Text} {Is : json.Json → A → Type 0} {x : A} {L : Type 0} → ((v : json.Json) → Is v x → L) → Once m t Is x → L
limit f (once {v = v} e g) = f v g

-- an event whose seven fields are said is said, and is valid
pub all_says : {m : json.Members} (e : Event) → AllSay m (fields_of e) → Says m e × Valid e
all_says e a =
    let id = a 0 (omega arith) in
    let pubkey = a 1 (omega arith) in
    let sig = a 2 (omega arith) in
    let time = a 3 (omega arith) in
    let kind = a 4 (omega arith) in
    let tags = a 5 (omega arith) in
    let content = a 6 (omega arith) in (
      record {
        id = with_once (λ v g. (id_of g).0) id;
        pubkey = with_once (λ v g. (pubkey_of g).0) pubkey;
        sig = with_once (λ v g. (sig_of g).0) sig;
        created_at = with_once (λ v g. (time_of g).0) time;
        kind = with_once (λ v g. (kind_of g).0) kind;
        tags = with_once (λ v g. (tags_of g).0) tags;
        content = with_once (λ v g. (content_of_lem g).0) content;
      },
      record {
        id32 = limit (λ v g. (id_of g).1) id;
        pubkey32 = limit (λ v g. (pubkey_of g).1) pubkey;
        sig64 = limit (λ v g. (sig_of g).1) sig;
        time = limit (λ v g. (time_of g).1) time;
        kind16 = limit (λ v g. (kind_of g).1) kind;
        few = limit (λ v g. (tags_of g).1) tags;
        each = limit (λ v g. (tags_of g).2) tags;
        text = limit (λ v g. (content_of_lem g).1) content;
      },
    )
