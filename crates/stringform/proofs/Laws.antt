-- The string form, there and back: a text that is read is the string form of what it is read as, and the string form
-- of bytes that the notepack reader accepts is read as these bytes. Of either form.
-- By the laws of base64: an encoding decodes to its bytes, and a text of the alphabet with a whole end is an encoding.
use Prim.Native.Nat.{ℕ, ◌+◌, ◌≤◌}
use mathlib.Core.Path.{◌≡◌, refl, sym, ap, ◌∙◌, subst}
use mathlib.Core.Bool.{Bool, true, false, not}
use mathlib.Core.List.{List, [], ◌∷◌, ◌++◌, append-nil}
use mathlib.Core.Logic.{◌↔◌}
use native.Mathlib.Nat.{add-zero, zero-add}
use native.Mathlib.Omega.{arith}
use lib.ListN.{length, drop, length-append, length-drop}
use lib.Dec.{ltb}
use borrow.Author.Tests.{le-ltb, ltb-false}
use Rattle.scan.specs.Bytes.{All, none, also, IsBytes}
use Rattle.scan.specs.Choice.{pick, Answer, shown, refused, and_then}
use Rattle.scan.specs.Place.{begins, stands_at, run, run_at}
use Rattle.scan.proofs.AllLaws.{all_drop}
use Rattle.scan.proofs.Many.{shown_same}
use Rattle.scan.proofs.Step.{rest_none}
use Rattle.scan.proofs.SpanLaws.{from_span}
use Rattle.scan.proofs.PlaceLaws.{stands_span, run_span}
use Rattle.base64text.specs.Base64.{in_alphabet, encoded, decoded, ends_whole}
use Rattle.base64text.proofs.Texts.{Character, character_in, in_character, decoded_encoded, encoded_whole, encoded_in, encoded_decoded, decoded_bytes, length_encoded}
use Rattle.event.specs.Event.{Event}
use Rattle.notepack.specs.Strict.{pack}
use Rattle.notepack.specs.Unpack.{unpack}
use Rattle.notepack.proofs.Sound.{sound}
use Rattle.notepack.proofs.StrictLaws.{reads_again, pack_bytes}
use Rattle.versioned.specs.Versioned.{behind, given}
use Rattle.versioned.specs.Moves.{accepted}
use Rattle.versioned.proofs.Starting.{clash, given_bare, given_versioned, given_shown, versioned_starts}
use Rattle.versioned.proofs.Accepted.{accepted_event, accepted_apart, given_short}
use Rattle.stringform.specs.StringForm.{prefix, front, string_form, event_string, held_bytes, read_string}

-- ---- a text of the alphabet behind the prefix

-- a run over a text that passes whole ends behind it
run_whole : (l : List ℕ) (i : ℕ) → All Character l → run in_alphabet l i ≡ i + length l
unfolding run
run_whole [] i none = sym (add-zero i)
run_whole (b ∷ l) i (also h a) = let e : i + 1 + length l ≡ i + length (b ∷ l) = omega arith in rw (character_in b h) (run_whole l (i + 1) a ∙ e)

-- the bytes that the string form of bytes holds are these bytes
pub held_back : (bare : Bool) (b : List ℕ) → IsBytes b → held_bytes bare (string_form bare b) ≡ shown b
unfolding held_bytes string_form prefix stands_at begins run_at
held_back true b y =
    let r : run in_alphabet (encoded b) 9 ≡ 9 + length (encoded b) = run_whole (encoded b) 9 (encoded_in b y) in
    let n : ltb (9 + length (encoded b)) (length (string_form true b)) ≡ false = le-ltb (9 + length (encoded b)) (length (string_form true b)) (omega arith) in
    rw (r, n, encoded_whole b y, decoded_encoded b y)
held_back false b y =
    let r : run in_alphabet (encoded b) 10 ≡ 10 + length (encoded b) = run_whole (encoded b) 10 (encoded_in b y) in
    let n : ltb (10 + length (encoded b)) (length (string_form false b)) ≡ false = le-ltb (10 + length (encoded b)) (length (string_form false b)) (omega arith) in
    rw (r, n, encoded_whole b y, decoded_encoded b y)

module _ (bare : Bool) (t : List ℕ) where
  -- how many bytes the prefix has
  abbrev pub start : ℕ
  start = length (prefix bare)

  -- a text with the prefix, of the alphabet behind it, with a whole end
  held_text : stands_at (prefix bare) t 0 ≡ true → ltb (run_at in_alphabet t start) (length t) ≡ false → ends_whole (drop start t) ≡ true
      → t ≡ string_form bare (decoded (drop start t))
  unfolding string_form
  held_text p q r =
      let starts : t ≡ prefix bare ++ drop start t = rw zero-add at (from_span (stands_span (prefix bare) t 0 p)) in
      let end : length t ≤ run_at in_alphabet t start = ltb-false (run_at in_alphabet t start) (length t) q in
      let run = run_span in_alphabet Character in_character t start in
      let all : drop start t ≡ run.0 =
      from_span run.2 ∙ ap (λ (l : List ℕ). run.0 ++ l) (rest_none t (run_at in_alphabet t start) end) ∙ append-nil run.0 in
      let of : All Character (drop start t) = subst (All Character) (sym all) run.1 in
      starts ∙ ap (λ (l : List ℕ). prefix bare ++ l) (sym (encoded_decoded (drop start t) of r))

  -- where bytes are held, the text is their string form, and they are bytes
  held_apart : (b : List ℕ) → held_bytes bare t ≡ shown b → (t ≡ string_form bare b) × IsBytes b
  unfolding held_bytes
  held_apart b e = go (stands_at (prefix bare) t 0) (ltb (run_at in_alphabet t start) (length t)) (ends_whole (drop start t)) refl refl refl e
    where
      go : (x y z : Bool) → stands_at (prefix bare) t 0 ≡ x → ltb (run_at in_alphabet t start) (length t) ≡ y → ends_whole (drop start t) ≡ z
          → pick x (pick y (refused 21 (run_at in_alphabet t start)) (pick z (shown (decoded (drop start t))) (refused 21 (length t)))) (refused 20 0) ≡ shown b
          → (t ≡ string_form bare b) × IsBytes b
      go true false true p q r e =
          let d : decoded (drop start t) ≡ b = shown_same e in
          (held_text p q r ∙ ap (string_form bare) d, subst IsBytes d (decoded_bytes (drop start t)))
      go true false false p q r e = clash e
      go true true z p q r e = clash e
      go false y z p q r e = clash e

-- ---- the theorems

-- A text is read as b exactly if b is bytes, the text is their string form, and the notepack reader accepts them as of
-- that form.
pub read_exactly : (bare : Bool) (t b : List ℕ)
    → (read_string bare t ≡ shown b) ↔ (IsBytes b × (t ≡ string_form bare b) × (e : Event) × (given bare unpack b ≡ shown e))
unfolding read_string
read_exactly bare t b = (λ h. there (held_bytes bare t) refl h, λ p. back p.0 p.1 p.2 p.3)
  where
    there : (r : Answer (List ℕ)) → held_bytes bare t ≡ r → and_then r (accepted bare) ≡ shown b
        → IsBytes b × (t ≡ string_form bare b) × (e : Event) × (given bare unpack b ≡ shown e)
    there (shown c) h k =
        let a = accepted_apart bare c b k in
        let f = held_apart bare t c h in
        (subst IsBytes a.2 f.1, f.0 ∙ ap (string_form bare) a.2, a.0, sym (ap (given bare unpack) a.2) ∙ a.1)
    there (refused n q) h k = clash k

    back : IsBytes b → t ≡ string_form bare b → (e : Event) → given bare unpack b ≡ shown e → and_then (held_bytes bare t) (accepted bare) ≡ shown b
    back y q e u = rw (ap (held_bytes bare) q ∙ held_back bare b y) (accepted_event bare b e u)

-- Two texts that are read as the same bytes are the same text.
pub one_text : (bare : Bool) (t u b : List ℕ) → read_string bare t ≡ shown b → read_string bare u ≡ shown b → t ≡ u
one_text bare t u b p q = ((read_exactly bare t b).0 p).1 ∙ sym ((read_exactly bare u b).0 q).1

-- The old reader refuses every versioned string form, and the reader of those every bare one, with 20: where the one
-- prefix has its last byte the other has another.
pub other_form : (bare : Bool) (l : List ℕ) → read_string bare (prefix (not bare) ++ l) ≡ refused 20 0
unfolding read_string held_bytes prefix stands_at begins
other_form true l = refl
other_form false l = refl

-- The strict bytes of an accepted input, with what stands in front of them, are of its form and show its event.
front_event : (bare : Bool) (s : List ℕ) (e : Event) → IsBytes s → given bare unpack s ≡ shown e
    → IsBytes (front bare ++ pack e) × (given bare unpack (front bare ++ pack e) ≡ shown e)
unfolding front
front_event true s e y h =
    let u = sym (given_bare unpack s) ∙ h in
    (pack_bytes e (sound s y e u).valid, given_bare unpack (pack e) ∙ reads_again s e u y)
front_event false s e y h =
    let k = given_shown false unpack s h in
    let v = versioned_starts s k.1 in
    let z = all_drop k.0 y in
    let u = sound (drop k.0 s) z e k.2 in
    let l : length (pack e) ≤ 65_535 = omega (arith, u.least, length-drop k.0 s, v.one, v.short, ap length v.whole) in
    (also {b = 1} (omega arith) (pack_bytes e u.valid), given_versioned unpack (pack e) l ∙ ap (behind 1) (reads_again (drop k.0 s) e k.2 z))

-- What is written of an accepted input is read as its strict form, which shows the same event.
pub string_back : (bare : Bool) (s : List ℕ) (e : Event) → IsBytes s → given bare unpack s ≡ shown e
    → (read_string bare (event_string bare e) ≡ shown (front bare ++ pack e)) × (given bare unpack (front bare ++ pack e) ≡ shown e)
unfolding event_string
string_back bare s e y h =
    let f = front_event bare s e y h in
    ((read_exactly bare (string_form bare (front bare ++ pack e)) (front bare ++ pack e)).1 (f.0, refl, e, f.1), f.1)

-- Two records with the same string form are the same event.
pub one_event : (bare : Bool) (s t : List ℕ) (d e : Event) → IsBytes s → IsBytes t → given bare unpack s ≡ shown d → given bare unpack t ≡ shown e
    → event_string bare d ≡ event_string bare e → d ≡ e
one_event bare s t d e y z p q k =
    let a = string_back bare s d y p in
    let b = string_back bare t e z q in
    let r : front bare ++ pack d ≡ front bare ++ pack e = shown_same (sym a.0 ∙ ap (read_string bare) k ∙ b.0) in
    shown_same (sym a.1 ∙ ap (given bare unpack) r ∙ b.1)

-- No string form that is written is longer than 87,391 bytes, or 87,392 of the versioned form.
pub string_most : (bare : Bool) (s : List ℕ) (e : Event) → IsBytes s → given bare unpack s ≡ shown e → length (event_string bare e) ≤ length (prefix bare) + 87_382
unfolding event_string string_form
string_most bare s e y h =
    let f = front_event bare s e y h in
    let l = given_short bare (front bare ++ pack e) f.1 in
    omega (arith, l, length-append (prefix bare) (encoded (front bare ++ pack e)), length_encoded (front bare ++ pack e))
