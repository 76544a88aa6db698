-- Where a string that was read ends, and how long its text can get: no longer than it is spelled, and as a strict
-- element ten bytes more.
-- By soundness of the string, and along the runs and escapes of its bytes.
use Prim.Native.Nat.{ℕ, zero, suc, ◌+◌, ◌*◌, ◌-◌, ◌/◌, ◌≤◌, ◌<◌, ◌^◌}
use mathlib.Core.Path.{◌≡◌, refl, sym, ap, ◌∙◌}
use mathlib.Core.Bool.{Bool, true, false}
use mathlib.Core.List.{List, [], ◌∷◌}
use mathlib.Core.Logic.{dite}
use native.Mathlib.Omega.{arith}
use native.Mathlib.Decide.{dec_lt}
use lib.ListN.{length, take, drop, length-take, length-drop, length-append}
use Rattle.scan.specs.Choice.{read}
use Rattle.scan.specs.inner.Span.{Span}
use Rattle.scan.proofs.SpanLaws.{span_length, span_fits}
use Rattle.scan.proofs.Many.{then_shown}
use Rattle.scan.proofs.Reading.{read_same}
use Rattle.varint.proofs.UlebLaws.{length_ten}
use Rattle.hexdigits.specs.Hex.{goes_as_bytes}
use Rattle.notepack.specs.Strict.{pack_element}
use Rattle.notepack.proofs.Lengths.{length_as_bytes, length_as_text}
use Rattle.jsontext.specs.declared.Spelled.{Spelled}
use Rattle.jsontext.specs.Grammar as json
use Rattle.jsontext.specs.inner.Escape.{escape_at, or_itself, unescape}
use Rattle.jsonunescape.specs.inner.Run.{backslash_at}
use Rattle.jsontext.specs.Text.{string_at}
use Rattle.jsontext.proofs.Meaning.{unescape_chars, chars_same}
use Rattle.jsontext.proofs.TextLaws.{string_reads}
use Rattle.jsonunescape.proofs.Unescape.{run_onward, run_inside, run_slash, length_run, unescape_end, taken, length_escape}
use Rattle.jsonevent.specs.Field.{text_of, text_at}
use Rattle.jsonfields.specs.inner.Size.{element_size}

-- ---- general: belongs to crate jsontext

-- a string that was read begins behind its quote and ends with one, within the input
pub string_ends : (s : List ℕ) (a : ℕ) {x : Spelled} {e : ℕ} → string_at s a ≡ read x e → (x.from ≡ a + 1) × (a + x.count + 2 ≡ e) × (e ≤ length s)
string_ends s a {x} {e} h = let g = string_reads h in go g.0 g.1 g.2 g.3 g.4
  where
    go : (l q : List ℕ) → json.QuotedChars l q → Span s a q e → x ≡ record { from = a + 1; count = length l } → (x.from ≡ a + 1) × (a + x.count + 2 ≡ e) × (e ≤ length s)
    go l q (json.quoted g) r f =
        let n = length-append l (0x22 ∷ []) in
        (ap (λ (y : Spelled). y.from) f, omega (arith, ap (λ (y : Spelled). y.count) f, span_length r, n), omega (arith, span_length r, span_fits r, n))

-- a text is no longer than it is spelled
pub unescape_most : (t : List ℕ) → length (unescape t) ≤ length t
unescape_most t = omega (arith, go (length t) 0 (omega arith) (omega arith))
  where
    go : (k i : ℕ) → length t ≤ i + k → i ≤ length t → length (unescape (drop i t)) ≤ length t - i
    go zero i h l = rw (unescape_end t i (omega arith)) (omega arith)
    go (suc k) i h l =
        let e = backslash_at t i in
        let run = length_run t i {e = e} refl l in
        dite (dec_lt e (length t))
        (λ q.
        let f = run_slash t i refl q in
        let x = or_itself (escape_at t e) in
        let y = taken t e q f refl in
        let j : e + x.width ≤ length t = y.inside in
        omega (arith, run, length_escape t e q f refl, y.shorter, y.some, run_onward t i {e = e} refl, go k (e + x.width) (omega (arith, h, run_onward t i {e = e} refl, y.some)) j))
        (λ q. omega (arith, q, run, ap length (unescape_end t e (omega (arith, q))), run_onward t i {e = e} refl, run_inside t i {e = e} refl l))

-- a string that is read is its own text where that is as long as it is spelled
pub string_same : (s : List ℕ) (a : ℕ) {x : Spelled} {e : ℕ} → string_at s a ≡ read x e → length (text_of s x) ≡ x.count → text_of s x ≡ take x.count (drop x.from s)
string_same s a {x} {e} h n = let g = string_reads h in go g.0 g.2 (ap (λ (y : Spelled). y.count) g.4) g.5
  where
    go : (l : List ℕ) {q : List ℕ} → json.QuotedChars l q → x.count ≡ length l → take x.count (drop x.from s) ≡ l → text_of s x ≡ take x.count (drop x.from s)
    go l (json.quoted {t = t} g) k f =
        let u : text_of s x ≡ t = ap unescape f ∙ unescape_chars g in
        u ∙ (chars_same g).1 (sym (ap length u) ∙ n ∙ k) ∙ sym f

-- the text of a part of the input is no longer than the input
pub part_most : (s : List ℕ) (i k : ℕ) {n : ℕ} → n ≡ length (unescape (take k (drop i s))) → n ≤ length s
part_most s i k e =
    let d : length (take k (drop i s)) ≤ length s = rw (length-take k (drop i s), length-drop i s) (omega arith) in
    omega (arith, e, unescape_most (take k (drop i s)), d)

-- nor than its bytes between the quotes
pub spelled_most : (s : List ℕ) (x : Spelled) → length (text_of s x) ≤ x.count
spelled_most s x =
    let part = take x.count (drop x.from s) in
    let m : length part ≤ x.count = rw (length-take x.count (drop x.from s)) (omega arith) in
    omega (arith, unescape_most part, m)

-- ---- elements

pub element_most_lem : (t : List ℕ) → length t < 2 ^ 63 → element_size t ≤ length t + 10
unfolding element_size
element_most_lem t h = go (goes_as_bytes t) refl
  where
    go : (g : Bool) → g ≡ goes_as_bytes t → length (pack_element t) ≤ length t + 10
    go true e = omega (arith, length_as_bytes t true e refl, length_ten (2 * (length t / 2) + 1) (omega arith))
    go false e = omega (arith, length_as_text t false e refl, length_ten (2 * length t) (omega arith))

-- the string of a text
pub text_string : (s : List ℕ) (a : ℕ) {t : List ℕ} {e : ℕ} → text_at s a ≡ read t e → (x : Spelled) × (string_at s a ≡ read x e) × (text_of s x ≡ t)
unfolding text_at
text_string s a h =
    let g = then_shown (string_at s a) _ _ h in
    let f = read_same g.2 in
    (g.0.value, g.1 ∙ ap (λ (n : ℕ). read g.0.value n) f.1, f.0)

-- a text takes at most ten bytes more in the strict form than it does here
pub text_bound : (s : List ℕ) → length s < 2 ^ 63 → (a : ℕ) (t : List ℕ) (e : ℕ) → text_at s a ≡ read t e → (a ≤ e) × (e ≤ length s) × (element_size t + a ≤ e + 10)
text_bound s l a t e h =
    let g = text_string s a h in
    let x = g.0 in
    let n = string_ends s a g.1 in
    let u : length t ≤ x.count = omega (arith, ap length (sym g.2), spelled_most s x) in
    (omega (arith, n), n.2, omega (arith, n, u, element_most_lem t (omega (arith, n, u))))
