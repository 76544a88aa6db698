-- Plain ASCII in a string: blocks of it are passed whole, and a short string of it is read at once and is its own text.
-- What holds of each byte goes on byte by byte; the plain bytes end at the first special one.
use Prim.Native.Nat.{ℕ, zero, suc, ◌+◌, ◌-◌, ◌<◌, ◌≤◌, min}
use mathlib.Core.Path.{◌≡◌, refl, sym, ap, ◌∙◌}
use mathlib.Core.Bool.{Bool, true, false, not, cond}
use mathlib.Core.List.{List, [], ◌∷◌, ◌++◌}
use mathlib.Core.Logic.{dite}
use native.Mathlib.Nat.{add-zero}
use native.Mathlib.Omega.{arith}
use native.Mathlib.Decide.{dec_lt}
use lib.ListN.{length, get_or, take, drop, length-take, length-drop}
use lib.Seq.{get_or-drop, get_or-take}
use lib.Dec.{eqb}
use borrow.Author.Tests.{lt-ltb, le-ltb, le-leb, lt-leb, ne_eqb, eqb-true}
use Rattle.std.specs.Prelude.{Some, None}
use Rattle.std.specs.List.{list_any, prefix_len}
use Rattle.std.proofs.lemmas.List.Folds.{list_any_at}
use Rattle.scan.specs.Choice.{pick, read}
use Rattle.scan.specs.Bytes.{All, none, also}
use Rattle.scan.specs.inner.Blocks.{before_stop}
use Rattle.scan.proofs.Step.{rest_more, rest_whole, pick_true, false_true, not_so}
use Rattle.scan.proofs.Chunks.{chunk_inside, chunk_byte}
use Rattle.scan.proofs.AllLaws.{all_at}
use Rattle.scan.proofs.Fits.{byte_positive}
use Rattle.scan.proofs.BlockLaws.{stop_within, stop_byte, stop_at_lem, stop_block}
use Rattle.hexdigits.specs.Hex.{all_digits}
use Rattle.hexdigits.specs.inner.LowerHex.{number, letter, LowerHex}
use Rattle.hexdigits.proofs.Texts.{pass_digits}
use Rattle.jsontext.specs.declared.Spelled.{Spelled}
use Rattle.jsontext.specs.inner.Escape.{unescape}
use Rattle.jsontext.specs.Text.{string_at}
use Rattle.jsontext.proofs.Meaning.{unescape_itself}
use Rattle.jsonstring.specs.declared.Text.{Text}
use Rattle.jsonstring.specs.declared.Text.TheVariants as text
use Rattle.jsonstring.specs.inner.Plain.{is_special, PlainTo, plain_end, is_short_plain, PlainText}
use Rattle.jsonstring.proofs.Turn.{InText, text_start, text_quote, text_ascii}

-- ---- a byte

not_special : (b : ℕ) → 0x20 ≤ b → (b ≡ 0x22 → ⊥) → (b ≡ 0x5C → ⊥) → b < 0x80 → is_special b ≡ false
unfolding is_special
not_special b h q r l = rw (le-ltb b 0x20 h, ne_eqb b 0x22 q, ne_eqb b 0x5C r, lt-leb 0x80 b l)

pub record Bare (b : ℕ) : Type 0 where
  pub low : 0x20 ≤ b
  pub no_quote : b ≡ 0x22 → ⊥
  pub no_slash : b ≡ 0x5C → ⊥
  pub ascii : b < 0x80

pub bare_byte : (b : ℕ) → is_special b ≡ false → Bare b
unfolding is_special
bare_byte b e = record {
  low = dite (dec_lt b 0x20) (λ h. absurd (false_true (sym e ∙ rw (lt-ltb b 0x20 h)))) (λ n. omega (arith, n));
  no_quote = λ q. false_true (sym e ∙ rw q);
  no_slash = λ q. false_true (sym e ∙ rw q);
  ascii = dite (dec_lt b 0x80) (λ h. h) (λ n. absurd (false_true (sym e ∙ high (omega (arith, n)))));
}
  where
    high : 0x80 ≤ b → is_special b ≡ true
    high h = rw (le-ltb b 0x20 (omega arith), ne_eqb b 0x22 (λ q. omega arith), ne_eqb b 0x5C (λ q. omega arith), le-leb 0x80 b h)

pub quote_special : is_special 0x22 ≡ true
unfolding is_special
quote_special = refl

digit_plain : (b : ℕ) → LowerHex b → is_special b ≡ false
digit_plain b (number h l) = not_special b (omega arith) (λ z. omega arith) (λ z. omega arith) (omega arith)
digit_plain b (letter h l) = not_special b (omega arith) (λ z. omega arith) (λ z. omega arith) (omega arith)

-- ---- blocks

-- plain bytes of the text from i on
pub plain_behind : (s : List ℕ) (i n : ℕ) → i ≤ length s → PlainTo (take (length s - i) (drop i s)) 0 n → PlainTo s i (i + n)
plain_behind s i n h p = go (rw (rest_whole s i) at p)
  where
    go : PlainTo (drop i s) 0 n → PlainTo s i (i + n)
    go p = record {
      onward = omega arith;
      inside = omega (arith, h, p.inside, length-drop i s);
      plain =
          λ k l m.
          let j : i + (k - i) ≡ k = omega arith in
          sym (ap (λ (x : ℕ). is_special (get_or s x 0)) j) ∙ sym (ap is_special (get_or-drop i s (k - i) 0)) ∙ p.plain (k - i) (omega arith) (omega arith);
    }

-- a block of n bytes more, which stands in front of the rest
pub plain_block : (s : List ℕ) (i n : ℕ) (x y : List ℕ) → drop i s ≡ x ++ y → length x ≡ n → {a : ℕ} {t : Bool} → PlainTo s a i → t ≡ list_any is_special x → t ≡ false
    → PlainTo s a (i + n)
plain_block s i n x y cut h {a} {t} p q z = record {
  onward = omega (arith, p.onward);
  inside = chunk_inside s i n x y cut h p.inside;
  plain = λ k l m. dite (dec_lt k i) (λ j. p.plain k l j) (λ n. here k (omega (arith, n)) m);
}
  where
    here : (k : ℕ) → i ≤ k → k < i + n → is_special (get_or s k 0) ≡ false
    here k l m =
        let j : i + (k - i) ≡ k = omega arith in
        let e : get_or s k 0 ≡ get_or x (k - i) 0 = sym (ap (λ (n : ℕ). get_or s n 0) j) ∙ chunk_byte s i n x y cut h (k - i) (omega arith) in
        not_so _ (λ f. false_true (sym z ∙ q ∙ list_any_at is_special x (k - i) 0 (omega arith) (sym (ap is_special e) ∙ f)))

-- plain bytes are passed in a string
pub text_plain : {s : List ℕ} {start a : ℕ} (r : ℕ) → PlainTo s a r → InText s start a → InText s start r
text_plain {s} {start} {a} r p v = let e : a + (r - a) ≡ r = omega arith in rw e at (go (r - a) (omega arith))
  where
    go : (n : ℕ) → n ≤ r - a → InText s start (a + n)
    go zero h = rw add-zero v
    go (suc n) h =
        let u = bare_byte (get_or s (a + n) 0) (p.plain (a + n) (omega arith) (omega arith)) in
        let e : a + suc n ≡ a + n + 1 = omega arith in
        rw e (text_ascii s start (a + n) (go n (omega arith)) (omega (arith, p.inside)) u.no_quote u.low u.no_slash u.ascii)

-- ---- the end of the plain bytes

pub plain_end_to : (s : List ℕ) (a : ℕ) → a ≤ length s → PlainTo s a (plain_end s a)
unfolding plain_end
plain_end_to s a h =
    let w = stop_within is_special (drop a s) in
    record {
      onward = omega arith;
      inside = omega (arith, w, length-drop a s);
      plain =
          λ k l m.
          let i : a + (k - a) ≡ k = omega arith in
          sym (ap (λ (x : ℕ). is_special (get_or s x 0)) i) ∙ sym (ap is_special (get_or-drop a s (k - a) 0)) ∙ stop_byte is_special (drop a s) (k - a) (omega arith);
    }

-- 64 digits and a quote
pub len_digits : (t : List ℕ) {b : ℕ} {l : List ℕ} {r : Bool} → b ≡ get_or t 64 0 → b ≡ 0x22 → l ≡ take 64 (drop 0 t) → r ≡ all_digits l → r ≡ true → 64 ≡ min 80 (before_stop is_special t)
len_digits t {b} e f g h k =
    let n = byte_positive t 64 b 0x22 e f (omega arith) in
    let d = pass_digits (take 64 t) (sym (ap all_digits g) ∙ sym h ∙ k) in
    let q : is_special (get_or t 64 0) ≡ true = ap is_special (sym e ∙ f) ∙ quote_special in
    let c : length (take 64 t) ≡ 64 = simp length-take (omega arith) in
    let r = stop_at_lem is_special t 64 n (λ j i. sym (ap is_special (get_or-take 64 t j 0 i)) ∙ digit_plain _ (all_at j d (omega (arith, c)))) q in
    omega (arith, r)

-- a special byte within a block
pub len_block : (t x : List ℕ) (m : ℕ) → x ≡ take 32 t → 32 ≤ length t → m ≡ before_stop is_special x → m < 32 → m ≡ min 80 (before_stop is_special t)
len_block t x m e h q l =
    let g : m ≡ before_stop is_special (take 32 t) = rw e at q in
    let r = stop_block is_special 32 t h (omega (arith, g)) in
    omega (arith, r, g)

-- byte by byte
pub before_counted : (l : List ℕ) → prefix_len (λ b. not (is_special b)) l ≡ before_stop is_special l
unfolding before_stop
before_counted [] = refl
before_counted (b ∷ l) = by_cases (is_special b) (before_counted l)
  where
    by_cases : (t : Bool) {m n : ℕ} → m ≡ n → cond (not t) (1 + m) 0 ≡ pick t 0 (suc n)
    by_cases true e = refl
    by_cases false e = omega (arith, e)

pub before_take : (n : ℕ) (l : List ℕ) → before_stop is_special (take n l) ≡ min n (before_stop is_special l)
unfolding before_stop
before_take zero l = omega arith
before_take (suc n) [] = omega arith
before_take (suc n) (b ∷ l) = by_cases (is_special b) _ _ (before_take n l)
  where
    by_cases : (t : Bool) (m k : ℕ) → m ≡ min n k → pick t 0 (suc m) ≡ min (suc n) (pick t 0 (suc k))
    by_cases true m k e = omega arith
    by_cases false m k e = omega arith

-- ---- a short plain string

-- the bytes of a run are no backslashes
run_all : (s : List ℕ) (n a : ℕ) → a + n ≤ length s → ((k : ℕ) → a ≤ k → k < a + n → is_special (get_or s k 0) ≡ false) → All (λ (b : ℕ). b ≡ 0x5C → ⊥) (take n (drop a s))
run_all s zero a h f = none
run_all s (suc n) a h f =
    rw (rest_more s a (omega arith))
    (also (bare_byte (get_or s a 0) (f a (omega arith) (omega arith))).no_slash (run_all s n (a + 1) (omega arith) (λ k l m. f k (omega arith) (omega arith))))

-- plain bytes are their own text
pub plain_own : (s : List ℕ) (a e : ℕ) → PlainTo s a e → unescape (take (e - a) (drop a s)) ≡ take (e - a) (drop a s)
plain_own s a e p = unescape_itself (run_all s (e - a) a (omega (arith, p.onward, p.inside)) (λ k l m. p.plain k l (omega (arith, p.onward))))

-- digits are their own text
all_slash : {t : List ℕ} → All LowerHex t → All (λ (b : ℕ). b ≡ 0x5C → ⊥) t
all_slash none = none
all_slash (also {b = b} h r) = also (bare_byte b (digit_plain b h)).no_slash (all_slash r)

pub digits_own : {t : List ℕ} → All LowerHex t → unescape t ≡ t
digits_own d = unescape_itself (all_slash d)

-- what `short_quote` tells: the string, whole
pub record Short (s : List ℕ) (at e : ℕ) : Type 0 where
  pub is : is_short_plain s at ≡ true
  pub opened : get_or s at 0 ≡ 0x22
  pub closed : get_or s e 0 ≡ 0x22
  pub plain : PlainTo s (at + 1) e

pub short_is : (s : List ℕ) (at : ℕ) {e : ℕ} → Some e ≡ pick (is_short_plain s at) (Some (plain_end s (at + 1))) None → Short s at e
unfolding is_short_plain
short_is s at {e} q = go (is_short_plain s at) refl q
  where
    go : (t : Bool) → is_short_plain s at ≡ t → Some e ≡ pick t (Some (plain_end s (at + 1))) None → Short s at e
    go false i q = absurd (cc)
    go true i q =
        let n : e ≡ plain_end s (at + 1) = cc in
        let x = pick_true (eqb (get_or s at 0) 0x22) (eqb (get_or s (plain_end s (at + 1)) 0) 0x22) i in
        let o = eqb-true (get_or s at 0) 0x22 x.0 in
        let h = byte_positive s at (get_or s at 0) 0x22 refl o (omega arith) in
        record { is = i; opened = o; closed = rw n (eqb-true _ 0x22 x.1); plain = rw n (plain_end_to s (at + 1) (omega arith)) }

module _ {s : List ℕ} {at e : ℕ} (v : Short s at e) where
  pub short_inside : (at < length s) × (at + 1 ≤ e) × (e < length s)
  short_inside =
      (byte_positive s at _ 0x22 refl v.opened (omega arith), v.plain.onward, byte_positive s e _ 0x22 refl v.closed (omega arith))

  pub short_string : read (record { from = at + 1; count = e - (at + 1) }) (e + 1) ≡ string_at s at
  short_string = text_quote s at e (text_plain e v.plain (text_start s at _ refl v.opened)) short_inside.2 v.closed
