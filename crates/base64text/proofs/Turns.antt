-- The loops' turns: three bytes become four characters, four characters three bytes; the last group, which may be
-- shorter; and what a full buffer leaves out.
-- The bytes from i on are those at i and the rest behind them; a group more and the rest make the whole.
use Prim.Native.Nat.{ℕ, suc, ◌+◌, ◌-◌, ◌*◌, ◌/◌, ◌%◌, ◌<◌, ◌≤◌, min}
use mathlib.Core.Path.{◌≡◌, refl, sym, ap, ◌∙◌}
use mathlib.Core.List.{List, [], ◌∷◌, ◌++◌, append-nil, append_assoc}
use mathlib.Core.Logic.{dite}
use native.Mathlib.Omega.{arith}
use native.Mathlib.Decide.{dec_le}
use lib.ListN.{length, get_or, take, drop, set, length-set, length-take, length-drop, length-append}
use Rattle.scan.proofs.Step.{rest_none, rest_more}
use Rattle.buffer.specs.inner.Store.{Wrote}
use Rattle.buffer.proofs.Laws.{Left, byte, then}
use Rattle.buffer.proofs.Places.{past}
use Rattle.base64text.specs.Base64.{character_of, six_bits, encoded, decoded, first, second, third}
use Rattle.base64text.proofs.Texts.{encoded_parts, decoded_parts, length_encoded, length_decoded}

-- ---- stores, one after the other

module _ {d : List ℕ} {at : ℕ} {all d' : List ℕ} where
  pub three_bytes : (o a b c : ℕ) {left : List ℕ} → o + 3 ≤ length d' → Left d at all d' o (a ∷ b ∷ c ∷ left)
      → Left d at all (set (set (set d' o a) (o + 1) b) (o + 2) c) (o + 3) left
  three_bytes o a b c h l =
      let p : o + 1 + 1 ≡ o + 2 = omega arith in
      let q : o + 2 + 1 ≡ o + 3 = omega arith in
      let x = byte (omega arith) l in
      let y = rw p at (byte {d' = set d' o a} (omega (arith, length-set d' o a)) x) in
      rw q at (byte {d' = set (set d' o a) (o + 1) b} (omega (arith, length-set d' o a, length-set (set d' o a) (o + 1) b)) y)

  pub four_bytes : (o a b c e : ℕ) {left : List ℕ} → o + 4 ≤ length d' → Left d at all d' o (a ∷ b ∷ c ∷ e ∷ left)
      → Left d at all (set (set (set (set d' o a) (o + 1) b) (o + 2) c) (o + 3) e) (o + 4) left
  four_bytes o a b c e h l =
      let p : o + 3 + 1 ≡ o + 4 = omega arith in
      let s : List ℕ = set (set (set d' o a) (o + 1) b) (o + 2) c in
      let n : length s ≡ length d' = simp length-set in
      rw p at (byte {d' = s} (omega (arith, n)) (three_bytes o a b c (omega arith) l))

-- ---- a group of a loop

module _ (s : List ℕ) (i : ℕ) where
  rest_three : i + 2 < length s → drop i s ≡ get_or s i 0 ∷ get_or s (i + 1) 0 ∷ get_or s (i + 2) 0 ∷ drop (i + 3) s
  rest_three h =
      let p : i + 1 + 1 ≡ i + 2 = omega arith in
      let q : i + 2 + 1 ≡ i + 3 = omega arith in
      rest_more s i (omega arith) ∙ ap (λ (l : List ℕ). get_or s i 0 ∷ l) (rest_more s (i + 1) (omega arith) ∙ rw (p, rest_more s (i + 2) h, q))

  -- the code takes a value's lower six bits, which it all is
  pub encode_turn : {a b c e : ℕ} → i + 2 < length s → ((j : ℕ) → get_or s j 0 < 256)
      → a ≡ character_of (get_or s i 0 / 4 % 64) → b ≡ character_of ((get_or s i 0 % 4 * 16 + get_or s (i + 1) 0 / 16) % 64)
      → c ≡ character_of ((get_or s (i + 1) 0 % 16 * 4 + get_or s (i + 2) 0 / 64) % 64) → e ≡ character_of (get_or s (i + 2) 0 % 64)
      → encoded (drop i s) ≡ a ∷ b ∷ c ∷ e ∷ encoded (drop (i + 3) s)
  unfolding encoded
  encode_turn h y p q r u =
      let k = y i in
      let l = y (i + 1) in
      let m = y (i + 2) in
      let f : get_or s i 0 / 4 % 64 ≡ get_or s i 0 / 4 = omega arith in
      let g : (get_or s i 0 % 4 * 16 + get_or s (i + 1) 0 / 16) % 64 ≡ get_or s i 0 % 4 * 16 + get_or s (i + 1) 0 / 16 = omega arith in
      let n : (get_or s (i + 1) 0 % 16 * 4 + get_or s (i + 2) 0 / 64) % 64 ≡ get_or s (i + 1) 0 % 16 * 4 + get_or s (i + 2) 0 / 64 = omega arith in
      rw (rest_three h, p, q, r, u, f, g, n)

  pub decode_turn : {a b c e : ℕ} → i + 3 < length s → a ≡ six_bits (get_or s i 0) → b ≡ six_bits (get_or s (i + 1) 0)
      → c ≡ six_bits (get_or s (i + 2) 0) → e ≡ six_bits (get_or s (i + 3) 0)
      → decoded (drop i s) ≡ first a b ∷ second b c ∷ third c e ∷ decoded (drop (i + 4) s)
  unfolding decoded
  decode_turn h p q r u =
      let t : i + 3 + 1 ≡ i + 4 = omega arith in
      rw (rest_three (omega arith), rest_more s (i + 3) h, t, p, q, r, u)

pub none_left : (s : List ℕ) → length s ≡ 0 → encoded s ≡ []
unfolding encoded
none_left [] h = refl
none_left (a ∷ s) h = absurd (omega arith)

pub none_decoded : (t : List ℕ) → length t ≡ 0 → decoded t ≡ []
unfolding decoded
none_decoded [] h = refl
none_decoded (a ∷ t) h = absurd (omega arith)

-- ---- the first group of a text, which may be shorter

take_one : (s : List ℕ) → length s ≡ 1 → take 3 s ≡ get_or s 0 0 ∷ []
take_one [] h = absurd (omega arith)
take_one (a ∷ []) h = refl
take_one (a ∷ b ∷ s) h = absurd (omega arith)

take_two : (s : List ℕ) (n : ℕ) → length s ≡ 2 → take (suc (suc (suc n))) s ≡ get_or s 0 0 ∷ get_or s 1 0 ∷ []
take_two [] n h = absurd (omega arith)
take_two (a ∷ []) n h = absurd (omega arith)
take_two (a ∷ b ∷ []) n h = refl
take_two (a ∷ b ∷ c ∷ s) n h = absurd (omega arith)

take_three : (s : List ℕ) → 3 ≤ length s → take 3 s ≡ get_or s 0 0 ∷ get_or s 1 0 ∷ get_or s 2 0 ∷ []
take_three [] h = absurd (omega arith)
take_three (a ∷ []) h = absurd (omega arith)
take_three (a ∷ b ∷ []) h = absurd (omega arith)
take_three (a ∷ b ∷ c ∷ s) h = refl

just_three : (s : List ℕ) → length s ≡ 3 → take 4 s ≡ get_or s 0 0 ∷ get_or s 1 0 ∷ get_or s 2 0 ∷ []
just_three [] h = absurd (omega arith)
just_three (a ∷ []) h = absurd (omega arith)
just_three (a ∷ b ∷ []) h = absurd (omega arith)
just_three (a ∷ b ∷ c ∷ []) h = refl
just_three (a ∷ b ∷ c ∷ d ∷ s) h = absurd (omega arith)

take_four : (s : List ℕ) → 4 ≤ length s → take 4 s ≡ get_or s 0 0 ∷ get_or s 1 0 ∷ get_or s 2 0 ∷ get_or s 3 0 ∷ []
take_four [] h = absurd (omega arith)
take_four (a ∷ []) h = absurd (omega arith)
take_four (a ∷ b ∷ []) h = absurd (omega arith)
take_four (a ∷ b ∷ c ∷ []) h = absurd (omega arith)
take_four (a ∷ b ∷ c ∷ d ∷ s) h = refl

pub none_encoded : (s : List ℕ) → length s ≡ 0 → encoded (take 3 s) ≡ []
unfolding encoded
none_encoded [] h = refl
none_encoded (a ∷ s) h = absurd (omega arith)

module _ (s : List ℕ) (y : (j : ℕ) → get_or s j 0 < 256) {a b : ℕ} where
  pub one_encoded : length s ≡ 1 → a ≡ character_of (get_or s 0 0 / 4 % 64) → b ≡ character_of (get_or s 0 0 % 4 * 16 % 64)
      → encoded (take 3 s) ≡ a ∷ b ∷ []
  unfolding encoded
  one_encoded h p q =
      let k = y 0 in
      let f : get_or s 0 0 / 4 % 64 ≡ get_or s 0 0 / 4 = omega arith in
      let g : get_or s 0 0 % 4 * 16 % 64 ≡ get_or s 0 0 % 4 * 16 = omega arith in
      rw (take_one s h, p, q, f, g)

  module _ {c : ℕ} where
    pub two_encoded : length s ≡ 2 → a ≡ character_of (get_or s 0 0 / 4 % 64) → b ≡ character_of ((get_or s 0 0 % 4 * 16 + get_or s 1 0 / 16) % 64)
        → c ≡ character_of (get_or s 1 0 % 16 * 4 % 64) → encoded (take 3 s) ≡ a ∷ b ∷ c ∷ []
    unfolding encoded
    two_encoded h p q r =
        let k = y 0 in
        let l = y 1 in
        let f : get_or s 0 0 / 4 % 64 ≡ get_or s 0 0 / 4 = omega arith in
        let g : (get_or s 0 0 % 4 * 16 + get_or s 1 0 / 16) % 64 ≡ get_or s 0 0 % 4 * 16 + get_or s 1 0 / 16 = omega arith in
        let n : get_or s 1 0 % 16 * 4 % 64 ≡ get_or s 1 0 % 16 * 4 = omega arith in
        rw (take_two s 0 h, p, q, r, f, g, n)

    pub three_encoded : {e : ℕ} → 3 ≤ length s → a ≡ character_of (get_or s 0 0 / 4 % 64) → b ≡ character_of ((get_or s 0 0 % 4 * 16 + get_or s 1 0 / 16) % 64)
        → c ≡ character_of ((get_or s 1 0 % 16 * 4 + get_or s 2 0 / 64) % 64) → e ≡ character_of (get_or s 2 0 % 64) → encoded (take 3 s) ≡ a ∷ b ∷ c ∷ e ∷ []
    unfolding encoded
    three_encoded h p q r u =
        let t = encode_turn s 0 (omega arith) y p q r u in
        rw (take_three s h, p, q, r, u) (whole_group (y 0) (y 1) (y 2))
      where
        whole_group : {x z w : ℕ} → x < 256 → z < 256 → w < 256
            → character_of (x / 4) ∷ character_of (x % 4 * 16 + z / 16) ∷ character_of (z % 16 * 4 + w / 64) ∷ character_of (w % 64) ∷ []
            ≡ character_of (x / 4 % 64) ∷ character_of ((x % 4 * 16 + z / 16) % 64) ∷ character_of ((z % 16 * 4 + w / 64) % 64) ∷ character_of (w % 64) ∷ []
        whole_group {x} {z} {w} k l m =
            let f : x / 4 % 64 ≡ x / 4 = omega arith in
            let g : (x % 4 * 16 + z / 16) % 64 ≡ x % 4 * 16 + z / 16 = omega arith in
            let n : (z % 16 * 4 + w / 64) % 64 ≡ z % 16 * 4 + w / 64 = omega arith in
            rw (f, g, n)

pub few_decoded : (t : List ℕ) → length t < 2 → decoded (take 4 t) ≡ []
unfolding decoded
few_decoded [] h = refl
few_decoded (a ∷ []) h = refl
few_decoded (a ∷ b ∷ t) h = absurd (omega arith)

module _ (t : List ℕ) {a b : ℕ} (p : a ≡ six_bits (get_or t 0 0)) (q : b ≡ six_bits (get_or t 1 0)) where
  pub two_decoded : length t ≡ 2 → decoded (take 4 t) ≡ first a b ∷ []
  unfolding decoded
  two_decoded h = rw (take_two t 1 h, p, q)

  module _ {c : ℕ} (r : c ≡ six_bits (get_or t 2 0)) where
    pub three_decoded : length t ≡ 3 → decoded (take 4 t) ≡ first a b ∷ second b c ∷ []
    unfolding decoded
    three_decoded h = rw (just_three t h, p, q, r)

    pub four_decoded : {e : ℕ} → 4 ≤ length t → e ≡ six_bits (get_or t 3 0) → decoded (take 4 t) ≡ first a b ∷ second b c ∷ third c e ∷ []
    unfolding decoded
    four_decoded h u = rw (take_four t h, p, q, r, u)

-- ---- as many whole groups as there is room for, and one group more

-- they are a part of the text, whole groups, and there is room for them
module _ (s : List ℕ) (d at k : ℕ) (h : at < d) where
  pub threes_fit : k ≡ min (length s / 3) ((d - at) / 4) → (3 * k ≤ length s) × (length (take (3 * k) s) ≡ 3 * k) × (at + length (take (3 * k) s) / 3 * 4 ≤ d)
  threes_fit e =
      let m : k ≤ length s / 3 = omega arith in
      let r : k ≤ (d - at) / 4 = omega arith in
      let n : length (take (3 * k) s) ≡ 3 * k = simp length-take (omega (arith, m)) in
      (omega (arith, m), n, omega (arith, n, r, h))

  pub fours_fit : k ≡ min (length s / 4) ((d - at) / 3) → (4 * k ≤ length s) × (length (take (4 * k) s) ≡ 4 * k) × (at + length (take (4 * k) s) / 4 * 3 ≤ d)
  fours_fit e =
      let m : k ≤ length s / 4 = omega arith in
      let r : k ≤ (d - at) / 3 = omega arith in
      let n : length (take (4 * k) s) ≡ 4 * k = simp length-take (omega (arith, m)) in
      (omega (arith, m), n, omega (arith, n, r, h))

module _ {d : List ℕ} {at : ℕ} {d₁ : List ℕ} {o : ℕ} {d₂ : List ℕ} {r : ℕ} where
  pub encoded_cut : (s : List ℕ) (k n : ℕ) → at < length d → k ≡ min (length s / 3) ((length d - at) / 4) → n ≡ 3 * k
      → Wrote d at (encoded (take n s)) d₁ o → Wrote d₁ o (encoded (take 3 (drop n s))) d₂ r → Wrote d at (encoded s) d₂ r
  unfolding encoded
  encoded_cut s k n h e f u v =
      let a = encoded (take n s) in
      let b = encoded (take 3 (drop n s)) in
      let c = encoded (drop 3 (drop n s)) in
      let w : encoded s ≡ (a ++ b) ++ c = encoded_parts k n s f ∙ ap (λ (l : List ℕ). a ++ l) (encoded_parts 1 3 (drop n s) refl) ∙ sym (append_assoc a b c) in
      rw w
      (dite (dec_le (length s) (n + 3))
      (λ p. let z : drop 3 (drop n s) ≡ [] = rest_none (drop n s) 3 (omega (arith, length-drop n s)) in rw (z, append-nil) (then u v))
      (λ p. past c (full (omega (arith, p))) (then u v)))
    where
      full : n + 3 < length s → length d ≤ at + length (encoded (take n s) ++ encoded (take 3 (drop n s)))
      full p =
          let x = length_encoded (take n s) in
          let y = length_encoded (take 3 (drop n s)) in
          let i : length (take n s) ≡ n = simp length-take (omega arith) in
          let j : length (take 3 (drop n s)) ≡ 3 = simp (length-take, length-drop) (omega arith) in
          rw (length-append (encoded (take n s)) (encoded (take 3 (drop n s))), x, y, i, j) (omega arith)

  pub decoded_cut : (t : List ℕ) (k n : ℕ) → at < length d → k ≡ min (length t / 4) ((length d - at) / 3) → n ≡ 4 * k
      → Wrote d at (decoded (take n t)) d₁ o → Wrote d₁ o (decoded (take 4 (drop n t))) d₂ r → Wrote d at (decoded t) d₂ r
  unfolding decoded
  decoded_cut t k n h e f u v =
      let a = decoded (take n t) in
      let b = decoded (take 4 (drop n t)) in
      let c = decoded (drop 4 (drop n t)) in
      let w : decoded t ≡ (a ++ b) ++ c = decoded_parts k n t f ∙ ap (λ (l : List ℕ). a ++ l) (decoded_parts 1 4 (drop n t) refl) ∙ sym (append_assoc a b c) in
      rw w
      (dite (dec_le (length t) (n + 4))
      (λ p. let z : drop 4 (drop n t) ≡ [] = rest_none (drop n t) 4 (omega (arith, length-drop n t)) in rw (z, append-nil) (then u v))
      (λ p. past c (full (omega (arith, p))) (then u v)))
    where
      full : n + 4 < length t → length d ≤ at + length (decoded (take n t) ++ decoded (take 4 (drop n t)))
      full p =
          let x = length_decoded (take n t) in
          let y = length_decoded (take 4 (drop n t)) in
          let i : length (take n t) ≡ n = simp length-take (omega arith) in
          let j : length (take 4 (drop n t)) ≡ 4 = simp (length-take, length-drop) (omega arith) in
          rw (length-append (decoded (take n t)) (decoded (take 4 (drop n t))), x, y, i, j) (omega arith)
