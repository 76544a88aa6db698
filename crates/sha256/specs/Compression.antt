-- FIPS 180-4, sections 5.2.1 and 6.2.2: a block of 64 bytes as sixteen words, and what it does to the hash value.
-- Assumes nothing.
use Rattle.std.specs.Prelude.{ℕ, zero, suc, ◌+◌, ◌-◌, ◌*◌, ◌^◌, ◌<◌, List, [], ◌∷◌, ◌++◌, length, take, drop, slice_index}
use Rattle.sha256.specs.declared.Words.{Words}
use Rattle.sha256.specs.Operations.{plus, Ch, Maj, Σ0, Σ1, σ0, σ1}
use Rattle.sha256.specs.Constants.{constants}

-- eight numbers that are words
abbrev pub AreWords : Words → Type 0
AreWords v =
    (v.a < 2 ^ 32) × (v.b < 2 ^ 32) × (v.c < 2 ^ 32) × (v.d < 2 ^ 32)
    × (v.e < 2 ^ 32) × (v.f < 2 ^ 32) × (v.g < 2 ^ 32) × (v.h < 2 ^ 32)

-- ---- 5.2.1: words from bytes

-- four bytes, the first the highest
unfoldable pub word_of : ℕ → ℕ → ℕ → ℕ → ℕ
word_of a b c d = a * 2 ^ 24 + b * 2 ^ 16 + c * 2 ^ 8 + d

-- four bytes a word; fewer than four at the end are none
unfoldable pub words_of : List ℕ → List ℕ
words_of [] = []
words_of (a ∷ []) = []
words_of (a ∷ b ∷ []) = []
words_of (a ∷ b ∷ c ∷ []) = []
words_of (a ∷ b ∷ c ∷ d ∷ l) = word_of a b c d ∷ words_of l

-- ---- 6.2.2, step 1: the message schedule

-- word t, from the words t - 2, t - 7, t - 15 and t - 16
unfoldable pub next_word : ℕ → ℕ → ℕ → ℕ → ℕ
next_word w2 w7 w15 w16 = plus (plus (plus (σ1 w2) w7) (σ0 w15)) w16

-- the word that comes behind those of w
unfoldable pub word_behind : List ℕ → ℕ
word_behind w =
    next_word (slice_index w (length w - 2)) (slice_index w (length w - 7)) (slice_index w (length w - 15)) (slice_index w (length w - 16))

-- n words more
unfoldable pub schedule : ℕ → List ℕ → List ℕ
schedule zero w = w
schedule (suc n) w = schedule n (w ++ (word_behind w ∷ []))

-- ---- 6.2.2, steps 2 and 3: the working variables begin with the hash value, and go through the rounds

-- one round, with the constant k and the scheduled word w
unfoldable pub round : Words → ℕ → ℕ → Words
round v k w =
    let t1 = plus (plus (plus (plus v.h (Σ1 v.e)) (Ch v.e v.f v.g)) k) w in
    let t2 = plus (Σ0 v.a) (Maj v.a v.b v.c) in
    record { a = plus t1 t2; b = v.a; c = v.b; d = v.c; e = plus v.d t1; f = v.e; g = v.f; h = v.g }

-- n rounds from round t on
unfoldable pub rounds : List ℕ → ℕ → ℕ → Words → Words
rounds w zero t v = v
rounds w (suc n) t v = rounds w n (t + 1) (round v (slice_index constants t) (slice_index w t))

-- ---- 6.2.2, step 4: word by word, the sum is the next hash value

unfoldable pub add_words : Words → Words → Words
add_words x y =
    record {
      a = plus x.a y.a;
      b = plus x.b y.b;
      c = plus x.c y.c;
      d = plus x.d y.d;
      e = plus x.e y.e;
      f = plus x.f y.f;
      g = plus x.g y.g;
      h = plus x.h y.h;
    }

-- ---- 6.2.2: one block

unfoldable pub compress : Words → List ℕ → Words
compress h block = add_words (rounds (schedule 48 (words_of block)) 64 0 h) h

-- n blocks, one after the other
unfoldable pub blocks : ℕ → Words → List ℕ → Words
blocks zero h m = h
blocks (suc n) h m = blocks n (compress h (take 64 m)) (drop 64 m)
