-- The turns and the ends of the loops over the words of a block, the schedule, the rounds and the blocks.
-- Each law opens the definition once; the premises are what the loop's record has.
use Rattle.std.proofs.Common.{◌≡◌, ℕ, zero, suc, ◌+◌, ◌-◌, ◌*◌, ◌/◌, ◌<◌, ◌≤◌, List, [], ◌∷◌, ◌++◌, length, get_or, take, drop, set, sym, refl, ap, ◌∙◌, append-nil, add-one, arith, length-append, length-drop, length-take-le, get_or-take, get_or-drop, take-suc-set, take_at}
use Rattle.std.specs.Simd.{first_chunks}
use lib.ListN.{get_or-append}
use lib.Seq.{append_snoc, drop-append_seam}
use Rattle.scan.proofs.Step.{rest_more, rest_none}
use Rattle.sha256.specs.declared.Words.{Words}
use Rattle.sha256.specs.Constants.{constants}
use Rattle.sha256.specs.Compression.{word_of, words_of, next_word, word_behind, schedule, round, rounds, compress, blocks}
use Rattle.sha256.specs.Message.{hashed}

-- ---- the words of a block

-- four bytes are a word, and the rest goes on
words_four : (s : List ℕ) (i : ℕ) → i + 3 < length s
    → words_of (drop i s) ≡ word_of (get_or s i 0) (get_or s (i + 1) 0) (get_or s (i + 2) 0) (get_or s (i + 3) 0) ∷ words_of (drop (i + 4) s)
unfolding words_of
words_four s i h =
    let a = rest_more s i (omega arith) in
    let b = rest_more s (i + 1) (omega arith) in
    let c = rest_more s (i + 1 + 1) (omega arith) in
    let d = rest_more s (i + 1 + 1 + 1) (omega arith) in
    let p : i + 1 + 1 ≡ i + 2 = omega arith in
    let q : i + 1 + 1 + 1 ≡ i + 3 = omega arith in
    let r : i + 1 + 1 + 1 + 1 ≡ i + 4 = omega arith in
    rw (a, b, c, d, r, q, p)

pub words_turn : (block w : List ℕ) (t v : ℕ) → length block ≡ 64 → length w ≡ 64 → t < 16
    → take t w ++ words_of (drop (4 * t) block) ≡ words_of block
    → v ≡ word_of (get_or block (4 * t) 0) (get_or block (4 * t + 1) 0) (get_or block (4 * t + 2) 0) (get_or block (4 * t + 3) 0)
    → take (t + 1) (set w t v) ++ words_of (drop (4 * (t + 1)) block) ≡ words_of block
words_turn block w t v h l k e f =
    let n : 4 * (t + 1) ≡ 4 * t + 4 = omega arith in
    let x = words_four block (4 * t) (omega arith) in
    rw (n, add-one t, take-suc-set w t v (omega arith), append_snoc, f, ← x) e

-- a byte of a chunk of four, at its place in the block
chunk_at : (k t : ℕ) (s : List ℕ) (j : ℕ) → t < k → j < 4 → get_or (get_or (first_chunks 4 k s) t []) j 0 ≡ get_or s (4 * t + j) 0
chunk_at zero t s j h l = absurd (omega arith)
chunk_at (suc k) zero s j h l = let e : 4 * 0 + j ≡ j = omega arith in rw e (get_or-take 4 s j 0 l)
chunk_at (suc k) (suc t) s j h l =
    let e : 4 + (4 * t + j) ≡ 4 * suc t + j = omega arith in
    chunk_at k t (drop 4 s) j (omega arith) l ∙ get_or-drop 4 s (4 * t + j) 0 ∙ ap (λ (i : ℕ). get_or s i 0) e

-- so its word is that of the four bytes there
pub chunk_word : {v : ℕ} (block : List ℕ) (f : List (List ℕ)) (k t : ℕ) → f ≡ first_chunks 4 k block → t < k
    → v ≡ word_of (get_or (get_or f t []) 0 0) (get_or (get_or f t []) 1 0) (get_or (get_or f t []) 2 0) (get_or (get_or f t []) 3 0)
    → v ≡ word_of (get_or block (4 * t) 0) (get_or block (4 * t + 1) 0) (get_or block (4 * t + 2) 0) (get_or block (4 * t + 3) 0)
chunk_word block f k t e h q =
    let z : 4 * t + 0 ≡ 4 * t = omega arith in
    let a = rw z at (chunk_at k t block 0 h (omega arith)) in
    let b = chunk_at k t block 1 h (omega arith) in
    let c = chunk_at k t block 2 h (omega arith) in
    let d = chunk_at k t block 3 h (omega arith) in
    q ∙ rw (e, a, b, c, d)

pub words_done : (block w : List ℕ) (t : ℕ) → length block ≡ 64 → t ≡ 16 → take t w ++ words_of (drop (4 * t) block) ≡ words_of block → take 16 w ≡ words_of block
unfolding words_of
words_done block w t l n e =
    let m : take 16 w ++ words_of (drop 64 block) ≡ words_of block = rw n at e in
    sym (append-nil (take 16 w)) ∙ (rw (rest_none block 64 (omega arith)) at m)

-- ---- the schedule

next_at_lem : (w : List ℕ) (t : ℕ) → t ≤ length w → 16 ≤ t → word_behind (take t w) ≡ next_word (get_or w (t - 2) 0) (get_or w (t - 7) 0) (get_or w (t - 15) 0) (get_or w (t - 16) 0)
unfolding word_behind
next_at_lem w t h k =
    rw (length-take-le t w h, get_or-take t w (t - 2) 0 (omega arith), get_or-take t w (t - 7) 0 (omega arith), get_or-take t w (t - 15) 0 (omega arith), get_or-take t w (t - 16) 0 (omega arith))

pub schedule_turn : (w s : List ℕ) (t e v : ℕ) → length w ≡ 64 → 16 ≤ t → t < e → e ≤ 64 → schedule (e - t) (take t w) ≡ s
    → v ≡ next_word (get_or w (t - 2) 0) (get_or w (t - 7) 0) (get_or w (t - 15) 0) (get_or w (t - 16) 0)
    → schedule (e - (t + 1)) (take (t + 1) (set w t v)) ≡ s
unfolding schedule
schedule_turn w s t e v l h k m q f =
    let n : e - t ≡ suc (e - (t + 1)) = omega arith in
    let g : schedule (e - (t + 1)) (take t w ++ (word_behind (take t w) ∷ [])) ≡ s = rw n at q in
    rw (ap (λ (j : ℕ). take j (set w t v)) (add-one t), take-suc-set w t v (omega arith), f, ← next_at_lem w t (omega arith) h) g

pub schedule_done : (w s : List ℕ) (t e : ℕ) → e ≤ t → t ≤ e → schedule (e - t) (take t w) ≡ s → take e w ≡ s
unfolding schedule
schedule_done w s t e h k q =
    let n : e - t ≡ 0 = omega arith in
    let m : t ≡ e = omega arith in
    ap (λ (j : ℕ). take j w) (sym m) ∙ (rw n at q)

schedule_add : (n m : ℕ) (l : List ℕ) → schedule (n + m) l ≡ schedule m (schedule n l)
unfolding schedule
schedule_add zero m l = let e : 0 + m ≡ m = omega arith in rw e
schedule_add (suc n) m l = let e : suc n + m ≡ suc (n + m) = omega arith in rw e (schedule_add n m (l ++ (word_behind l ∷ [])))

-- the words that are there stay
schedule_keeps : (n : ℕ) (l : List ℕ) (i : ℕ) → i < length l → get_or (schedule n l) i 0 ≡ get_or l i 0
unfolding schedule
schedule_keeps zero l i h = refl
schedule_keeps (suc n) l i h =
    schedule_keeps n (l ++ (word_behind l ∷ [])) i (omega (arith, h, length-append l (word_behind l ∷ [])))
    ∙ get_or-append l (word_behind l ∷ []) 0 i h

-- ---- the rounds

-- one more; t rounds on, e is the end
pub rounds_turn : (w : List ℕ) (e t : ℕ) (v x r : Words) → rounds w (e - t) t v ≡ r → t < e → x ≡ round v (get_or constants t 0) (get_or w t 0)
    → rounds w (e - (t + 1)) (t + 1) x ≡ r
unfolding rounds
rounds_turn w e t v x r q h f = let n : e - t ≡ suc (e - (t + 1)) = omega arith in rw f (rw n at q)

-- none is left
pub rounds_done : (w : List ℕ) (e t : ℕ) (v r : Words) → rounds w (e - t) t v ≡ r → e ≤ t → v ≡ r
unfolding rounds
rounds_done w e t v r q h = let n : e - t ≡ 0 = omega arith in rw n at q

rounds_add : (w : List ℕ) (n m t : ℕ) (v : Words) → rounds w (n + m) t v ≡ rounds w m (t + n) (rounds w n t v)
unfolding rounds
rounds_add w zero m t v = let e : t + 0 ≡ t = omega arith in let f : 0 + m ≡ m = omega arith in rw (e, f)
rounds_add w (suc n) m t v =
    let e : t + suc n ≡ t + 1 + n = omega arith in
    let f : suc n + m ≡ suc (n + m) = omega arith in
    rw (e, f) (rounds_add w n m (t + 1) (round v (get_or constants t 0) (get_or w t 0)))

-- rounds look at no later word
rounds_same : (w u : List ℕ) (m n t : ℕ) (v : Words) → ((i : ℕ) → i < m → get_or w i 0 ≡ get_or u i 0) → t + n ≤ m → rounds w n t v ≡ rounds u n t v
unfolding rounds
rounds_same w u m zero t v f h = refl
rounds_same w u m (suc n) t v f h = rw (f t (omega arith)) (rounds_same w u m n (t + 1) (round v (get_or constants t 0) (get_or u t 0)) f (omega arith))

-- so those over the words that are there are those over the whole schedule
partly : (w all : List ℕ) (m n : ℕ) → m ≤ length w → schedule n (take m w) ≡ all → (i : ℕ) → i < m → get_or w i 0 ≡ get_or all i 0
partly w all m n h e i k =
    sym (get_or-take m w i 0 k)
    ∙ sym (schedule_keeps n (take m w) i (omega (arith, k, length-take-le m w h)))
    ∙ ap (λ (l : List ℕ). get_or l i 0) e

-- where all is the whole schedule, n words of it are to be made, and what is left of the rounds gives r
pub record Going (all : List ℕ) (r : Words) (w : List ℕ) (t : ℕ) (v : Words) : Type 0 where
  pub full : length w ≡ 64
  pub made : schedule (48 - t) (take (t + 16) w) ≡ all
  pub rest : rounds all (64 - t) t v ≡ r

-- eight rounds over the words that are there
going_rounds : (w all : List ℕ) (v : Words) {r x : Words} (t m n : ℕ) → m ≤ length w → schedule n (take m w) ≡ all → t + 8 ≤ m → m ≤ 64
    → rounds all (64 - t) t v ≡ r → x ≡ rounds w 8 t v → rounds all (64 - (t + 8)) (t + 8) x ≡ r
going_rounds w all v t m n h e k l q f =
    let s : 64 - t ≡ 8 + (64 - (t + 8)) = omega arith in
    rw (f, rounds_same w all m 8 t v (partly w all m n h e) k) (sym (rounds_add all 8 (64 - (t + 8)) t v) ∙ (rw s at q))

-- eight words and eight rounds, i of which were before
pub going_turn : {all w u : List ℕ} {r v x : Words} (i : ℕ) → i < 6 → Going all r w (8 * i) v
    → take (8 * i + 16 + 8) u ≡ schedule 8 (take (8 * i + 16) w) → length u ≡ 64 → x ≡ rounds u 8 (8 * i) v → Going all r u (8 * (i + 1)) x
going_turn {all} {w} {u} {v = v} i h g e l f =
    let t : ℕ = 8 * i in
    let a : 48 - t ≡ 8 + (48 - (t + 8)) = omega arith in
    let b : t + 8 + 16 ≡ t + 16 + 8 = omega arith in
    let n : 8 * (i + 1) ≡ t + 8 = omega arith in
    let made : schedule (48 - (t + 8)) (take (t + 8 + 16) u) ≡ all = rw (b, e) (sym (schedule_add 8 (48 - (t + 8)) (take (t + 16) w)) ∙ (rw a at g.made)) in
    rw n
    (record {
      full = l;
      made = made;
      rest = going_rounds u all v t (t + 8 + 16) (48 - (t + 8)) (omega arith) made (omega arith) (omega arith) g.rest f;
    })

-- the last sixteen
pub going_done : {all w : List ℕ} {r v x y : Words} (i : ℕ) → i ≡ 6 → Going all r w (8 * i) v → x ≡ rounds w 8 48 v → y ≡ rounds w 8 56 x → y ≡ r
unfolding rounds schedule
going_done {all} {w} {r} {v = v} {x = x} i n g e f =
    let k : Going all r w 48 v = rw n at g in
    let one = going_rounds w all v 48 64 0 (omega (arith, k.full)) k.made (omega arith) (omega arith) k.rest e in
    going_rounds w all x 56 64 0 (omega (arith, k.full)) k.made (omega arith) (omega arith) one f

-- ---- the blocks

-- a block of 64 bytes and the rest
pub blocks_turn : (s x y : List ℕ) (h v r : Words) → hashed h s ≡ r → s ≡ x ++ y → length x ≡ 64 → v ≡ compress h x → hashed v y ≡ r
unfolding hashed blocks
blocks_turn s x y h v r q e l f =
    let n : length s / 64 ≡ suc (length (drop 64 s) / 64) = omega (arith, ap length e, length-append x y, l, length-drop 64 s) in
    let t : take 64 s ≡ x = ap (take 64) e ∙ take_at x y 64 l in
    let d : drop 64 s ≡ y = ap (drop 64) e ∙ rw (← l) (drop-append_seam x y) in
    rw (f, ← t, ← d) (rw n at q)

-- no block is left
pub blocks_done : (s : List ℕ) (h r : Words) → hashed h s ≡ r → length s < 64 → h ≡ r
unfolding hashed blocks
blocks_done s h r q l = let n : length s / 64 ≡ 0 = omega arith in rw n at q
