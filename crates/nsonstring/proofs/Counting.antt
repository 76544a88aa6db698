-- The sums of a text block by block. `Counting t i n h`: no clash before i, and n and h with what is left make the sums
-- of the whole.
-- It begins behind the first byte, a block is one turn, and at the end it is `Simple`. A block is lent with the byte
-- before it as its first.
use Prim.Native.Nat.{ℕ, ◌+◌, ◌-◌, ◌/◌, ◌<◌, ◌≤◌}
use mathlib.Core.Path.{◌≡◌, refl, sym}
use mathlib.Core.List.{List}
use native.Mathlib.Omega.{arith}
use lib.ListN.{length, get_or, take, drop, length-drop}
use lib.Seq.{length-take-le}
use Rattle.scan.specs.inner.Blocks.{neighbours}
use Rattle.scan.proofs.BlockLaws.{neighbours_none, neighbours_more, neighbours_block}
use Rattle.jsonstring.specs.inner.Loose.{clash_of}
use Rattle.nsonstring.specs.inner.Simple.{slash_of, high_of, Simple, Grown}
use Rattle.nsonstring.proofs.Simple.{slash_space}

-- the sum over what is left from i on
abbrev left : (ℕ → ℕ → ℕ) → List ℕ → ℕ → ℕ
left f t i = neighbours f (get_or t (i - 1) 0) (drop i t)

pub record Counting (t : List ℕ) (i n h : ℕ) : Type 0 where
  pub some : 1 ≤ i
  pub inside : i ≤ length t
  pub few : n ≤ i
  pub fewer : h ≤ i
  pub clashes : left clash_of t i ≡ neighbours clash_of 0x20 t
  pub escapes : n + left slash_of t i ≡ neighbours slash_of 0x20 t
  pub above : h + left high_of t i ≡ neighbours high_of 0x20 t

-- behind the first byte
pub counting_first : (t : List ℕ) {m : ℕ} → 1 ≤ length t → m ≡ clash_of 0x20 (get_or t 0 0) → m ≡ 0 → get_or t 0 0 < 256 → Counting t 1 0 (get_or t 0 0 / 128)
unfolding high_of
counting_first t o q z b =
    let c = neighbours_more clash_of 0x20 t 0 o in
    let s = neighbours_more slash_of 0x20 t 0 o in
    let a = neighbours_more high_of 0x20 t 0 o in
    record {
      some = omega arith;
      inside = o;
      few = omega arith;
      fewer = omega arith;
      clashes = omega (arith, c, q, z);
      escapes = omega (arith, s, slash_space (get_or t 0 0));
      above = sym a;
    }

-- a block more
pub counting_block : {t : List ℕ} {i n h : ℕ} (e : ℕ) {m k : ℕ} → Counting t i n h → i ≤ e → e ≤ length t
    → Grown (take (e - (i - 1)) (drop (i - 1) t)) n h m k → Counting t e m k
counting_block {t} {i} {n} {h} e {m} {k} g o l x =
    let w = length-take-le (e - (i - 1)) (drop (i - 1) t) (omega (arith, g.some, length-drop (i - 1) t)) in
    record {
      some = omega (arith, g.some);
      inside = l;
      few = omega (arith, g.some, g.few, w, x.few);
      fewer = omega (arith, g.some, g.fewer, w, x.fewer);
      clashes = omega (arith, g.clashes, neighbours_block clash_of t i e g.some o l refl, x.clashes);
      escapes = omega (arith, g.escapes, neighbours_block slash_of t i e g.some o l refl, x.escapes);
      above = omega (arith, g.above, neighbours_block high_of t i e g.some o l refl, x.above);
    }

-- nothing is left
pub counting_done : {t : List ℕ} {n h : ℕ} → (get_or t (length t - 1) 0 ≡ 0x5C → ⊥) → Counting t (length t) n h → Simple t n h
counting_done {t} {n} {h} l g =
    let p = get_or t (length t - 1) 0 in
    record {
      clashes = omega (arith, g.clashes, neighbours_none clash_of p t (length t) (omega arith));
      ended = l;
      escapes = omega (arith, g.escapes, neighbours_none slash_of p t (length t) (omega arith));
      above = omega (arith, g.above, neighbours_none high_of p t (length t) (omega arith));
    }

pub ruleset counting = (counting_first, counting_done)
