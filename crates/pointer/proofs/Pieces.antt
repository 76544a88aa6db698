-- What a header, a pointer, a table and a text say that were read, in a form of either version: the part is what the
-- word names, it lies in the data, and what is asked of it holds. A walk over the definitions, one law for each.
use Prim.Native.Nat.{ℕ, ◌+◌, ◌%◌, ◌≤◌}
use mathlib.Core.Path.{◌≡◌, refl}
use mathlib.Core.Bool.{Bool, true, false, ◌&&◌}
use mathlib.Core.List.{List}
use lib.ListN.{length}
use lib.Dec.{leb, eqb}
use borrow.Author.Tests.{leb-true, eqb-true}
use Rattle.scan.specs.Choice.{Read}
use Rattle.scan.proofs.Step.{false_true}
use Rattle.scan.proofs.Reading.{Gives, gives, lacks, pick_gives, then_gives}
use Rattle.utf8.specs.inner.Width.{is_utf8}
use Rattle.notepack.specs.declared.Part.{Part}
use Rattle.notepack.specs.Unpack.{bytes_of}
use Rattle.pointer.specs.Pointer.{word_at, lower, upper, version_in, reserved_in, is_header, header_at, asked, data_size, piece_at, table_at, entries_in, pointed_text, pointed_text_at, tag_table_at}
use Rattle.pointer.specs.Named.{part_named}

-- two tests, both passed
pub both : (a b : Bool) → (a && b) ≡ true → (a ≡ true) × (b ≡ true)
both true b e = (refl, e)
both false b e = absurd (false_true e)

-- a header
pub record Headed (s : List ℕ) (v : ℕ) : Type 0 where
  pub short : length s ≤ 65_536
  pub version : version_in (word_at s 0) ≡ v
  pub known : v ≤ 1
  pub reserved : reserved_in (word_at s 0) ≡ 0
  pub least : 72 ≤ lower (word_at s 0)
  pub size : lower (word_at s 0) + 96 ≡ length s

-- a word that names a piece of the data
pub record Inside (s : List ℕ) (w : ℕ) : Type 0 where
  pub even : upper w % 8 ≡ 0
  pub ends : upper w + lower w ≤ data_size s

-- a pointer
pub record Pointed (s : List ℕ) (at : ℕ) (p : Part) : Type 0 where
  pub is : p ≡ part_named s at
  pub inside : Inside s (word_at s at)

-- a pointer to a table
pub record Tabled (s : List ℕ) (at : ℕ) (p : Part) : Type 0 where
  pub pointed : Pointed s at p
  pub eights : p.len % 8 ≡ 0

-- a pointer to a text
pub record TextRead (version : ℕ) (s : List ℕ) (at : ℕ) (r : Read Part) : Type 0 where
  pub pointed : Pointed s at r.value
  pub next : r.next ≡ at + 8
  pub text : asked version (is_utf8 (bytes_of s r.value)) ≡ true

-- a pointer to a tag's table
pub record TagTabled (version : ℕ) (s : List ℕ) (at : ℕ) (p : Part) : Type 0 where
  pub tabled : Tabled s at p
  pub few : asked version (leb (entries_in p) 255) ≡ true
  pub one : asked version (leb 1 (entries_in p)) ≡ true

module _ (s : List ℕ) where
  pub header_gives : Gives (Headed s) (header_at s)
  unfolding header_at is_header
  header_gives =
      let w = word_at s 0 in
      let r = eqb (reserved_in w) 0 in
      let v = leb (version_in w) 1 in
      let l = leb 72 (lower w) in
      let e = eqb (lower w + 96) (length s) in
      pick_gives (leb (length s) 65_536)
      (λ k.
      pick_gives (r && v && l && e)
      (λ t.
      let a = both (r && v && l) e t in
      let b = both (r && v) l a.0 in
      let c = both r v b.0 in
      gives
      (record {
        short = leb-true (length s) 65_536 k;
        version = refl;
        known = leb-true (version_in w) 1 c.1;
        reserved = eqb-true (reserved_in w) 0 c.0;
        least = leb-true 72 (lower w) b.1;
        size = eqb-true (lower w + 96) (length s) a.1;
      }))
      (λ f. lacks))
      (λ f. lacks)

  pub piece_gives : (at : ℕ) → Gives (Pointed s at) (piece_at s at)
  unfolding piece_at
  piece_gives at =
      let w = word_at s at in
      pick_gives (eqb (upper w % 8) 0 && leb (upper w + lower w) (data_size s))
      (λ t.
      let b = both (eqb (upper w % 8) 0) (leb (upper w + lower w) (data_size s)) t in
      gives
      (record { is = refl; inside = record { even = eqb-true (upper w % 8) 0 b.0; ends = leb-true (upper w + lower w) (data_size s) b.1 } }))
      (λ f. lacks)

  pub table_gives : (at : ℕ) → Gives (Tabled s at) (table_at s at)
  unfolding table_at
  table_gives at =
      then_gives _ (piece_gives at)
      (λ p g. pick_gives (eqb (p.len % 8) 0) (λ t. gives (record { pointed = g; eights = eqb-true (p.len % 8) 0 t })) (λ f. lacks))

  module _ (version : ℕ) where
    pub text_gives : (at : ℕ) → Gives (TextRead version s at) (pointed_text_at version s at)
    unfolding pointed_text_at pointed_text
    text_gives at =
        then_gives {P = λ (p : Part). Pointed s at p × (asked version (is_utf8 (bytes_of s p)) ≡ true)} _
        (then_gives _ (piece_gives at) (λ p g. pick_gives (asked version (is_utf8 (bytes_of s p))) (λ t. gives (g, t)) (λ f. lacks)))
        (λ p h. gives (record { pointed = h.0; next = refl; text = h.1 }))

    pub tag_table_gives : (at : ℕ) → Gives (TagTabled version s at) (tag_table_at version s at)
    unfolding tag_table_at
    tag_table_gives at =
        then_gives _ (table_gives at)
        (λ p g.
        pick_gives (asked version (leb (entries_in p) 255))
        (λ t. pick_gives (asked version (leb 1 (entries_in p))) (λ u. gives (record { tabled = g; few = t; one = u })) (λ f. lacks))
        (λ f. lacks))
