-- Of a v1 nothing is asked but its header and its pointers.
-- Each part of the reading, of version 1, shows something or refuses with 27: so does a test between two such parts,
-- one after another, and any number of them.
use Prim.Native.Nat.{ℕ, zero, suc, ◌+◌, ◌%◌}
use mathlib.Core.Path.{◌≡◌}
use mathlib.Core.Bool.{Bool, true, false, ◌&&◌}
use mathlib.Core.List.{List}
use native.Mathlib.Omega.{arith}
use lib.Dec.{leb, eqb}
use Rattle.scan.specs.Choice.{pick, Answer, shown, refused, Read, and_then, many}
use Rattle.pointer.specs.Pointer.{word_at, lower, upper, data_size, piece_at, table_at, entries_in, pointed_text, pointed_text_at, tag_table_at, pointed_tag_at, kind_at, time_at, tags_table_at, pointed_tags_at, form_at, header_at}

-- something is shown, or the refusal is 27
data Points {A : Type 0} : Answer A → Type 0 where
  fine : {a : A} → Points (shown a)
  wrong : {p : ℕ} → Points (refused 27 p)

then_points : {A B : Type 0} {r : Answer A} (f : A → Answer B) → Points r → ((x : A) → Points (f x)) → Points (and_then r f)
then_points f (fine {a = a}) k = k a
then_points f wrong k = wrong

pick_points : {A : Type 0} (t : Bool) {x y : Answer A} → Points x → Points y → Points (pick t x y)
pick_points true a b = a
pick_points false a b = b

many_points : {A : Type 0} (item : ℕ → Answer (Read A)) → ((at : ℕ) → Points (item at)) → (n at : ℕ) → Points (many item n at)
unfolding many
many_points item law zero at = fine
many_points item law (suc n) at = then_points _ (law at) (λ x. then_points _ (many_points item law n x.next) (λ xs. fine))

module _ (s : List ℕ) where
  piece_points : (at : ℕ) → Points (piece_at s at)
  unfolding piece_at
  piece_points at = pick_points (eqb (upper (word_at s at) % 8) 0 && leb (upper (word_at s at) + lower (word_at s at)) (data_size s)) fine wrong

  table_points : (at : ℕ) → Points (table_at s at)
  unfolding table_at
  table_points at = then_points _ (piece_points at) (λ p. pick_points (eqb (p.len % 8) 0) fine wrong)

  text_points : (at : ℕ) → Points (pointed_text_at 1 s at)
  unfolding pointed_text_at pointed_text
  text_points at = then_points _ (then_points _ (piece_points at) (λ p. fine)) (λ p. fine)

  tag_points : (at : ℕ) → Points (pointed_tag_at 1 s at)
  unfolding pointed_tag_at tag_table_at
  tag_points at =
      then_points _ (then_points _ (table_points at) (λ p. fine))
      (λ p. then_points _ (many_points (pointed_text_at 1 s) text_points (entries_in p) p.at) (λ ts. fine))

  tags_points : Points (pointed_tags_at 1 s)
  unfolding pointed_tags_at tags_table_at
  tags_points =
      then_points _ (then_points _ (table_points 64) (λ p. fine))
      (λ p. then_points _ (many_points (pointed_tag_at 1 s) tag_points (entries_in p) p.at) (λ ts. fine))

  form_points : header_at s ≡ shown 1 → Points (form_at s)
  unfolding form_at kind_at time_at
  form_points h = rw h (then_points _ (text_points 56) (λ c. then_points _ tags_points (λ ts. fine)))

only_27 : {A : Type 0} {a : Answer A} {n p : ℕ} → Points a → a ≡ refused n p → n ≡ 27
only_27 {n = n} fine e = let z : ◌≡◌ {A = ℕ} 0 1 = cc in absurd (omega arith)
only_27 wrong e = cc

pub v1_asks : (s : List ℕ) (n p : ℕ) → header_at s ≡ shown 1 → form_at s ≡ refused n p → n ≡ 27
v1_asks s n p h e = only_27 (form_points s h) e
