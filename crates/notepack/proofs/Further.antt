-- A second pass reads the same behind k bytes in front of the event: what it finds stays, every place is k further on.
-- From the varint and the payload to the parts and the counts of a pass.
use Prim.Native.Nat.{ℕ, zero, suc, ◌+◌, ◌-◌, ◌/◌, ◌%◌}
use mathlib.Core.Path.{◌≡◌, refl, ap}
use mathlib.Core.Bool.{Bool, true, false}
use mathlib.Core.List.{List}
use native.Mathlib.Omega.{arith}
use lib.ListN.{length, drop, length-drop}
use lib.Dec.{leb, eqb}
use Rattle.scan.specs.Choice.{pick, Answer, shown, refused, Read, read, and_then}
use Rattle.scan.specs.inner.Otherwise.{or_else}
use Rattle.varint.specs.Varint.{varint_at}
use Rattle.varint.proofs.Further.{further, varint_further}
use Rattle.notepack.specs.declared.Part.{Part}
use Rattle.notepack.specs.Unpack.{part_of, payload_at, number_at}
use Rattle.notepack.specs.inner.Again.{element_part_at, part_again, count_again, texts_end}

module _ (k : ℕ) (s : List ℕ) where
  -- a part k bytes further on
  abbrev pub part_further : Part → Part
  part_further p = part_of (p.at + k) p.len p.raw

  payload_further : (place : ℕ) (raw : Bool) (n at : ℕ)
      → payload_at (place + k) raw n s (at + k) ≡ further part_further k (payload_at place raw n (drop k s) at)
  unfolding payload_at
  payload_further place raw n at =
      let e : length s - (at + k) ≡ length (drop k s) - at = omega (arith, length-drop k s) in
      rw e (go (leb n (length (drop k s) - at)))
    where
      go : (b : Bool)
          → pick b (read (part_of (at + k) n raw) (at + k + n)) (refused 2 (place + k)) ≡ further part_further k (pick b (read (part_of at n raw) (at + n)) (refused 2 place))
      go true = let e : at + k + n ≡ at + n + k = omega arith in ap (λ (j : ℕ). read (part_of (at + k) n raw) j) e
      go false = refl

  element_further : (at : ℕ) → element_part_at s (at + k) ≡ further part_further k (element_part_at (drop k s) at)
  unfolding element_part_at
  element_further at = rw (varint_further k s at) (go (varint_at (drop k s) at))
    where
      go : (x : Answer (Read ℕ))
          → and_then (further (λ (n : ℕ). n) k x) (λ (w : Read ℕ). payload_at (at + k) (eqb (w.value % 2) 1) (w.value / 2) s w.next)
          ≡ further part_further k (and_then x (λ (w : Read ℕ). payload_at at (eqb (w.value % 2) 1) (w.value / 2) (drop k s) w.next))
      go (shown w) = payload_further at (eqb (w.value % 2) 1) (w.value / 2) w.next
      go (refused n p) = refl

  -- an element's part, and the place behind it
  pub part_again_further : (at : ℕ) → part_again s (at + k) ≡ record { value = part_further (part_again (drop k s) at).value; next = (part_again (drop k s) at).next + k }
  unfolding part_again
  part_again_further at = rw (element_further at) (go (element_part_at (drop k s) at))
    where
      go : (x : Answer (Read Part))
          → or_else {B = Read Part} (record { value = part_of (at + k) 0 false; next = at + k }) (further part_further k x) (λ (p : Read Part). p)
          ≡ record {
            value = part_further (or_else {B = Read Part} (record { value = part_of at 0 false; next = at }) x (λ (p : Read Part). p)).value;
            next = (or_else {B = Read Part} (record { value = part_of at 0 false; next = at }) x (λ (p : Read Part). p)).next + k;
          }
      go (shown p) = refl
      go (refused n p) = refl

  number_further : (at : ℕ) → number_at 255 8 s (at + k) ≡ further (λ (n : ℕ). n) k (number_at 255 8 (drop k s) at)
  unfolding number_at
  number_further at = rw (varint_further k s at) (go (varint_at (drop k s) at))
    where
      test : (n : Read ℕ) (b : Bool)
          → pick b (read n.value (n.next + k)) (refused 8 (at + k)) ≡ further (λ (n : ℕ). n) k (pick b (shown n) (refused 8 at))
      test n true = refl
      test n false = refl

      go : (x : Answer (Read ℕ))
          → and_then (further (λ (n : ℕ). n) k x) (λ (n : Read ℕ). pick (leb n.value 255) (shown n) (refused 8 (at + k)))
          ≡ further (λ (n : ℕ). n) k (and_then x (λ (n : Read ℕ). pick (leb n.value 255) (shown n) (refused 8 at)))
      go (shown n) = test n (leb n.value 255)
      go (refused n p) = refl

  -- a tag's number of texts
  pub count_again_further : (at : ℕ) → count_again s (at + k) ≡ record { value = (count_again (drop k s) at).value; next = (count_again (drop k s) at).next + k }
  unfolding count_again
  count_again_further at = rw (number_further at) (go (number_at 255 8 (drop k s) at))
    where
      go : (x : Answer (Read ℕ))
          → or_else {B = Read ℕ} (record { value = 0; next = at + k }) (further (λ (n : ℕ). n) k x) (λ (n : Read ℕ). n)
          ≡ record {
            value = (or_else {B = Read ℕ} (record { value = 0; next = at }) x (λ (n : Read ℕ). n)).value;
            next = (or_else {B = Read ℕ} (record { value = 0; next = at }) x (λ (n : Read ℕ). n)).next + k;
          }
      go (shown n) = refl
      go (refused n p) = refl

  -- the place behind n texts
  pub texts_end_further : (n at : ℕ) → texts_end n s (at + k) ≡ texts_end n (drop k s) at + k
  unfolding texts_end
  texts_end_further zero at = refl
  texts_end_further (suc n) at = rw (part_again_further at) (texts_end_further n (part_again (drop k s) at).next)
