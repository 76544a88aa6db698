-- A spelling beside the strict one: it is never shorter, and it is the strict one exactly if it is as long and no
-- element of it is hollow.
-- Pieces compose, so the whole follows from varints, texts and elements.
use Prim.Native.Nat.{ℕ, zero, suc, ◌+◌, ◌*◌, ◌/◌, ◌≤◌, ◌<◌}
use mathlib.Core.Path.{◌≡◌, refl, sym, ap, ◌∙◌}
use mathlib.Core.Bool.{Bool, true, false, not}
use mathlib.Core.List.{List, [], ◌∷◌, ◌++◌, append-nil}
use mathlib.Core.Logic.{dite}
use native.Mathlib.Omega.{arith}
use native.Mathlib.Decide.{dec_lt, ℕ_discrete}
use lib.ListN.{length, take, drop, length-append}
use lib.Seq.{take_at, drop_at}
use lib.Dec.{eqb}
use borrow.Author.Tests.{eq-eqb, ne_eqb}
use Rattle.scan.specs.Choice.{pick}
use Rattle.scan.specs.inner.Otherwise.{either}
use Rattle.scan.specs.Bytes.{IsBytes}
use Rattle.scan.proofs.Step.{not_so, pick_by, false_true}
use Rattle.varint.specs.Uleb.{Spells, uleb}
use Rattle.varint.proofs.UlebLaws.{uleb_spells, uleb_shortest, length_last, length_more, length_one, spells_one, spells_only, spells_value}
use Rattle.hexdigits.specs.Hex.{hexes, unhex, goes_as_bytes}
use Rattle.hexdigits.proofs.Texts.{unhex_hexes, hexes_go, go_digits, length_unhex}
use Rattle.scan.specs.Compare.{same_bytes}
use Rattle.scan.proofs.CompareLaws.{same_same, bytes_same}
use Rattle.notepack.specs.Strict.{pack_element}

-- l spells what `strict` spells; `hollow` tells of an element that is raw and empty
pub record Piece (strict l : List ℕ) (hollow : Bool) : Type 0 where
  pub least : length strict ≤ length l
  pub same : length strict ≡ length l → hollow ≡ false → l ≡ strict
  pub clear : l ≡ strict → hollow ≡ false

-- bytes that have one spelling
pub whole : {l : List ℕ} → Piece l l false
whole {l} = record { least = omega arith; same = λ e h. refl; clear = λ e. refl }

-- a varint
pub number : {n : ℕ} {l : List ℕ} → Spells n l → Piece (uleb n) l false
number d = record { least = uleb_shortest d.digits; same = λ e h. spells_only d; clear = λ e. refl }

either_no : (a b : Bool) → either a b ≡ false → (a ≡ false) × (b ≡ false)
either_no true b e = absurd (false_true (sym e))
either_no false b e = (refl, e)

-- two lists joined alike, the first parts as long as each other
pub halves : (a b c d : List ℕ) → length a ≡ length c → a ++ b ≡ c ++ d → (a ≡ c) × (b ≡ d)
halves a b c d n e = (
  sym (take_at a b (length a) refl) ∙ ap (take (length a)) e ∙ take_at c d (length a) (sym n),
  sym (drop_at a b (length a) refl) ∙ ap (drop (length a)) e ∙ drop_at c d (length a) (sym n),
)

-- one piece behind another
pub beside : {a b l m : List ℕ} {h k : Bool} → Piece a l h → Piece b m k → Piece (a ++ b) (l ++ m) (either h k)
beside {a} {b} {l} {m} {h} {k} p q =
    let u = length-append a b in
    let v = length-append l m in
    let least : length (a ++ b) ≤ length (l ++ m) = omega (arith, u, v, p.least, q.least) in
    record {
      least = least;
      same =
          λ e f.
          let n = either_no h k f in
          let x = p.same (omega (arith, u, v, e, p.least, q.least)) n.0 in
          let y = q.same (omega (arith, u, v, e, p.least, q.least)) n.1 in
          cc;
      clear =
          λ e.
          let g = ap length e in
          let s = halves l m a b (omega (arith, u, v, g, p.least, q.least)) e in
          rw (p.clear s.0, q.clear s.1);
    }

-- a shorter number is spelled no longer
uleb_mono : (k n m : ℕ) → m ≤ k → n ≤ m → length (uleb n) ≤ length (uleb m)
uleb_mono zero n m b h = let e : n ≡ m = omega arith in rw e (omega arith)
uleb_mono (suc k) n m b h =
    dite (dec_lt n 128) (λ p. omega (arith, length_last n p, length_one m))
    (λ q.
    let r = uleb_mono k (n / 128) (m / 128) (omega (arith, q)) (omega arith) in
    omega (arith, r, length_more n (omega (arith, q)), length_more m (omega (arith, q))))

-- an element spelled as text
pub text_piece : (t : List ℕ) {w : List ℕ} → Spells (2 * length t) w → Piece (pack_element t) (w ++ t) false
unfolding pack_element
text_piece t {w} d =
    pick_by (λ (x : List ℕ). Piece x (w ++ t) false) (goes_as_bytes t)
    (λ g.
    let h = go_digits t g in
    let n = length_unhex t in
    let u = uleb_mono (2 * length t) (2 * length (unhex t) + 1) (2 * length t) (omega arith) (omega (arith, n, h.0, h.1)) in
    let less : length (uleb (2 * length (unhex t) + 1) ++ unhex t) < length (w ++ t) =
    omega (arith, u, n, h.0, h.1, uleb_shortest d.digits, length-append (uleb (2 * length (unhex t) + 1)) (unhex t), length-append w t) in
    record {
      least = omega arith;
      same = λ e f. absurd (omega (arith, e));
      clear = λ e. refl;
    })
    (λ f. beside (number d) whole)

-- an element spelled as bytes: hollow exactly if there are none
bytes_some : (p : List ℕ) {w : List ℕ} → 0 < length p → IsBytes p → Spells (2 * length p + 1) w → Piece (pack_element (hexes p)) (w ++ p) false
unfolding pack_element
bytes_some p h b d = rw (hexes_go h b, unhex_hexes b) (beside (number d) whole)

bytes_none : {w : List ℕ} → Spells 1 w → Piece (pack_element []) (w ++ []) true
unfolding pack_element
bytes_none {w} d =
    pick_by (λ (x : List ℕ). Piece x (w ++ []) true) (goes_as_bytes []) (λ g. absurd (let h = (go_digits [] g).0 in omega arith))
    (λ f.
    record {
      least = rw (append-nil (uleb 0), append-nil w) (omega (arith, length_last 0 (omega arith), spells_one d));
      same = λ e g. absurd (false_true (sym g));
      clear = λ e. let q = sym (append-nil w) ∙ e ∙ append-nil (uleb 0) in absurd (let z = spells_value d (rw (sym q) at (uleb_spells 0 (omega arith))) in omega arith);
    })

pub bytes_piece : (p : List ℕ) {w : List ℕ} → IsBytes p → Spells (2 * length p + 1) w → Piece (pack_element (hexes p)) (w ++ p) (eqb (length p) 0)
bytes_piece [] b d = bytes_none d
bytes_piece (x ∷ p) b d = rw (ne_eqb (suc (length p)) 0 (λ e. omega arith)) (bytes_some (x ∷ p) (omega arith) b d)

-- whether the bytes are the strict ones
pub piece_decides : {a l : List ℕ} {h : Bool} → Piece a l h → same_bytes l a ≡ pick (eqb (length a) (length l)) (not h) false
piece_decides {a} {l} {h} p =
    dite (ℕ_discrete (length a) (length l)) (λ e. rw (eq-eqb (length a) (length l) e) (by_hollow h p e))
    (λ n. rw (ne_eqb (length a) (length l) n) (not_so (same_bytes l a) (λ t. n (ap length (sym (bytes_same l a t))))))
  where
    by_hollow : (h : Bool) → Piece a l h → length a ≡ length l → same_bytes l a ≡ not h
    by_hollow true p e = not_so (same_bytes l a) (λ t. false_true (sym (p.clear (bytes_same l a t))))
    by_hollow false p e = rw (p.same e refl) (same_same a)
