-- A text of the data is well-formed exactly if the table of stops allows its end; a pointer names a part of the data.
-- By utf8stops' two laws, over the data; its parts are parts of the input 72 bytes further on.
use Prim.Native.Nat.{ℕ, zero, suc, ◌+◌, ◌*◌, ◌-◌, ◌/◌, ◌≤◌, ◌<◌}
use mathlib.Core.Path.{◌≡◌, refl, sym, ap, ◌∙◌}
use mathlib.Core.Bool.{Bool, true, false, ◌||◌}
use mathlib.Core.List.{List, [], ◌∷◌}
use native.Mathlib.Omega.{arith}
use lib.ListN.{length, get_or, take, drop}
use lib.Seq.{take-take, drop-drop}
use lib.Dec.{eqb}
use borrow.Author.Tests.{ne_eqb}
use Rattle.scan.specs.Choice.{pick, Answer, shown, refused, read, and_then}
use Rattle.scan.proofs.Reading.{part_length, shown_gives}
use Rattle.utf8.specs.Utf8 as utf8
use Rattle.utf8.specs.inner.Width.{is_utf8}
use Rattle.utf8.proofs.Laws.{is_utf8_lem}
use Rattle.utf8stops.specs.Stops.{stop_at, ends_at, stops_left}
use Rattle.utf8stops.proofs.Texts.{ends_decides}
use Rattle.utf8stops.proofs.Table.{table_entry, table_length}
use Rattle.notepack.specs.declared.Part.{Part}
use Rattle.notepack.specs.Unpack.{bytes_of}
use Rattle.pointer.specs.Pointer.{word_at, upper, data_size, named, asked, piece_at, pointed_text, pointed_text_at}
use Rattle.pointer.specs.inner.Data.{data_in}
use Rattle.pointer.proofs.Pieces.{Inside, piece_gives}
use Rattle.pointread.specs.inner.Tables.{Lies, Stopped, is_shown, is_good}

-- a part of a part
inner_part : {A : Type 0} (n u m : ℕ) (l : List A) → u + m ≤ n → take m (drop u (take n l)) ≡ take m (drop u l)
inner_part n zero m l h = take-take m n l (omega arith)
inner_part zero (suc u) m l h = absurd (omega arith)
inner_part (suc n) (suc u) m [] h = refl
inner_part (suc n) (suc u) m (x ∷ l) h = inner_part n u m l (omega arith)

-- a pointer that is read names a part of the data
pub inside_lies : (s : List ℕ) (w : ℕ) → Inside s w → Lies s (named w)
inside_lies s w h =
    let e : 72 + upper w - 72 ≡ upper w = omega arith in
    record { from = omega arith; even = rw e h.even; ends = omega (arith, h.ends) }

pub piece_lies : (s : List ℕ) (at : ℕ) {p : Part} → piece_at s at ≡ shown p → Lies s p
piece_lies s at e =
    let g = shown_gives (rw e at (piece_gives s at)) in
    rw g.is (inside_lies s (word_at s at) g.inside)

module _ (version : ℕ) (s t : List ℕ) where
  -- the table as it is filled
  pub stops_filled : 168 ≤ length s → length s ≤ 65_536 → (data_size s + 7) / 8 ≤ length t → Stopped version s (stops_left (data_in s) t)
  stops_filled long short room =
      let n = part_length s 72 (data_size s) (omega arith) in
      record {
        each = λ _ j h. table_entry (data_in s) t j (omega (arith, n)) (omega (arith, n)) (omega (arith, n));
        room = omega (arith, table_length (data_in s) t);
        whole = long;
      }

  -- a v1 asks nothing
  pub stops_none : version ≡ 1 → 168 ≤ length s → (data_size s + 7) / 8 ≤ length t → Stopped version s t
  stops_none e long room = record { each = λ n _ _. absurd (n e); room = room; whole = long }

  module _ (p : Part) (told : Stopped version s t) (lies : Lies s p) where
    -- the entry of a part that is not empty
    pub entry_there : (p.len ≡ 0 → ⊥) → (p.at - 72) / 8 < length t
    entry_there h = omega (arith, told.room, lies.ends, h)

    -- its end decides
    pub end_decides : (version ≡ 1 → ⊥) → (p.len ≡ 0 → ⊥)
        → asked version (is_utf8 (bytes_of s p)) ≡ ends_at (data_in s) (get_or t ((p.at - 72) / 8) 0) (p.at - 72 + p.len)
    end_decides v h =
        let o = p.at - 72 in
        let n = part_length s 72 (data_size s) (omega (arith, told.whole)) in
        let i : 8 * (o / 8) ≡ o = omega (arith, lies.even) in
        let a : 72 + o ≡ p.at = omega (arith, lies.from) in
        let stop : get_or t (o / 8) 0 ≡ stop_at (data_in s) o = rw i at (told.each v (o / 8) (omega (arith, lies.ends, h))) in
        let part = inner_part (data_size s) o p.len (drop 72 s) lies.ends ∙ ap (take p.len) (drop-drop o 72 s ∙ ap (λ (k : ℕ). drop k s) a) in
        let decides = ends_decides (data_in s) o p.len (omega (arith, lies.ends, n)) in
        rw (ne_eqb version 1 v, stop) (sym (decides ∙ ap is_utf8 part))

-- an empty text is well-formed
pub empty_text : (version : ℕ) (s : List ℕ) (p : Part) → p.len ≡ 0 → asked version (is_utf8 (bytes_of s p)) ≡ true
empty_text version s p e =
    let u : is_utf8 (take 0 (drop p.at s)) ≡ true = (is_utf8_lem (take 0 (drop p.at s))).1 utf8.none in
    rw (e, u) (go (eqb version 1))
  where
    go : (x : Bool) → (x || true) ≡ true
    go true = refl
    go false = refl

-- what is read of a text is the text that is named, and the place behind its pointer
pub text_alike : (version : ℕ) (s : List ℕ) (at : ℕ) → pointed_text_at version s at ≡ and_then (pointed_text version s at) λ p. read p (at + 8)
unfolding pointed_text_at
text_alike version s at = refl

pub as_read : (version : ℕ) (s : List ℕ) (at : ℕ) {a : Answer Part} → pointed_text version s at ≡ a → pointed_text_at version s at ≡ and_then a λ p. read p (at + 8)
as_read version s at e = text_alike version s at ∙ ap (λ (a : Answer Part). and_then a (λ (p : Part). read p (at + 8))) e

-- a word is good where it names a piece that is a text
pub good_piece : (version : ℕ) (s : List ℕ) (i : ℕ) {p : Part} → piece_at s (72 + 8 * i) ≡ shown p → asked version (is_utf8 (bytes_of s p)) ≡ is_good version s i
unfolding is_good pointed_text
good_piece version s i {p} e = rw e (go (asked version (is_utf8 (bytes_of s p))))
  where
    go : (x : Bool) → x ≡ is_shown (pick x (shown p) (refused 5 p.at))
    go true = refl
    go false = refl

pub bad_piece : (version : ℕ) (s : List ℕ) (i : ℕ) {n q : ℕ} → piece_at s (72 + 8 * i) ≡ refused n q → false ≡ is_good version s i
unfolding is_good pointed_text
bad_piece version s i e = rw e

-- for a part, and for a word
pub ruleset parts = (entry_there, end_decides, empty_text)

pub ruleset words = (good_piece, bad_piece)
