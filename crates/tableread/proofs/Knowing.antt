-- What is known of a slot is what the slot holds: nothing, something bad, or an event, which stands where `Stored`
-- says. By what the walk over its bytes says of them (`notepack/proofs/Again.accepted`).
use Prim.Native.Nat.{ℕ, suc, ◌≤◌}
use mathlib.Core.Path.{◌≡◌, refl, sym, ap, ◌∙◌}
use mathlib.Core.Bool.{Bool, true, false, not}
use mathlib.Core.List.{List, [], ◌∷◌, map}
use mathlib.Core.Logic.{dite}
use native.Mathlib.Omega.{arith}
use native.Mathlib.Decide.{dec_lt}
use lib.ListN.{length, take, drop}
use lib.Dec.{eqb, ltb, leb}
use borrow.Author.Tests.{lt-ltb, le-ltb, lt-leb, le-leb, eqb-true}
use Rattle.scan.specs.Choice.{pick, Answer, shown, refused}
use Rattle.scan.specs.Bytes.{IsBytes}
use Rattle.scan.proofs.AllLaws.{all_take, all_drop}
use Rattle.event.specs.Event.{Event}
use Rattle.notepack.specs.Strict.{pack}
use Rattle.notepack.specs.Unpack.{unpack}
use Rattle.notepack.specs.inner.Again.{event_again}
use Rattle.notepack.specs.inner.Answers.{Walked, walk_at}
use Rattle.notepack.proofs.Piece.{piece_decides}
use Rattle.notepack.proofs.Walking.{walk_refuses}
use Rattle.notepack.proofs.Again.{Accepted, accepted}
use Rattle.keys.proofs.Keys.{key_there_lem}
use Rattle.slots.specs.declared.Slot.{Slot}
use Rattle.archive.specs.Archive.{name_by, name_of, is_ephemeral}
use Rattle.table.specs.Cells.{cell_start, empty, past, bytes, cell_at, cells_from}
use Rattle.table.specs.Table.{Holds, nothing, bad, good, held_by, holds}
use Rattle.tableread.specs.declared.Stored.{Stored}
use Rattle.tableread.specs.declared.Known.{Known}
use Rattle.tableread.specs.declared.Known.TheVariants.{Free, Bad, Good}
use Rattle.tableread.specs.inner.Prints.{print_of}
use Rattle.tableread.specs.inner.Known.{name_there, stored_bytes, stored_at, known_walked, known_bytes, known_at, known_from}

-- the event e stands in the cells where a says, in its strict form
pub record Stands (cells : List ℕ) (a : Stored) (e : Event) : Type 0 where
  pub shows : unpack (stored_bytes cells a) ≡ shown e
  pub strict : stored_bytes cells a ≡ pack e
  pub time : e.created_at ≡ a.created_at
  pub id : e.id ≡ take 32 (stored_bytes cells a)
  pub name : name_there (stored_bytes cells a) a.key ≡ name_of e
  pub print : a.print ≡ print_of (name_of e)
  pub kept : is_ephemeral e.kind ≡ false

-- what is known of a slot, and what it holds
pub data Tells (cells : List ℕ) : Known → Holds → Type 0 where
  is_free : Tells cells Free nothing
  is_bad : Tells cells Bad bad
  is_good_lem : {a : Stored} {e : Event} → Stands cells a e → Tells cells (Good a) (good e)

-- of slots, one by one
pub data TellAll (cells : List ℕ) : List Known → List Holds → Type 0 where
  none : TellAll cells [] []
  more : {k : Known} {h : Holds} {ks : List Known} {hs : List Holds} → Tells cells k h → TellAll cells ks hs → TellAll cells (k ∷ ks) (h ∷ hs)

module _ (cells : List ℕ) (all : IsBytes cells) where
  -- ---- the bytes of a used slot

  module _ (at len : ℕ) where
    abbrev part : List ℕ
    part = take len (drop at cells)

    -- strict bytes of a kind that is kept, which were walked over
    walked_stands : (w : Walked) → Accepted part w → eqb w.tally.len (length part) ≡ true → w.tally.hollow ≡ false → is_ephemeral w.head.kind ≡ false
        → Stands cells (stored_at at len part w.head) (event_again part w.head)
    unfolding stored_at event_again
    walked_stands w g l h k =
        let n = key_there_lem part w.head in
        let m = ap (name_by (take 32 part)) n in
        record {
          shows = g.shows;
          strict = g.piece.same (sym g.len ∙ eqb-true w.tally.len (length part) l) h;
          time = refl;
          id = refl;
          name = m;
          print = ap print_of m;
          kept = k;
        }

    choose : {a : Stored} {e : Event} (t h k : Bool) → (t ≡ true → h ≡ false → k ≡ false → Stands cells a e)
        → Tells cells (pick t (pick h Bad (pick k Bad (Good a))) Bad) (pick (pick t (not h) false) (pick k bad (good e)) bad)
    choose true true k f = is_bad
    choose true false true f = is_bad
    choose true false false f = is_good_lem (f refl refl refl)
    choose false h k f = is_bad

    walked_tells : (r : Answer Walked) → walk_at part ≡ r → Tells cells (known_walked at len part r) (held_by part (unpack part))
    unfolding event_again
    walked_tells (shown w) e =
        let g = accepted part (all_take len (all_drop at all)) w (walk_at part) refl e in
        rw (g.shows, piece_decides g.piece, ← g.len)
        (choose (eqb w.tally.len (length part)) w.tally.hollow (is_ephemeral w.head.kind) (λ l h k. walked_stands w g l h k))
    walked_tells (refused n p) e = rw (walk_refuses part n p e) is_bad

    bytes_tell : Tells cells (known_bytes cells at len) (holds (bytes part))
    unfolding known_bytes
    bytes_tell = walked_tells (walk_at part) refl

  -- ---- a slot, and all of them

  pub known_tells : (i : ℕ) (s : Slot) → Tells cells (known_at cells i s) (holds (cell_at cells i s))
  unfolding known_at cell_at
  known_tells i s = by_mark (eqb s.mark 0)
    where
      used : Tells cells (pick (ltb 1_024 s.len) Bad (known_bytes cells (cell_start i) s.len)) (holds (pick (leb s.len 1_024) (bytes (part (cell_start i) s.len)) past))
      used =
          dite (dec_lt 1_024 s.len) (λ l. rw (lt-ltb 1_024 s.len l, lt-leb s.len 1_024 l) is_bad)
          (λ n. let l : s.len ≤ 1_024 = omega (arith, n) in rw (le-ltb 1_024 s.len l, le-leb s.len 1_024 l) (bytes_tell (cell_start i) s.len))

      by_mark : (t : Bool) → Tells cells (pick t Free (pick (ltb 1_024 s.len) Bad (known_bytes cells (cell_start i) s.len))) (holds (pick t empty (pick (leb s.len 1_024) (bytes (part (cell_start i) s.len)) past)))
      by_mark true = is_free
      by_mark false = used

  pub all_tell : (i : ℕ) (t : List Slot) → TellAll cells (known_from cells i t) (map holds (cells_from cells i t))
  all_tell i [] = none
  all_tell i (s ∷ t) = more (known_tells i s) (all_tell (suc i) t)
