-- The entries of a table are the known slots: where none is bad, each free slot and each event, one by one; else 34 at
-- the lowest bad one. Slot by slot; a print that differs tells names apart.
use Prim.Native.Nat.{ℕ, suc}
use mathlib.Core.Path.{◌≡◌, refl, sym, ap}
use Rattle.std.specs.Prelude.{Option, Some, None}
use mathlib.Core.Bool.{Bool, true, false}
use mathlib.Core.List.{List, [], ◌∷◌}
use lib.Dec.{eqb}
use borrow.Author.Tests.{eq-eqb}
use Rattle.scan.specs.Choice.{pick, Answer, shown, refused, and_then}
use Rattle.scan.specs.Bytes.{IsBytes}
use Rattle.event.specs.Event.{Event}
use Rattle.keys.specs.declared.KeyPlace.{KeyPlace}
use Rattle.slots.specs.declared.Slot.{Slot}
use Rattle.archive.specs.Archive.{Name, name_of, same_name, Entry, free, held}
use Rattle.archive.proofs.Lookup.{Same, same, other, decide}
use Rattle.table.specs.Table.{Holds, good, has_name, entries_from, slots_hold}
use Rattle.tableread.specs.declared.Stored.{Stored}
use Rattle.tableread.specs.declared.Known.{Known}
use Rattle.tableread.specs.declared.Known.TheVariants.{Free, Good}
use Rattle.tableread.specs.inner.Prints.{print_of}
use Rattle.tableread.specs.inner.Known.{name_there, stored_bytes, known_from, holds_name, some_holds, lowest_from}
use Rattle.tableread.proofs.Knowing.{Stands, is_free, is_bad, is_good_lem, TellAll, none as tell_None, more as tell-more, all_tell}

-- the known slots and the entries, one by one
pub data Alike (cells : List ℕ) : List Known → List Entry → Type 0 where
  ends : Alike cells [] []
  frees : {ks : List Known} {l : List Entry} → Alike cells ks l → Alike cells (Free ∷ ks) (free ∷ l)
  holds_one : {a : Stored} {e : Event} {ks : List Known} {l : List Entry} → Stands cells a e → Alike cells ks l → Alike cells (Good a ∷ ks) (held e ∷ l)

-- ---- names by their prints

-- names that are the same have the same print, so the test of the prints changes nothing
pub print_name : (m n : Name) → pick (eqb (print_of m) (print_of n)) (same_name n m) false ≡ same_name n m
print_name m n = go (decide n m)
  where
    no : (t : Bool) → pick t false false ≡ false
    no true = refl
    no false = refl

    go : Same n m → pick (eqb (print_of m) (print_of n)) (same_name n m) false ≡ same_name n m
    go (same p) = rw (eq-eqb (print_of m) (print_of n) (ap print_of (sym p)))
    go (other q) = rw q (no (eqb (print_of m) (print_of n)))

-- the name n of s, which has this key and this print
module _ (cells s : List ℕ) (key : Option KeyPlace) (print : ℕ) (n : Name) (is : n ≡ name_there s key) (prints : print ≡ print_of n) where
  pub holds_name_lem : {a : Stored} {e : Event} → Stands cells a e → holds_name cells s key print (Good a) ≡ same_name n (name_of e)
  unfolding holds_name
  holds_name_lem {a} {e} g = rw (← is, g.name, g.print, prints) (print_name (name_of e) n)

  pub some_holds_lem : {ks : List Known} {hs : List Holds} → TellAll cells ks hs → some_holds cells s key print ks ≡ has_name n hs
  unfolding some_holds holds_name
  some_holds_lem tell_None = refl
  some_holds_lem (tell-more is_free u) = some_holds_lem u
  some_holds_lem (tell-more is_bad u) = some_holds_lem u
  some_holds_lem (tell-more (is_good_lem g) u) = rw (holds_name_lem g, some_holds_lem u)

-- ---- the lowest bad slot

-- what the definitions say of known slots and of what they hold
data Agree (cells : List ℕ) (ks : List Known) : Option ℕ → Answer (List Entry) → Type 0 where
  refuses : {i : ℕ} → Agree cells ks (Some i) (refused 34 i)
  lists : {s : List Entry} → Alike cells ks s → Agree cells ks None (shown s)

module _ (cells : List ℕ) where
  -- a slot in front of the others
  behind : {k : Known} {x : Entry} {ks : List Known} {r : Option ℕ} {b : Answer (List Entry)} → ((l : List Entry) → Alike cells ks l → Alike cells (k ∷ ks) (x ∷ l))
      → Agree cells ks r b → Agree cells (k ∷ ks) r (and_then b λ s. shown (x ∷ s))
  behind f refuses = refuses
  behind f (lists {s} g) = lists (f s g)

  agree : (i : ℕ) {ks : List Known} {hs : List Holds} → TellAll cells ks hs → Agree cells ks (lowest_from cells i ks) (entries_from i hs)
  unfolding lowest_from
  agree i tell_None = lists ends
  agree i (tell-more is_free u) = behind (λ l. frees {l = l}) (agree (suc i) u)
  agree i (tell-more is_bad u) = refuses
  agree i {ks = Good a ∷ ks} {hs = good e ∷ hs} (tell-more (is_good_lem g) u) =
      rw (some_holds_lem cells (stored_bytes cells a) a.key a.print (name_of e) (sym g.name) g.print u)
      (by_twin (has_name (name_of e) hs) (agree (suc i) u))
    where
      by_twin : (t : Bool) {r : Option ℕ} {b : Answer (List Entry)} → Agree cells ks r b
          → Agree cells (Good a ∷ ks) (pick t (Some i) r) (pick t (refused 34 i) (and_then b λ s. shown (held e ∷ s)))
      by_twin true v = refuses
      by_twin false v = behind (λ l. holds_one {l = l} g) v

  at_refused : {ks : List Known} {r : Option ℕ} {b : Answer (List Entry)} {i : ℕ} → Agree cells ks r b → r ≡ Some i → b ≡ refused 34 i
  at_refused refuses e = cc
  at_refused (lists g) e = absurd (cc)

  nowhere_shown : {ks : List Known} {r : Option ℕ} {b : Answer (List Entry)} → Agree cells ks r b → r ≡ None → (s : List Entry) × (b ≡ shown s) × Alike cells ks s
  nowhere_shown refuses e = absurd (cc)
  nowhere_shown (lists {s} g) e = (s, refl, g)

  pub lowest_bad_is : IsBytes cells → (t : List Slot) {i : ℕ} → lowest_from cells 0 (known_from cells 0 t) ≡ Some i → entries_from 0 (slots_hold t cells) ≡ refused 34 i
  unfolding slots_hold
  lowest_bad_is all t e = at_refused (agree 0 (all_tell cells all 0 t)) e

  pub lowest_none : IsBytes cells → (t : List Slot) → lowest_from cells 0 (known_from cells 0 t) ≡ None
      → (s : List Entry) × (entries_from 0 (slots_hold t cells) ≡ shown s) × Alike cells (known_from cells 0 t) s
  unfolding slots_hold
  lowest_none all t e = nowhere_shown (agree 0 (all_tell cells all 0 t)) e
