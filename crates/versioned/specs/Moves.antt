-- The moves between the two forms (rules 17): what each reads, and what it writes. They make nothing strict: the bytes
-- are those given, with the version byte or without it. Assumes nothing.
use Rattle.std.specs.Prelude.{ℕ, Bool, true, false, List, ◌∷◌, length, drop, leb}
use Rattle.scan.specs.Choice.{pick, Answer, shown, refused, and_then}
use Rattle.buffer.specs.Entry.{writes, leaves}
use Rattle.notepack.specs.Unpack.{unpack}
use Rattle.versioned.specs.Versioned.{given}

-- bytes of one form, where the notepack reader accepts them
unfoldable pub accepted : Bool → List ℕ → Answer (List ℕ)
accepted bare s = and_then (given bare unpack s) λ e. shown s

-- the versioned form of bare bytes, and the bare bytes of a versioned form
abbrev pub with_version : List ℕ → List ℕ
with_version b = 1 ∷ b

abbrev pub without_version : List ℕ → List ℕ
without_version s = drop 1 s

-- bare bytes that have room for the version byte: 1 first of all, then the reader's
unfoldable pub movable : List ℕ → Answer (List ℕ)
movable s = pick (leb (length s) 65_535) (accepted true s) (refused 1 0)

-- to the versioned form: its answer, and what it leaves in d
abbrev pub versions : List ℕ → List ℕ → Answer ℕ
versions s d = writes with_version (movable s) d

abbrev pub version_leaves : List ℕ → List ℕ → List ℕ
version_leaves s d = leaves with_version (movable s) d

-- and back
abbrev pub bares : List ℕ → List ℕ → Answer ℕ
bares s d = writes without_version (accepted false s) d

abbrev pub bare_leaves : List ℕ → List ℕ → List ℕ
bare_leaves s d = leaves without_version (accepted false s) d
