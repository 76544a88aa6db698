-- How an entry answers that writes a text from the start of a lent buffer d, and what it leaves in d. Assumes nothing.
use Rattle.std.specs.Prelude.{ℕ, List, ◌++◌, length, drop, leb}
use Rattle.scan.specs.Choice.{pick, Answer, shown, refused}

-- the length written, or refusal 11 with the length needed
unfoldable pub written : List ℕ → List ℕ → Answer ℕ
written text d = pick (leb (length text) (length d)) (shown (length text)) (refused 11 (length text))

-- the text and then d's own bytes behind it, or d as it was
unfoldable pub filled : List ℕ → List ℕ → List ℕ
filled text d = pick (leb (length text) (length d)) (text ++ drop (length text) d) d

-- an entry that reads something and writes its text: the reader's refusal, or the length written, or 11
abbrev pub writes : {A : Type 0} → (A → List ℕ) → Answer A → List ℕ → Answer ℕ
writes text (shown a) d = written (text a) d
writes text (refused n p) d = refused n p

-- what it leaves: on a refusal d as it was
abbrev pub leaves : {A : Type 0} → (A → List ℕ) → Answer A → List ℕ → List ℕ
leaves text (shown a) d = filled (text a) d
leaves text (refused n p) d = d
