-- Every name stands once in a table. Assumes nothing.
use Rattle.std.specs.Prelude.{◌≡◌, List, [], ◌∷◌}
use Rattle.event.specs.Event.{Event}
use Rattle.archive.specs.Archive.{name_of, Entry, free, held, none, lookup}

pub data Distinct : List Entry → Type 0 where
  end : Distinct []
  skip : {s : List Entry} → Distinct s → Distinct (free ∷ s)
  keep : {d : Event} {s : List Entry} → lookup (name_of d) s ≡ none → Distinct s → Distinct (held d ∷ s)
