-- All in front of the tags, as the writer has it: [0,"pubkey",created_at,kind,[ . Assumes nothing.
use Rattle.std.specs.Prelude.{ℕ, List, ◌++◌}
use Rattle.scan.specs.Ascii.{ascii}
use Rattle.hexdigits.specs.Hex.{hexes}
use Rattle.decimal.specs.Decimal.{decimal}
use Rattle.escape.specs.Escape.{canonical_byte}
use Rattle.event.specs.Event.{Event}
use Rattle.jsontags.specs.TagText.{quoted}

unfoldable pub opening : Event → List ℕ
opening e =
    ascii "[0,"
    ++ quoted canonical_byte (hexes e.pubkey)
    ++ ascii ","
    ++ decimal e.created_at
    ++ ascii ","
    ++ decimal e.kind
    ++ ascii ",["
