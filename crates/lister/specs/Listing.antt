-- What the lister prints of a packed event (rules 4.10 and 4.11): four lines, or the refusal.
-- Each line is ended by 0A. Assumes nothing.
use Rattle.std.specs.Prelude.{ℕ, List, ◌++◌}
use Rattle.scan.specs.Ascii.{ascii}
use Rattle.scan.specs.Choice.{Answer, shown, refused}
use Rattle.decimal.specs.Decimal.{decimal}
use Rattle.notepack.specs.declared.Head.{Head}

-- behind `content` stands the content's length, behind `tags` how many there are
unfoldable pub numbers_text : Head → List ℕ
numbers_text h =
    ascii "created_at " ++ decimal h.created_at ++ ascii "\nkind " ++ decimal h.kind ++ ascii "\ncontent " ++ decimal h.content.len ++ ascii "\ntags " ++ decimal h.tag_count ++ ascii "\n"

unfoldable pub refusal_text : ℕ → ℕ → List ℕ
refusal_text number place = ascii "refused " ++ decimal number ++ ascii " at " ++ decimal place ++ ascii "\n"

unfoldable pub listing : Answer Head → List ℕ
listing (shown h) = numbers_text h
listing (refused n p) = refusal_text n p
