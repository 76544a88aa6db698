-- The whole text: an event's object with nothing but white space around it, by its spots. Assumes nothing.
use Rattle.std.specs.Prelude.{List, ℕ, length, leb, eqb}
use Rattle.scan.specs.Choice.{pick, Answer, shown, refused, and_then}
use Rattle.jsontext.specs.Token.{space_at}
use Rattle.jsonobject.specs.declared.Object.{Object}
use Rattle.jsonobject.specs.inner.Spotted.{object_spots_at}

unfoldable pub whole_spots_at : List ℕ → Answer Object
whole_spots_at s =
    and_then (object_spots_at s (space_at s 0)) λ o.
    let p = space_at s o.next in pick (eqb p (length s)) (shown o.value) (refused 10 p)

-- 1 first of all for a text that is too long
unfoldable pub limited_at : List ℕ → Answer Object
limited_at s = pick (leb (length s) 65_536) (whole_spots_at s) (refused 1 0)
