-- `carries` decides `Carries`: test for test.
-- By what each test says; the texts and the tags by induction.
use Prim.Native.Nat.{◌+◌}
use mathlib.Core.Path.{◌≡◌, refl}
use mathlib.Core.Bool.{true, false}
use mathlib.Core.List.{List, [], ◌∷◌}
use mathlib.Core.Logic.{◌↔◌}
use lib.ListN.{length}
use lib.Dec.{leb}
use borrow.Author.Tests.{leb-true, le-leb}
use Rattle.scan.specs.Choice.{pick}
use Rattle.scan.specs.Place.{within}
use Rattle.scan.specs.Bytes.{All, none, also}
use Rattle.scan.proofs.Step.{pick_true}
use Rattle.scan.proofs.PlaceLaws.{within_bounds}
use Rattle.escape.specs.inner.Controls.{nson_text}
use Rattle.escape.proofs.QuotedLaws.{nson_text_lem}
use Rattle.event.specs.Event.{Text, Tag, Event}
use Rattle.nson.specs.Nson.{escaped_size, nson}
use Rattle.nson.specs.Carries.{tag_bytes, Fits, Carries}
use Rattle.nson.specs.inner.Decision.{fits, all_fit, tags_fit, carries}

fits_true : (t : Text) → fits t ≡ true → Fits t
unfolding fits
fits_true t h =
    let p = pick_true (nson_text t) (leb (escaped_size t) 65_535) h in
    record { plain = (nson_text_lem t).0 p.0; short = leb-true (escaped_size t) 65_535 p.1 }

true_fits : {t : Text} → Fits t → fits t ≡ true
unfolding fits
true_fits {t} f = rw ((nson_text_lem t).1 f.plain) (le-leb (escaped_size t) 65_535 f.short)

-- NSON can carry a text exactly if the test says so
pub fits_exactly : (t : Text) → (fits t ≡ true) ↔ Fits t
fits_exactly t = (fits_true t, true_fits)

all_true : (l : List Text) → all_fit l ≡ true → All Fits l
unfolding all_fit
all_true [] h = none
all_true (t ∷ l) h = let p = pick_true (fits t) (all_fit l) h in also (fits_true t p.0) (all_true l p.1)

true_all : {l : List Text} → All Fits l → all_fit l ≡ true
unfolding all_fit
true_all none = refl
true_all (also f r) = rw (true_fits f) (true_all r)

tags_true : (l : List Tag) → tags_fit l ≡ true → All (All Fits) l
unfolding tags_fit
tags_true [] h = none
tags_true (t ∷ l) h = let p = pick_true (all_fit t) (tags_fit l) h in also (all_true t p.0) (tags_true l p.1)

true_tags : {l : List Tag} → All (All Fits) l → tags_fit l ≡ true
unfolding tags_fit
true_tags none = refl
true_tags (also f r) = rw (true_all f) (true_tags r)

-- THE decision: an event can be carried exactly if the test says so
pub carries_exactly : (e : Event) → (carries e ≡ true) ↔ Carries e
unfolding carries within
carries_exactly e = (says, said)
  where
    says : carries e ≡ true → Carries e
    says h =
        let size = pick (leb (4 + tag_bytes e.tags) 127) (leb (length (nson e)) 65_536) false in
        let tags = pick (tags_fit e.tags) size false in
        let a = pick_true (within 1_000_000_000 9_999_999_999 e.created_at) (pick (fits e.content) tags false) h in
        let b = pick_true (fits e.content) tags a.1 in
        let c = pick_true (tags_fit e.tags) size b.1 in
        let d = pick_true (leb (4 + tag_bytes e.tags) 127) (leb (length (nson e)) 65_536) c.1 in
        let time = within_bounds 1_000_000_000 9_999_999_999 e.created_at a.0 in
        record {
          early = time.0;
          late = time.1;
          content = fits_true e.content b.0;
          texts = tags_true e.tags c.0;
          few = leb-true (4 + tag_bytes e.tags) 127 d.0;
          whole = leb-true (length (nson e)) 65_536 d.1;
        }

    said : Carries e → carries e ≡ true
    said c =
        rw (
          le-leb 1_000_000_000 e.created_at c.early,
          le-leb e.created_at 9_999_999_999 c.late,
          true_fits c.content,
          true_tags c.texts,
          le-leb (4 + tag_bytes e.tags) 127 c.few,
        )
        (le-leb (length (nson e)) 65_536 c.whole)
