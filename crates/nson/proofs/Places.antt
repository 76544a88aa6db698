-- Each place of the layout is behind a label and all that stands before it. By computing.
use Prim.Native.Nat.{◌+◌}
use mathlib.Core.Path.{◌≡◌, refl}
use lib.ListN.{length}
use Rattle.nson.specs.Nson.{id_label, pubkey_label, sig_label, time_label, nson_label, kind_label, content_label, tags_label}
use Rattle.nson.specs.inner.Places.{id_place, pubkey_place, sig_place, size_place, descriptors_place, tag_counts_place, around_kind, before_tags}

pub id_place_lem : id_place ≡ length id_label
id_place_lem = refl

pub pubkey_place_lem : pubkey_place ≡ id_place + 64 + length pubkey_label
pubkey_place_lem = refl

pub sig_place_lem : sig_place ≡ pubkey_place + 64 + length sig_label
sig_place_lem = refl

-- behind sig's digits and the time's ten
pub size_place_lem : size_place ≡ sig_place + 128 + length time_label + 10 + length nson_label
size_place_lem = refl

-- the size takes two digits; those of the kind, the content and the number of tags take two, four and two
pub descriptors_place_lem : descriptors_place ≡ size_place + 2
descriptors_place_lem = refl

pub tag_counts_place_lem : tag_counts_place ≡ descriptors_place + 2 + 4 + 2
tag_counts_place_lem = refl

pub around_kind_lem : around_kind ≡ length kind_label + length content_label
around_kind_lem = refl

pub before_tags_lem : before_tags ≡ length tags_label + 1
before_tags_lem = refl
