-- The places of the layout; `proofs/Places` derives each from the labels. Assumes nothing.
use Rattle.std.specs.Prelude.{ℕ}

abbrev pub id_place : ℕ
id_place = 7

abbrev pub pubkey_place : ℕ
pubkey_place = 83

abbrev pub sig_place : ℕ
sig_place = 156

-- the size, the descriptors behind it, and those of the tags
abbrev pub size_place : ℕ
size_place = 318

abbrev pub descriptors_place : ℕ
descriptors_place = 320

abbrev pub tag_counts_place : ℕ
tag_counts_place = 328

-- the two labels around the kind; the label and the bracket in front of the first tag
abbrev pub around_kind : ℕ
around_kind = 21

abbrev pub before_tags : ℕ
before_tags = 10
