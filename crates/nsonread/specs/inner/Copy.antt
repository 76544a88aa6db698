-- What the second pass writes as it follows the counts: the strict form, by places. Total: nothing is asked again.
-- Assumes nothing.
use Rattle.std.specs.Prelude.{ℕ, zero, suc, ◌+◌, ◌*◌, List, [], ◌++◌}
use Rattle.varint.specs.Uleb.{uleb}
use Rattle.hexdigits.specs.Hex.{unhex}
use Rattle.jsontext.specs.inner.Escape.{unescape}
use Rattle.notepack.specs.Strict.{pack_element}
use Rattle.nson.specs.inner.Places.{id_place, pubkey_place, sig_place, tag_counts_place}
use Rattle.nson.specs.Read.{part_at, byte_here, word_here}
use Rattle.nsonwalk.specs.declared.NsonWalked.{NsonWalked}
use Rattle.nsonwalk.specs.inner.Walk.{content_place, tags_place}

-- the place behind 255 tags of 255 items (proofs/Writing derives it)
abbrev pub items_place_most : ℕ
items_place_most = 4_261_675_106

-- n items whose counts stand from d on, the first with its opening quote at a place: their elements, and the place
-- behind the byte that follows them
unfoldable pub items_text : ℕ → List ℕ → ℕ → ℕ → List ℕ
items_text zero s d at = []
items_text (suc n) s d at =
    pack_element (unescape (part_at (word_here s d) s (at + 1))) ++ items_text n s (d + 4) (at + (word_here s d + 3))

unfoldable pub items_end : ℕ → List ℕ → ℕ → ℕ → ℕ
items_end zero s d at = at
items_end (suc n) s d at = items_end n s (d + 4) (at + (word_here s d + 3))

-- n tags whose counts stand from d on, the first with its opening bracket at a place
unfoldable pub nson_tags_text : ℕ → List ℕ → ℕ → ℕ → List ℕ
nson_tags_text zero s d at = []
nson_tags_text (suc n) s d at =
    uleb (byte_here s d)
    ++ (items_text (byte_here s d) s (d + 2) (at + 1)
    ++ nson_tags_text n s (d + (2 + 4 * byte_here s d)) (items_end (byte_here s d) s (d + 2) (at + 1) + 1))

-- all in front of the tags
unfoldable pub nson_front_text : List ℕ → NsonWalked → List ℕ
nson_front_text s w =
    unhex (part_at 64 s id_place)
    ++ (unhex (part_at 64 s pubkey_place)
    ++ (unhex (part_at 128 s sig_place)
    ++ (uleb w.created_at ++ (uleb w.kind ++ (uleb w.content_len ++ (unescape (part_at w.sizes.content s (content_place w)) ++ uleb w.sizes.tags))))))

unfoldable pub strict_of : List ℕ → NsonWalked → List ℕ
strict_of s w = nson_front_text s w ++ nson_tags_text w.sizes.tags s tag_counts_place (tags_place w)
