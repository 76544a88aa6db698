-- What one pass over a packed event measures besides: the length of the strict form, and whether an element is hollow.
-- Assumes nothing.
use Rattle.std.specs.Prelude.{ℕ, ◌+◌, Bool, false, List, [], ◌∷◌, map, length, eqb}
use Rattle.scan.specs.Choice.{pick, Answer, Read, read}
use Rattle.scan.specs.inner.Otherwise.{either}
use Rattle.varint.specs.Uleb.{uleb}
use Rattle.notepack.specs.declared.Part.{Part}
use Rattle.notepack.specs.declared.Head.{Head}
use Rattle.notepack.specs.declared.Tally.{Tally}
use Rattle.notepack.specs.Strict.{pack_elements, pack_tag, pack_tags, pack}
use Rattle.notepack.specs.Unpack.{text_of, Packed, event_of}

-- raw and of length 0: its word 01 is as long as the strict 00, but another
unfoldable pub is_hollow : Part → Bool
is_hollow p = pick p.raw (eqb p.len 0) false

abbrev pub hollow_in : List Part → Bool
hollow_in [] = false
hollow_in (p ∷ ps) = either (is_hollow p) (hollow_in ps)

abbrev pub hollow_tags : List (List Part) → Bool
hollow_tags [] = false
hollow_tags (ps ∷ ts) = either (hollow_in ps) (hollow_tags ts)

-- n bytes more of the strict form
abbrev pub more : Tally → ℕ → Bool → Tally
more t n hollow = record { len = t.len + n; hollow = either t.hollow hollow }

-- elements, a tag and tags as they are passed over: the tally with theirs, and the place behind them
abbrev pub pass_elements : List ℕ → Tally → Read (List Part) → Answer (Read Tally)
pass_elements s t es = read (more t (length (pack_elements (map (text_of s) es.value))) (hollow_in es.value)) es.next

abbrev pub pass_tag : List ℕ → Tally → Read (List Part) → Answer (Read Tally)
pass_tag s t ts = read (more t (length (pack_tag (map (text_of s) ts.value))) (hollow_in ts.value)) ts.next

abbrev pub pass_tags : List ℕ → Tally → Read (List (List Part)) → Answer (Read Tally)
pass_tags s t ts = read (more t (length (pack_tags (map (map (text_of s)) ts.value))) (hollow_tags ts.value)) ts.next

-- the strict length of all in front of the tags
unfoldable pub head_len : Head → ℕ
head_len h =
    128 + length (uleb h.created_at) + length (uleb h.kind) + length (uleb h.content.len) + h.content.len + length (uleb h.tag_count)

-- the tally of a whole packed event
abbrev pub tally_of : List ℕ → Packed → Tally
tally_of s p = record { len = length (pack (event_of s p)); hollow = hollow_tags p.tags }
