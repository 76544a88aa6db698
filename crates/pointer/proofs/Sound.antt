-- The texts and tags that are read of a v0 are laid out by its tables, and valid: a walk over the reading definitions,
-- one law for each.
-- Each word names its piece of the data; a table's bytes are its words, one after the other.
use Prim.Native.Nat.{ℕ, zero, suc, ◌+◌, ◌*◌, ◌≤◌}
use mathlib.Core.Path.{◌≡◌, refl, sym, ap, ◌∙◌}
use mathlib.Core.List.{List, ◌++◌, map}
use native.Mathlib.Omega.{arith}
use lib.ListN.{length, take, drop, length-map}
use lib.Dec.{leb}
use borrow.Author.Tests.{leb-true}
use Rattle.scan.specs.Choice.{Read, many}
use Rattle.scan.specs.Bytes.{All, none, also, IsBytes}
use Rattle.scan.proofs.Reading.{Gives, gives, lacks, pick_gives, then_gives}
use Rattle.utf8.specs.Utf8.{Utf8}
use Rattle.utf8.proofs.Laws.{is_utf8_lem}
use Rattle.event.specs.Event.{ValidTag}
use Rattle.notepack.specs.declared.Part.{Part}
use Rattle.notepack.specs.Unpack.{bytes_of}
use Rattle.pointer.specs.Pointer.{word_at, entries_in, pointed_text_at, pointed_tag_at, tags_table_at, pointed_tags_at}
use Rattle.pointer.specs.Layout.{word, Names, TextTable, TagTable}
use Rattle.pointer.specs.inner.Data.{data_in}
use Rattle.pointer.proofs.Pieces.{Pointed, Tabled, table_gives, text_gives, tag_table_gives}
use Rattle.pointer.proofs.Words.{word_bytes, words_more}
use Rattle.pointer.proofs.Naming.{word_names}

module _ (s : List ℕ) (bytes : IsBytes s) (long : 168 ≤ length s) where
  -- a pointer names its piece
  pub pointed_names : (at : ℕ) (p : Part) → Pointed s at p → Names (data_in s) (word (word_at s at)) (bytes_of s p)
  pointed_names at p g = rw g.is (word_names s long (word_at s at) g.inside)

  -- n words from a place on, and one more before them
  words : (n at : ℕ) → at + 8 * suc n ≤ length s → take (8 * suc n) (drop at s) ≡ word (word_at s at) ++ take (8 * n) (drop (at + 8) s)
  words n at h = words_more s n at ∙ ap (λ (l : List ℕ). l ++ take (8 * n) (drop (at + 8) s)) (word_bytes s bytes at (omega arith))

  -- n texts
  pub record TextsRead (n at : ℕ) (r : Read (List Part)) : Type 0 where
    pub table : TextTable (data_in s) (map (bytes_of s) r.value) (take (8 * n) (drop at s))
    pub texts : All Utf8 (map (bytes_of s) r.value)
    pub count : length r.value ≡ n

  pub texts_give : (n at : ℕ) → at + 8 * n ≤ length s → Gives (TextsRead n at) (many (pointed_text_at 0 s) n at)
  unfolding many
  texts_give zero at h = gives (record { table = TextTable.none; texts = none; count = refl })
  texts_give (suc n) at h =
      then_gives _ (text_gives s 0 at)
      (λ x g.
      then_gives _ (rw (sym g.next) at (texts_give n (at + 8) (omega arith)))
      (λ xs k.
      gives
      (record {
        table = rw (words n at h) (TextTable.more (pointed_names at x.value g.pointed) (rw g.next at k.table));
        texts = also ((is_utf8_lem (bytes_of s x.value)).0 g.text) k.texts;
        count = ap suc k.count;
      })))

  -- the bytes of a table, and where it ends
  table_bytes : (at : ℕ) (p : Part) → Tabled s at p → (take (8 * entries_in p) (drop p.at s) ≡ bytes_of s p) × (p.at + 8 * entries_in p ≤ length s)
  table_bytes at p g =
      let e = ap (λ (x : Part). x.at) g.pointed.is in
      let f = ap (λ (x : Part). x.len) g.pointed.is in
      let k : 8 * entries_in p ≡ p.len = omega (arith, g.eights) in
      (ap (λ (n : ℕ). take n (drop p.at s)) k, omega (arith, e, f, g.pointed.inside.ends, k))

  -- a tag
  pub record TagRead (at : ℕ) (r : Read (List Part)) : Type 0 where
    pub next : r.next ≡ at + 8
    pub laid : List ℕ
    pub names : Names (data_in s) (word (word_at s at)) laid
    pub table : TextTable (data_in s) (map (bytes_of s) r.value) laid
    pub good : ValidTag (map (bytes_of s) r.value)

  pub tag_gives : (at : ℕ) → Gives (TagRead at) (pointed_tag_at 0 s at)
  unfolding pointed_tag_at
  tag_gives at =
      then_gives _ (tag_table_gives s 0 at)
      (λ p g.
      let t = table_bytes at p g.tabled in
      then_gives _ (texts_give (entries_in p) p.at t.1)
      (λ ts k.
      let n : length (map (bytes_of s) ts.value) ≡ entries_in p = length-map ts.value (bytes_of s) ∙ k.count in
      gives
      (record {
        next = refl;
        laid = bytes_of s p;
        names = pointed_names at p g.tabled.pointed;
        table = rw t.0 at k.table;
        good = record { one = rw n (leb-true 1 (entries_in p) g.one); few = rw n (leb-true (entries_in p) 255 g.few); texts = k.texts };
      })))

  -- n tags
  pub record TagsRead (n at : ℕ) (r : Read (List (List Part))) : Type 0 where
    pub table : TagTable (data_in s) (map (map (bytes_of s)) r.value) (take (8 * n) (drop at s))
    pub good : All ValidTag (map (map (bytes_of s)) r.value)
    pub count : length r.value ≡ n

  pub tags_give : (n at : ℕ) → at + 8 * n ≤ length s → Gives (TagsRead n at) (many (pointed_tag_at 0 s) n at)
  unfolding many
  tags_give zero at h = gives (record { table = TagTable.none; good = none; count = refl })
  tags_give (suc n) at h =
      then_gives _ (tag_gives at)
      (λ x g.
      then_gives _ (rw (sym g.next) at (tags_give n (at + 8) (omega arith)))
      (λ xs k.
      gives
      (record {
        table = rw (words n at h) (TagTable.more g.names g.table (rw g.next at k.table));
        good = also g.good k.good;
        count = ap suc k.count;
      })))

  -- all the tags
  pub record AllTags (ts : List (List Part)) : Type 0 where
    pub laid : List ℕ
    pub names : Names (data_in s) (word (word_at s 64)) laid
    pub table : TagTable (data_in s) (map (map (bytes_of s)) ts) laid
    pub few : length (map (map (bytes_of s)) ts) ≤ 1_000
    pub good : All ValidTag (map (map (bytes_of s)) ts)

  pub all_tags_give : Gives AllTags (pointed_tags_at 0 s)
  unfolding pointed_tags_at tags_table_at
  all_tags_give =
      then_gives {P = λ (p : Part). Tabled s 64 p × (entries_in p ≤ 1_000)} _
      (then_gives _ (table_gives s 64) (λ p g. pick_gives (leb (entries_in p) 1_000) (λ t. gives (g, leb-true (entries_in p) 1_000 t)) (λ f. lacks)))
      (λ p g.
      let t = table_bytes 64 p g.0 in
      then_gives _ (tags_give (entries_in p) p.at t.1)
      (λ ts k.
      let n : length (map (map (bytes_of s)) ts.value) ≡ entries_in p = length-map ts.value (map (bytes_of s)) ∙ k.count in
      gives
      (record {
        laid = bytes_of s p;
        names = pointed_names 64 p g.0.pointed;
        table = rw t.0 at k.table;
        few = rw n g.1;
        good = k.good;
      })))
