-- The texts and tags that tables lay out are read: each pointer names its piece, a table's entries are as many as it
-- has.
-- By matching the layout, cutting the span at each `++`, and rewriting each read by what it finds.
use Prim.Native.Nat.{ℕ, ◌+◌, ◌*◌, ◌-◌, ◌/◌, ◌%◌, ◌≤◌}
use mathlib.Core.Path.{◌≡◌, refl, sym, ap}
use mathlib.Core.Bool.{false}
use mathlib.Core.List.{List, [], ◌∷◌, map}
use native.Mathlib.Omega.{arith}
use lib.ListN.{length, length-append}
use borrow.Author.Tests.{le-leb, eq-eqb}
use Rattle.scan.specs.Choice.{shown, read, many}
use Rattle.scan.specs.Bytes.{All, none, also}
use Rattle.scan.specs.inner.Span.{Span}
use Rattle.scan.proofs.SpanLaws.{cut, none_span, part_of_span}
use Rattle.utf8.specs.Utf8.{Utf8}
use Rattle.utf8.proofs.Laws.{is_utf8_lem}
use Rattle.event.specs.Event.{Tag, ValidTag}
use Rattle.notepack.specs.declared.Part.{Part}
use Rattle.notepack.specs.Unpack.{part_of, bytes_of}
use Rattle.pointer.specs.Pointer.{table_at, pointed_text, pointed_text_at, tag_table_at, pointed_tag_at, tags_table_at, pointed_tags_at}
use Rattle.pointer.specs.Layout.{Names, TextTable, TagTable}
use Rattle.pointer.proofs.Naming.{names_found, names_length}

texts_length_lem : {dat : List ℕ} {ts : Tag} {l : List ℕ} → TextTable dat ts l → length l ≡ 8 * length ts
texts_length_lem TextTable.none = refl
texts_length_lem (TextTable.more {p = p} {l = l} g h) = omega (arith, length-append p l, names_length g, texts_length_lem h)

tags_length : {dat : List ℕ} {ts : List Tag} {l : List ℕ} → TagTable dat ts l → length l ≡ 8 * length ts
tags_length TagTable.none = refl
tags_length (TagTable.more {p = p} {m = m} g t h) = omega (arith, length-append p m, names_length g, tags_length h)

module _ {s dat : List ℕ} (short : length s ≤ 65_536) (d : Span s 72 dat (length s - 96)) where
  -- a text is read as a part whose bytes it is
  pub text_full : {p t : List ℕ} {at c : ℕ} → Names dat p t → Utf8 t → Span s at p c
      → (q : Part) × (pointed_text_at 0 s at ≡ read q c) × (bytes_of s q ≡ t)
  unfolding pointed_text_at pointed_text
  text_full {t = t} g u r =
      let f = names_found short d g r in
      let b = part_of_span (length t) refl f.span in
      let q = part_of (72 + f.offset) (length t) false in
      (q, rw (f.piece, b, (is_utf8_lem t).1 u) (ap (read q) (sym f.next)), b)

  pub texts_full : {ts : Tag} {l : List ℕ} {at c : ℕ} → TextTable dat ts l → All Utf8 ts → Span s at l c
      → (ps : List Part) × (many (pointed_text_at 0 s) (length ts) at ≡ read ps c) × (map (bytes_of s) ps ≡ ts)
  unfolding many
  texts_full TextTable.none none r = ([], rw (none_span r), refl)
  texts_full (TextTable.more {p = p} g h) (also u v) r =
      let q = cut p r in
      let e = text_full g u q.1 in
      let es = texts_full h v q.2 in
      (e.0 ∷ es.0, rw (e.1, es.1), cc)

  -- a table of n entries
  table_full : {p l : List ℕ} {at c : ℕ} (n : ℕ) → Names dat p l → length l ≡ 8 * n → Span s at p c
      → (o : ℕ) × (table_at s at ≡ shown (part_of (72 + o) (8 * n) false)) × Span s (72 + o) l (72 + o + 8 * n) × (c ≡ at + 8)
  unfolding table_at
  table_full n g k r =
      let f = names_found short d g r in
      let z : 8 * n % 8 ≡ 0 = omega arith in
      (f.offset, rw (f.piece, k, eq-eqb (8 * n % 8) 0 z), rw k at f.span, f.next)

  pub tag_full : {p l : List ℕ} {ts : Tag} {at c : ℕ} → Names dat p l → TextTable dat ts l → ValidTag ts → Span s at p c
      → (ps : List Part) × (pointed_tag_at 0 s at ≡ read ps c) × (map (bytes_of s) ps ≡ ts)
  unfolding pointed_tag_at tag_table_at
  tag_full {ts = ts} g t v r =
      let n = length ts in
      let f = table_full n g (texts_length_lem t) r in
      let es = texts_full t v.texts f.2 in
      let k : 8 * n / 8 ≡ n = omega arith in
      (es.0, rw (f.1, k, le-leb n 255 v.few, le-leb 1 n v.one, k, es.1) (ap (read es.0) (sym f.3)), es.2)

  pub tags_full : {ts : List Tag} {l : List ℕ} {at c : ℕ} → TagTable dat ts l → All ValidTag ts → Span s at l c
      → (ps : List (List Part)) × (many (pointed_tag_at 0 s) (length ts) at ≡ read ps c) × (map (map (bytes_of s)) ps ≡ ts)
  unfolding many
  tags_full TagTable.none none r = ([], rw (none_span r), refl)
  tags_full (TagTable.more {p = p} g t h) (also u v) r =
      let q = cut p r in
      let e = tag_full g t u q.1 in
      let es = tags_full h v q.2 in
      (e.0 ∷ es.0, rw (e.1, es.1), cc)

  -- all the tags
  pub all_tags_full : {p l : List ℕ} {ts : List Tag} {c : ℕ} → Names dat p l → TagTable dat ts l → All ValidTag ts → length ts ≤ 1_000 → Span s 64 p c
      → (ps : List (List Part)) × (pointed_tags_at 0 s ≡ shown ps) × (map (map (bytes_of s)) ps ≡ ts)
  unfolding pointed_tags_at tags_table_at
  all_tags_full {ts = ts} g t v few r =
      let n = length ts in
      let f = table_full n g (tags_length t) r in
      let es = tags_full t v f.2 in
      let k : 8 * n / 8 ≡ n = omega arith in
      (es.0, rw (f.1, k, le-leb n 1_000 few, k, es.1), es.2)
