-- What the second pass writes of an object is its event's strict form: content and tags as they were read, the rest by
-- the definitions.
use Prim.Native.Nat.{ℕ, ◌+◌, ◌≤◌}
use mathlib.Core.Path.{◌≡◌, refl, sym, ap, ◌∙◌, subst}
use mathlib.Core.List.{List, ◌++◌, append_assoc}
use native.Mathlib.Omega.{arith}
use lib.ListN.{length, take, drop}
use lib.Dec.{eqb}
use borrow.Author.Tests.{eqb-true}
use Rattle.scan.specs.Choice.{read}
use Rattle.scan.proofs.Step.{pick_by}
use Rattle.varint.specs.Uleb.{uleb}
use Rattle.event.specs.Event.{Tag}
use Rattle.notepack.specs.Strict.{pack, pack_tags}
use Rattle.jsontext.specs.declared.Spelled.{Spelled}
use Rattle.jsontext.specs.Token.{space_at}
use Rattle.jsontext.specs.Text.{string_at}
use Rattle.jsonevent.specs.Field.{under, text_of, inside_at, tag_at}
use Rattle.jsonfields.specs.declared.Spot.{Spot}
use Rattle.jsonfields.specs.inner.Size.{tag_size, sized}
use Rattle.jsonfields.specs.inner.Spots.{text_spot, tags_spot, spelled_of, tags_spot_at, spot_at}
use Rattle.jsonfields.proofs.Strings.{string_same}
use Rattle.jsonfields.proofs.Items.{under_read, inside_by}
use Rattle.jsonfields.proofs.Says.{tags_read_at, tags_read, tags_kept}
use Rattle.jsonobject.specs.declared.Fields.{Fields}
use Rattle.jsonobject.specs.declared.Object.{Object}
use Rattle.jsonobject.specs.inner.Spotted.{object_spots_at}
use Rattle.jsonobject.proofs.Known.{spots_of, event_by, Each, none, also}
use Rattle.jsonobject.proofs.Tells.{event_in, object_each}
use Rattle.jsonread.specs.inner.Copy.{spot_content, json_tags_text, fields_text}
use Rattle.jsonread.proofs.Copying.{tags_left_lem, tags_written}

-- a text's own bytes, or its text
record TextWritten (s : List ℕ) (p : Spot) : Type 0 where
  number : p.number ≡ length (text_of s (spelled_of p))
  text : spot_content s p ≡ text_of s (spelled_of p)

record TagsWritten (s : List ℕ) (p : Spot) : Type 0 where
  number : p.number ≡ length (tags_read_at s p.from)
  text : json_tags_text p.number s p.from ≡ pack_tags (tags_read_at s p.from)

module _ (s : List ℕ) (at : ℕ) {p : Spot} {q : ℕ} where
  text_written : under (text_spot s) (string_at s at) ≡ read p q → TextWritten s p
  unfolding spot_content
  text_written e =
      let u = under_read (text_spot s) (string_at s at) (sym e) in
      subst (λ (p : Spot). TextWritten s p) u.2 (go u.0 (string_same s at u.1))
    where
      go : (x : Spelled) → (length (text_of s x) ≡ x.count → text_of s x ≡ take x.count (drop x.from s)) → TextWritten s (text_spot s x)
      go x own = record {
        number = refl;
        text =
            pick_by (λ (l : List ℕ). l ≡ text_of s x) (eqb (length (text_of s x)) x.count) (λ t. sym (own (eqb-true (length (text_of s x)) x.count t))) (λ t. refl);
      }

  tags_are : tags_spot_at s at ≡ read p q → TagsWritten s p
  tags_are e = let u = tags_kept s at e in go u.0 u.1 u.2
    where
      first : ℕ
      first = space_at s (at + 1)

      go : (l : List Tag) → inside_at (tag_at s) 999 s first ≡ read l q → tags_spot first (sized tag_size l) ≡ p → TagsWritten s p
      go l f g =
          let t = tags_read s first f in
          let w : json_tags_text (length l) s first ≡ pack_tags l =
          inside_by (tag_at s) s 999 first (λ (l : List Tag). json_tags_text (length l) s first ≡ pack_tags l) (tags_left_lem s 0 first (omega arith)) (λ l c r. tags_written s r) f in
          subst (λ (p : Spot). TagsWritten s p) g (record { number = ap length (sym t); text = w ∙ ap pack_tags (sym t) })

-- of a spot by its number
record Written (s : List ℕ) (k : ℕ) (p : Spot) : Type 0 where
  content : k ≡ 6 → TextWritten s p
  tags : k ≡ 5 → TagsWritten s p

written : (s : List ℕ) (at k : ℕ) → k ≤ 7 → (p : Spot) (q : ℕ) → spot_at k s at ≡ read p q → Written s k p
unfolding spot_at
written s at k h p q e = record { content = λ z. text_written s at (rw z at e); tags = λ z. tags_are s at (rw z at e) }

in_order : (a b c d e n t m l : List ℕ) → a ++ b ++ c ++ d ++ e ++ (n ++ t) ++ (m ++ l) ≡ a ++ (b ++ (c ++ (d ++ (e ++ (n ++ (t ++ (m ++ l)))))))
in_order a b c d e n t m l = simp append_assoc

fields_pack : (s : List ℕ) (f : Fields) → TextWritten s f.content → TagsWritten s f.tags → fields_text s f ≡ pack (event_by s f)
unfolding fields_text pack event_by
fields_pack s f c t =
    let v = event_by s f in
    rw (c.text, c.number, t.text, t.number)
    (in_order v.id v.pubkey v.sig (uleb v.created_at) (uleb v.kind) (uleb (length v.content)) v.content (uleb (length v.tags)) (pack_tags v.tags))

pub object_written : (s : List ℕ) (at : ℕ) {o : Object} {q : ℕ} → object_spots_at s at ≡ read o q → fields_text s o.fields ≡ pack (event_in s o)
object_written s at {o} e = go o.fields (object_each (Written s) s (written s) at e).0
  where
    go : (f : Fields) → Each (Written s) 0 (spots_of f) → fields_text s f ≡ pack (event_by s f)
    go f (also a (also b (also c (also d (also k (also t (also n none))))))) = fields_pack s f (n.content refl) (t.tags refl)
