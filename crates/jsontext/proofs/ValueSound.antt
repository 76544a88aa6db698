-- Soundness: what is read over as a value is spelled by the grammar, with at most the depth that was given.
-- A walk over the definition; the items of arrays and objects are one family, `Sep`, which is then told as
-- `SpellsItems` or `SpellsMembers`.
use Prim.Native.Nat.{ℕ, zero, suc, ◌+◌, ◌<◌, ◌≤◌}
use mathlib.Core.Path.{◌≡◌, refl, ap, ◌∙◌}
use mathlib.Core.Bool.{true, false}
use mathlib.Core.List.{List, [], ◌∷◌, ◌++◌, append_assoc}
use native.Mathlib.Omega.{arith}
use lib.ListN.{length, get_or}
use lib.Dec.{eqb}
use Rattle.scan.specs.Ascii.{ascii}
use Rattle.scan.specs.Choice.{refused, read}
use Rattle.scan.specs.inner.Span.{here, Span}
use Rattle.scan.proofs.Step.{pick_by}
use Rattle.scan.proofs.SpanLaws.{join, bite}
use Rattle.scan.proofs.Reading.{Reads, reads, fails, pick_reads, then_reads, from_reads}
use Rattle.jsontext.specs.declared.Spelled.{Spelled}
use Rattle.jsontext.specs.Grammar as json
use Rattle.jsontext.specs.Token.{Done, done, Skipped, past, space_at, word_at}
use Rattle.jsontext.specs.Value.{skip_colon, skip_member, skip_item, skip_after, skip_items, skip_inside, skip_value_by, skip_walk_by, value_at}
use Rattle.jsontext.proofs.TokenLaws.{bind, space_consumes, word_consumes, number_consumes}
use Rattle.jsontext.proofs.TextLaws.{StringAt, string_is, string_consumes}
use Rattle.jsontext.proofs.FirstByte.{begins_value, begins_member, some_bytes}

-- some value, member, with at most d arrays and objects inside one another
pub data Some (d : ℕ) (x : Done) (l : List ℕ) : Type 0 where
  some : {v : json.Json} → json.Spells v l → json.nesting v ≤ d → Some d x l

data SomeMember (d : ℕ) (x : Done) (l : List ℕ) : Type 0 where
  some_member : {n : List ℕ} {v : json.Json} → json.SpellsMember n v l → json.nesting v ≤ d → SomeMember d x l

-- ---- items up to the closing bracket

-- pieces of G with commas between them, and the bracket
data Sep (G : Done → List ℕ → Type 0) (close : ℕ) (x : Done) : List ℕ → Type 0 where
  stop : {l w : List ℕ} → G x l → json.Ws w → Sep G close x (l ++ (w ++ (close ∷ [])))
  again : {l c m : List ℕ} → G x l → json.Separator 0x2C c → Sep G close x m → Sep G close x (l ++ (c ++ m))

module _ (G : Done → List ℕ → Type 0) (s : List ℕ) (close : ℕ) (z : eqb 0 close ≡ false) (item : ℕ → Skipped) (item-reads : (p : ℕ) → Reads G s p (item p)) where
  items_consume : (k a : ℕ) → Reads (Sep G close) s a (skip_items close item k s a)
  unfolding skip_items skip_after
  items_consume zero a = fails
  items_consume (suc k) a =
      then_reads (λ r. skip_after close (skip_items close item k s) s (space_at s r.next)) (item-reads a)
      (λ x l e g r.
      bind (space_consumes s e)
      (λ w h q.
      let p = space_at s e in
      pick_reads (eqb (get_or s p 0) close) (λ t. reads {x = done} {e = p + 1} (stop (one l x done g) h) (join r (join q (bite close z t here))))
      (λ f.
      pick_reads (eqb (get_or s p 0) 0x2C)
      (λ t.
      bind (space_consumes s (p + 1))
      (λ w₂ h₂ q₂.
      from_reads (items_consume k (space_at s (p + 1)))
      (λ y m e₂ sep r₂. reads {x = y} {e = e₂} (again (one l x y g) (json.separator h h₂) sep) (join r (join (join q (bite 0x2C refl t q₂)) r₂)))))
      (λ n. fails))))
    where
      one : (l : List ℕ) (x y : Done) → G x l → G y l
      one l done done g = g

-- the values of an array
sep_items : {d close : ℕ} {x : Done} {l : List ℕ} → Sep (Some d) close x l
    → (i : json.Items) × (m : List ℕ) × (w : List ℕ) × json.SpellsItems i m × json.Ws w × (l ≡ m ++ (w ++ (close ∷ []))) × (json.nesting_of_items i ≤ d)
sep_items (stop {l = l} {w = w} (some {v = v} g h) k) = (json.item v json.no_item, l, w, json.last_item g, k, refl, omega arith)
sep_items (again {l = l} {c = c} (some {v = v} g h) k r) =
    let u = sep_items r in
    (json.item v u.0, l ++ (c ++ u.1), u.2, json.more_items g k u.3, u.4, ap (λ (m : List ℕ). l ++ (c ++ m)) u.5 ∙ simp append_assoc, omega (arith, u.6))

-- the members of an object
sep_members : {d close : ℕ} {x : Done} {l : List ℕ} → Sep (SomeMember d) close x l
    → (m : json.Members) × (k : List ℕ) × (w : List ℕ) × json.SpellsMembers m k × json.Ws w × (l ≡ k ++ (w ++ (close ∷ []))) × (json.nesting_of_members m ≤ d)
sep_members (stop {l = l} {w = w} (some_member {n = n} {v = v} g h) k) = (json.member n v json.no_member, l, w, json.last_member g, k, refl, omega arith)
sep_members (again {l = l} {c = c} (some_member {n = n} {v = v} g h) k r) =
    let u = sep_members r in (
      json.member n v u.0,
      l ++ (c ++ u.1),
      u.2,
      json.more_members g k u.3,
      u.4,
      ap (λ (m : List ℕ). l ++ (c ++ m)) u.5 ∙ simp append_assoc,
      omega (arith, u.6),
    )

-- ---- arrays and objects over values of depth d

module _ (d : ℕ) (s : List ℕ) (value_reads : (p : ℕ) → Reads (Some d) s p (value_at d s p)) where
  member_consumes : (a : ℕ) → Reads (SomeMember d) s a (skip_member (value_at d s) s a)
  unfolding skip_member skip_colon
  member_consumes a =
      then_reads (λ n. skip_colon (value_at d s) s (space_at s n.next)) (string_consumes s a)
      (λ x q e g r.
      bind (space_consumes s e)
      (λ w h p.
      let b = space_at s e in
      pick_reads (eqb (get_or s b 0) 0x3A)
      (λ t.
      bind (space_consumes s (b + 1))
      (λ w₂ h₂ q₂. from_reads (value_reads (space_at s (b + 1))) (λ y l e₂ v r₂. named g (json.separator h h₂) v (join r (join (join p (bite 0x3A refl t q₂)) r₂)))))
      (λ f. fails)))
    where
      named : {a b e : ℕ} {x : Spelled} {y : Done} {q c l : List ℕ} → StringAt a x q → json.Separator 0x3A c → Some d y l → Span s b (q ++ (c ++ l)) e
          → Reads (SomeMember d) s b (read y e)
      named (string_is g n) k (some v h) r = reads (some_member (json.is_member g k v) h) r

  array_consumes : (a : ℕ) → eqb (get_or s a 0) 0x5B ≡ true → Reads (Some (suc d)) s a (skip_walk_by 0x5D (value_at d s) s a)
  unfolding skip_walk_by skip_inside skip_item
  array_consumes a t =
      bind (space_consumes s (a + 1))
      (λ w h q.
      let p = space_at s (a + 1) in
      pick_reads (eqb (get_or s p 0) 0x5D)
      (λ u. reads {x = done} {e = p + 1} (some (json.empty_array h) (omega arith)) (bite 0x5B refl t (join q (bite 0x5D refl u here))))
      (λ f.
      from_reads (items_consume (Some d) s 0x5D refl (skip_item 0x5D (value_at d s) s) value_reads (length s) p)
      (λ x l e sep r.
      let v = sep_items sep in
      reads (some (json.is_array h v.3 v.4) (omega (arith, v.6))) (bite 0x5B refl t (join q (rw v.5 at r))))))

  object_consumes : (a : ℕ) → eqb (get_or s a 0) 0x7B ≡ true → Reads (Some (suc d)) s a (skip_walk_by 0x7D (value_at d s) s a)
  unfolding skip_walk_by skip_inside skip_item
  object_consumes a t =
      bind (space_consumes s (a + 1))
      (λ w h q.
      let p = space_at s (a + 1) in
      pick_reads (eqb (get_or s p 0) 0x7D)
      (λ u. reads {x = done} {e = p + 1} (some (json.empty_object h) (omega arith)) (bite 0x7B refl t (join q (bite 0x7D refl u here))))
      (λ f.
      from_reads (items_consume (SomeMember d) s 0x7D refl (skip_item 0x7D (value_at d s) s) member_consumes (length s) p)
      (λ x l e sep r.
      let v = sep_members sep in
      reads (some (json.is_object h v.3 v.4) (omega (arith, v.6))) (bite 0x7B refl t (join q (rw v.5 at r))))))

-- ---- values

module _ (d : ℕ) (s : List ℕ) (a : ℕ) where
  string_value : {x : Spelled} {q : List ℕ} {e : ℕ} → StringAt a x q → Span s a q e → Reads (Some d) s a (past e)
  string_value (string_is g n) r = reads (some (json.is_string g) (omega arith)) r

  word_value : (v : json.Json) (w : List ℕ) → json.Spells v w → json.nesting v ≤ d → Reads (Some d) s a (word_at w s a)
  word_value v w g h = from_reads (word_consumes w s a) (λ x l e q r. reads {x = x} {l = l} {e = e} (some {v = v} (rw q g) h) r)

  by_consumes : (walk : ℕ → ℕ → Skipped) → (eqb (get_or s a 0) 0x7B ≡ true → Reads (Some d) s a (walk 0x7D a))
      → (eqb (get_or s a 0) 0x5B ≡ true → Reads (Some d) s a (walk 0x5D a)) → Reads (Some d) s a (skip_value_by walk s a)
  unfolding skip_value_by
  by_consumes walk f g =
      pick_reads (eqb (get_or s a 0) 0x22) (λ t. then_reads (λ r. past r.next) (string_consumes s a) (λ x q e h r. string_value h r))
      (λ n₁.
      pick_reads (eqb (get_or s a 0) 0x7B) f
      (λ n₂.
      pick_reads (eqb (get_or s a 0) 0x5B) g
      (λ n₃.
      pick_reads (eqb (get_or s a 0) 0x74) (λ t. word_value json.Json.true (ascii "true") json.is_true (omega arith))
      (λ n₄.
      pick_reads (eqb (get_or s a 0) 0x66) (λ t. word_value json.Json.false (ascii "false") json.is_false (omega arith))
      (λ n₅.
      pick_reads (eqb (get_or s a 0) 0x6E) (λ t. word_value json.Json.null (ascii "null") json.is_null (omega arith))
      (λ n₆. from_reads (number_consumes s a) (λ x l e h r. reads (some (json.is_number h) (omega arith)) r)))))))

-- THE soundness: what is read over at a place is a value of the grammar, with at most d arrays and objects inside one
-- another
pub value_consumes : (d : ℕ) (s : List ℕ) (a : ℕ) → Reads (Some d) s a (value_at d s a)
unfolding value_at
value_consumes zero s a = by_consumes zero s a (λ close at. refused 18 at) (λ t. fails) (λ t. fails)
value_consumes (suc d) s a =
    by_consumes (suc d) s a (λ close. skip_walk_by close (value_at d s) s) (λ t. object_consumes d s (value_consumes d s) a t)
    (λ t. array_consumes d s (value_consumes d s) a t)

-- the same in terms of the answer
pub value_reads : {d : ℕ} {s : List ℕ} {a e : ℕ} → value_at d s a ≡ past e
    → (v : json.Json) × (l : List ℕ) × json.Spells v l × Span s a l e × (json.nesting v ≤ d)
value_reads {d} {s} {a} f = go (rw f at (value_consumes d s a))
  where
    go : {x : Done} {e : ℕ} → Reads (Some d) s a (read x e) → (v : json.Json) × (l : List ℕ) × json.Spells v l × Span s a l e × (json.nesting v ≤ d)
    go (reads {l = l} (some {v = v} g h) r) = (v, l, g, r, h)

-- an item that is read over takes a byte or more, and ends within the input
pub item_some : (close d : ℕ) (s : List ℕ) (a : ℕ) {e : ℕ} → skip_item close (value_at d s) s a ≡ past e → (a < e) × (e ≤ length s)
unfolding skip_item
item_some close d s a {e} f =
    pick_by (λ (x : Skipped). x ≡ past e → (a < e) × (e ≤ length s)) (eqb close 0x7D) (λ t f. member (rw f at (member_consumes d s (value_consumes d s) a)))
    (λ t f. value (rw f at (value_consumes d s a))) f
  where
    value : {x : Done} {e : ℕ} → Reads (Some d) s a (read x e) → (a < e) × (e ≤ length s)
    value (reads (some g h) r) = some_bytes (begins_value g) r

    member : {x : Done} {e : ℕ} → Reads (SomeMember d) s a (read x e) → (a < e) × (e ≤ length s)
    member (reads (some_member g h) r) = some_bytes (begins_member g) r
