-- Completeness: each value of the grammar is read over to its end, if it nests no deeper than is allowed and, where it
-- is a number, nothing follows that could lengthen it.
-- By recursion over the value: each span is cut at `++`, and each read is rewritten by its *accepts*.
use Prim.Native.Nat.{ℕ, zero, suc, ◌+◌, ◌<◌, ◌≤◌}
use mathlib.Core.Path.{◌≡◌, refl, sym, ap, ◌∙◌}
use mathlib.Core.Bool.{false}
use mathlib.Core.List.{List}
use native.Mathlib.Omega.{arith}
use lib.ListN.{length, get_or, length-append}
use lib.Dec.{eqb}
use borrow.Author.Tests.{eq-eqb, ne_eqb}
use Rattle.scan.specs.Choice.{and_then}
use Rattle.scan.specs.Bytes.{none, also}
use Rattle.scan.specs.inner.Span.{here, step, Span}
use Rattle.scan.proofs.SpanLaws.{cut, close_span, open_span, span_length, span_fits}
use Rattle.jsontext.specs.Grammar as json
use Rattle.jsontext.specs.Token.{Skipped, past, is_space, space_at, word_at, skip_number}
use Rattle.jsontext.specs.Text.{string_at}
use Rattle.jsontext.specs.Value.{skip_colon, skip_member, skip_item, skip_after, skip_items, skip_inside, skip_value_by, skip_walk_by, value_at}
use Rattle.jsontext.specs.inner.Walk.{skip_walk}
use Rattle.jsontext.proofs.TokenLaws.{space_accepts, word_accepts, number_accepts, Stop, stop_comma, stop_space, stop_bracket, stop_brace}
use Rattle.jsontext.proofs.TextLaws.{string_accepts}
use Rattle.jsontext.proofs.FirstByte.{first_at, begins_value, begins_items, begins_members, number_first}

-- ---- white space and separators

-- behind white space stands what stops a number, so it stands before it too
pub ws_stop : {s w : List ℕ} {a c : ℕ} → json.Ws w → Span s a w c → Stop (get_or s c 0) → Stop (get_or s a 0)
ws_stop none here st = st
ws_stop (also g w) (step h e r) st = rw e (stop_space g)

pub not_space : (k : ℕ) {b : ℕ} → b ≡ k → is_space k ≡ false → is_space b ≡ false
not_space k e f = rw e f

-- a separator k between a and e, behind which stands no white space
pub separator_accepts : {s l : List ℕ} {a e : ℕ} (k : ℕ) → is_space k ≡ false → json.Separator k l → Span s a l e → is_space (get_or s e 0) ≡ false
    → (c : ℕ) × (space_at s a ≡ c) × (get_or s c 0 ≡ k) × (space_at s (c + 1) ≡ e)
separator_accepts k z (json.separator {w = w} g h) r n =
    let u = cut w r in
    let v = open_span u.2 in
    (u.0, space_accepts g u.1 (not_space k v.1 z), v.1, space_accepts h v.2 n)

pub separator_stop : {s l : List ℕ} {a e : ℕ} → json.Separator 0x2C l → Span s a l e → Stop (get_or s a 0)
separator_stop (json.separator {w = w} g h) r = let u = cut w r in ws_stop g u.1 (rw (open_span u.2).1 stop_comma)

pub separator_some : {k : ℕ} {l : List ℕ} → json.Separator k l → 1 ≤ length l
separator_some (json.separator {w = w} {x = x} g h) = simp length-append (omega arith)

pub comma_solid : is_space 0x2C ≡ false
unfolding is_space
comma_solid = refl

pub colon_solid : is_space 0x3A ≡ false
unfolding is_space
colon_solid = refl

pub bracket_solid : is_space 0x5D ≡ false
unfolding is_space
bracket_solid = refl

pub brace_solid : is_space 0x7D ≡ false
unfolding is_space
brace_solid = refl

-- ---- items

module _ (close : ℕ) (item : ℕ → Skipped) (s : List ℕ) where
  item_last : (k a b c : ℕ) → 0 < k → item a ≡ past b → space_at s b ≡ c → get_or s c 0 ≡ close → skip_items close item k s a ≡ past (c + 1)
  unfolding skip_items skip_after
  item_last zero a b c h e f g = absurd (omega arith)
  item_last (suc k) a b c h e f g = rw (e, f, eq-eqb (get_or s c 0) close g)

  item_more : (X : Skipped) (k n a b c d : ℕ) → suc n < k → item a ≡ past b → space_at s b ≡ c → get_or s c 0 ≡ 0x2C → eqb 0x2C close ≡ false → space_at s (c + 1) ≡ d
      → ((j : ℕ) → n < j → skip_items close item j s d ≡ X) → skip_items close item k s a ≡ X
  unfolding skip_items skip_after
  item_more X zero n a b c d h e f g z i r = absurd (omega arith)
  item_more X (suc k) n a b c d h e f g z i r = rw (e, f, g, z, i) (r k (omega arith))

  -- nothing, or items, between the brackets
  inside_none : (p : ℕ) → get_or s p 0 ≡ close → skip_inside close item s p ≡ past (p + 1)
  unfolding skip_inside
  inside_none p e = rw (eq-eqb (get_or s p 0) close e)

  inside_some : (X : Skipped) (p : ℕ) → eqb (get_or s p 0) close ≡ false → skip_items close item (length s) s p ≡ X → skip_inside close item s p ≡ X
  unfolding skip_inside
  inside_some X p e r = rw e r

-- ---- depth

-- the value by its first byte, with the walk that the depth allows
pub value_open : (d : ℕ) (s : List ℕ) (a : ℕ) → value_at d s a ≡ skip_value_by (λ close at. skip_walk d close s at) s a
unfolding value_at skip_walk skip_value_by
value_open zero s a = refl
value_open (suc d) s a = refl

walk_by : (X : Skipped) (d n close : ℕ) (s : List ℕ) (a p : ℕ) → suc n ≤ d → space_at s (a + 1) ≡ p
    → ((j : ℕ) → n ≤ j → skip_inside close (skip_item close (value_at j s) s) s p ≡ X) → skip_walk d close s a ≡ X
unfolding skip_walk skip_walk_by
walk_by X zero n close s a p h e f = absurd (omega arith)
walk_by X (suc d) n close s a p h e f = rw e (f d (omega arith))

array_by : (X : Skipped) (d : ℕ) (s : List ℕ) (a : ℕ) → get_or s a 0 ≡ 0x5B → skip_walk d 0x5D s a ≡ X → value_at d s a ≡ X
unfolding skip_value_by
array_by X d s a e f = value_open d s a ∙ rw e f

object_by : (X : Skipped) (d : ℕ) (s : List ℕ) (a : ℕ) → get_or s a 0 ≡ 0x7B → skip_walk d 0x7D s a ≡ X → value_at d s a ≡ X
unfolding skip_value_by
object_by X d s a e f = value_open d s a ∙ rw e f

string_by : (X : Skipped) (d : ℕ) (s : List ℕ) (a : ℕ) → get_or s a 0 ≡ 0x22 → and_then (string_at s a) (λ r. past r.next) ≡ X → value_at d s a ≡ X
unfolding skip_value_by
string_by X d s a e f = value_open d s a ∙ rw e f

-- what begins with a digit or a minus is read as a number
number_by : (X : Skipped) (d : ℕ) (s : List ℕ) (a b : ℕ) → get_or s a 0 ≡ b → 0x2D ≤ b → b ≤ 0x39 → skip_number s a ≡ X → value_at d s a ≡ X
unfolding skip_value_by
number_by X d s a b e l h f =
    value_open d s a
    ∙ rw (
      e,
      ne_eqb b 0x22 (λ x. omega arith),
      ne_eqb b 0x7B (λ x. omega arith),
      ne_eqb b 0x5B (λ x. omega arith),
      ne_eqb b 0x74 (λ x. omega arith),
      ne_eqb b 0x66 (λ x. omega arith),
      ne_eqb b 0x6E (λ x. omega arith),
    ) f

word_by : (X : Skipped) (d : ℕ) (s : List ℕ) (a : ℕ) (w : List ℕ) → skip_value_by (λ close at. skip_walk d close s at) s a ≡ word_at w s a → word_at w s a ≡ X → value_at d s a ≡ X
word_by X d s a w e f = value_open d s a ∙ e ∙ f

-- ---- a member, its value read to c

member_accepts : {s q k : List ℕ} {n : List ℕ} {a b e : ℕ} (value : ℕ → Skipped) (X : Skipped) → json.QuotedChars n q → Span s a q b → json.Separator 0x3A k → Span s b k e
    → is_space (get_or s e 0) ≡ false → value e ≡ X → skip_item 0x7D value s a ≡ X
unfolding skip_item skip_member skip_colon
member_accepts value X g r c p z f = let u = separator_accepts 0x3A colon_solid c p z in rw (string_accepts g r, u.1, u.2, u.3) f

-- ---- values

mutual
  unfolding skip_value_by skip_item

  value_full : (v : json.Json) {s l : List ℕ} {a c : ℕ} (d : ℕ) → json.nesting v ≤ d → json.Spells v l → Span s a l c
      → ((k : List ℕ) → v ≡ json.Json.number k → Stop (get_or s c 0)) → value_at d s a ≡ past c
  value_full json.Json.false {s} {a = a} d h json.is_false (step p q r) st = word_by _ d s a _ (rw q) (word_accepts (step p q r))
  value_full json.Json.null {s} {a = a} d h json.is_null (step p q r) st = word_by _ d s a _ (rw q) (word_accepts (step p q r))
  value_full json.Json.true {s} {a = a} d h json.is_true (step p q r) st = word_by _ d s a _ (rw q) (word_accepts (step p q r))
  value_full (json.Json.number k) {s} {a = a} d h (json.is_number g) r st =
      let f = number_first g r in
      number_by _ d s a (get_or s a 0) refl f.0 f.1 (number_accepts g r (st k refl))
  value_full (json.Json.string k) {s} {a = a} d h (json.is_string (json.quoted g)) (step p q r) st =
      string_by _ d s a q (rw (string_accepts (json.quoted g) (step p q r)))
  value_full (json.Json.array i) {s} {a = a} d h (json.empty_array {w = w} g) (step p q r) st =
      let u = cut w r in
      let z = close_span u.2 in
      array_by _ d s a q
      (walk_by _ d 0 0x5D s a u.0 (omega arith) (space_accepts g u.1 (not_space 0x5D z.0 bracket_solid))
      (λ j n. inside_none 0x5D (skip_item 0x5D (value_at j s) s) s u.0 z.0 ∙ ap past (sym z.1)))
  value_full (json.Json.array i) {s} {a = a} d h (json.is_array {w = w} {l = l} {x = x} g es k) (step p q r) st =
      let u = cut w r in
      let v = cut l u.2 in
      let y = cut x v.2 in
      let z = close_span y.2 in
      let f = first_at (begins_items es) v.1 in
      array_by _ d s a q
      (walk_by _ d (json.nesting_of_items i) 0x5D s a u.0 (omega arith) (space_accepts g u.1 f.solid)
      (λ j n.
      inside_some 0x5D (skip_item 0x5D (value_at j s) s) s _ u.0 f.no_bracket
      (items_full i j (length s) n es v.1 (space_accepts k y.1 (not_space 0x5D z.0 bracket_solid)) (ws_stop k y.1 (rw z.0 stop_bracket)) z.0 (omega (arith, p, span_length u.1, span_fits v.1))
      ∙ ap past (sym z.1))))
  value_full (json.Json.object m) {s} {a = a} d h (json.empty_object {w = w} g) (step p q r) st =
      let u = cut w r in
      let z = close_span u.2 in
      object_by _ d s a q
      (walk_by _ d 0 0x7D s a u.0 (omega arith) (space_accepts g u.1 (not_space 0x7D z.0 brace_solid))
      (λ j n. inside_none 0x7D (skip_item 0x7D (value_at j s) s) s u.0 z.0 ∙ ap past (sym z.1)))
  value_full (json.Json.object m) {s} {a = a} d h (json.is_object {w = w} {l = l} {x = x} g es k) (step p q r) st =
      let u = cut w r in
      let v = cut l u.2 in
      let y = cut x v.2 in
      let z = close_span y.2 in
      let f = first_at (begins_members es) v.1 in
      object_by _ d s a q
      (walk_by _ d (json.nesting_of_members m) 0x7D s a u.0 (omega arith) (space_accepts g u.1 f.solid)
      (λ j n.
      inside_some 0x7D (skip_item 0x7D (value_at j s) s) s _ u.0 f.no_brace
      (members_full m j (length s) n es v.1 (space_accepts k y.1 (not_space 0x7D z.0 brace_solid)) (ws_stop k y.1 (rw z.0 stop_brace)) z.0 (omega (arith, p, span_length u.1, span_fits v.1))
      ∙ ap past (sym z.1))))

  items_full : (i : json.Items) {s l : List ℕ} {a b c : ℕ} (d k : ℕ) → json.nesting_of_items i ≤ d → json.SpellsItems i l → Span s a l b → space_at s b ≡ c
      → Stop (get_or s b 0) → get_or s c 0 ≡ 0x5D → length l < k → skip_items 0x5D (skip_item 0x5D (value_at d s) s) k s a ≡ past (c + 1)
  items_full json.no_item d k h g r e st f n = elim g [ ]
  items_full (json.item v i) {s} {a = a} {b = b} {c = c} d k h (json.last_item g) r e st f n =
      item_last 0x5D (skip_item 0x5D (value_at d s) s) s k a b c (omega arith) (value_full v d (omega arith) g r (λ k z. st)) e f
  items_full (json.item v i) {s} {a = a} {b = b} {c = c} d k h (json.more_items {l = l} {c = m} {r = r} g x es) p e st f n =
      let u = cut l p in
      let w = cut m u.2 in
      let y = separator_accepts 0x2C comma_solid x w.1 (first_at (begins_items es) w.2).solid in
      item_more 0x5D (skip_item 0x5D (value_at d s) s) s _ k (length r) a u.0 y.0 w.0 (omega (arith, simp length-append at n, separator_some x))
      (value_full v d (omega arith) g u.1 (λ k z. separator_stop x w.1)) y.1 y.2 refl y.3
      (λ j o. items_full i d j (omega arith) es w.2 e st f o)

  members_full : (m : json.Members) {s l : List ℕ} {a b c : ℕ} (d k : ℕ) → json.nesting_of_members m ≤ d → json.SpellsMembers m l → Span s a l b → space_at s b ≡ c
      → Stop (get_or s b 0) → get_or s c 0 ≡ 0x7D → length l < k → skip_items 0x7D (skip_item 0x7D (value_at d s) s) k s a ≡ past (c + 1)
  members_full json.no_member d k h g r e st f t = elim g [ ]
  members_full (json.member n v m) {s} {a = a} {b = b} {c = c} d k h (json.last_member (json.is_member {q = q} {c = o} x y g)) r e st f t =
      let u = cut q r in
      let w = cut o u.2 in
      item_last 0x7D (skip_item 0x7D (value_at d s) s) s k a b c (omega arith)
      (member_accepts (value_at d s) _ x u.1 y w.1 (first_at (begins_value g) w.2).solid (value_full v d (omega arith) g w.2 (λ k z. st))) e f
  members_full (json.member n v m) {s} {a = a} {b = b} {c = c} d k h (json.more_members {l = l} {c = o} {r = r} (json.is_member {q = q} {c = i} x y g) z es) p e st f t =
      let u = cut l p in
      let w = cut o u.2 in
      let u₁ = cut q u.1 in
      let u₂ = cut i u₁.2 in
      let y₁ = separator_accepts 0x2C comma_solid z w.1 (first_at (begins_members es) w.2).solid in
      item_more 0x7D (skip_item 0x7D (value_at d s) s) s _ k (length r) a u.0 y₁.0 w.0 (omega (arith, simp length-append at t, separator_some z))
      (member_accepts (value_at d s) _ x u₁.1 y u₂.1 (first_at (begins_value g) u₂.2).solid
      (value_full v d (omega arith) g u₂.2 (λ k z₁. separator_stop z w.1)))
      y₁.1 y₁.2 refl y₁.3
      (λ j o. members_full m d j (omega arith) es w.2 e st f o)

-- THE completeness: a value of the grammar is read over to its end
pub value_accepts : {v : json.Json} {s l : List ℕ} {a c : ℕ} (d : ℕ) → json.Spells v l → json.nesting v ≤ d → Span s a l c
    → ((k : List ℕ) → v ≡ json.Json.number k → Stop (get_or s c 0)) → value_at d s a ≡ past c
value_accepts {v} d g h r st = value_full v d h g r st
