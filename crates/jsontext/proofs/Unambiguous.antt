-- The grammar is unambiguous: a text spells at most one value.
-- Two values at one place end alike, since the reader takes both; and their first byte tells which production each is
-- (`View`).
use Prim.Native.Nat.{ℕ, ◌+◌, ◌≤◌, max}
use mathlib.Core.Path.{◌≡◌, refl, sym, ap, ◌∙◌}
use mathlib.Core.List.{List}
use native.Mathlib.Omega.{arith}
use lib.ListN.{length, get_or, take, drop}
use borrow.Author.Tests.{eqb-false}
use Rattle.scan.specs.Choice.{Read, read}
use Rattle.scan.specs.inner.Span.{step, Span}
use Rattle.scan.proofs.SpanLaws.{cut, close_span, span_unique, input_span}
use Rattle.jsontext.specs.declared.Spelled.{Spelled}
use Rattle.jsontext.specs.Grammar as json
use Rattle.jsontext.specs.Token.{space_at}
use Rattle.jsontext.proofs.TokenLaws.{Stop, stop_bracket, stop_brace, space_accepts}
use Rattle.jsontext.proofs.TextLaws.{string_accepts, quoted_part}
use Rattle.jsontext.proofs.FirstByte.{First, first_at, begins_value, begins_items, begins_members, number_first}
use Rattle.jsontext.proofs.ValueComplete.{value_accepts, ws_stop, separator_accepts, separator_stop, comma_solid, colon_solid, bracket_solid, brace_solid, not_space}

-- ---- two at one place end alike

next_of : {A : Type 0} {x y : A} {c d : ℕ} → read x c ≡ read y d → c ≡ d
next_of {A} {x} {y} {c} {d} e = let f : ◌≡◌ {A = Read A} (record { value = x; next = c }) (record { value = y; next = d }) = cc in ap (λ (r : Read A). r.next) f

value_of : {A : Type 0} {x y : A} {c d : ℕ} → read x c ≡ read y d → x ≡ y
value_of {A} {x} {y} {c} {d} e = let f : ◌≡◌ {A = Read A} (record { value = x; next = c }) (record { value = y; next = d }) = cc in ap (λ (r : Read A). r.value) f

-- values behind which nothing stands that could lengthen a number
value_ends : {v w : json.Json} {s l m : List ℕ} {a c d : ℕ} → json.Spells v l → Span s a l c → Stop (get_or s c 0) → json.Spells w m → Span s a m d → Stop (get_or s d 0)
    → d ≡ c
value_ends {v} {w} g p st h q su =
    let n = max (json.nesting v) (json.nesting w) in
    next_of (sym (value_accepts n h (omega arith) q (λ k e. su)) ∙ value_accepts n g (omega arith) p (λ k e. st))

-- strings
string_ends : {s k l q r : List ℕ} {a c d : ℕ} → json.QuotedChars k q → Span s a q c → json.QuotedChars l r → Span s a r d → (d ≡ c) × (k ≡ l)
string_ends {s} {a = a} g p h q =
    let e = sym (string_accepts h q) ∙ string_accepts g p in
    let n = ap (λ (x : Spelled). x.count) (value_of e) in
    (next_of e, sym (quoted_part g p) ∙ ap (λ (m : ℕ). take m (drop (a + 1) s)) (sym n) ∙ quoted_part h q)

-- ---- the items of an array and the members of an object, from a place on to their closing bracket

data ItemsFrom (s : List ℕ) (p : ℕ) (i : json.Items) : Type 0 where
  from_items : {l : List ℕ} {e : ℕ} → json.SpellsItems i l → Span s p l e → Stop (get_or s e 0) → get_or s (space_at s e) 0 ≡ 0x5D → ItemsFrom s p i

data MembersFrom (s : List ℕ) (p : ℕ) (m : json.Members) : Type 0 where
  from_members : {l : List ℕ} {e : ℕ} → json.SpellsMembers m l → Span s p l e → Stop (get_or s e 0) → get_or s (space_at s e) 0 ≡ 0x7D → MembersFrom s p m

-- the first of them, and what stands behind it
data ItemRow (s : List ℕ) (p : ℕ) : json.Items → Type 0 where
  item_row : {v : json.Json} {l : List ℕ} {e : ℕ} → json.Spells v l → Span s p l e → Stop (get_or s e 0) → get_or s (space_at s e) 0 ≡ 0x5D
      → ItemRow s p (json.item v json.no_item)
  items_row : {v : json.Json} {l : List ℕ} {e : ℕ} {i : json.Items} → json.Spells v l → Span s p l e → Stop (get_or s e 0) → get_or s (space_at s e) 0 ≡ 0x2C
      → ItemsFrom s (space_at s (space_at s e + 1)) i → ItemRow s p (json.item v i)

item_first : {s : List ℕ} {p : ℕ} {i : json.Items} → ItemsFrom s p i → ItemRow s p i
item_first (from_items (json.last_item g) r st e) = item_row g r st e
item_first {s} (from_items (json.more_items {l = l} {c = c} {i = i} g k is) r st e) =
    let u = cut l r in
    let w = cut c u.2 in
    let y = separator_accepts 0x2C comma_solid k w.1 (first_at (begins_items is) w.2).solid in
    items_row {i = i} g u.1 (separator_stop k w.1) (rw y.1 y.2) (rw (y.1, y.3) (from_items is w.2 st e))

data MemberRow (s : List ℕ) (p : ℕ) : json.Members → Type 0 where
  member_row : {n q : List ℕ} {f : ℕ} {v : json.Json} {l : List ℕ} {e : ℕ} → json.QuotedChars n q → Span s p q f → json.Spells v l → Span s (space_at s (space_at s f + 1)) l e → Stop (get_or s e 0)
      → get_or s (space_at s e) 0 ≡ 0x7D → MemberRow s p (json.member n v json.no_member)
  members_row : {n q : List ℕ} {f : ℕ} {v : json.Json} {l : List ℕ} {e : ℕ} {m : json.Members} → json.QuotedChars n q → Span s p q f → json.Spells v l → Span s (space_at s (space_at s f + 1)) l e → Stop (get_or s e 0)
      → get_or s (space_at s e) 0 ≡ 0x2C → MembersFrom s (space_at s (space_at s e + 1)) m → MemberRow s p (json.member n v m)

member_first : {s : List ℕ} {p : ℕ} {m : json.Members} → MembersFrom s p m → MemberRow s p m
member_first {s} (from_members {e = f} (json.last_member (json.is_member {q = q} {c = o} {l = l} x y g)) r st e) =
    let u = cut q r in
    let w = cut o u.2 in
    let z = separator_accepts 0x3A colon_solid y w.1 (first_at (begins_value g) w.2).solid in
    let p : Span s (space_at s (space_at s u.0 + 1)) l f = rw (z.1, z.3) w.2 in
    member_row x u.1 g p st e
member_first {s} (from_members (json.more_members {l = m} {c = c} {m = j} (json.is_member {q = q} {c = o} {l = l} x y g) k ms) r st e) =
    let t = cut m r in
    let t₂ = cut c t.2 in
    let u = cut q t.1 in
    let w = cut o u.2 in
    let z = separator_accepts 0x3A colon_solid y w.1 (first_at (begins_value g) w.2).solid in
    let b = separator_accepts 0x2C comma_solid k t₂.1 (first_at (begins_members ms) t₂.2).solid in
    let p : Span s (space_at s (space_at s u.0 + 1)) l t.0 = rw (z.1, z.3) w.2 in
    members_row {m = j} x u.1 g p (separator_stop k t₂.1) (rw b.1 b.2) (rw (b.1, b.3) (from_members ms t₂.2 st e))

-- ---- a value by its first byte

data View (s : List ℕ) (a c : ℕ) : json.Json → ℕ → Type 0 where
  v_false : View s a c json.Json.false 0x66
  v_null : View s a c json.Json.null 0x6E
  v_true : View s a c json.Json.true 0x74
  v_string : {l q : List ℕ} → json.QuotedChars l q → Span s a q c → View s a c (json.Json.string l) 0x22
  v_no_item : get_or s (space_at s (a + 1)) 0 ≡ 0x5D → View s a c (json.Json.array json.no_item) 0x5B
  v_array : {i : json.Items} → First (get_or s (space_at s (a + 1)) 0) → ItemsFrom s (space_at s (a + 1)) i → View s a c (json.Json.array i) 0x5B
  v_no_member : get_or s (space_at s (a + 1)) 0 ≡ 0x7D → View s a c (json.Json.object json.no_member) 0x7B
  v_object : {m : json.Members} → First (get_or s (space_at s (a + 1)) 0) → MembersFrom s (space_at s (a + 1)) m → View s a c (json.Json.object m) 0x7B
  v_number : {b : ℕ} {l : List ℕ} → 0x2D ≤ b → b ≤ 0x39 → Span s a l c → View s a c (json.Json.number l) b

view : {s l : List ℕ} {a c : ℕ} {v : json.Json} → json.Spells v l → Span s a l c → View s a c v (get_or s a 0)
view json.is_false (step h q r) = rw q v_false
view json.is_null (step h q r) = rw q v_null
view json.is_true (step h q r) = rw q v_true
view (json.is_string (json.quoted g)) (step h q r) = rw q (v_string (json.quoted g) (step h q r))
view (json.is_number g) r = let f = number_first g r in v_number f.0 f.1 r
view {s} {a = a} (json.empty_array {w = w} g) (step h q r) =
    let u = cut w r in
    let z = close_span u.2 in
    let e = space_accepts g u.1 (not_space 0x5D z.0 bracket_solid) in
    rw q (v_no_item (rw e z.0))
view {s} {a = a} (json.is_array {i = i} {w = w} {l = l} {x = x} g es k) (step h q r) =
    let u = cut w r in
    let v = cut l u.2 in
    let y = cut x v.2 in
    let z = close_span y.2 in
    let f = first_at (begins_items es) v.1 in
    let e = space_accepts g u.1 f.solid in
    let b = space_accepts k y.1 (not_space 0x5D z.0 bracket_solid) in
    rw q (v_array {i = i} (rw e f) (rw e (from_items es v.1 (ws_stop k y.1 (rw z.0 stop_bracket)) (rw b z.0))))
view {s} {a = a} (json.empty_object {w = w} g) (step h q r) =
    let u = cut w r in
    let z = close_span u.2 in
    let e = space_accepts g u.1 (not_space 0x7D z.0 brace_solid) in
    rw q (v_no_member (rw e z.0))
view {s} {a = a} (json.is_object {m = m} {w = w} {l = l} {x = x} g es k) (step h q r) =
    let u = cut w r in
    let v = cut l u.2 in
    let y = cut x v.2 in
    let z = close_span y.2 in
    let f = first_at (begins_members es) v.1 in
    let e = space_accepts g u.1 f.solid in
    let b = space_accepts k y.1 (not_space 0x7D z.0 brace_solid) in
    rw q (v_object {m = m} (rw e f) (rw e (from_members es v.1 (ws_stop k y.1 (rw z.0 stop_brace)) (rw b z.0))))

-- ---- two views of one place

module _ {s : List ℕ} {a c : ℕ} where
  same_false : {w : json.Json} {b : ℕ} → View s a c json.Json.false b → View s a c w b → json.Json.false ≡ w
  same_false v_false v_false = refl
  same_false v_false (v_number l h r) = absurd (omega arith)

  same_null : {w : json.Json} {b : ℕ} → View s a c json.Json.null b → View s a c w b → json.Json.null ≡ w
  same_null v_null v_null = refl
  same_null v_null (v_number l h r) = absurd (omega arith)

  same_true : {w : json.Json} {b : ℕ} → View s a c json.Json.true b → View s a c w b → json.Json.true ≡ w
  same_true v_true v_true = refl
  same_true v_true (v_number l h r) = absurd (omega arith)

  same_string : {k : List ℕ} {w : json.Json} {b : ℕ} → View s a c (json.Json.string k) b → View s a c w b → json.Json.string k ≡ w
  same_string (v_string g p) (v_string h q) = ap json.Json.string (string_ends g p h q).1
  same_string (v_string g p) (v_number l h r) = absurd (omega arith)

  same_number : {k : List ℕ} {w : json.Json} {b : ℕ} → View s a c (json.Json.number k) b → View s a c w b → json.Json.number k ≡ w
  same_number (v_number l h r) (v_number m n q) = ap json.Json.number (span_unique r q)
  same_number (v_number l h r) v_false = absurd (omega arith)
  same_number (v_number l h r) v_null = absurd (omega arith)
  same_number (v_number l h r) v_true = absurd (omega arith)
  same_number (v_number l h r) (v_string g p) = absurd (omega arith)
  same_number (v_number l h r) (v_no_item e) = absurd (omega arith)
  same_number (v_number l h r) (v_array f x) = absurd (omega arith)
  same_number (v_number l h r) (v_no_member e) = absurd (omega arith)
  same_number (v_number l h r) (v_object f x) = absurd (omega arith)

  same_array : {i : json.Items} {w : json.Json} {b : ℕ} → ((j : json.Items) → ItemsFrom s (space_at s (a + 1)) i → ItemsFrom s (space_at s (a + 1)) j → i ≡ j)
      → View s a c (json.Json.array i) b → View s a c w b → json.Json.array i ≡ w
  same_array one (v_no_item e) (v_no_item f) = refl
  same_array one (v_no_item e) (v_array f x) = absurd (eqb-false (get_or s (space_at s (a + 1)) 0) 0x5D f.no_bracket e)
  same_array one (v_no_item e) (v_number l h r) = absurd (omega arith)
  same_array one (v_array f x) (v_no_item e) = absurd (eqb-false (get_or s (space_at s (a + 1)) 0) 0x5D f.no_bracket e)
  same_array one (v_array f x) (v_array {i = j} g y) = ap json.Json.array (one j x y)
  same_array one (v_array f x) (v_number l h r) = absurd (omega arith)

  same_object : {m : json.Members} {w : json.Json} {b : ℕ} → ((n : json.Members) → MembersFrom s (space_at s (a + 1)) m → MembersFrom s (space_at s (a + 1)) n → m ≡ n)
      → View s a c (json.Json.object m) b → View s a c w b → json.Json.object m ≡ w
  same_object one (v_no_member e) (v_no_member f) = refl
  same_object one (v_no_member e) (v_object f x) = absurd (eqb-false (get_or s (space_at s (a + 1)) 0) 0x7D f.no_brace e)
  same_object one (v_no_member e) (v_number l h r) = absurd (omega arith)
  same_object one (v_object f x) (v_no_member e) = absurd (eqb-false (get_or s (space_at s (a + 1)) 0) 0x7D f.no_brace e)
  same_object one (v_object f x) (v_object {m = n} g y) = ap json.Json.object (one n x y)
  same_object one (v_object f x) (v_number l h r) = absurd (omega arith)

-- ---- two rows of one place; `One v` says that v is the only value where it stands

abbrev One : json.Json → Type 0
One v = (w : json.Json) (s l m : List ℕ) (a c : ℕ) → json.Spells v l → Span s a l c → json.Spells w m → Span s a m c → v ≡ w

two_bytes : (s : List ℕ) {e f : ℕ} (x y : ℕ) → f ≡ e → get_or s (space_at s e) 0 ≡ x → get_or s (space_at s f) 0 ≡ y → x ≡ y
two_bytes s x y n p q = sym p ∙ ap (λ (k : ℕ). get_or s (space_at s k) 0) (sym n) ∙ q

same_items : {s : List ℕ} {p : ℕ} {v : json.Json} {i j : json.Items} → One v → ((q : ℕ) (k : json.Items) → ItemsFrom s q i → ItemsFrom s q k → i ≡ k)
    → ItemRow s p (json.item v i) → ItemRow s p j → json.item v i ≡ j
same_items {s} {p} one more (item_row {l = l} {e = b} g r st e) (item_row {v = w} {l = m} h q su f) =
    let n = value_ends g r st h q su in
    ap (λ (x : json.Json). json.item x json.no_item) (one w s l m p b g r h (rw n at q))
same_items {s} one more (item_row g r st e) (items_row h q su f y) =
    let z = two_bytes s 0x5D 0x2C (value_ends g r st h q su) e f in
    absurd (omega arith)
same_items {s} one more (items_row g r st e x) (item_row h q su f) =
    let z = two_bytes s 0x2C 0x5D (value_ends g r st h q su) e f in
    absurd (omega arith)
same_items {s} {p} one more (items_row {l = l} {e = b} g r st e x) (items_row {v = w} {l = m} {i = k} h q su f y) =
    let n = value_ends g r st h q su in
    let d = one w s l m p b g r h (rw n at q) in
    let t = more (space_at s (space_at s b + 1)) k x (rw n at y) in
    cc

same_members : {s : List ℕ} {p : ℕ} {n : List ℕ} {v : json.Json} {m j : json.Members} → One v → ((q : ℕ) (k : json.Members) → MembersFrom s q m → MembersFrom s q k → m ≡ k)
    → MemberRow s p (json.member n v m) → MemberRow s p j → json.member n v m ≡ j
same_members {s} {p} one more (member_row {f = b} {l = l} {e = c} o t g r st e) (member_row {v = w} {l = m} o₂ t₂ h q su f) =
    let x = string_ends o t o₂ t₂ in
    let q₁ = rw x.0 at q in
    let n = value_ends g r st h q₁ su in
    let d = one w s l m (space_at s (space_at s b + 1)) c g r h (rw n at q₁) in
    let y = x.1 in
    cc
same_members {s} one more (member_row o t g r st e) (members_row o₂ t₂ h q su f y) =
    let x = string_ends o t o₂ t₂ in
    let z = two_bytes s 0x7D 0x2C (value_ends g r st h (rw x.0 at q) su) e f in
    absurd (omega arith)
same_members {s} one more (members_row o t g r st e y) (member_row o₂ t₂ h q su f) =
    let x = string_ends o t o₂ t₂ in
    let z = two_bytes s 0x2C 0x7D (value_ends g r st h (rw x.0 at q) su) e f in
    absurd (omega arith)
same_members {s} {p} one more (members_row {f = b} {l = l} {e = c} o t g r st e y) (members_row {v = w} {l = m} {m = k} o₂ t₂ h q su f z) =
    let x = string_ends o t o₂ t₂ in
    let q₁ = rw x.0 at q in
    let n = value_ends g r st h q₁ su in
    let d = one w s l m (space_at s (space_at s b + 1)) c g r h (rw n at q₁) in
    let i = more (space_at s (space_at s c + 1)) k y (rw n at z) in
    let j = x.1 in
    cc

-- ---- the theorem

no_items : {s : List ℕ} {p : ℕ} {i : json.Items} → ItemsFrom s p i → i ≡ json.no_item → ⊥
no_items (from_items (json.last_item g) r st e) f = let z : ◌≡◌ {A = ℕ} 0 1 = cc in omega arith
no_items (from_items (json.more_items g c is) r st e) f = let z : ◌≡◌ {A = ℕ} 0 1 = cc in omega arith

no_members : {s : List ℕ} {p : ℕ} {m : json.Members} → MembersFrom s p m → m ≡ json.no_member → ⊥
no_members (from_members (json.last_member g) r st e) f = let z : ◌≡◌ {A = ℕ} 0 1 = cc in omega arith
no_members (from_members (json.more_members g c is) r st e) f = let z : ◌≡◌ {A = ℕ} 0 1 = cc in omega arith

mutual
  one_value : (v : json.Json) → One v
  one_value json.Json.false w s l m a c g p h q = same_false (view g p) (view h q)
  one_value json.Json.null w s l m a c g p h q = same_null (view g p) (view h q)
  one_value json.Json.true w s l m a c g p h q = same_true (view g p) (view h q)
  one_value (json.Json.number k) w s l m a c g p h q = same_number (view g p) (view h q)
  one_value (json.Json.string k) w s l m a c g p h q = same_string (view g p) (view h q)
  one_value (json.Json.array i) w s l m a c g p h q = same_array (λ j x y. one_items i s (space_at s (a + 1)) j x y) (view g p) (view h q)
  one_value (json.Json.object n) w s l m a c g p h q = same_object (λ j x y. one_members n s (space_at s (a + 1)) j x y) (view g p) (view h q)

  one_items : (i : json.Items) (s : List ℕ) (p : ℕ) (j : json.Items) → ItemsFrom s p i → ItemsFrom s p j → i ≡ j
  one_items json.no_item s p j x y = absurd (no_items x refl)
  one_items (json.item v i) s p j x y = same_items (λ w s l m a c g p h q. one_value v w s l m a c g p h q) (λ q k x y. one_items i s q k x y) (item_first x) (item_first y)

  one_members : (m : json.Members) (s : List ℕ) (p : ℕ) (j : json.Members) → MembersFrom s p m → MembersFrom s p j → m ≡ j
  one_members json.no_member s p j x y = absurd (no_members x refl)
  one_members (json.member n v m) s p j x y = same_members (λ w s l m a c g p h q. one_value v w s l m a c g p h q) (λ q k x y. one_members m s q k x y) (member_first x) (member_first y)

-- THE unambiguity: a text spells at most one value
pub unambiguous : {v w : json.Json} {l : List ℕ} → json.Spells v l → json.Spells w l → v ≡ w
unambiguous {v} {w} {l} g h = let r = input_span l in one_value v w l l l 0 (length l) g r h r

-- the same in an input: two values at a place, behind which nothing stands that could lengthen a number, are one and
-- end alike
pub one_at : {v w : json.Json} {s l m : List ℕ} {a c d : ℕ} → json.Spells v l → Span s a l c → Stop (get_or s c 0) → json.Spells w m → Span s a m d → Stop (get_or s d 0)
    → (v ≡ w) × (d ≡ c)
one_at {v} {w} {s} {l} {m} {a} {c} g p st h q su = let n = value_ends g p st h q su in (one_value v w s l m a c g p h (rw n at q), n)
