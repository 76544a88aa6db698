-- What the second pass writes of an accepted text is its event's strict form; and the walk tells what the reading
-- tells.
-- They follow the same reads, so they refuse alike; where both show, the counts stand at their places, and each part
-- behind the one before.
use Prim.Native.Nat.{ℕ, ◌+◌, ◌<◌, ◌≤◌}
use mathlib.Core.Path.{◌≡◌, refl, sym, ap, ◌∙◌}
use mathlib.Core.Bool.{Bool, true, false}
use mathlib.Core.List.{List, append_assoc}
use native.Mathlib.Omega.{arith}
use lib.ListN.{length}
use lib.Dec.{leb, eqb}
use Rattle.scan.specs.Choice.{pick, Answer, shown, refused, Read, and_then}
use Rattle.scan.proofs.Many.{pick_shown, after, shown_same}
use Rattle.buffer.specs.inner.Store.{Wrote}
use Rattle.buffer.specs.Entry.{writes, leaves}
use Rattle.buffer.proofs.EntryLaws.{short, fitted}
use Rattle.event.specs.Event.{Event}
use Rattle.notepack.specs.Strict.{pack_tags, pack}
use Rattle.nson.specs.Nson.{Counts}
use Rattle.nson.specs.inner.Needs.{nson_needs}
use Rattle.nson.specs.inner.Places.{tag_counts_place, around_kind, before_tags}
use Rattle.nson.specs.Read as nson
use Rattle.nson.proofs.Head.{Head, head_shown}
use Rattle.nsoncounts.specs.inner.Counted.{tag_sizes}
use Rattle.nsoncounts.proofs.Placing.{Placed, counts_placed}
use Rattle.nsonwalk.specs.declared.NsonWalked.{NsonWalked}
use Rattle.nsonwalk.specs.inner.Walk.{walked_of, nson_walk_at}
use Rattle.nsonwalk.proofs.Standing.{Stands, body_stands, tag_count}
use Rattle.nsonread.specs.inner.Copy.{nson_tags_text, nson_front_text, strict_of}
use Rattle.nsonread.proofs.Copying.{tags_copied}

-- what the reading shows: the counts in front of it, and the event
pub record Shows (s : List ℕ) (w : NsonWalked) : Type 0 where
  pub event : Event
  pub shows : nson.read_nson s ≡ shown event
  pub len : w.len ≡ length (pack event)
  pub text : strict_of s w ≡ pack event

module _ (s : List ℕ) (time : ℕ) (n : Read Counts) (b : nson.Body) (h : Head s time) (p : Placed s n.value) (d : Stands n.value s n.next b) where
  pub text_is : strict_of s (walked_of s time n b) ≡ pack (nson.event_read s time b)
  unfolding strict_of nson_front_text pack nson.event_read
  text_is =
      let l = n.value.tags in
      let m : l ≡ tag_sizes (length l) s tag_counts_place = ap (λ (c : Counts). c.tags) p.same in
      let place = n.next + around_kind + n.value.kind + n.value.content + before_tags in
      let is : nson.items_at (nson.tag_at s) false (tag_sizes (length l) s tag_counts_place) s place ≡ shown d.tags.list = rw m at d.tags.is in
      let t : nson_tags_text (length l) s tag_counts_place place ≡ pack_tags b.tags = tags_copied s false (length l) 328 place d.tags.list p.filled is ∙ ap pack_tags d.tags.same in
      rw (t, sym d.content, tag_count s time n b h d) (simp (append_assoc))

-- ---- the walk and the reading tell the same

-- both show, or both refuse alike
data Alike {A B : Type 0} : Answer A → Answer B → Type 0 where
  both_show : {a : A} {b : B} → Alike (shown a) (shown b)
  both_refuse : {n p : ℕ} → Alike (refused n p) (refused n p)

then_alike : {R G A B : Type 0} (r : Answer R) (f : R → Answer A) (g : R → Answer G) (k : G → Answer B) → ((x : R) → Alike (f x) (and_then (g x) k)) → Alike (and_then r f) (and_then (and_then r g) k)
then_alike (shown x) f g k a = a x
then_alike (refused n p) f g k a = both_refuse

pick_alike : {A B : Type 0} (t : Bool) {x u : Answer A} {y v : Answer B} → Alike x y → Alike u v → Alike (pick t x u) (pick t y v)
pick_alike true a b = a
pick_alike false a b = b

walk_alike : (s : List ℕ) → Alike (nson_walk_at s) (nson.read_nson s)
unfolding nson_walk_at nson.read_nson nson.event_at
walk_alike s =
    pick_alike (leb (length s) 65_536)
    (then_alike (nson.head_at s) _ _ _
    (λ h.
    then_alike (nson.counts_at s) _ _ _
    (λ n. then_alike (nson.body_read_at n.value s n.next) _ _ _ (λ b. pick_alike (eqb b.next (length s)) both_show both_refuse))))
    both_refuse

alike_refused : {A B : Type 0} {x : Answer A} {y : Answer B} {n p : ℕ} → Alike x y → x ≡ refused n p → y ≡ refused n p
alike_refused both_show e = let z : ◌≡◌ {A = ℕ} 0 1 = cc in absurd (omega arith)
alike_refused both_refuse e = cc

pub walk_refuses : (s : List ℕ) {n p : ℕ} → nson_walk_at s ≡ refused n p → nson.read_nson s ≡ refused n p
walk_refuses s e = alike_refused (walk_alike s) e

event_shown : (s : List ℕ) (h : Read ℕ) (n : Read Counts) (y : Read nson.Body) → leb (length s) 65_536 ≡ true → nson.head_at s ≡ shown h → nson.counts_at s ≡ shown n
    → nson.body_read_at n.value s n.next ≡ shown y → eqb y.next (length s) ≡ true → nson.read_nson s ≡ shown (nson.event_read s h.value y.value)
unfolding nson.read_nson nson.event_at
event_shown s h n y l a b c k = rw (l, a, b, c, k) refl

pub walk_shows : (s : List ℕ) (w : NsonWalked) → nson_walk_at s ≡ shown w → Shows s w
unfolding nson_walk_at
walk_shows s w e =
    let l = pick_shown (leb (length s) 65_536) _ 1 0 w e in
    after (nson.head_at s) _ w l.1
    (λ h a e₁.
    after (nson.counts_at s) _ w e₁
    (λ n b e₂.
    after (nson.body_read_at n.value s n.next) _ w e₂
    (λ y c e₃.
    let k = pick_shown (eqb y.next (length s)) (shown (walked_of s h.value n y.value)) 10 y.next w e₃ in
    let f : walked_of s h.value n y.value ≡ w = shown_same k.1 in
    let r = event_shown s h n y l.0 a b c k.0 in
    let g : Shows s (walked_of s h.value n y.value) =
    record { event = nson.event_read s h.value y.value; shows = r; len = refl; text = text_is s h.value n y.value (head_shown s h a) (counts_placed s n b) (body_stands n.value s n.next y c) } in
    rw f at g)))

-- ---- the entry

module _ (s d : List ℕ) where
  pub write_refused : {n q : ℕ} → refused n q ≡ nson_walk_at s → (refused n q ≡ writes pack (nson.read_nson s) d) × (d ≡ leaves pack (nson.read_nson s) d)
  write_refused e = let u = walk_refuses s (sym e) in (rw u refl, rw u refl)

  module _ (w : NsonWalked) (e : shown w ≡ nson_walk_at s) where
    pub write_short : length d < w.len → (refused 11 w.len ≡ writes pack (nson.read_nson s) d) × (d ≡ leaves pack (nson.read_nson s) d)
    write_short l =
        let g = walk_shows s w (sym e) in
        let f = short (pack g.event) d g.len l in
        (rw g.shows f.0, rw g.shows f.1)

    pub write_fitted : {d' : List ℕ} {n : ℕ} → w.len ≤ length d → Wrote d 0 (strict_of s w) d' n
        → (shown n ≡ writes pack (nson.read_nson s) d) × (d' ≡ leaves pack (nson.read_nson s) d)
    write_fitted l o =
        let g = walk_shows s w (sym e) in
        let f = fitted g.len l (rw g.text at o) in
        (rw g.shows f.0, rw g.shows f.1)

-- ---- the length alone

pub needs_walk : (s : List ℕ) → nson_needs s ≡ and_then (nson_walk_at s) (λ w. shown w.len)
needs_walk s = go (nson_walk_at s) refl
  where
    go : (r : Answer NsonWalked) → nson_walk_at s ≡ r → nson_needs s ≡ and_then r (λ w. shown w.len)
    go (shown w) e = let g = walk_shows s w e in rw g.shows (ap (λ (i : ℕ). shown i) (sym g.len))
    go (refused n p) e = rw (walk_refuses s e) refl
