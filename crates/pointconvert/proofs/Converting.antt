-- A v0 that was read shows the event of its outline: its time is that at 48, its tags are those that the table
-- names; and what converting answers and leaves on each way out. Along the definition, read after read.
use Prim.Native.Nat.{ℕ, ◌+◌, ◌≤◌}
use mathlib.Core.Path.{◌≡◌, sym, ap, ◌∙◌}
use mathlib.Core.List.{List, map}
use native.Mathlib.Omega.{arith}
use lib.ListN.{length}
use lib.IntN.{ℤ}
use borrow.Author.Tests.{ne_eqb}
use Rattle.scan.specs.Choice.{shown, refused, and_then}
use Rattle.scan.proofs.Reading.{shown_gives}
use Rattle.scan.proofs.Many.{after, shown_same}
use Rattle.moment.specs.Moment.{whole, split, seconds_of}
use Rattle.notepack.specs.declared.Part.{Part}
use Rattle.notepack.specs.Unpack.{bytes_of}
use Rattle.pointer.specs.Pointer.{header_at, kind_at, millis_at, second_at, time_at, pointed_text_at, pointed_tags_at, Form, form_at, pointed_event, pointer_event}
use Rattle.pointer.proofs.Pieces.{text_gives}
use Rattle.pointer.proofs.Again.{parts_tags}
use Rattle.pointread.specs.inner.Answers.{Fields, fields_of}
use Rattle.pointread.proofs.Forms.{header_long}
use Rattle.pointread.proofs.Asking.{outlined, unread, first, form_tagged}
use Rattle.pointconvert.specs.inner.Again.{form_event, Holds}

module _ (s : List ℕ) where
  -- ---- the version

  pub no_header : {n p : ℕ} → header_at s ≡ refused n p → pointer_event s ≡ refused n p
  unfolding pointer_event
  no_header e = rw e

  pub not_first : {v : ℕ} → header_at s ≡ shown v → (v ≡ 0 → ⊥) → pointer_event s ≡ refused 26 0
  unfolding pointer_event
  not_first {v} e h = rw (e, ne_eqb v 0 h)

  module _ (v0 : header_at s ≡ shown 0) where
    -- ---- refused

    pub no_form : {n p : ℕ} → and_then (form_at s) (λ (f : Form). shown (fields_of f)) ≡ refused n p → pointer_event s ≡ refused n p
    unfolding pointer_event
    no_form e = rw v0 (unread s _ e)

    -- ---- read

    record Known (f : Form) : Type 0 where
      time : f.time ≡ millis_at s
      content : f.content.at + f.content.len ≤ length s

    time_known : (t : ℤ) → time_at 0 s ≡ shown t → t ≡ millis_at s
    unfolding time_at
    time_known t e = after (second_at s) _ t e (λ _ _ r. sym (shown_same r))

    form_known : (f : Form) → form_at s ≡ shown f → Known f
    unfolding form_at
    form_known f e =
        let long = header_long 0 s v0 in
        after (kind_at 0 s) _ f (rw v0 at e)
        (λ k _ e₁.
        after (time_at 0 s) _ f e₁
        (λ t time e₂.
        after (pointed_text_at 0 s 56) _ f e₂
        (λ c text e₃.
        after (pointed_tags_at 0 s) _ f e₃
        (λ ts _ e₄.
        let same = sym (shown_same e₄) in
        let g = shown_gives (rw text at (text_gives s 0 56)) in
        let at = ap (λ (x : Form). x.content.at) same ∙ ap (λ (p : Part). p.at) g.pointed.is in
        let len = ap (λ (x : Form). x.content.len) same ∙ ap (λ (p : Part). p.len) g.pointed.is in
        record {
          time = ap (λ (x : Form). x.time) same ∙ time_known t time;
          content = omega (arith, at, len, long, g.pointed.inside.ends);
        }))))

    same_event_lem : (t : ℕ) (f : Form) → form_at s ≡ shown f → pointed_event s t f ≡ form_event s (fields_of f) t
    unfolding pointed_event form_event
    same_event_lem t f e =
        let tags : map (map (bytes_of s)) f.tags ≡ _ = ap (map (map (bytes_of s))) (form_tagged s f e).tags ∙ parts_tags s (length f.tags) (first s) in
        rw tags

    module _ {o : Fields} (e : and_then (form_at s) (λ (f : Form). shown (fields_of f)) ≡ shown o) where
      pub form_holds : Holds s o
      form_holds =
          let f = outlined s o e in
          let k = (form_known f.0 f.1).content in
          let c = ap (λ (x : Fields). x.content) f.2 in
          record {
            least = header_long 0 s v0;
            content = rw c at k;
            tags = sym (ap (λ (x : Fields). x.tag_count) f.2) ∙ (form_tagged s f.0 f.1).count;
          }

      -- the second that the milliseconds say
      told : seconds_of o.time ≡ seconds_of (millis_at s)
      told = let f = outlined s o e in ap seconds_of (sym (ap (λ (x : Fields). x.time) f.2) ∙ (form_known f.0 f.1).time)

      pub event_shown : {t : ℕ} → whole t ≡ seconds_of o.time → pointer_event s ≡ shown (form_event s o t)
      unfolding pointer_event second_at
      event_shown {t} w =
          let f = outlined s o e in
          let event = same_event_lem t f.0 f.1 ∙ ap (λ (x : Fields). form_event s x t) f.2 in
          rw (v0, f.1, sym told ∙ sym w) (ap shown event)

      pub event_split : split ≡ seconds_of o.time → pointer_event s ≡ refused 28 48
      unfolding pointer_event second_at
      event_split w = let f = outlined s o e in rw (v0, f.1, sym told ∙ sym w)
