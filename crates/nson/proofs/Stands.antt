-- A string that shows an event: head, field and body stand one behind the other from 0 to the end, and are the event's.
-- By the laws of the three parts; the counts are the event's because the body was read by them.
use Prim.Native.Nat.{ℕ, ◌≤◌}
use mathlib.Core.Path.{◌≡◌, sym, ap, ◌∙◌}
use mathlib.Core.List.{List}
use lib.ListN.{length}
use borrow.Author.Tests.{leb-true, eqb-true}
use Rattle.scan.specs.Choice.{shown, Read, read}
use Rattle.scan.specs.Bytes.{All}
use Rattle.scan.specs.inner.Span.{Span}
use Rattle.scan.proofs.SpanLaws.{join, respell}
use Rattle.scan.proofs.Many.{after, pick_shown, shown_same}
use Rattle.decimal.specs.Decimal.{decimal}
use Rattle.event.specs.Event.{Event, Bytes}
use Rattle.nson.specs.Nson.{Counts, counts, descriptors, nson_field, head_text, body_text, nson}
use Rattle.nson.specs.Read.{head_at, counts_at, body_read_at, event_read, event_at, read_nson}
use Rattle.nson.proofs.Texts.{Good}
use Rattle.nson.proofs.Counts.{Holds}
use Rattle.nson.proofs.Field.{counts_shown}
use Rattle.nson.proofs.Body.{body_shown}
use Rattle.nson.proofs.Head.{head_shown}

-- ---- an event that was read

pub record Stands (s : List ℕ) (e : Event) (end : ℕ) : Type 0 where
  pub text : Span s 0 (nson e) end
  -- the field at 318, and what is read of it
  pub behind : ℕ
  pub counted : counts_at s ≡ read (counts e) behind
  pub field_text : Span s 318 (nson_field (counts e)) behind
  pub holds : Holds (counts e)
  pub few : length (descriptors (counts e)) ≤ 127
  pub ten : length (decimal e.created_at) ≡ 10
  pub id : Bytes 32 e.id
  pub pubkey : Bytes 32 e.pubkey
  pub sig : Bytes 64 e.sig
  pub kind16 : e.kind ≤ 65_535
  pub content : Good e.content
  pub texts : All (All Good) e.tags

event_stands : (s : List ℕ) (v : Read Event) → event_at s ≡ shown v → Stands s v.value v.next
unfolding event_at event_read counts nson head_text body_text
event_stands s v e =
    after (head_at s) _ v e
    (λ h p e₁.
    after (counts_at s) _ v e₁
    (λ n q e₂.
    after (body_read_at n.value s n.next) _ v e₂
    (λ b r e₃.
    let f : record { value = event_read s h.value b.value; next = b.next } ≡ v = shown_same e₃ in
    let head = head_shown s h p in
    let body = body_shown n.value s n.next b r in
    let c : n.value ≡ counts (event_read s h.value b.value) = sym body.sized in
    let k = counts_shown s n q in
    let held = body.holds in
    let at = respell (ap nson_field c) k.0 in
    rw (sym f) record {
      text = join (join head.text at) body.span;
      behind = n.next;
      counted = q ∙ ap (λ (x : Counts). read x n.next) c;
      field_text = at;
      holds = rw c at k.1;
      few = rw c at k.2;
      ten = head.ten;
      id = head.id;
      pubkey = head.pubkey;
      sig = head.sig;
      kind16 = held.kind16;
      content = held.content;
      texts = held.texts;
    })))

-- a string that shows an event is the event's text from 0 to the end
pub string_stands : {s : List ℕ} {e : Event} → read_nson s ≡ shown e → Stands s e (length s) × (length s ≤ 65_536)
unfolding read_nson
string_stands {s} {e} r =
    let t = pick_shown _ _ 1 0 e r in
    after (event_at s) _ e t.1
    (λ v p e₁.
    let u = pick_shown _ _ 10 v.next e e₁ in
    let f : v.value ≡ e = shown_same u.1 in
    let k : v.next ≡ length s = eqb-true v.next (length s) u.0 in
    (rw (f, k) at (event_stands s v p), leb-true (length s) 65_536 t.0))
