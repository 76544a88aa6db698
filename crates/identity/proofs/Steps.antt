-- The id question step by step: the text has room, so what is written is the canonical text, and a refusal is the
-- reader's.
-- By the entry's two equations, case by case of what the reader shows.
use Prim.Native.Nat.{ℕ, ◌*◌, ◌≤◌, ◌<◌, ◌^◌}
use mathlib.Core.Path.{◌≡◌, refl, sym, ap, ◌∙◌}
use mathlib.Core.Bool.{Bool}
use mathlib.Core.List.{List, [], ◌++◌, append-nil}
use native.Mathlib.Omega.{arith}
use lib.ListN.{length, take, drop, replicate}
use lib.Seq.{take_at}
use borrow.Author.Tests.{le-leb}
use Rattle.scan.specs.Bytes.{IsBytes}
use Rattle.scan.specs.Choice.{Answer, shown, refused, and_then}
use Rattle.scan.specs.Compare.{same_bytes}
use Rattle.buffer.specs.inner.Store.{Wrote}
use Rattle.buffer.specs.Entry.{writes, leaves, written, filled}
use Rattle.event.specs.Event.{Event}
use Rattle.notepack.specs.Unpack.{unpack}
use Rattle.notepack.proofs.Sound.{sound}
use Rattle.notepack.proofs.Seen.{seen}
use Rattle.canonical.specs.Canonical.{canonical}
use Rattle.canonical.proofs.Whole.{canonical_most}
use Rattle.sha256.specs.declared.Words.{Words}
use Rattle.sha256.specs.declared.Hash.{Hash}
use Rattle.sha256.specs.Message.{digest, digest_bytes}
use Rattle.sha256.specs.Pieces.{started, added_to, finish_of}
use Rattle.sha256.proofs.WordLaws.{length_digest}
use Rattle.sha256.proofs.Filling.{written_front}
use Rattle.sha256.proofs.Joining.{message_digest}
use Rattle.identity.specs.Identity.{belongs}

-- the canonical text of what is shown, at the start of the scratch
pub record Text (s : List ℕ) (n : ℕ) (d' : List ℕ) : Type 0 where
  pub event : Event
  pub shows : unpack s ≡ shown event
  pub id : event.id ≡ take 32 s
  pub text : take n d' ≡ canonical event
  pub short : length (take n d') < 2 ^ 61

module _ (s d : List ℕ) (bytes : IsBytes s) (room : length s ≤ 65_536 → 3 * length s ≤ length d) where
  text_fits : (e : Event) → unpack s ≡ shown e → length (canonical e) ≤ length d
  text_fits e u = let g = sound s bytes e u in omega (arith, canonical_most s bytes e u, room g.short)

  -- a refusal is the reader's
  pub refused_told : {n q : ℕ} → refused n q ≡ writes canonical (unpack s) d → refused n q ≡ belongs s
  unfolding belongs written
  refused_told {n} {q} e = go (unpack s) refl e
    where
      go : (x : Answer Event) → unpack s ≡ x → refused n q ≡ writes canonical x d → refused n q ≡ and_then x (λ (a : Event). shown (same_bytes a.id (digest (canonical a))))
      go (shown a) u f =
          let g : refused n q ≡ shown (length (canonical a)) = rw (le-leb (length (canonical a)) (length d) (text_fits a u)) at f in
          let z : ◌≡◌ {A = ℕ} 0 1 = cc in
          absurd (omega arith)
      go (refused m p) u f =
          let a : n ≡ m = cc in
          let b : q ≡ p = cc in
          rw (a, b)

  -- else the text is there
  pub written_text : {n : ℕ} {d' : List ℕ} → shown n ≡ writes canonical (unpack s) d → d' ≡ leaves canonical (unpack s) d → Text s n d'
  unfolding written filled
  written_text {n} {d'} e f = go (unpack s) refl e f
    where
      go : (x : Answer Event) → unpack s ≡ x → shown n ≡ writes canonical x d → d' ≡ leaves canonical x d → Text s n d'
      go (shown a) u g h =
          let fits = le-leb (length (canonical a)) (length d) (text_fits a u) in
          let k : shown n ≡ shown (length (canonical a)) = rw fits at g in
          let size : n ≡ length (canonical a) = cc in
          let left : d' ≡ canonical a ++ drop (length (canonical a)) d = rw fits at h in
          let text : take n d' ≡ canonical a = ap (take n) left ∙ take_at (canonical a) (drop (length (canonical a)) d) n (sym size) in
          let most = canonical_most s bytes a u in
          let short = (sound s bytes a u).short in
          record { event = a; shows = u; id = (seen s bytes a u).id; text = text; short = omega (arith, ap length text, most, short) }
      go (refused m p) u g h = let z : ◌≡◌ {A = ℕ} 0 1 = cc in absurd (omega arith)

-- and its digest decides
pub digest_decides : {s x y : List ℕ} {b : Bool} (n : ℕ) (d : List ℕ) → Text s n d → x ≡ take 32 s → y ≡ take n d → b ≡ same_bytes x (digest y) → shown b ≡ belongs s
unfolding belongs
digest_decides {y = y} n d t f g e =
    let h = ap (λ (l : List ℕ). same_bytes l (digest y)) (f ∙ sym t.id) in
    let k = ap (λ (l : List ℕ). same_bytes t.event.id (digest l)) (g ∙ t.text) in
    rw t.shows (ap shown (e ∙ h ∙ k))

-- ---- the digest

-- of a text in one piece
pub one_digest : (m : List ℕ) {s h : Hash} {x : Answer (List ℕ)} → length m < 2 ^ 61 → s ≡ started → h ≡ added_to s m → x ≡ finish_of h → x ≡ shown (digest m)
one_digest m short a b c = c ∙ ap finish_of (b ∙ ap (λ (z : Hash). added_to z m) a) ∙ message_digest m short

-- its bytes, written into a buffer of their length
digest_copied : (w : Words) {d : List ℕ} {r : ℕ} → Wrote (replicate 32 0) 0 (digest_bytes w) d r → d ≡ digest_bytes w
digest_copied w e =
    let n = length_digest w in
    let k : drop {A = ℕ} (length (digest_bytes w)) (replicate 32 0) ≡ [] = rw n in
    (written_front e (omega (arith, n))).0 ∙ ap (λ (l : List ℕ). digest_bytes w ++ l) k ∙ append-nil (digest_bytes w)

-- compared
pub compared : (w : Words) (id m : List ℕ) {d : List ℕ} {b : Bool} {r : ℕ} → shown (digest_bytes w) ≡ shown (digest m) → Wrote (replicate 32 0) 0 (digest_bytes w) d r
    → b ≡ same_bytes id d → b ≡ same_bytes id (digest m)
compared w id m e f g = let same : digest_bytes w ≡ digest m = cc in g ∙ ap (same_bytes id) (digest_copied w f ∙ same)
