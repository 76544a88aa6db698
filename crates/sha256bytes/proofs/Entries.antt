-- The ways in which an entry over a lent state ends, and what it then answers and leaves. The premises are the facts of
-- the code on each way; a state that was measured fits (`fitted`).
use Prim.Native.Nat.{ℕ, ◌≤◌, ◌<◌}
use mathlib.Core.Path.{◌≡◌, refl, sym, ap, ◌∙◌}
use mathlib.Core.Bool.{Bool, true, false}
use mathlib.Core.List.{List}
use native.Mathlib.Omega.{arith}
use lib.ListN.{length, take, drop}
use lib.Seq.{take-take}
use lib.Dec.{leb}
use borrow.Author.Tests.{le-leb, lt-leb, leb-true}
use Rattle.scan.specs.Choice.{Answer, shown, refused}
use Rattle.scan.proofs.Many.{pick_shown}
use Rattle.buffer.specs.inner.Store.{Wrote}
use Rattle.buffer.specs.Entry.{written, filled, writes, leaves}
use Rattle.buffer.proofs.EntryLaws.{short, fitted}
use Rattle.littleendian.specs.LittleEndian.{number_of}
use Rattle.sha256.specs.declared.Words.{Words}
use Rattle.sha256.specs.declared.Hash.{Hash}
use Rattle.sha256.specs.Message.{digest_bytes}
use Rattle.sha256.specs.Pieces.{started, with_piece, is_too_long, added_to, finish_of}
use Rattle.sha256.proofs.WordLaws.{length_digest}
use Rattle.sha256.proofs.Joining.{pending_started, pending_added}
use Rattle.sha256.proofs.Filling.{not_long}
use Rattle.sha256bytes.specs.StateBytes.{chain_of, state_of, bytes_of_state, lent_state, add_in, finish_in}
use Rattle.sha256bytes.proofs.StateLaws.{length_state}

-- ---- the state of lent bytes

-- its three parts, read by the code
pub state_made : (b : List ℕ) {v : Words} {p : List ℕ} {n : ℕ} → v ≡ chain_of b → p ≡ take 64 (drop 40 b) → n ≡ number_of (take 8 (take 8 (drop 32 b)))
    → record { chain = v; pending = p; count = n } ≡ state_of b
unfolding state_of
state_made b e f g =
    let n = g ∙ ap number_of (take-take 8 8 (drop 32 b) (omega arith)) in
    λ i. record { chain = e i; pending = f i; count = n i }

pub lent : (b : List ℕ) {s : Hash} → 104 ≤ length b → s ≡ state_of b → lent_state b ≡ shown s
unfolding lent_state
lent b h e = rw (le-leb 104 (length b) h) (ap shown (sym e))

-- too few bytes: 11 with 104
pub few : (b : List ℕ) → length b < 104 → refused 11 104 ≡ lent_state b
unfolding lent_state
few b h = sym (rw (lt-leb 104 (length b) h) refl)

-- a state that was found has its bytes
room : (b : List ℕ) {s : Hash} → shown s ≡ lent_state b → 104 ≤ length b
unfolding lent_state
room b {s} h = leb-true 104 (length b) (pick_shown (leb 104 (length b)) (shown (state_of b)) 11 104 s (sym h)).0

-- ---- starting

pub started_long : 104 ≡ length (bytes_of_state started)
started_long = sym (length_state started pending_started)

pub started_made : {b d : List ℕ} {s : Hash} {r : ℕ} → s ≡ started → 104 ≤ length b → Wrote b 0 (bytes_of_state s) d r
    → (shown r ≡ written (bytes_of_state started) b) × (d ≡ filled (bytes_of_state started) b)
started_made {b} {d} {s} {r} e h w = fitted started_long h (rw e at w)

-- ---- one piece more

module _ (b p : List ℕ) where
  -- what it answers and leaves
  abbrev pub Adds : Answer ℕ → List ℕ → Type 0
  Adds a d = (a ≡ writes bytes_of_state (add_in b p) b) × (d ≡ leaves bytes_of_state (add_in b p) b)

  pub add_refused : {n q : ℕ} → refused n q ≡ lent_state b → Adds (refused n q) b
  unfolding add_in
  add_refused h = rw (sym h) (refl, refl)

  module _ {s : Hash} {t : Bool} (h : shown s ≡ lent_state b) (f : t ≡ is_too_long s (length p)) where
    pub add_long : t ≡ true → Adds (refused 35 0) b
    unfolding add_in
    add_long g = rw (sym h, ← f, g) (refl, refl)

    pub add_made : t ≡ false → {u : Hash} {d : List ℕ} {r : ℕ} → u ≡ added_to s p → Wrote b 0 (bytes_of_state u) d r → Adds (shown r) d
    unfolding add_in
    add_made g {u} {d} {r} k w =
        let m = k ∙ (not_long s p t f g).0 in
        let n = sym (length_state (with_piece s p) (pending_added s p)) in
        let x : Wrote b 0 (bytes_of_state (with_piece s p)) d r = rw m at w in
        rw (sym h, ← f, g) (fitted n (room b h) x)

-- ---- finishing

module _ (b out : List ℕ) where
  abbrev pub Finishes : Answer ℕ → List ℕ → Type 0
  Finishes a d = (a ≡ writes (λ (l : List ℕ). l) (finish_in b) out) × (d ≡ leaves (λ (l : List ℕ). l) (finish_in b) out)

  pub finish_refused : {n q : ℕ} → refused n q ≡ lent_state b → Finishes (refused n q) out
  unfolding finish_in
  finish_refused h = rw (sym h) (refl, refl)

  module _ {s : Hash} (h : shown s ≡ lent_state b) where
    told : {a : Answer (List ℕ)} → a ≡ finish_of s → finish_in b ≡ a
    unfolding finish_in
    told f = rw (sym h) (sym f)

    pub finish_long : refused 35 0 ≡ finish_of s → Finishes (refused 35 0) out
    finish_long f = rw (told f) (refl, refl)

    module _ (v : Words) (f : shown (digest_bytes v) ≡ finish_of s) where
      pub finish_short : length out < 32 → Finishes (refused 11 32) out
      finish_short k = rw (told f) (short (digest_bytes v) out (sym (length_digest v)) k)

      pub finish_made : 32 ≤ length out → {d : List ℕ} {r : ℕ} → Wrote out 0 (digest_bytes v) d r → Finishes (shown r) d
      finish_made k w = rw (told f) (fitted (sym (length_digest v)) k w)
