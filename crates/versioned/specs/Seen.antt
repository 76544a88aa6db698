-- What is seen of a packed input of either form is what the event that it shows has (rules 4.9 and 17.6).
-- Each answer in the event's own words; `proofs/Seen` shows it. Assumes nothing.
use Rattle.std.specs.Prelude.{ℕ, ◌≡◌, Bool, true, List, length, take, drop}
use Rattle.scan.specs.Choice.{shown, and_then}
use Rattle.scan.specs.Bytes.{IsBytes}
use Rattle.event.specs.Event.{Tag, Event}
use Rattle.notepack.specs.declared.Part.{Part}
use Rattle.notepack.specs.declared.Head.{Head}
use Rattle.notepack.specs.Unpack.{text_of, packed_at, unpack}
use Rattle.notepack.specs.Views.{numbers_of, content_of, nth, texts_in, element_of, view}
use Rattle.versioned.specs.Versioned.{start_of, given}
use Rattle.versioned.specs.Views.{packed_given, numbers_given, texts_given, element_given, content_given}

pub record SeenGiven (bare : Bool) (s : List ℕ) (e : Event) : Type 0 where
  -- the bare bytes start, and the numbers are told
  pub start : ℕ
  pub starts : start_of bare s ≡ shown start
  pub head : Head
  pub numbers : numbers_given bare s ≡ shown head
  -- they are the event's created_at and kind
  pub time : head.created_at ≡ e.created_at
  pub kind : head.kind ≡ e.kind
  -- the length of its content, and the number of its tags
  pub size : head.content.len ≡ length e.content
  pub count : head.tag_count ≡ length e.tags
  -- its id, pubkey and sig are the first 128 bytes of the bare ones
  pub id : e.id ≡ take 32 (drop start s)
  pub pubkey : e.pubkey ≡ take 32 (drop 32 (drop start s))
  pub sig : e.sig ≡ take 64 (drop 64 (drop start s))
  -- the view of the content is its content
  pub content : view s (content_given bare s) ≡ e.content
  -- the number of texts in tag i is that of its tag i, or 19 where it has none
  pub texts : (i : ℕ) → texts_given bare i s ≡ and_then (nth i e.tags) (λ (t : Tag). shown (length t))
  -- element j of tag i has its text j of its tag i, or 19 where it has none
  pub element : (i j : ℕ)
      → and_then (element_given bare i j s) (λ (p : Part). shown (text_of s p)) ≡ and_then (nth i e.tags) (λ (t : Tag). nth j t)

-- What is asked of an accepted input of either form is what its event has.
abbrev pub ViewsGiven : Type 0
ViewsGiven = (bare : Bool) (s : List ℕ) → IsBytes s → (e : Event) → given bare unpack s ≡ shown e → SeenGiven bare s e

-- What is asked of a bare input is what is asked of its bytes: with the word "bare" no answer is another than without a
-- word (rule 17.2).
pub record ViewsBare (s : List ℕ) : Type 0 where
  pub packed : packed_given true s ≡ packed_at s
  pub numbers : numbers_given true s ≡ numbers_of s
  pub content : content_given true s ≡ content_of s
  pub texts : (i : ℕ) → texts_given true i s ≡ texts_in i s
  pub element : (i j : ℕ) → element_given true i j s ≡ element_of i j s
