-- What is seen of packed bytes is what the event that they show has (rule 4.9).
-- Each answer in the event's own words; `proofs/Seen` shows it. Assumes nothing.
use Rattle.std.specs.Prelude.{ℕ, ◌≡◌, List, length, take, drop}
use Rattle.scan.specs.Choice.{shown, and_then}
use Rattle.event.specs.Event.{Tag, Event}
use Rattle.notepack.specs.declared.Part.{Part}
use Rattle.notepack.specs.declared.Head.{Head}
use Rattle.notepack.specs.Unpack.{text_of}
use Rattle.notepack.specs.Views.{numbers_of, content_of, nth, element_of, texts_in, view}

pub record Seen (s : List ℕ) (e : Event) : Type 0 where
  -- the numbers are told
  pub head : Head
  pub numbers : numbers_of s ≡ shown head
  -- they are the event's created_at and kind
  pub time : head.created_at ≡ e.created_at
  pub kind : head.kind ≡ e.kind
  -- the length of its content, and the number of its tags
  pub size : head.content.len ≡ length e.content
  pub count : head.tag_count ≡ length e.tags
  -- its id, pubkey and sig are the first 128 bytes
  pub id : e.id ≡ take 32 s
  pub pubkey : e.pubkey ≡ take 32 (drop 32 s)
  pub sig : e.sig ≡ take 64 (drop 64 s)
  -- the view of the content is its content
  pub content : view s (content_of s) ≡ e.content
  -- the number of texts in tag i is that of its tag i, or 19 where it has none
  pub texts : (i : ℕ) → texts_in i s ≡ and_then (nth i e.tags) (λ (t : Tag). shown (length t))
  -- element j of tag i has its text j of its tag i, or 19 where it has none
  pub element : (i j : ℕ)
      → and_then (element_of i j s) (λ (p : Part). shown (text_of s p)) ≡ and_then (nth i e.tags) (λ (t : Tag). nth j t)
