-- What is shown of a form (rules 12.9.6 and 12.9.7): of either version what stands at its places, and of a v0 what the
-- event has that it lays out. `proofs/Seen` shows both. Assumes nothing.
use Rattle.std.specs.Prelude.{ℕ, ◌+◌, ◌-◌, ◌≤◌, ◌≡◌, List, length, pos}
use Rattle.scan.specs.Choice.{shown, and_then}
use Rattle.moment.specs.Moment.{signed_of, millis_of}
use Rattle.event.specs.Event.{Tag, Event}
use Rattle.notepack.specs.declared.Part.{Part}
use Rattle.notepack.specs.Unpack.{bytes_of}
use Rattle.notepack.specs.Views.{nth}
use Rattle.pointer.specs.Pointer.{word_at, version_in, entries_in, Form, form_at}
use Rattle.pointer.specs.Entries.{pointer_texts, pointer_element}
use Rattle.pointer.specs.Named.{each_from, part_named, tag_named}

-- a part lies in the data, between the first 72 bytes and the last 96
pub record InData (s : List ℕ) (p : Part) : Type 0 where
  pub from : 72 ≤ p.at
  pub ends : p.at + p.len ≤ length s - 96

-- a form of either version
pub record Stands (s : List ℕ) (f : Form) : Type 0 where
  -- the version is the header's
  pub version : f.version ≡ version_in (word_at s 0)
  -- the kind is the word at 40, the time the signed number that the word at 48 spells
  pub kind : f.kind ≡ word_at s 40
  pub time : f.time ≡ signed_of (word_at s 48)
  -- the content is what the pointer at 56 names
  pub content : f.content ≡ part_named s 56
  -- the tags are as many as the table has pointers that the one at 64 names, each tag what its own table's pointers
  -- name
  pub tags : f.tags ≡ each_from (tag_named s) (entries_in (part_named s 64)) (part_named s 64).at
  -- the content and every text lie in the data
  pub content_inside : InData s f.content
  pub texts_inside : (i j : ℕ) (p : Part) → pointer_element i j s ≡ shown p → InData s p

-- a v0, by the event that it lays out
pub record PointerSeen (s : List ℕ) (e : Event) : Type 0 where
  -- the fields are told
  pub form : Form
  pub told : form_at s ≡ shown form
  pub version : form.version ≡ 0
  -- they are the event's kind, its created_at in milliseconds, its content and the number of its tags
  pub kind : form.kind ≡ e.kind
  pub time : form.time ≡ pos (millis_of e.created_at)
  pub content : bytes_of s form.content ≡ e.content
  pub count : length form.tags ≡ length e.tags
  -- the number of texts in tag i is that of its tag i, or 19 where it has none
  pub texts : (i : ℕ) → pointer_texts i s ≡ and_then (nth i e.tags) (λ (t : Tag). shown (length t))
  -- element j of tag i has its text j of its tag i, or 19 where it has none
  pub element : (i j : ℕ)
      → and_then (pointer_element i j s) (λ (p : Part). shown (bytes_of s p)) ≡ and_then (nth i e.tags) (λ (t : Tag). nth j t)
