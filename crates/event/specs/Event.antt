-- What an event is, and when it is valid (docs/RULES.md, part 1; "rules 1" for short, and so everywhere). Assumes
-- nothing.
use Rattle.std.specs.Prelude.{ℕ, ◌≤◌, ◌≡◌, List, length}
use Rattle.scan.specs.Bytes.{All, IsBytes}
use Rattle.utf8.specs.Utf8.{Utf8}

-- a text is its bytes
abbrev pub Text : Type 0
Text = List ℕ

-- a tag is its texts
abbrev pub Tag : Type 0
Tag = List Text

pub record Event : Type 0 where
  pub id : List ℕ
  pub pubkey : List ℕ
  pub sig : List ℕ
  pub created_at : ℕ
  pub kind : ℕ
  pub tags : List Tag
  pub content : Text

-- n bytes
pub record Bytes (n : ℕ) (l : List ℕ) : Type 0 where
  pub count : length l ≡ n
  pub each : IsBytes l

-- one or more texts, up to 255, each well-formed
pub record ValidTag (t : Tag) : Type 0 where
  pub one : 1 ≤ length t
  pub few : length t ≤ 255
  pub texts : All Utf8 t

pub record Valid (e : Event) : Type 0 where
  pub id32 : Bytes 32 e.id
  pub pubkey32 : Bytes 32 e.pubkey
  pub sig64 : Bytes 64 e.sig
  pub time : e.created_at ≤ 9_223_372_036_854_775
  pub kind16 : e.kind ≤ 65_535
  pub few : length e.tags ≤ 1_000
  pub each : All ValidTag e.tags
  pub text : Utf8 e.content

-- Equality of events is `≡`; texts are compared as text, byte for byte (`same_bytes` of crate scan decides it).
