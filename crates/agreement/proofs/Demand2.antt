-- Demand 2, whole.
-- Each sentence by the laws of the crate that it is about.
use mathlib.Core.Path.{◌≡◌}
use Prim.Native.Nat.{ℕ}
use mathlib.Core.List.{List, [], ◌∷◌, ◌++◌, append_assoc}
use Rattle.scan.specs.Ascii.{ascii}
use Rattle.hexdigits.specs.Hex.{hexes}
use Rattle.decimal.specs.Decimal.{decimal}
use Rattle.escape.specs.Escape.{canonical_byte, escaped}
use Rattle.event.specs.Event.{Event, Valid}
use Rattle.jsontags.specs.TagText.{quoted, array, tags_text}
use Rattle.escape.specs.declared.Escaping.TheVariants.{Canonical}
use Rattle.jsontags.proofs.Texts.{hexes_stand}
use Rattle.canonical.specs.Canonical.{canonical}
use Rattle.notepack.specs.Strict.{pack}
use Rattle.notepack.proofs.Sound.{sound}
use Rattle.notepack.proofs.Complete.{complete, one_event}
use Rattle.notepack.proofs.StrictLaws.{reads_again, equal_exactly}
use Rattle.notepack.proofs.Seen.{seen}
use Rattle.strict.proofs.Laws.{strict_exactly}
use Rattle.jsontext.proofs.OneValue.{one_value}
use Rattle.jsonevent.proofs.Whole as whole
use Rattle.jsonevent.proofs.OneEvent.{event_one}
use Rattle.agreement.specs.Demand2.{Demand2}
use Rattle.agreement.proofs.Entries.{fits}
use Rattle.agreement.proofs.Stored.{elements_decide, strict_elements}

-- six items between brackets, with all brackets to the right
items_right : (key time kind tags content : List ℕ)
    → array (ascii "0" ∷ (0x22 ∷ (key ++ (0x22 ∷ []))) ∷ time ∷ kind ∷ tags ∷ (0x22 ∷ (content ++ (0x22 ∷ []))) ∷ [])
    ≡ ascii "[0,\"" ++ key ++ ascii "\"," ++ time ++ ascii "," ++ kind ++ ascii "," ++ tags ++ ascii ",\"" ++ content ++ ascii "\"]"
items_right key time kind tags content = simp append_assoc

-- the canonical text byte by byte, as NIP-01 has it: no white space, each text escaped
pub canonical_text : (e : Event) → Valid e
    → canonical e
    ≡ ascii "[0,\""
    ++ hexes e.pubkey
    ++ ascii "\","
    ++ decimal e.created_at
    ++ ascii ","
    ++ decimal e.kind
    ++ ascii ","
    ++ tags_text canonical_byte e.tags
    ++ ascii ",\""
    ++ escaped canonical_byte e.content
    ++ ascii "\"]"
unfolding canonical quoted
canonical_text e v =
    let h : escaped canonical_byte (hexes e.pubkey) ≡ hexes e.pubkey = hexes_stand Canonical v.pubkey32.each in
    rw h (items_right (hexes e.pubkey) (decimal e.created_at) (decimal e.kind) (tags_text canonical_byte e.tags) (escaped canonical_byte e.content))

-- THE demand
pub demand_2 : Demand2
demand_2 =
    record {
      reads_layout = λ s bytes e. ((λ r. let h = sound s bytes e r in (h.lays, h.valid, h.short)), (λ h. complete s e h.0 h.1 h.2));
      one_laid_out = λ s d e g h v w. one_event g h v w;
      views_event = seen;
      writes_strict = λ s d e r h. fits pack d r h;
      one_strict = equal_exactly;
      reads_again = λ s bytes e r. reads_again s e r bytes;
      strict_question = strict_exactly;
      elements_decide = elements_decide;
      strict_elements = strict_elements;
      writes_canonical = λ s d e r h. fits canonical d r h;
      reads_json = λ s e. ((λ r. let h = whole.sound r in (h.value, h.text, h.event, h.short)), (λ h. whole.complete h.1 h.2 h.3));
      one_tree = λ s v w g h. one_value g h;
      one_meaning = λ v d e g h. event_one g h;
    }
