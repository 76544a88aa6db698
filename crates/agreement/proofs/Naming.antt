-- Names of letters alone stand for themselves, so which values have such a name is found by computation.
use mathlib.Core.Path.{◌≡◌, refl, sym, ◌∙◌, subst}
use mathlib.Core.Bool.{Bool, true, false}
use mathlib.Core.List.{List, [], ◌∷◌}
use Rattle.scan.specs.Choice.{pick}
use Rattle.scan.proofs.Step.{pick_true, false_true}
use Rattle.scan.specs.Compare.{same_bytes}
use Rattle.event.specs.Event.{Text}
use Rattle.scan.proofs.CompareLaws.{same_same, bytes_same}
use Rattle.jsontext.specs.Grammar as json
use Rattle.jsonevent.specs.Meaning.{Values, no_value, named, other}
use Rattle.jsontext.proofs.Compact.{letters, name_chars}

-- whether every name is of letters alone
abbrev pub plain_names : json.Members → Bool
plain_names json.no_member = true
plain_names (json.member n v m) = pick (letters n) (plain_names m) false

-- the values of the members whose name is spelled t
abbrev pub plain_values : Text → json.Members → List json.Json
plain_values t json.no_member = []
plain_values t (json.member n v m) = pick (same_bytes n t) (v ∷ plain_values t m) (plain_values t m)

pub plain_values_lem : (t : Text) (m : json.Members) → plain_names m ≡ true → Values t m (plain_values t m)
plain_values_lem t json.no_member h = no_value
plain_values_lem t (json.member n v m) h =
    let p = pick_true (letters n) (plain_names m) h in
    go (same_bytes n t) refl (name_chars n p.0) (plain_values_lem t m p.1)
  where
    go : (b : Bool) → same_bytes n t ≡ b → json.Chars n n → Values t m (plain_values t m)
        → Values t (json.member n v m) (pick b (v ∷ plain_values t m) (plain_values t m))
    go true e c r = named (subst (json.Chars n) (bytes_same n t e) c) r
    go false e c r = other c (λ q. false_true (sym e ∙ rw q (same_same t))) r
