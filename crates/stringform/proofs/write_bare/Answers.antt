-- `write_bare` tells the reader's refusal, moved; else it writes the string form of the strict bytes: of the input
-- itself where that is strict, or through a scratch that has room for them.
use Prim.Native.Nat.{ℕ}
use mathlib.Core.Path.{ap, ◌∙◌}
use mathlib.Core.List.{List, ◌++◌}
use borrow.Author.Tests.{not-true}
use Rattle.event.proofs.Handed.{handed_on}
use Rattle.stringform.specs.StringForm.{front, event_string}
use Rattle.stringform.proofs.Steps.{walked_event, strict_already, wrote_event, pieces_fit, pieces_most, wrote_pieces, bare_refused, tells}
use Rattle.stringform.proofs.write_bare.Goals as goal

pub returns-in_err-h : goal.returns-in_err-h
returns-in_err-h c =
    let a = c.args in
    let k = tells (event_string a.bare) a.out.now (bare_refused a.bare a.b.now _ c.walk_packed.ensures c.in_err-h.ensures) in
    record { result_value = rw (handed_on _ c.from_residual.ensures) k.0; out_after = k.1 }

pub returns-then-not-t : goal.returns-then-not-t
returns-then-not-t c =
    let a = c.args in
    let g = walked_event a.b.now (λ i. (c.type_inv.b i).fits) a.bare _ c.walk_packed.ensures c.in_ok-h.ensures in
    let e = strict_already a.bare a.b.now _ g c.if-t-b.true (not-true _ c.if-not-t.true) in
    let k = wrote_event a.bare a.b.now _ g a.out.now (c.requires ∙ ap (λ (l : List ℕ). front a.bare ++ l) e) (c.put_string.ensures.result_value, c.put_string.ensures.out_after) in
    record { result_value = k.0; out_after = k.1 }

pub put_event_string-requires-clause-room : goal.put_event_string-requires-clause-room
put_event_string-requires-clause-room c =
    let a = c.args in
    let g = walked_event a.b.now (λ i. (c.type_inv.b i).fits) a.bare _ c.walk_packed.ensures c.in_ok-h.ensures in
    pieces_fit a.bare a.b.now _ g 512 c.if-t-lt512.true

pub returns-then-t-lt512 : goal.returns-then-t-lt512
returns-then-t-lt512 c =
    let a = c.args in
    let g = walked_event a.b.now (λ i. (c.type_inv.b i).fits) a.bare _ c.walk_packed.ensures c.in_ok-h.ensures in
    let k = wrote_pieces a.bare a.b.now _ g a.out.now (c.put_event_string.ensures.result_value, c.put_event_string.ensures.out_after) in
    record { result_value = k.0; out_after = k.1 }

pub put_event_string-requires-then-t-lt8192-clause-room : goal.put_event_string-requires-then-t-lt8192-clause-room
put_event_string-requires-then-t-lt8192-clause-room c =
    let a = c.args in
    let g = walked_event a.b.now (λ i. (c.type_inv.b i).fits) a.bare _ c.walk_packed.ensures c.in_ok-h.ensures in
    pieces_fit a.bare a.b.now _ g 8192 c.if-t-lt8192.true

pub returns-then-t-lt8192 : goal.returns-then-t-lt8192
returns-then-t-lt8192 c =
    let a = c.args in
    let g = walked_event a.b.now (λ i. (c.type_inv.b i).fits) a.bare _ c.walk_packed.ensures c.in_ok-h.ensures in
    let k = wrote_pieces a.bare a.b.now _ g a.out.now (c.put_event_string-then-t-lt8192.ensures.result_value, c.put_event_string-then-t-lt8192.ensures.out_after) in
    record { result_value = k.0; out_after = k.1 }

pub put_event_string-requires-else-t-lt8192-clause-room : goal.put_event_string-requires-else-t-lt8192-clause-room
put_event_string-requires-else-t-lt8192-clause-room c =
    let a = c.args in
    let g = walked_event a.b.now (λ i. (c.type_inv.b i).fits) a.bare _ c.walk_packed.ensures c.in_ok-h.ensures in
    pieces_most a.bare a.b.now _ g

pub returns-else-t-lt8192 : goal.returns-else-t-lt8192
returns-else-t-lt8192 c =
    let a = c.args in
    let g = walked_event a.b.now (λ i. (c.type_inv.b i).fits) a.bare _ c.walk_packed.ensures c.in_ok-h.ensures in
    let k = wrote_pieces a.bare a.b.now _ g a.out.now (c.put_event_string-else-t-lt8192.ensures.result_value, c.put_event_string-else-t-lt8192.ensures.out_after) in
    record { result_value = k.0; out_after = k.1 }
