-- `is_digest` says whether bytes are the digest of a text: the state began, took the text whole and was finished.
-- By the law of a message in one piece, which is never too long here.
use Prim.Native.Nat.{ℕ}
use mathlib.Core.Path.{◌≡◌, sym, ap, ◌∙◌}
use native.Mathlib.Omega.{arith}
use Rattle.sha256.specs.inner.Answers.{finish_told}
use Rattle.identity.proofs.Steps.{one_digest, compared}
use Rattle.identity.proofs.is_digest.Goals as goal

pub returns-in-Some : goal.returns-in-Some
returns-in-Some c =
    let a = c.args in
    let e = one_digest a.text.now c.requires c.start.ensures c.add.ensures c.finish.ensures in
    compared _ a.id.now a.text.now (ap finish_told (sym c.in-Some.is) ∙ e) c.put_words.ensures c.same_bytes.ensures

-- this does not happen
pub returns-in-None : goal.returns-in-None
returns-in-None c =
    let a = c.args in
    let e = one_digest a.text.now c.requires c.start.ensures c.add.ensures c.finish.ensures in
    let f = ap finish_told (sym c.in-None.is) ∙ e in
    let z : ◌≡◌ {A = ℕ} 0 1 = cc in
    absurd (omega arith)
