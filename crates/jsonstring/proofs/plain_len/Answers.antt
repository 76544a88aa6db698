-- `plain_len` passes 64 digits at once, the plain bytes of a block at once, or plain bytes one by one.
-- Each way out is one law.
use Rattle.std.proofs.Common.{◌∙◌, ap}
use Rattle.scan.specs.inner.Blocks.{before_stop}
use Rattle.jsonstring.specs.inner.Plain.{is_special}
use Rattle.jsonstring.proofs.PlainLaws.{before_take}
use Rattle.jsonstring.proofs.plain_len.Goals as goal

pub returns : goal.returns
returns c = c.plain_count.ensures ∙ ap (before_stop is_special) c.part-2.ensures ∙ before_take 80 c.args.t.now
