-- `finish` refuses a message that is too long, and else tells the words behind the padding.
use Rattle.std.proofs.Common.{[], arith}
use Rattle.sha256.proofs.Filling.{not_long}
use Rattle.sha256.proofs.finish.Goals as goal

pub finish_words-requires : goal.finish_words-requires
finish_words-requires c = omega (arith, (not_long c.args.s [] _ c.is_too_long.ensures c.if-is_too_long.false).1)
