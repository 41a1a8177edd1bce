use Rattle.std.proofs.Common.{sym, arith}
use Rattle.mc_item.proofs.MeasureLemmas.{is_rising-short}
use Rattle.mc_item.proofs.config.+is_rising.Goals as goal

pub returns-in-len1 : goal.returns-in-len1
returns-in-len1 t c = sym (is_rising-short c.args.numbers.now (omega arith))
