-- Juggling that does nothing is one call more.
use Rattle.std.proofs.Common.{arith, inl, length-append, refl}
use Rattle.mc_script.specs.Exchanges.{Exchange, Unbegun}
use Rattle.mc_item.specs.declared.fault.Fault.TheVariants.{HistoryFull}
use Rattle.mc_tests.proofs.tests.asking.MissesCalls.juggle.Goals as goal

pub returns-clause-ok : goal.returns-clause-ok
returns-clause-ok g c = record {
  long = refl;
  kinds = (tt, tt);
  noted = record { at = λ calls is. omega (arith, length-append {A = Exchange}) };
  turns = omega arith;
  caller = refl;
}

pub returns-then-self-ge-MOST-clause-err : goal.returns-then-self-ge-MOST-clause-err
returns-then-self-ge-MOST-clause-err g c = record { at = λ calls is. (Unbegun HistoryFull, inl refl, is) }
