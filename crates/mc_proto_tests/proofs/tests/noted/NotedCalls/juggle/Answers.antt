-- The maintainer's call is one more.
use Rattle.std.proofs.Common.{arith, inl, length-append, refl}
use Rattle.mc_script.specs.Exchanges.{Exchange, Unbegun}
use Rattle.mc_proto_tests.proofs.tests.noted.NotedCalls.juggle.Goals as goal

pub returns-in-Ok-clause-ok : goal.returns-in-Ok-clause-ok
returns-in-Ok-clause-ok g c = record {
  long = refl;
  kinds = (tt, tt);
  noted = record { at = λ calls is. omega (arith, length-append {A = Exchange}, c.in-Ok.ensures.ok) };
  turns = omega (arith, c.in-Ok.ensures.ok);
  caller = refl;
}

pub returns-in-Err-clause-err : goal.returns-in-Err-clause-err
returns-in-Err-clause-err g c = record { at = λ calls is. (Unbegun _, inl refl, omega (arith, is, c.in-Err.ensures.err)) }
