-- A call that misses is one more.
use Rattle.std.proofs.Common.{arith, inl, length-append, refl, sym, ap, [], None}
use Rattle.mc_item.specs.Answer.{row_of}
use Rattle.mc_item.specs.declared.{answer.Site.Site, command.Command.Command, reply.Room.TheVariants.Keep}
use Rattle.mc_script.specs.Exchanges.{Exchange, Unbegun}
use Rattle.mc_item.specs.declared.fault.Fault.TheVariants.{HistoryFull, NoMemory}
use Rattle.mc_tests.proofs.tests.asking.MissesCalls.command.Goals as goal

pub returns-clause-ok : goal.returns-clause-ok
returns-clause-ok g c =
    let site : Site = record { stripe = 0; stripes = 1; sizes = [] } in
    let reply_to = λ (command : Command). ((row_of site 0 None command 0).answer Keep).reply in
    record {
      long = refl;
      kinds = (record { site = site; versions = 0; found = None; moment = 0; room = Keep; reply_is = sym (ap reply_to c.in-Get.is) }, tt);
      noted = record { at = λ calls is. omega (arith, length-append {A = Exchange}) };
      turns = omega arith;
      caller = refl;
    }

pub returns-in_default-clause-err : goal.returns-in_default-clause-err
returns-in_default-clause-err g c = record { at = λ calls is. (Unbegun NoMemory, inl refl, is) }

pub returns-then-self-ge-MOST-clause-err : goal.returns-then-self-ge-MOST-clause-err
returns-then-self-ge-MOST-clause-err g c = record { at = λ calls is. (Unbegun HistoryFull, inl refl, is) }
