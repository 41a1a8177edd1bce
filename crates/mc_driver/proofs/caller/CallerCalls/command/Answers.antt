use Rattle.mc_script.specs.Exchanges.{Asks}
use Rattle.mc_driver.proofs.{CutCallLemmas.command_broke, EnteredCallLemmas.Gains, EnteredCallLemmas.gains}
use Rattle.mc_driver.proofs.SharedCallLemmas.{call_failed, call_gains, goes_on, replied_ok}
use Rattle.mc_driver.proofs.caller.CallerCalls.command.Goals as goal
use Rattle.mc_driver.proofs.caller.CallerCalls.command.Goals.{After-command}
use Rattle.mc_driver.proofs.caller.CallerCalls.command.Given.{Over}

gained : (g : Over) (c : After-command g) → Gains c.args.self.now.pass.turn c.args.self.now.pass.made c.command.new.pass.made
gained g c =
    let old = c.args.self.now.pass in
    let new = c.command.new.pass in
    call_gains g.N.Named.config old new c.command.result c.command.ensures.replied c.command.ensures.cut (λ reply by. gains _ old new by.account.enters) (λ fault till. gains _ old new till.account)

pub returns-clause-ok : goal.returns-clause-ok
returns-clause-ok g c =
    let at = (goal.at.returns-clause-ok g c).After-command in
    replied_ok g.N.Named.config c.args.self.now.pass c.command.new.pass c.command.ensures.caller c.command.ensures.grows.seen c.requires.may (gained g at)
    c.args.command c.args.moment c.command.result c.command.ensures.turn.1 c.command.ensures.replied

pub returns-clause-err : goal.returns-clause-err
returns-clause-err g c =
    let at = (goal.at.returns-clause-err g c).After-command in
    let old = c.args.self.now.pass in
    let new = c.command.new.pass in
    call_failed g.N.Named.config old new c.command.ensures.caller c.command.ensures.grows.seen c.requires.may (gained g at) (Asks c.args.command) c.args.moment c.command.result c.command.ensures.cut
    (λ fault cut. (
      cut.noted,
      λ before. command_broke g.N.Named.config old new c.args.command c.args.moment fault c.requires.may.some c.command.ensures.grows.seen before cut,
    ))

pub returns-clause-caller : goal.returns-clause-caller
returns-clause-caller g c =
    goes_on g.N.Named.config c.args.self.now.pass c.command.new.pass c.command.result c.requires.may c.command.ensures.caller c.command.ensures.turn.0
