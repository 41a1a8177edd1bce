use Rattle.mc_script.specs.Exchanges.{Juggles}
use Rattle.mc_driver.proofs.{CutCallLemmas.juggling_broke, EnteredCallLemmas.Gains, EnteredCallLemmas.gains}
use Rattle.mc_driver.proofs.SharedCallLemmas.{call_failed, call_gains, goes_on, juggled_ok}
use Rattle.mc_driver.proofs.caller.CallerCalls.juggle.Goals as goal
use Rattle.mc_driver.proofs.caller.CallerCalls.juggle.Goals.{After-juggle}
use Rattle.mc_driver.proofs.caller.CallerCalls.juggle.Given.{Over}

gained : (g : Over) (c : After-juggle g) → Gains c.args.self.now.pass.turn c.args.self.now.pass.made c.juggle.new.pass.made
gained g c =
    let old = c.args.self.now.pass in
    let new = c.juggle.new.pass in
    call_gains g.N.Named.config old new c.juggle.result c.juggle.ensures.juggled c.juggle.ensures.cut (λ moves by. gains _ old new by.account) (λ fault till. gains _ old new till.account)

pub returns-clause-ok : goal.returns-clause-ok
returns-clause-ok g c =
    let at = (goal.at.returns-clause-ok g c).After-juggle in
    juggled_ok g.N.Named.config c.args.self.now.pass c.juggle.new.pass c.juggle.ensures.caller c.juggle.ensures.grows.seen c.requires.may (gained g at)
    c.args.class c.args.moment c.juggle.result c.juggle.ensures.turn.1 c.requires.there c.juggle.ensures.juggled

pub returns-clause-err : goal.returns-clause-err
returns-clause-err g c =
    let at = (goal.at.returns-clause-err g c).After-juggle in
    let old = c.args.self.now.pass in
    let new = c.juggle.new.pass in
    call_failed g.N.Named.config old new c.juggle.ensures.caller c.juggle.ensures.grows.seen c.requires.may (gained g at) (Juggles c.args.class) c.args.moment c.juggle.result c.juggle.ensures.cut
    (λ fault till. (till.noted, juggling_broke g.N.Named.config c.args.class old new c.args.moment fault till c.requires.there c.juggle.ensures.grows.seen))

pub returns-clause-caller : goal.returns-clause-caller
returns-clause-caller g c =
    goes_on g.N.Named.config c.args.self.now.pass c.juggle.new.pass c.juggle.result c.requires.may c.juggle.ensures.caller c.juggle.ensures.turn.0
