use Rattle.mc_script.specs.Exchanges.{Limits}
use Rattle.mc_driver.proofs.{CutCallLemmas.limit_broke, EnteredCallLemmas.Gains, EnteredCallLemmas.gains}
use Rattle.mc_driver.proofs.SharedCallLemmas.{call_failed, call_gains, goes_on, limited_ok}
use Rattle.mc_driver.proofs.caller.CallerCalls.limit.Goals as goal
use Rattle.mc_driver.proofs.caller.CallerCalls.limit.Goals.{After-chunks}
use Rattle.mc_driver.proofs.caller.CallerCalls.limit.Given.{Over}

gained : (g : Over) (c : After-chunks g) → Gains c.args.self.now.pass.turn c.args.self.now.pass.made c.chunks.new.pass.made
gained g c =
    let old = c.args.self.now.pass in
    let new = c.chunks.new.pass in
    call_gains g.N.Named.config old new c.chunks.result c.chunks.ensures.limited c.chunks.ensures.cut (λ done by. gains _ old new by.account) (λ fault till. gains _ old new till.limited.account)

pub returns-clause-ok : goal.returns-clause-ok
returns-clause-ok g c = λ moment.
    let at = (goal.at.returns-clause-ok g c).After-chunks in
    limited_ok g.N.Named.config c.args.self.now.pass c.chunks.new.pass c.chunks.ensures.caller c.chunks.ensures.grows.seen c.requires.may (gained g at)
    c.args.class c.args.chunks moment c.chunks.result c.chunks.ensures.turn.1 c.requires.there c.chunks.ensures.limited

pub returns-clause-err : goal.returns-clause-err
returns-clause-err g c = λ moment.
    let at = (goal.at.returns-clause-err g c).After-chunks in
    let old = c.args.self.now.pass in
    let new = c.chunks.new.pass in
    call_failed g.N.Named.config old new c.chunks.ensures.caller c.chunks.ensures.grows.seen c.requires.may (gained g at) (Limits c.args.class c.args.chunks) moment c.chunks.result c.chunks.ensures.cut
    (λ fault till. (
      till.limited.noted,
      λ before. limit_broke g.N.Named.config c.args.class old new c.args.chunks moment fault c.requires.there c.chunks.ensures.grows.seen before till,
    ))

pub returns-clause-caller : goal.returns-clause-caller
returns-clause-caller g c =
    goes_on g.N.Named.config c.args.self.now.pass c.chunks.new.pass c.chunks.result c.requires.may c.chunks.ensures.caller c.chunks.ensures.turn.0
