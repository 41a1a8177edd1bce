use Rattle.mc_script.specs.Exchanges.{Crawls}
use Rattle.mc_driver.proofs.{CutCallLemmas.crawl_broke, EnteredCallLemmas.Gains, EnteredCallLemmas.gains}
use Rattle.mc_driver.proofs.SharedCallLemmas.{call_failed, call_gains, crawled_kinds, crawled_ok, goes_on}
use Rattle.mc_driver.proofs.caller.CallerCalls.crawl.Goals as goal
use Rattle.mc_driver.proofs.caller.CallerCalls.crawl.Goals.{After-crawl}
use Rattle.mc_driver.proofs.caller.CallerCalls.crawl.Given.{Over}

gained : (g : Over) (c : After-crawl g) → Gains c.args.self.now.pass.turn c.args.self.now.pass.made c.crawl.new.pass.made
gained g c =
    let old = c.args.self.now.pass in
    let new = c.crawl.new.pass in
    call_gains g.N.Named.config old new c.crawl.result c.crawl.ensures.crawled c.crawl.ensures.cut (λ histogram by. gains _ old new by.account) (λ fault till. gains _ old new till.account)

pub returns-clause-ok : goal.returns-clause-ok
returns-clause-ok g c =
    let at = (goal.at.returns-clause-ok g c).After-crawl in
    crawled_ok g.N.Named.config c.args.self.now.pass c.crawl.new.pass c.crawl.ensures.caller c.crawl.ensures.grows.seen c.requires.may (gained g at)
    c.args.class c.args.moment c.crawl.result c.crawl.ensures.turn.1 c.requires.there c.crawl.ensures.crawled

pub returns-clause-kinds : goal.returns-clause-kinds
returns-clause-kinds g c =
    crawled_kinds g.N.Named.config c.args.class c.args.self.now.pass c.crawl.new.pass c.args.moment c.crawl.result c.crawl.ensures.crawled

pub returns-clause-err : goal.returns-clause-err
returns-clause-err g c =
    let at = (goal.at.returns-clause-err g c).After-crawl in
    let old = c.args.self.now.pass in
    let new = c.crawl.new.pass in
    call_failed g.N.Named.config old new c.crawl.ensures.caller c.crawl.ensures.grows.seen c.requires.may (gained g at) (Crawls c.args.class) c.args.moment c.crawl.result c.crawl.ensures.cut
    (λ fault till. (till.noted, λ before. crawl_broke g.N.Named.config c.args.class old new c.args.moment fault c.requires.there c.crawl.ensures.grows.seen before till))

pub returns-clause-caller : goal.returns-clause-caller
returns-clause-caller g c =
    goes_on g.N.Named.config c.args.self.now.pass c.crawl.new.pass c.crawl.result c.requires.may c.crawl.ensures.caller c.crawl.ensures.turn.0
