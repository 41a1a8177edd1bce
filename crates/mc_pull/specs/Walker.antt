-- Who walks along the lists of a class.
use Rattle.std.specs.Prelude.{ℕ}
use Rattle.mc_item.specs.declared.{item.ClassNo.ClassNo, item.Who.Who}
use Rattle.mc_rule.specs.Segment.{Rule}
use Rattle.mc_segment.specs.ClassState.{ClassView}
use Rattle.mc_pull.specs.declared.context.Context.{Context}

-- a walker: the call that it walks for, its time, and the class with its rule
pub record Walker : Type 0 where
  pub who : Who
  pub moment : ℕ
  pub class : ClassNo
  pub rule : Rule

-- the walker of a call in a class; the class's history and room don't matter
abbrev pub walker_of : ClassView → Who → ℕ → Walker
walker_of c who moment = record { who = who; moment = moment; class = c.number; rule = c.rule }

-- the walker of a call's steps in a class
abbrev pub walker_by : ClassView → Context → Walker
walker_by c context = walker_of c context.turn.who context.turn.moment
