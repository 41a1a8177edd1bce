-- What walks ask of a gate, and what they leave of it.
use Rattle.std.specs.Prelude.{ℕ, ◌≡◌, List}
use Rattle.mc_item.specs.declared.{class_event.ClassEvent.ClassEvent, config.Config.Config, item.StripeNo.StripeNo, item.Who.Who}
use Rattle.mc_segment.specs.ClassState.{ClassView}
use Rattle.mc_segment.specs.declared.surveying.Survey.{Survey}
use Rattle.mc_pull.specs.declared.context.Context.{Context}
use Rattle.mc_pull.specs.{Growth.KeepsSince, Juggle.KeepsSurveys, Juggle.OutlastsSurveys, Walker.Walker, Walker.walker_by}
use Rattle.mc_pull.specs.Question.{HasKeyOf, IsClassOf, IsSurveyIn, MayJudge, Question}

-- a gate may be used for a call's walks in this class: the class was made with this configuration, and the gate serves it for the call
pub record IsServedBy {S : Type 0} (Serves : S → Config → Who → ClassView → Type 0) (config : Config) (who : Who) (gate : S) (c : ClassView)
    : Type 0 where
  pub class : IsClassOf config c
  pub serves : Serves gate config who c

-- a gate may be asked for this stripe: it serves the class for the call that asks, the question may be put, and the entry has a key of
-- the stripe
pub record MayLook {S : Type 0} (Serves : S → Config → Who → ClassView → Type 0) (config : Config) (gate : S) (stripe : StripeNo) (c : ClassView)
    (q : Question) : Type 0 where
  pub served : IsServedBy Serves config q.who gate c
  pub judge : MayJudge c q
  pub key : HasKeyOf stripe config c q

-- a call may walk by this survey: the gate serves the class for it, and the class has the survey, by this call and of its time
pub record MayWalkBy {S : Type 0} (Serves : S → Config → Who → ClassView → Type 0) (context : Context) (gate : S) (c : ClassView)
    (survey : Survey) : Type 0 where
  pub served : IsServedBy Serves context.config.now context.turn.who gate c
  pub there : IsSurveyIn c.history context.turn.who context.turn.moment survey

-- a call may juggle the class: the gate serves the class for it, and both that and what the gate keeps outlast a survey by the call
pub record MayJuggle {S : Type 0} (Serves : S → Config → Who → ClassView → Type 0)
    (Keeps : Walker → S → List ClassEvent → S → List ClassEvent → Type 0) (context : Context) (gate : S) (c : ClassView) : Type 0 where
  pub served : IsServedBy Serves context.config.now context.turn.who gate c
  pub surveys : KeepsSurveys Keeps (walker_by c context)
  pub outlasts : OutlastsSurveys Serves

-- what walks leave of a gate: it holds the same references, serves the class as that is now for the walks' call, and keeps what was
-- kept before
pub record LeavesGate {S : Type 0} (references : S → List ℕ) (Serves : S → Config → Who → ClassView → Type 0)
    (Keeps : Walker → S → List ClassEvent → S → List ClassEvent → Type 0) (config : Config) (w : Walker) (gate : S) (c : ClassView) (gate_new : S)
    (c_new : ClassView) : Type 0 where
  pub holds : references gate_new ≡ references gate
  pub serves : Serves gate_new config w.who c_new
  pub kept : KeepsSince (Keeps w) gate c.history gate_new c_new.history
