-- What walks leave of a gate, one after another.
use Rattle.std.proofs.Common.{ℕ, ◌≡◌, List, [], ◌∷◌, refl, sym, subst, ◌∙◌}
use Rattle.mc_item.specs.declared.{class_event.ClassEvent.ClassEvent, config.Config.Config, item.Who.Who}
use Rattle.mc_segment.specs.{ClassCalls.surveyed_event, ClassState.ClassView}
use Rattle.mc_segment.specs.declared.surveying.Survey.{Survey}
use Rattle.mc_pull.specs.declared.context.Context.{Context}
use Rattle.mc_pull.specs.{Gates.IsServedBy, Gates.LeavesGate, Gates.MayJuggle, Gates.MayWalkBy, Growth.GainsEvents, Settled.class_with, Walker.Walker, Walker.walker_by}
use Rattle.mc_pull.proofs.GrowthLemmas.{class_later, kept_later, survey_later}

module _ {S : Type 0} (references : S → List ℕ) (Serves : S → Config → Who → ClassView → Type 0) (Keeps : Walker → S → List ClassEvent → S → List ClassEvent → Type 0) (context : Context) where
  -- what a call's walks leave of a gate and a class
  abbrev pub Leaves : S → ClassView → S → ClassView → Type 0
  Leaves gate c gate_new c_new = LeavesGate references Serves Keeps context.config.now (walker_by c context) gate c gate_new c_new

  pub leaves_itself : (gate : S) (c : ClassView) → IsServedBy Serves context.config.now context.turn.who gate c → Leaves gate c gate c
  leaves_itself gate c served = record { holds = refl; serves = served.serves; kept = λ first begun k. k }

  pub leaves_both : (gate mid last : S) (a b c : ClassView) → GainsEvents a b → Leaves gate a mid b → Leaves mid b last c → Leaves gate a last c
  leaves_both gate mid last a b c grows first more = record {
    holds = more.holds ∙ first.holds;
    serves = more.serves;
    kept = λ begin begun k. kept_later Keeps context.turn.who context.turn.moment a b grows mid last b.history c.history more.kept begin begun (first.kept begin begun k);
  }

  -- a gate that walks have left still serves the class for their call
  pub served_later : (gate gate_new : S) (c c_new : ClassView) → IsServedBy Serves context.config.now context.turn.who gate c → GainsEvents c c_new → Leaves gate c gate_new c_new
      → IsServedBy Serves context.config.now context.turn.who gate_new c_new
  served_later gate gate_new c c_new served grows left = record { class = class_later context.config.now c c_new served.class grows; serves = left.serves }

  -- walks may still go by the survey
  pub walk_later : (gate gate_new : S) (c c_new : ClassView) (survey : Survey) → MayWalkBy Serves context gate c survey → GainsEvents c c_new → Leaves gate c gate_new c_new
      → MayWalkBy Serves context gate_new c_new survey
  walk_later gate gate_new c c_new survey may grows left = record {
    served = served_later gate gate_new c c_new may.served grows left;
    there = survey_later c c_new context.turn.who context.turn.moment survey grows may.there;
  }

  -- a survey by the call itself changes nothing of the gate
  pub leaves_surveyed : (gate : S) (c c_new : ClassView) → MayJuggle Serves Keeps context gate c → c_new ≡ class_with c (surveyed_event c context.turn.who context.turn.moment ∷ []) c_new.room
      → Leaves gate c gate c_new
  leaves_surveyed gate c c_new may is = record {
    holds = refl;
    serves = subst (Serves gate context.config.now context.turn.who) (sym is) (may.outlasts.survey gate context.config.now c context.turn.who context.turn.moment c_new.room may.served.serves);
    kept = λ first begun k. subst (λ (v : ClassView). Keeps (walker_by c context) first begun gate v.history) (sym is) (may.surveys first begun gate c.history _ refl refl k);
  }
