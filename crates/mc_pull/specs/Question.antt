-- What is asked about an entry, and when it may be asked.
use Rattle.std.specs.Prelude.{ℕ, ◌≡◌, List, Some, slice_get}
use Rattle.mc_item.specs.declared.{class_event.ClassEvent.ClassEvent, config.Config.Config, item.StripeNo.StripeNo, item.Who.Who, lists.Entry.Entry}
use Rattle.mc_item.specs.declared.{lists.Seg.Seg, lists.Seg.TheVariants.Hot, lists.Seg.TheVariants.Cold}
use Rattle.mc_item.specs.declared.class_event.ClassEvent.TheVariants as events
use Rattle.mc_item.specs.{Config.IsBounded, Measure.stripe_of}
use Rattle.mc_rule.specs.{Lists.list_of, Lists.lists_of, Lists.IsFull, Segment.rule_of, Segment.IsNearTail, Lawful.IsIn, Lawful.IsListed}
use Rattle.mc_segment.specs.declared.surveying.Survey.{Survey}
use Rattle.mc_segment.specs.{ClassState.ClassView, ClassState.chunks_for, Entries.entry_of}
use Rattle.mc_stripe.specs.StripeState.{Stripe}
use Rattle.mc_pull.specs.declared.{judge.Ask.Ask, judge.Mode.Mode, judge.Mode.TheVariants.Plain, judge.Mode.TheVariants.Evict, judge.Mode.TheVariants.Force}
use Rattle.mc_pull.specs.declared.{judge.Judge.Judge, judge.Judge.TheVariants.Walk, judge.Judge.TheVariants.Dead, judge.Judge.TheVariants.Hit}
use Rattle.mc_pull.specs.declared.context.Context.{Context}

-- a question about an entry: who asks, which entry, what, and at which time
pub record Question : Type 0 where
  pub who : Who
  pub number : ℕ
  pub judge : Judge
  pub moment : ℕ

-- the question with these parts
abbrev pub question : Who → ℕ → Judge → ℕ → Question
question who number judge moment = record { who = who; number = number; judge = judge; moment = moment }

-- the question about an entry that a call's step asks
abbrev pub question_by : Context → ℕ → Judge → Question
question_by context number judge = question context.turn.who number judge context.turn.moment

-- the question that an `Ask` puts
abbrev pub question_of : Ask → Question
question_of ask = question ask.who ask.number ask.judge.now ask.moment

-- the class was made with this configuration, which was checked
pub record IsClassOf (config : Config) (c : ClassView) : Type 0 where
  pub bounded : IsBounded config
  pub chunks : c.chunks ≡ chunks_for config c.number
  pub max_events : c.max_events ≡ config.max_events
  pub keeps_events : c.keeps_events ≡ config.keeps_events
  pub rule : c.rule ≡ rule_of config

-- the stripe was made with this configuration
pub record IsStripeOf (config : Config) (s : Stripe) : Type 0 where
  pub stripes : s.site.stripes ≡ config.stripes
  pub sizes : s.site.sizes ≡ config.sizes
  pub limit : s.limit ≡ config.max_events
  pub keeps_events : s.keeps_events ≡ config.keeps_events

-- the history has this survey at its place, by this caller's call and of this time
abbrev pub IsSurveyIn : List ClassEvent → Who → ℕ → Survey → Type 0
IsSurveyIn history who moment survey =
    slice_get history survey.place ≡ Some (events.Surveyed (record { who = who; moment = moment; total = survey.total; cold_age = survey.cold_age }))

-- a list may be walked like this: any list by a survey of the call, COLD to take an entry, or HOT to force one out
abbrev pub MayWalk : ClassView → Seg → Mode → Who → ℕ → Type 0
MayWalk c s (Plain survey) who moment = IsSurveyIn c.history who moment survey
MayWalk c s Evict who moment = s ≡ Cold
MayWalk c s Force who moment = s ≡ Hot

-- an entry is taken or forced out only of a full class
abbrev pub IsFullFor : ClassView → Mode → Type 0
IsFullFor c (Plain survey) = Unit {0}
IsFullFor c Evict = IsFull c.chunks c.history
IsFullFor c Force = IsFull c.chunks c.history

-- an entry may be judged on a walk: it is in the list, just the passed ones are nearer to the tail, and the mode fits
pub record MayJudgeOn (c : ClassView) (who : Who) (number moment : ℕ) (s : Seg) (mode : Mode) (passed : List ℕ) : Type 0 where
  pub listed : IsIn s number (lists_of c.history)
  pub near : IsNearTail number (list_of (lists_of c.history) s) passed
  pub walk : MayWalk c s mode who moment
  pub full : IsFullFor c mode

-- an entry may be judged like this: on a walk; only for whether its item is dead, if it is in a list; for a hit, if it is in COLD
abbrev pub MayJudgeBy : ClassView → Who → ℕ → ℕ → Judge → Type 0
MayJudgeBy c who number moment (Walk s mode passed) = MayJudgeOn c who number moment s mode passed
MayJudgeBy c who number moment Dead = IsListed number (lists_of c.history)
MayJudgeBy c who number moment Hit = IsIn Cold number (lists_of c.history)

-- this question may be put to the class
abbrev pub MayJudge : ClassView → Question → Type 0
MayJudge c q = MayJudgeBy c q.who q.number q.moment q.judge

-- the question may be put to this class and this stripe, which were made with its configuration
pub record IsAsked (c : ClassView) (s : Stripe) (ask : Ask) : Type 0 where
  pub class : IsClassOf ask.config.now c
  pub stripe : IsStripeOf ask.config.now s
  pub judge : MayJudge c (question_of ask)

-- the entry that a question names, if it is there, has a key of this stripe
pub record HasKeyOf (stripe : StripeNo) (config : Config) (c : ClassView) (q : Question) : Type 0 where
  pub key : (e : Entry) → entry_of q.number (lists_of c.history) ≡ Some e → stripe_of e.key config.stripes ≡ stripe
