-- Rounds of walks, and how room is made in a full class.
use Rattle.std.specs.Prelude.{ℕ, zero, suc, ◌≡◌, ◌≤◌, ◌++◌, List, [], Bool, true, false, nat_lt}
use Rattle.mc_item.specs.declared.{class_event.ClassEvent.ClassEvent, config.Config.Config, item.Who.Who, lists.Seg.Seg, lists.Seg.TheVariants.Hot}
use Rattle.mc_item.specs.declared.{lists.Seg.TheVariants.Cold}
use Rattle.mc_rule.specs.Lists.{chunks_from, lists_of, count_of}
use Rattle.mc_segment.specs.ClassState.{ClassView}
use Rattle.mc_pull.specs.declared.{judge.Mode.Mode, judge.Mode.TheVariants.Evict, judge.Mode.TheVariants.Force, looking.Answer.Answer, pulled.Pulled.Pulled}
use Rattle.mc_pull.specs.{Pulled.did_something, Walk.pull, Walk.class_at, Walk.IsWalk}
use Rattle.mc_pull.specs.declared.context.Context.{Context}

-- what is fixed for rounds: the class, the caller's call, its time and the configuration
pub record Rounds : Type 0 where
  pub class : ClassView
  pub who : Who
  pub moment : ℕ
  pub config : Config

-- the rounds with these parts; the class's history and room don't matter
abbrev pub rounds : ClassView → Who → ℕ → Config → Rounds
rounds class who moment config = record { class = class_at class []; who = who; moment = moment; config = config }

-- the rounds of a call's steps in a class
abbrev pub rounds_by : ClassView → Context → Rounds
rounds_by class context = rounds class context.turn.who context.turn.moment context.config.now

-- a walk along a list: from one history, by these answers, to another history, with these counts
abbrev pub Walks : Rounds → Seg → Mode → List ClassEvent → List Answer → List ClassEvent → Pulled → Type 0
Walks r s mode before xs after pulled = IsWalk (pull (class_at r.class before) s mode r.who r.moment r.config) xs after pulled

-- this many steps, one after the other, by all these answers
abbrev pub Repeats : {S : Type 0} → (S → List Answer → S → Type 0) → ℕ → S → List Answer → S → Type 0
Repeats Step zero first xs last = (xs ≡ []) × (last ≡ first)
Repeats {S} Step (suc n) first xs last =
    (mid : S) × (ys : List Answer) × (zs : List Answer) × Repeats Step n first ys mid × Step mid zs last × (xs ≡ ys ++ zs)

-- the class with this history has a free chunk
abbrev pub is_free : ClassView → List ClassEvent → Bool
is_free c history = nat_lt (count_of (lists_of history)) (chunks_from c.chunks history)

-- HOT is pulled by force only if COLD gave nothing
abbrev pub ForcesHot : Rounds → Bool → List ClassEvent → List Answer → List ClassEvent → Type 0
ForcesHot r true before xs after = (xs ≡ []) × (after ≡ before)
ForcesHot r false before xs after = (pulled : Pulled) × Walks r Hot Force before xs after pulled

-- a round without a free chunk: COLD is pulled to evict an entry, and if that did nothing, HOT to force one out
pub record IsRoomRound (r : Rounds) (before : List ClassEvent) (xs : List Answer) (after : List ClassEvent) : Type 0 where
  pub full : is_free r.class before ≡ false
  pub cold : List Answer
  pub hot : List Answer
  pub between : List ClassEvent
  pub pulled : Pulled
  pub cold_is : Walks r Cold Evict before cold between pulled
  pub hot_is : ForcesHot r (did_something pulled) between hot after
  pub answers : xs ≡ cold ++ hot

-- at most ten rounds, until a chunk is free; `found` is whether one is
pub record IsRoom (r : Rounds) (before : List ClassEvent) (xs : List Answer) (after : List ClassEvent) (found : Bool) : Type 0 where
  pub times : ℕ
  pub few : times ≤ 10
  pub each : Repeats (IsRoomRound r) times before xs after
  pub found_is : found ≡ is_free r.class after
  pub tries : found ≡ false → times ≡ 10
