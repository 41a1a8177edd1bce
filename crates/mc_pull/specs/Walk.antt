-- A walk along a list from its tail, as a function of a gate's answers.
use Rattle.std.specs.Prelude.{ℕ, ◌≡◌, ◌<◌, ◌≤◌, ◌-◌, ◌++◌, List, [], ◌∷◌, Bool, true, false, ◌&&◌, not, nat_lt, nat_le, Option, Some, None, length}
use Rattle.std.specs.Prelude.{min, reverse, take}
use Rattle.std.specs.Option.{IsSomeAnd}
use Rattle.mc_item.specs.declared.{class_event.ClassEvent.ClassEvent, config.Config.Config, item.Who.Who, lists.Entry.Entry, lists.Seg.Seg}
use Rattle.mc_item.specs.Measure.{stripe_of}
use Rattle.mc_rule.specs.{Lists.chunks_from, Lists.lists_of, Lists.list_of, Lists.count_of, Lists.from_tail, Segment.numbers_of}
use Rattle.mc_segment.specs.ClassState.{ClassView}
use Rattle.mc_pull.specs.declared.{judge.Done.Done, judge.Judge.TheVariants.Walk, judge.Mode.Mode, judge.Mode.TheVariants.Plain, judge.Mode.TheVariants.Evict}
use Rattle.mc_pull.specs.declared.{judge.Mode.TheVariants.Force, looking.Answer.Answer, looking.Judged.Judged, pulled.Pulled.Pulled}
use Rattle.mc_pull.specs.{Looks.done_in, Looks.events_if, Looks.IsJudgedIf, Pulled.none_pulled, Pulled.counts_if, Pulled.is_end_if}
use Rattle.mc_pull.specs.Question.{MayWalk, Question, question}
use Rattle.mc_pull.specs.declared.context.Context.{Context}

-- what is fixed for a walk: the class, the list, the mode, the caller's call, its time and the configuration
pub record Pull : Type 0 where
  pub class : ClassView
  pub seg : Seg
  pub mode : Mode
  pub who : Who
  pub moment : ℕ
  pub config : Config

-- the class with this history; its room doesn't matter to a walk
abbrev pub class_at : ClassView → List ClassEvent → ClassView
class_at c history = record c { history = history; room = 0 }

-- the walk with these parts
abbrev pub pull : ClassView → Seg → Mode → Who → ℕ → Config → Pull
pull class seg mode who moment config = record { class = class_at class class.history; seg = seg; mode = mode; who = who; moment = moment; config = config }

-- the pull of a call's step along a list
abbrev pub pull_by : ClassView → Seg → Mode → Context → Pull
pull_by class seg mode context = pull class seg mode context.turn.who context.turn.moment context.config.now

-- the state of a walk: the class's history, how many entries it may still look at, its counts, and whether it has ended
pub record Way : Type 0 where
  pub history : List ClassEvent
  pub left : ℕ
  pub pulled : Pulled
  pub ended : Bool

-- the state with these parts
abbrev pub way : List ClassEvent → ℕ → Pulled → Bool → Way
way history left pulled ended = record { history = history; left = left; pulled = pulled; ended = ended }

-- the start of a walk: it looks at no more than five entries, and at no more than the list has
abbrev pub start_of : Pull → Way
start_of p = way p.class.history (min (length (list_of (lists_of p.class.history) p.seg)) 5) none_pulled false

-- the entry that a walk looks at next: just those that it passed are nearer to the tail
abbrev pub next_entry : Pull → Way → Option Entry
next_entry p w = from_tail (list_of (lists_of w.history) p.seg) w.pulled.passed

-- the numbers of the entries that a walk passed, from the tail on
abbrev pub numbers_passed : Pull → Way → List ℕ
numbers_passed p w = take w.pulled.passed (reverse (numbers_of (list_of (lists_of w.history) p.seg)))

-- what a walk asks about an entry
abbrev pub question_at : Pull → Way → Entry → Question
question_at p w e = question p.who e.number (Walk p.seg p.mode (numbers_passed p w)) p.moment

-- a walk is still wanted: one that looks for a chunk only while the class is full. `chunks` is the limit with which it opened
abbrev pub is_wanted : Mode → ℕ → List ClassEvent → Bool
is_wanted (Plain survey) chunks history = true
is_wanted Evict chunks history = nat_le (chunks_from chunks history) (count_of (lists_of history))
is_wanted Force chunks history = nat_le (chunks_from chunks history) (count_of (lists_of history))

-- a call's walk may look at one more entry: its list may be walked so, it is still wanted, has passed at most four entries, and
-- the list has more than those
pub record MayLookNext (c : ClassView) (seg : Seg) (mode : Mode) (context : Context) (pulled : Pulled) : Type 0 where
  pub walk : MayWalk c seg mode context.turn.who context.turn.moment
  pub wanted : is_wanted mode c.chunks c.history ≡ true
  pub few : pulled.passed ≤ 4
  pub there : pulled.passed < length (list_of (lists_of c.history) seg)

-- a walk goes on: it hasn't ended, may look at one more entry, and is still wanted
abbrev pub is_going : Pull → Way → Bool
is_going p w = not w.ended && (nat_lt 0 w.left && is_wanted p.mode p.class.chunks w.history)

-- the events that an answer adds to the class
abbrev pub events_at : Pull → Way → Option Entry → Option Judged → List ClassEvent
events_at p w None j = []
events_at p w (Some e) j = events_if (class_at p.class w.history) (question_at p w e) j

-- the state of a walk after one more answer
abbrev pub step : Pull → Way → Answer → Way
step p w a = way (w.history ++ events_at p w (next_entry p w) a.judged) (w.left - 1) (counts_if (done_in a.judged) w.pulled) (is_end_if (done_in a.judged))

-- the state of a walk after these answers
abbrev pub run : Pull → Way → List Answer → Way
run p w [] = w
run p w (a ∷ xs) = run p (step p w a) xs

-- an answer fits: the walk goes on, it asked for the stripe of the next entry's key, and if that was reached, it judged the entry
pub record IsAnswer (p : Pull) (w : Way) (a : Answer) : Type 0 where
  pub goes : is_going p w ≡ true
  pub asks : IsSomeAnd (next_entry p w) (λ e. (a.stripe ≡ stripe_of e.key p.config.stripes)
      × IsJudgedIf p.config a.stripe (class_at p.class w.history) (question_at p w e) a.judged)

-- a walk's next look was answered, and this was done: the gate's answers gained one that fits, and it leaves the class's history so
pub record IsLooked (p : Pull) (w : Way) (xs ys : List Answer) (history : List ClassEvent) (made : Option Done) : Type 0 where
  pub answer : Answer
  pub fits : IsAnswer p w answer
  pub answers : ys ≡ xs ++ answer ∷ []
  pub history_is : history ≡ (step p w answer).history
  pub made_is : made ≡ done_in answer.judged

-- each of these answers in turn fits the walk
abbrev pub IsAlong : Pull → Way → List Answer → Type 0
IsAlong p w [] = Unit {0}
IsAlong p w (a ∷ xs) = IsAnswer p w a × IsAlong p (step p w a) xs

-- a whole walk with these answers, one for each look: it ends where it has to, and leaves this history and these counts
pub record IsWalk (p : Pull) (xs : List Answer) (history : List ClassEvent) (pulled : Pulled) : Type 0 where
  pub along : IsAlong p (start_of p) xs
  pub ends : is_going p (run p (start_of p) xs) ≡ false
  pub history_is : history ≡ (run p (start_of p) xs).history
  pub pulled_is : pulled ≡ (run p (start_of p) xs).pulled

-- a walk that a fault ended after these answers, when it was to look at one more entry, leaves this history
pub record IsBrokenWalk (p : Pull) (xs : List Answer) (history : List ClassEvent) : Type 0 where
  pub along : IsAlong p (start_of p) xs
  pub goes : is_going p (run p (start_of p) xs) ≡ true
  pub history_is : history ≡ (run p (start_of p) xs).history
