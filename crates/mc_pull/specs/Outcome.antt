-- The table of the segments: what becomes of an entry, and whether a walk ends there (own, modelled on items.c).
use Rattle.std.specs.Prelude.{ℕ, Bool, true, false, ◌||◌, nat_lt, if◌then◌else◌}
use Rattle.mc_item.specs.declared.{class_event.Why.Why, lists.Entry.Entry, lists.Seg.Seg, lists.Seg.TheVariants.Hot, lists.Seg.TheVariants.Warm}
use Rattle.mc_item.specs.declared.{lists.Seg.TheVariants.Cold}
use Rattle.mc_item.specs.declared.class_event.Why.TheVariants as whys
use Rattle.mc_rule.specs.{Lists.Lists, Lists.bytes_of, Segment.Rule, Segment.age_of, Segment.limit_of, Segment.greatest_age_of}
use Rattle.mc_segment.specs.declared.surveying.Survey.{Survey}
use Rattle.mc_pull.specs.declared.{judge.Mode.Mode, judge.Mode.TheVariants.Plain, judge.Mode.TheVariants.Evict, judge.Mode.TheVariants.Force, judge.Done.Done}
use Rattle.mc_pull.specs.declared.judge.Done.TheVariants as done

-- the bytes of a segment exceed its limit by a survey
abbrev pub is_over : Rule → Lists → Seg → Survey → Bool
is_over rule l s survey = nat_lt (limit_of rule s survey.total) (bytes_of l s)

-- the age of an entry exceeds the greatest age of its segment by a survey
abbrev pub is_old : Rule → Seg → Survey → ℕ → Entry → Bool
is_old rule s survey moment e = nat_lt (greatest_age_of rule s survey.cold_age) (age_of moment e)

-- an entry is due to move by a survey: its segment has too many bytes, or it is too old; other modes have no survey
abbrev pub is_due : Rule → Lists → Seg → Mode → ℕ → Entry → Bool
is_due rule l s (Plain survey) moment e = is_over rule l s survey || is_old rule s survey moment e
is_due rule l s Evict moment e = false
is_due rule l s Force moment e = false

-- what becomes of an entry, by its segment, the walk's mode, and whether its item is dead, active and due: the first row that
-- fits decides, and the last lets it stay
abbrev pub outcome_of : Seg → Mode → (dead active due : Bool) → Done
outcome_of s mode true active due = done.Reclaimed
outcome_of Hot mode false true due = done.ToWarm
outcome_of Hot Force false false due = done.ToCold
outcome_of Hot (Plain survey) false false true = done.ToCold
outcome_of Warm (Plain survey) false false true = done.ToCold
outcome_of Warm (Plain survey) false true due = done.WithinWarm
outcome_of Cold Evict false active due = done.Evicted
outcome_of Cold (Plain survey) false true due = done.ToWarm
outcome_of s mode false active due = done.Stayed

-- why an entry moves to COLD: its segment has too many bytes by the survey, or else it is too old; without a survey it is forced
abbrev pub cold_why : Rule → Lists → Seg → Mode → Why
cold_why rule l s (Plain survey) = if is_over rule l s survey then whys.Over survey.place else whys.Old survey.place
cold_why rule l s Evict = whys.Forced
cold_why rule l s Force = whys.Forced

-- whether a walk ends after this was done with an entry
abbrev pub is_end : Done → Bool
is_end done.Reclaimed = false
is_end done.WithinWarm = false
is_end done.Stranger = false
is_end done.ToWarm = true
is_end done.ToCold = true
is_end done.Evicted = true
is_end done.Stayed = true
is_end (done.Alive expiry) = true
