-- The faults that judging an entry may return.
use Rattle.std.specs.Prelude.{◌<◌, ◌≤◌, ◌⊎◌, length}
use Rattle.mc_item.specs.declared.{fault.Fault.Fault, fault.Fault.TheVariants.NoMemory, fault.Fault.TheVariants.HistoryFull}
use Rattle.mc_segment.specs.ClassState.{ClassView, HasPlaces, MayRefuse}
use Rattle.mc_stripe.specs.StripeState.{Stripe}
use Rattle.mc_pull.specs.declared.judge.Done.{Done}
use Rattle.mc_pull.specs.declared.judge.Done.TheVariants as done

-- both histories have a place for one more event
pub record HavePlaces (c : ClassView) (s : Stripe) : Type 0 where
  pub class : HasPlaces c 1
  pub stripe : length s.history < s.limit

-- the fault that may be returned if each history is to gain an event: `HistoryFull` if one is full, else `NoMemory`
abbrev pub MayRefuseBoth : ClassView → Stripe → Fault → Type 0
MayRefuseBoth c s HistoryFull = (c.max_events ≤ length c.history) ⊎ (s.limit ≤ length s.history)
MayRefuseBoth c s NoMemory = HavePlaces c s

-- the fault that may be returned if this is to be done: none if no event is to be made
abbrev pub MayRefuseFor : ClassView → Stripe → Done → Fault → Type 0
MayRefuseFor c s done.Reclaimed fault = MayRefuseBoth c s fault
MayRefuseFor c s done.ToWarm fault = MayRefuseBoth c s fault
MayRefuseFor c s done.WithinWarm fault = MayRefuseBoth c s fault
MayRefuseFor c s done.Evicted fault = MayRefuseBoth c s fault
MayRefuseFor c s done.ToCold fault = MayRefuse c 1 fault
MayRefuseFor c s done.Stayed fault = ⊥
MayRefuseFor c s (done.Alive expiry) fault = ⊥
MayRefuseFor c s done.Stranger fault = ⊥

-- the fault that may be returned if a class and a stripe may gain events: `HistoryFull` only if one of them is full
abbrev pub MayFail : ClassView → Stripe → Fault → Type 0
MayFail c s HistoryFull = (c.max_events ≤ length c.history) ⊎ (s.limit ≤ length s.history)
MayFail c s NoMemory = Unit {0}

-- why a judgement failed: what was to be done may be refused like this, and `HistoryFull` means that a history is full as it is left
pub record Refuses (c c_new : ClassView) (s s_new : Stripe) (d : Done) (fault : Fault) : Type 0 where
  pub full : MayFail c_new s_new fault
  pub refusal : MayRefuseFor c s d fault

-- the fault that may be returned if only a class may gain events: `HistoryFull` only if it is full
abbrev pub MayFailAlone : ClassView → Fault → Type 0
MayFailAlone c HistoryFull = c.max_events ≤ length c.history
MayFailAlone c NoMemory = Unit {0}
