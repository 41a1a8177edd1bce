-- A class whose history grew under its lock, as the pass sees it that made the call.
use Rattle.std.proofs.Common.{◌≡◌, ◌≤◌, ◌++◌, ◌∷◌, [], ◌⊎◌, ℕ, List, Result, Ok, Err, sym, ap, ◌∙◌, subst, inl, inr, arith, length}
use Rattle.std.specs.Prelude.{IfErr, IfOk}
use mathlib.Core.List.{IsPrefix}
use Rattle.atomic_table.specs.Seated.{TableId}
use Rattle.mc_item.specs.declared.{config.Config.Config, counts.Moves.Moves, event.Event.Event, fault.Fault.Fault}
use Rattle.mc_item.specs.declared.{fault.Fault.TheVariants.HistoryFull, item.ClassNo.ClassNo}
use Rattle.mc_evidence.specs.{Locks.ClassKeeps, Seen.stripes_seen}
use Rattle.mc_board.specs.Histories.{Grows, list_at}
use Rattle.mc_board.specs.declared.rule.Sight.{Sight}
use Rattle.mc_board.proofs.PrefixLemmas.{prefix_self}
use Rattle.mc_segment.specs.ClassState.{ClassView}
use Rattle.mc_pull.specs.Growth as classes
use Rattle.mc_pull.specs.Rounds.{rounds}
use Rattle.mc_store.specs.{Callers.juggling_of, Passes.PassView, Passes.next_who, Crawls.IsSeenSound, Finals.IsBehindAt, Locked.IsHeldClass, Locked.class_lock}
use Rattle.mc_store.specs.{Accounts.Enters, Accounts.IsOfWalk, Reached.IsSeenState}
use Rattle.mc_store.specs.Calls.{IsJuggledBy, IsJuggledTill, IsSeenGrowOf, IsUnbegun, IsUpkeepCut, IsUpkept}
use Rattle.mc_store.specs.{Full.LacksPlaces, Locked.setting_of, Made.HasNoneMadeBy, Serving.IsShortFor, Serving.MayFailSeen, Sides.ClassSide, Sides.class_told, Walking.class_sight}
use Rattle.mc_store.proofs.AccountLemmas.{whole_shared}
use Rattle.mc_store.proofs.{LockKeepsLemmas.class_sees, ShortHistoryLemmas.short_class, ShortHistoryLemmas.short_grows, SyncedStepLemmas.any_short, SyncedStepLemmas.short_of}

-- what a class's lock keeps is seen by whoever was told of it all
pub seen_sound : (table : TableId) (config : Config) (class : ClassNo) (after : Sight) (s : ClassSide) → IsHeldClass table config s → s.class.number ≡ class
    → list_at after.seen s.lock ≡ class_told s.class.history → Grows s.sight after
    → IsSeenSound config class after
seen_sound table config class after s kept number told all = record {
  history = s.class.history;
  now = ap (λ (k : ℕ). list_at after.seen k) (sym (kept.lock_is ∙ ap (class_lock config) number)) ∙ told;
  sound = subst (λ (n : ClassNo). ClassKeeps (setting_of config) n s.class.history (stripes_seen (list_at after.seen))) number (class_sees table config s after all kept).keeps;
}

-- whoever was told of it all, and learnt all that it has seen, has seen both
pub class_shared : (table : TableId) (config : Config) (s : ClassSide) (after : Sight) → IsHeldClass table config s → list_at after.seen s.lock ≡ class_told s.class.history → Grows s.sight after
    → Grows (class_sight config s) after
class_shared table config s after kept told all =
    let now : list_at after.seen (class_lock config s.class.number) ≡ class_told s.class.history = ap (λ (k : ℕ). list_at after.seen k) (sym kept.lock_is) ∙ told in
    whole_shared s.sight {y = after} (class_lock config s.class.number) (class_told s.class.history)
    (subst (λ (l : List Event). IsPrefix (class_told s.class.history) l) (sym now) (prefix_self (class_told s.class.history))) (λ at other. all.at at)

module _ (table : TableId) (config : Config) (class : ClassNo) (before after : Sight) (old new : ClassSide) (old_kept : IsHeldClass table config old) (new_kept : IsHeldClass table config new)
    (number : old.class.number ≡ class) (grows : classes.GainsEvents old.class new.class) (behind : IsBehindAt before old.lock (class_told old.class.history))
    (told : list_at after.seen new.lock ≡ class_told new.class.history) (all : Grows new.sight after) where
  new_number : new.class.number ≡ class
  new_number = ap (λ (v : ClassView). v.number) grows.same ∙ number

  old_lock : old.lock ≡ class_lock config class
  old_lock = old_kept.lock_is ∙ ap (class_lock config) number

  new_lock : new.lock ≡ class_lock config class
  new_lock = new_kept.lock_is ∙ ap (class_lock config) new_number

  -- the pass has seen all of it, after all that it had seen before
  pub class_grew : IsSeenGrowOf config class before after old.class new.class.history
  class_grew = record {
    made_with = old_kept.made_with;
    number_is = number;
    seen = subst (λ (k : ℕ). IsPrefix (list_at before.seen k) (class_told old.class.history)) old_lock behind.seen;
    now = ap (λ (k : ℕ). list_at after.seen k) (sym new_lock) ∙ told;
    sound = subst (λ (n : ClassNo). ClassKeeps (setting_of config) n new.class.history (stripes_seen (list_at after.seen))) new_number (class_sees table config new after all new_kept).keeps;
  }

  -- where the call failed for a full history, the pass has seen it
  pub full_seen : MayFailSeen config new.sight new.class HistoryFull → IsShortFor config class after
  full_seen (inl lack) =
      subst (λ (n : ClassNo). IsShortFor config n after) new_number
      (any_short config after (short_of config after new.lock new.class.number new.class.history new_kept.lock_is new_kept.is told
      (subst (λ (n : ℕ). n ≤ length new.class.history) new_kept.made_with.max_events lack)))
  full_seen (inr short) = subst (λ (n : ClassNo). IsShortFor config n after) new_number (short_grows config new.sight after all short)

  -- the fault of a call
  pub fails_full : {T : Type 0} (r : Result T Fault) → IfErr r (MayFailSeen config new.sight new.class) → r ≡ Err HistoryFull → IsShortFor config class after
  fails_full r may is = full_seen (subst (λ (x : Result _ Fault). IfErr x (MayFailSeen config new.sight new.class)) is may)

  -- where the class's history has no place left, the pass has seen it
  pub lacks_seen : new.class.max_events ≤ length new.class.history → LacksPlaces config after class 1
  lacks_seen full = subst (λ (n : ClassNo). LacksPlaces config after n 1) new_number (short_class table config new after 1 new_kept told (omega (arith, full)))

  -- the class was juggled
  pub juggled_so : (p p_new : PassView) (moment : ℕ) (r : Result Moves Fault) → HasNoneMadeBy (next_who p) old.class.history → before ≡ p.sight → after ≡ p_new.sight
      → p_new.calls ≡ p.calls ++ juggling_of class moment ∷ [] → Enters (IsOfWalk config class) p.turn p_new.sight p.made p_new.made
      → IfOk r (IsUpkept (IsSeenState config.stripes p.sight p_new.sight) (rounds old.class (next_who p) moment config) p.hands p_new.hands old.class.history new.class.history)
      → IfOk r (IsJuggledBy config class p p_new moment)
  juggled_so p p_new moment (Ok moves) none first last noted account made = record {
    old = old.class;
    history_new = new.class.history;
    grew = subst (λ (s : Sight). IsSeenGrowOf config class s p_new.sight old.class new.class.history) first (subst (λ (s : Sight). IsSeenGrowOf config class before s old.class new.class.history) last class_grew);
    first = none;
    upkept = made;
    noted = noted;
    account = account;
  }
  juggled_so p p_new moment (Err fault) none first last noted account made = tt

  -- or a fault ended it
  pub juggled_till : (p p_new : PassView) (moment : ℕ) (r : Result Moves Fault) → HasNoneMadeBy (next_who p) old.class.history → before ≡ p.sight → after ≡ p_new.sight
      → p_new.calls ≡ p.calls ++ juggling_of class moment ∷ [] → Enters (IsOfWalk config class) p.turn p_new.sight p.made p_new.made
      → IfErr r (MayFailSeen config new.sight new.class)
      → IfErr r (IsUpkeepCut (IsSeenState config.stripes p.sight p_new.sight) (rounds old.class (next_who p) moment config) p.hands p_new.hands old.class.history new.class.history)
      → IfErr r (λ fault. IsUnbegun config p p_new fault ⊎ IsJuggledTill config class p p_new moment fault)
  juggled_till p p_new moment (Ok moves) none first last noted account may made = tt
  juggled_till p p_new moment (Err fault) none first last noted account may made = inr (record {
    old = old.class;
    history_new = new.class.history;
    grew = subst (λ (s : Sight). IsSeenGrowOf config class s p_new.sight old.class new.class.history) first (subst (λ (s : Sight). IsSeenGrowOf config class before s old.class new.class.history) last class_grew);
    first = none;
    cut = made;
    noted = noted;
    account = account;
    full = λ is. subst (IsShortFor config class) last (full_seen (subst (MayFailSeen config new.sight new.class) is may));
  })
