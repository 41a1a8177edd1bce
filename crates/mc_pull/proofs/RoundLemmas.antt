-- One round more.
use Rattle.std.proofs.Common.{suc, ◌≡◌, ℕ, ◌+◌, List, [], ◌++◌, Bool, true, false, inl, refl, sym, ap, ◌∙◌, subst, arith, append_assoc}
use Rattle.mc_item.specs.declared.{class_event.ClassEvent.ClassEvent, lists.Seg.Seg, lists.Seg.TheVariants.Hot, lists.Seg.TheVariants.Cold}
use Rattle.mc_pull.specs.declared.{looking.Answer.Answer, judge.Mode.Mode, judge.Mode.TheVariants.Evict, judge.Mode.TheVariants.Force, pulled.Pulled.Pulled}
use Rattle.std.proofs.lemmas.List.{append-nil}
use Rattle.mc_pull.specs.{Juggle.Juggling, Juggle.JuggleStep, Juggle.Adds, Juggle.IsJuggled, Pulled.sum_of, Pulled.did_something, Pulled.plus}
use Rattle.mc_pull.specs.Rounds.{Rounds, Repeats, Walks, ForcesHot, IsRoomRound, is_free}

-- steps so far, with the answers that a gate has given for them
pub record OnRounds {S : Type 0} (Step : S → List Answer → S → Type 0) (old new : List Answer) (first now : S) (times : ℕ) : Type 0 where
  pub xs : List Answer
  pub answers : new ≡ old ++ xs
  pub each : Repeats Step times first xs now

pub rounds_more : {S : Type 0} {Step : S → List Answer → S → Type 0} {old new later : List Answer} {first now next : S} {times more : ℕ} (zs : List Answer)
    → OnRounds Step old new first now times → later ≡ new ++ zs → Step now zs next → more ≡ suc times → OnRounds Step old later first next more
rounds_more {S} {Step} {old} {new} {later} {first} {now} {next} {times} {more} zs on is here count =
    subst (OnRounds Step old later first next) (sym count) record {
      xs = on.xs ++ zs;
      answers = is ∙ (ap (λ (ys : List Answer). ys ++ zs) on.answers ∙ append_assoc old on.xs zs);
      each = (now, on.xs, zs, on.each, here, refl);
    }

-- ---- a round of making room
-- the answers of a walk, after those that were given before
abbrev pub Walked : Rounds → Seg → Mode → List Answer → List Answer → List ClassEvent → List ClassEvent → Pulled → Type 0
Walked r s mode old new before after pulled = (xs : List Answer) × (new ≡ old ++ xs) × Walks r s mode before xs after pulled

abbrev pub RoundMade : Rounds → List Answer → List Answer → List ClassEvent → List ClassEvent → Type 0
RoundMade r old new before after = (xs : List Answer) × (new ≡ old ++ xs) × IsRoomRound r before xs after

module _ (r : Rounds) (old mid : List Answer) (before between : List ClassEvent) (pulled : Pulled) (full : is_free r.class before ≡ false) (cold : Walked r Cold Evict old mid before between pulled) where
  pub room_cold : did_something pulled ≡ true → RoundMade r old mid before between
  room_cold did = (
    cold.0,
    cold.1,
    record {
      full = full;
      cold = cold.0;
      hot = [];
      between = between;
      pulled = pulled;
      cold_is = cold.2;
      hot_is = subst (λ (b : Bool). ForcesHot r b between [] between) (sym did) (refl, refl);
      answers = sym (append-nil cold.0);
    },
  )

  pub room_hot : did_something pulled ≡ false → (new : List Answer) (after : List ClassEvent) (by_hot : Pulled) → Walked r Hot Force mid new between after by_hot → RoundMade r old new before after
  room_hot none new after by_hot hot = (
    cold.0 ++ hot.0,
    hot.1 ∙ (ap (λ (ys : List Answer). ys ++ hot.0) cold.1 ∙ append_assoc old cold.0 hot.0),
    record {
      full = full;
      cold = cold.0;
      hot = hot.0;
      between = between;
      pulled = pulled;
      cold_is = cold.2;
      hot_is = subst (λ (b : Bool). ForcesHot r b between hot.0 after) (sym none) (by_hot, hot.2);
      answers = refl;
    },
  )

-- ---- juggling
pub plus_sum : (p q : Pulled) → sum_of (plus p q) ≡ sum_of p + sum_of q
plus_sum p q = omega arith

abbrev pub JuggledBy : JuggleStep → List Answer → List Answer → Juggling → Juggling → Type 0
JuggledBy Step old new a b = (xs : List Answer) × (new ≡ old ++ xs) × IsJuggled Step a xs b

module _ {Step : JuggleStep} {old new : List Answer} {first now : Juggling} {times : ℕ} (on : OnRounds (Adds Step true) old new first now times) where
  -- all 500 rounds did something
  pub juggled_all : times ≡ 500 → JuggledBy Step old new first now
  juggled_all full = (
    on.xs,
    on.answers,
    record { times = times; between = now; most = on.xs; last = []; each = on.each; end = inl (full, refl, refl); answers = sym (append-nil on.xs) },
  )
