-- What each outcome of the table means, and that the event of what is done may come.
use Rattle.std.proofs.Common.{◌≡◌, ◌<◌, ◌≤◌, ℕ, List, Bool, true, false, Option, Some, None, refl, sym, ap, ◌∙◌, subst, inl, inr, arith}
use Rattle.std.specs.Prelude.{◌&&◌, ◌||◌, nat_lt, not, if◌then◌else◌, IsSomeAnd}
use Rattle.std.specs.Option.{option_map}
use Rattle.std.proofs.lemmas.Bool.Decides.{nat_tests}
use Rattle.mc_item.specs.declared.{class_event.Why.Why, item.Item.Item, item.Who.Who, lists.Entry.Entry, lists.Seg.Seg, lists.Seg.TheVariants.Hot}
use Rattle.mc_item.specs.declared.{lists.Seg.TheVariants.Warm, lists.Seg.TheVariants.Cold, lists.Seg.TheVariants.Temp, class_event.Surveyed.Surveyed}
use Rattle.mc_item.specs.declared.class_event.Why.TheVariants as whys
use Rattle.mc_item.specs.{Cache.Cache, Item.is_dead}
use Rattle.mc_rule.specs.{Lawful.IsSurveyed, Lawful.IsIn, Lawful.IsOlder, Segment.IsNearTail, Segment.greatest_age_of}
use Rattle.mc_segment.specs.declared.surveying.Survey.{Survey}
use Rattle.mc_rule.specs.Lists.{Lists, list_of, lists_of, find, found, found_in, segment_of, IsFull}
use Rattle.mc_segment.specs.{ClassCalls.shifted_event, ClassCalls.MayCome, ClassState.ClassView, Entries.entry_of}
use Rattle.mc_pull.specs.declared.{judge.Done.Done, judge.Judge.Judge, judge.Mode.Mode}
use Rattle.mc_pull.specs.declared.judge.Judge.TheVariants.{Walk, Dead, Hit}
use Rattle.mc_pull.specs.declared.{judge.Mode.TheVariants.Plain, judge.Mode.TheVariants.Evict, judge.Mode.TheVariants.Force}
use Rattle.mc_pull.specs.declared.judge.Done.TheVariants as done
use Rattle.mc_pull.specs.Outcome.{outcome_of, is_over, is_old, is_due, cold_why}
use Rattle.mc_pull.specs.Judgement.{done_of, done_with, done_if, done_by, has_link}
use Rattle.mc_pull.specs.{Question.Question, Question.question, Question.MayJudge, Question.MayJudgeBy, Settled.passed_of}

-- ---- the table, read backwards
-- when an entry goes to COLD
abbrev IsColdMove : Seg → Mode → Bool → Type 0
IsColdMove s (Plain survey) due = IsSurveyed s × (due ≡ true)
IsColdMove s Evict due = ⊥
IsColdMove s Force due = s ≡ Hot

-- what is known where this is the outcome
abbrev pub Means : Seg → Mode → (dead active due : Bool) → Done → Type 0
Means s mode dead active due done.Reclaimed = dead ≡ true
Means s mode dead active due done.ToWarm = (dead ≡ false) × (active ≡ true) × (s ≡ Temp → ⊥)
Means s mode dead active due done.WithinWarm = (dead ≡ false) × (active ≡ true) × (s ≡ Warm)
Means s mode dead active due done.ToCold = (dead ≡ false) × (active ≡ false) × IsColdMove s mode due
Means s mode dead active due done.Evicted = (dead ≡ false) × (s ≡ Cold) × (mode ≡ Evict)
Means s mode dead active due done.Stayed = dead ≡ false
Means s mode dead active due (done.Alive expiry) = ⊥
Means s mode dead active due done.Stranger = ⊥

hot_temp : Hot ≡ Temp → ⊥
hot_temp h = cc

cold_temp : Cold ≡ Temp → ⊥
cold_temp h = cc

pub outcome_means : (s : Seg) (mode : Mode) (dead active due : Bool) → Means s mode dead active due (outcome_of s mode dead active due)
outcome_means s mode true active due = refl
outcome_means Hot mode false true due = (refl, refl, hot_temp)
outcome_means Hot Force false false due = (refl, refl, refl)
outcome_means Hot (Plain survey) false false true = (refl, refl, (inl refl, refl))
outcome_means Hot (Plain survey) false false false = refl
outcome_means Hot Evict false false due = refl
outcome_means Warm (Plain survey) false true due = (refl, refl, refl)
outcome_means Warm (Plain survey) false false true = (refl, refl, (inr refl, refl))
outcome_means Warm (Plain survey) false false false = refl
outcome_means Warm Evict false active due = refl
outcome_means Warm Force false active due = refl
outcome_means Cold Evict false active due = (refl, refl, refl)
outcome_means Cold (Plain survey) false true due = (refl, refl, cold_temp)
outcome_means Cold (Plain survey) false false due = refl
outcome_means Cold Force false active due = refl
outcome_means Temp mode false active due = refl

-- ---- a judgement, read backwards
module _ (c : ClassView) (cache : Cache) (q : Question) (d : Done) (known : d ≡ done.Stranger → ⊥) where
  -- what was done with an entry, by its item
  abbrev pub IsBy : Entry → Item → Type 0
  IsBy e item = (has_link c.number q.number item ≡ true) × (done_by c.rule (lists_of c.history) q.moment q.judge e item ≡ d)

  by_link : (e : Entry) (item : Item) (b : Bool) → has_link c.number q.number item ≡ b
      → (if b then done_by c.rule (lists_of c.history) q.moment q.judge e item else done.Stranger) ≡ d → IsBy e item
  by_link e item true link is = (link, is)
  by_link e item false link is = absurd (known (sym is))

  by_item : (e : Entry) (o : Option Item) → done_if c.number q.number o (done_by c.rule (lists_of c.history) q.moment q.judge e) ≡ d → IsSomeAnd o (IsBy e)
  by_item e None is = absurd (known (sym is))
  by_item e (Some item) is = by_link e item (has_link c.number q.number item) refl is

  -- the entry is there, its item too, and what was done is the rule's
  pub done_is : (o : Option Entry) → done_with c cache q o ≡ d → IsSomeAnd o (λ e. IsSomeAnd (cache.items e.key) (IsBy e))
  done_is None is = absurd (known (sym is))
  done_is (Some e) is = by_item e (cache.items e.key) is

lt_true : (a b : ℕ) → nat_lt a b ≡ true → a < b
lt_true a b h = grind (arith, nat_tests)

lt_false : (a b : ℕ) → nat_lt a b ≡ false → b ≤ a
lt_false a b h = grind (arith, nat_tests)

or_right : (a b : Bool) → a ≡ false → (a || b) ≡ true → b ≡ true
or_right a b off h = ap (λ (x : Bool). x || b) (sym off) ∙ h

by_bool : (b : Bool) (P : Bool → Type 0) → (b ≡ true → P true) → (b ≡ false → P false) → P b
by_bool true P hit miss = hit refl
by_bool false P hit miss = miss refl

-- ---- an entry that is taken
evicted_not : done.Evicted ≡ done.Stranger → ⊥
evicted_not h = cc

dead_evicts : (b : Bool) (item : Item) → (if b then done.Reclaimed else done.Alive item.expiry) ≡ done.Evicted → ⊥
dead_evicts true item h = cc
dead_evicts false item h = cc

hit_evicts : (b : Bool) → (if b then done.ToWarm else done.Stayed) ≡ done.Evicted → ⊥
hit_evicts true h = cc
hit_evicts false h = cc

taken_by : (c : ClassView) (who : Who) (number moment : ℕ) (judge : Judge) (e : Entry) (item : Item) → MayJudgeBy c who number moment judge
    → done_by c.rule (lists_of c.history) moment judge e item ≡ done.Evicted
    → IsIn Cold number (lists_of c.history) × IsFull c.chunks c.history × IsNearTail number (lists_of c.history).cold (passed_of judge)
taken_by c who number moment (Walk s mode passed) e item may is =
    let due = is_due c.rule (lists_of c.history) s mode moment e in
    let means = subst (Means s mode (is_dead item moment) item.marks.active due) is (outcome_means s mode (is_dead item moment) item.marks.active due) in
    let P : Seg → Mode → Type 0 = λ t m. MayJudgeBy c who number moment (Walk t m passed) in
    let here : P Cold Evict = subst (λ (m : Mode). P Cold m) means.2 (subst (λ (t : Seg). P t mode) means.1 may) in
    (here.listed, here.full, here.near)
taken_by c who number moment Dead e item may is = absurd (dead_evicts (is_dead item moment) item is)
taken_by c who number moment Hit e item may is = absurd (hit_evicts (item.marks.active && not (is_dead item moment)) is)

taken_item : (c : ClassView) (q : Question) (e : Entry) (o : Option Item) → MayJudge c q
    → IsSomeAnd o (λ item. (has_link c.number q.number item ≡ true) × (done_by c.rule (lists_of c.history) q.moment q.judge e item ≡ done.Evicted))
    → IsIn Cold q.number (lists_of c.history) × IsFull c.chunks c.history × IsNearTail q.number (lists_of c.history).cold (passed_of q.judge)
taken_item c q e None may h = absurd h
taken_item c q e (Some item) may h = taken_by c q.who q.number q.moment q.judge e item may h.1

taken_entry : (c : ClassView) (cache : Cache) (q : Question) (o : Option Entry) → MayJudge c q → done_with c cache q o ≡ done.Evicted
    → IsIn Cold q.number (lists_of c.history) × IsFull c.chunks c.history × IsNearTail q.number (lists_of c.history).cold (passed_of q.judge)
taken_entry c cache q None may is = absurd (evicted_not (sym is))
taken_entry c cache q (Some e) may is = taken_item c q e (cache.items e.key) may (done_is c cache q done.Evicted evicted_not (Some e) is)

-- an eviction may come where the table says so
pub taken_may : (c : ClassView) (cache : Cache) (q : Question) → MayJudge c q → done_of c cache q ≡ done.Evicted
    → IsIn Cold q.number (lists_of c.history) × IsFull c.chunks c.history × IsNearTail q.number (lists_of c.history).cold (passed_of q.judge)
taken_may c cache q may is = taken_entry c cache q (entry_of q.number (lists_of c.history)) may is

-- ---- an entry that goes to COLD
cold_not : done.ToCold ≡ done.Stranger → ⊥
cold_not h = cc

none_some : {A : Type 0} {x : A} → None ≡ Some x → ⊥
none_some h = cc

some_same : {A : Type 0} (a b : A) → Some a ≡ Some b → a ≡ b
some_same a b h = cc

abbrev chosen : Seg → Option Entry → Option Entry → Option Entry → Option Entry → Option Entry
chosen Hot a b c d = a
chosen Warm a b c d = b
chosen Cold a b c d = c
chosen Temp a b c d = d

chosen_is : (a b c d : Option Entry) (s : Seg) (e : Entry) → found_in Hot a (found_in Warm b (found_in Cold c (found_in Temp d None))) ≡ Some (s, e) → chosen s a b c d ≡ Some e
chosen_is (Some x) b c d s e h =
    let same = some_same (Hot, x) (s, e) h in
    subst (λ (p : Seg × Entry). chosen p.0 (Some x) b c d ≡ Some p.1) same refl
chosen_is None (Some x) c d s e h =
    let same = some_same (Warm, x) (s, e) h in
    subst (λ (p : Seg × Entry). chosen p.0 None (Some x) c d ≡ Some p.1) same refl
chosen_is None None (Some x) d s e h =
    let same = some_same (Cold, x) (s, e) h in
    subst (λ (p : Seg × Entry). chosen p.0 None None (Some x) d ≡ Some p.1) same refl
chosen_is None None None (Some x) s e h =
    let same = some_same (Temp, x) (s, e) h in
    subst (λ (p : Seg × Entry). chosen p.0 None None None (Some x) ≡ Some p.1) same refl
chosen_is None None None None s e h = absurd (none_some h)

-- what is found in all lists is found in its own
pub found_find : (l : Lists) (n : ℕ) (s : Seg) (e : Entry) → found n l ≡ Some (s, e) → find n (list_of l s) ≡ Some e
found_find l n Hot e h = chosen_is (find n l.hot) (find n l.warm) (find n l.cold) (find n l.temp) Hot e h
found_find l n Warm e h = chosen_is (find n l.hot) (find n l.warm) (find n l.cold) (find n l.temp) Warm e h
found_find l n Cold e h = chosen_is (find n l.hot) (find n l.warm) (find n l.cold) (find n l.temp) Cold e h
found_find l n Temp e h = chosen_is (find n l.hot) (find n l.warm) (find n l.cold) (find n l.temp) Temp e h

module _ (c : ClassView) (who : Who) (number moment : ℕ) (passed : List ℕ) (at : ℕ) where
  -- the move to COLD for a reason
  abbrev MayFor : Seg → Why → Type 0
  MayFor s why = MayCome c (shifted_event who number Cold why moment passed at s)

  -- by a survey: for its bytes, else for its age
  surveyed_may : (s : Seg) (survey : Survey) (e : Entry) → MayJudgeBy c who number moment (Walk s (Plain survey) passed) → find number (list_of (lists_of c.history) s) ≡ Some e
      → IsSurveyed s → (is_over c.rule (lists_of c.history) s survey || is_old c.rule s survey moment e) ≡ true → MayFor s (cold_why c.rule (lists_of c.history) s (Plain survey))
  surveyed_may s survey e may there of_survey due =
      let noted : Surveyed = record { who = who; moment = moment; total = survey.total; cold_age = survey.cold_age } in
      let older : is_old c.rule s survey moment e ≡ true → IsOlder moment (find number (list_of (lists_of c.history) s)) (greatest_age_of c.rule s survey.cold_age) =
      λ old. subst (λ (o : Option Entry). IsOlder moment o (greatest_age_of c.rule s survey.cold_age)) (sym there) (lt_true _ _ old) in
      by_bool (is_over c.rule (lists_of c.history) s survey) (λ b. MayFor s (if b then whys.Over survey.place else whys.Old survey.place))
      (λ over. (may.listed, (of_survey, refl, may.near, (noted, record { there = may.walk; who = refl; moment = refl }, lt_true _ _ over))))
      (λ under. (may.listed, (of_survey, refl, may.near, (noted, record { there = may.walk; who = refl; moment = refl }, (lt_false _ _ under, older (or_right _ _ under due))))))

  mode_may : (s : Seg) (mode : Mode) (e : Entry) → MayJudgeBy c who number moment (Walk s mode passed) → find number (list_of (lists_of c.history) s) ≡ Some e
      → IsColdMove s mode (is_due c.rule (lists_of c.history) s mode moment e) → MayFor s (cold_why c.rule (lists_of c.history) s mode)
  mode_may s (Plain survey) e may there move = surveyed_may s survey e may there move.0 move.1
  mode_may s Evict e may there move = absurd move
  mode_may s Force e may there move = (may.listed, (move, refl, may.near, may.full))

  item_may : (s : Seg) (mode : Mode) (e : Entry) (o : Option Item) → MayJudgeBy c who number moment (Walk s mode passed) → find number (list_of (lists_of c.history) s) ≡ Some e
      → IsSomeAnd o (λ item. (has_link c.number number item ≡ true) × (done_by c.rule (lists_of c.history) moment (Walk s mode passed) e item ≡ done.ToCold))
      → MayFor s (cold_why c.rule (lists_of c.history) s mode)
  item_may s mode e None may there h = absurd h
  item_may s mode e (Some item) may there h =
      let due = is_due c.rule (lists_of c.history) s mode moment e in
      let means = subst (Means s mode (is_dead item moment) item.marks.active due) h.1 (outcome_means s mode (is_dead item moment) item.marks.active due) in
      mode_may s mode e may there means.2

  found_may : (cache : Cache) (s : Seg) (mode : Mode) (o : Option (Seg × Entry)) → found number (lists_of c.history) ≡ o → option_map (λ (p : Seg × Entry). p.0) o ≡ Some s
      → MayJudgeBy c who number moment (Walk s mode passed) → done_with c cache (question who number (Walk s mode passed) moment) (option_map (λ (p : Seg × Entry). p.1) o) ≡ done.ToCold
      → MayFor s (cold_why c.rule (lists_of c.history) s mode)
  found_may cache s mode None is seg may made = absurd (none_some seg)
  found_may cache s mode (Some (t, e)) is seg may made =
      let here : found number (lists_of c.history) ≡ Some (s, e) = is ∙ ap (λ (u : Seg). Some (u, e)) (some_same t s seg) in
      item_may s mode e (cache.items e.key) may (found_find (lists_of c.history) number s e here)
      (done_is c cache (question who number (Walk s mode passed) moment) done.ToCold cold_not (Some e) made)

  -- a move to COLD may come where the table says so
  pub cold_may : (cache : Cache) (s : Seg) (mode : Mode) → segment_of number (lists_of c.history) ≡ Some s → MayJudgeBy c who number moment (Walk s mode passed)
      → done_of c cache (question who number (Walk s mode passed) moment) ≡ done.ToCold
      → MayCome c (shifted_event who number Cold (cold_why c.rule (lists_of c.history) s mode) moment passed at s)
  cold_may cache s mode seg may made = found_may cache s mode (found number (lists_of c.history)) refl seg may made

-- ---- what is no walk
-- what is asked is no walk
abbrev pub IsNoWalk : Judge → Type 0
IsNoWalk (Walk s mode passed) = ⊥
IsNoWalk Dead = Unit {0}
IsNoWalk Hit = Unit {0}

dead_cold : (b : Bool) (item : Item) → (if b then done.Reclaimed else done.Alive item.expiry) ≡ done.ToCold → ⊥
dead_cold true item h = cc
dead_cold false item h = cc

hit_cold : (b : Bool) → (if b then done.ToWarm else done.Stayed) ≡ done.ToCold → ⊥
hit_cold true h = cc
hit_cold false h = cc

module _ (c : ClassView) (q : Question) where
  cold_by : (judge : Judge) (e : Entry) (item : Item) → IsNoWalk judge → done_by c.rule (lists_of c.history) q.moment judge e item ≡ done.ToCold → ⊥
  cold_by (Walk s mode passed) e item still h = still
  cold_by Dead e item still h = dead_cold (is_dead item q.moment) item h
  cold_by Hit e item still h = hit_cold (item.marks.active && not (is_dead item q.moment)) h

  cold_item : (e : Entry) (o : Option Item) → IsNoWalk q.judge
      → IsSomeAnd o (λ item. (has_link c.number q.number item ≡ true) × (done_by c.rule (lists_of c.history) q.moment q.judge e item ≡ done.ToCold)) → ⊥
  cold_item e None still h = h
  cold_item e (Some item) still h = cold_by q.judge e item still h.1

  cold_entry : (cache : Cache) (o : Option Entry) → IsNoWalk q.judge → done_with c cache q o ≡ done.ToCold → ⊥
  cold_entry cache None still h = cold_not (sym h)
  cold_entry cache (Some e) still h = cold_item e (cache.items e.key) still (done_is c cache q done.ToCold cold_not (Some e) h)

  -- nothing goes to COLD but on a walk
  pub no_cold : (cache : Cache) → IsNoWalk q.judge → done.ToCold ≡ done_of c cache q → ⊥
  no_cold cache still made = cold_entry cache (entry_of q.number (lists_of c.history)) still (sym made)
