-- Walks keep to the rule: at most five looks, each at the next entry from the tail, until an end.
use Rattle.std.proofs.Common.{length, ◌≡◌, ℕ, zero, suc, ◌+◌, ◌<◌, ◌≤◌, ◌&&◌, ◌⊎◌, List, [], ◌∷◌, ◌++◌, Bool, true, false, Some, None}
use Rattle.std.proofs.Common.{Option, inl, inr, refl, sym, ap, ◌∙◌, subst, arith, reverse, take, drop, min, cond}
use Rattle.std.specs.Prelude.{IsSomeAnd, nat_lt, not, slice_get}
use Rattle.std.specs.List.{filter}
use Rattle.std.proofs.lemmas.{Bool.Decides.nat_tests, List.length-take-le, List.map-append, List.reverse-append, List.take-map, Option.slice_get_within}
use Rattle.mc_item.specs.declared.{class_event.ClassEvent.ClassEvent, lists.Entry.Entry}
use Rattle.mc_item.specs.Measure.{stripe_of}
use Rattle.mc_rule.specs.{Lists.HasFree, Lists.IsFull, Lists.lists_of, Lists.list_of, Segment.numbers_of}
use Rattle.mc_pull.specs.declared.{judge.Done.Done, judge.Judge.TheVariants.Walk, judge.Mode.Mode, judge.Mode.TheVariants.Plain, judge.Mode.TheVariants.Evict}
use Rattle.mc_pull.specs.declared.{judge.Mode.TheVariants.Force, looking.Answer.Answer, looking.Judged.Judged, pulled.Pulled.Pulled}
use Rattle.mc_pull.specs.declared.judge.Done.TheVariants as done
use Rattle.mc_pull.specs.{Growth.looks_for_chunk, Looks.IsJudgedIf, Looks.done_in, Looks.events_if, Pulled.counts_after, Pulled.counts_if, Pulled.is_end_if, Question.question}
use Rattle.mc_pull.specs.Walk.{IsAlong, IsAnswer, IsWalk, Pull, Way, class_at, events_at, is_going, is_wanted, next_entry, numbers_passed, question_at, run, start_of, step}
use Rattle.mc_pull.specs.WalkRule.{HasChunk, HasEnded, IsEndedBy, IsNextLook, entries_at_start, history_after, is_passed, is_stranger}
use Rattle.mc_pull.proofs.WalkAnswerLemmas.{run-push}

-- ---- tests
true_false : true ≡ false → ⊥
true_false h = cc

-- a walk that goes on has not ended, may look at an entry, and is wanted
pub record Goes (ended wanted : Bool) (left : ℕ) : Type 0 where
  pub on : ended ≡ false
  pub some : 0 < left
  pub wanted_is : wanted ≡ true

goes_by : (ended wanted : Bool) (left : ℕ) → (not ended && (nat_lt 0 left && wanted)) ≡ true → Goes ended wanted left
goes_by true wanted left h = absurd (true_false (sym h))
goes_by false true left h = by (nat_lt 0 left) refl h
  where
    by : (b : Bool) → nat_lt 0 left ≡ b → (b && true) ≡ true → Goes false true left
    by true is h = record { on = refl; some = grind (arith, nat_tests); wanted_is = refl }
    by false is h = absurd (true_false (sym h))
goes_by false false left h = by (nat_lt 0 left) h
  where
    by : (b : Bool) → (b && false) ≡ true → Goes false false left
    by true h = absurd (true_false (sym h))
    by false h = absurd (true_false (sym h))

goes : (p : Pull) (w : Way) → is_going p w ≡ true → Goes w.ended (is_wanted p.mode p.class.chunks w.history) w.left
goes p w h = goes_by w.ended (is_wanted p.mode p.class.chunks w.history) w.left h

full_for : (mode : Mode) (chunks : ℕ) (history : List ClassEvent) → is_wanted mode chunks history ≡ true → looks_for_chunk mode ≡ true → IsFull chunks history
full_for (Plain survey) chunks history h looks = absurd (true_false (sym looks))
full_for Evict chunks history h looks = grind (arith, nat_tests)
full_for Force chunks history h looks = grind (arith, nat_tests)

free_for : (mode : Mode) (chunks : ℕ) (history : List ClassEvent) → is_wanted mode chunks history ≡ false → (looks_for_chunk mode ≡ true) × HasFree chunks history
free_for (Plain survey) chunks history h = absurd (true_false h)
free_for Evict chunks history h = (refl, grind (arith, nat_tests))
free_for Force chunks history h = (refl, grind (arith, nat_tests))

-- ---- at most so many looks
left_few : (p : Pull) (w : Way) (xs : List Answer) → IsAlong p w xs → length xs + (run p w xs).left ≡ w.left
left_few p w [] along = omega arith
left_few p w (a ∷ xs) along = omega (arith, left_few p (step p w a) xs along.1, (goes p w along.0.goes).some)

pub looks_few : (p : Pull) (xs : List Answer) (after : List ClassEvent) (pulled : Pulled) → IsWalk p xs after pulled → (length xs ≤ 5) × (length xs ≤ entries_at_start p)
looks_few p xs after pulled walk =
    let few = left_few p (start_of p) xs walk.along in
    (omega (arith, few), omega (arith, few))

-- ---- each look
answer_in : (p : Pull) (w : Way) (xs : List Answer) (a : Answer) (ys : List Answer) → IsAlong p w (xs ++ a ∷ ys) → IsAnswer p (run p w xs) a × IsAlong p (step p (run p w xs) a) ys
answer_in p w [] a ys along = along
answer_in p w (x ∷ xs) a ys along = answer_in p (step p w x) xs a ys along.1

done_passed : (d : Done) (q : Pulled) → (counts_after d q).passed ≡ q.passed + cond (is_stranger d) 1 0
done_passed done.Reclaimed q = omega arith
done_passed done.ToWarm q = omega arith
done_passed done.WithinWarm q = omega arith
done_passed done.ToCold q = omega arith
done_passed done.Evicted q = omega arith
done_passed done.Stayed q = omega arith
done_passed (done.Alive expiry) q = omega arith
done_passed done.Stranger q = omega arith

one_passed : (j : Option Judged) (q : Pulled) → (counts_if (done_in j) q).passed ≡ q.passed + cond (is_passed j) 1 0
one_passed None q = omega arith
one_passed (Some j) q = done_passed j.done q

abbrev passed_so_far : List Answer → ℕ
passed_so_far xs = length (filter (λ (x : Answer). is_passed x.judged) xs)

filter_first : (b : Bool) (a : Answer) (xs : List Answer) → length (cond b (a ∷ xs) xs) ≡ cond b 1 0 + length xs
filter_first true a xs = omega arith
filter_first false a xs = omega arith

passed_count : (p : Pull) (w : Way) (xs : List Answer) → (run p w xs).pulled.passed ≡ w.pulled.passed + passed_so_far xs
passed_count p w [] = omega arith
passed_count p w (a ∷ xs) =
    omega (arith, passed_count p (step p w a) xs, one_passed a.judged w.pulled, filter_first (is_passed a.judged) a (filter (λ (x : Answer). is_passed x.judged) xs))

none_some : {A : Type 0} {x : A} → None ≡ Some x → ⊥
none_some h = cc

some_same : {A : Type 0} {x y : A} → Some x ≡ Some y → x ≡ y
some_same h = cc

split_at : {A : Type 0} (xs : List A) (k : ℕ) (x : A) → slice_get xs k ≡ Some x → xs ≡ take k xs ++ x ∷ drop (suc k) xs
split_at [] k x h = absurd (none_some h)
split_at {A} (y ∷ ys) zero x h = ap (λ (z : A). z ∷ ys) (some_same h)
split_at {A} (y ∷ ys) (suc k) x h = ap (λ (zs : List A). y ∷ zs) (split_at ys k x h)

numbers_reverse : (es : List Entry) → reverse (numbers_of es) ≡ numbers_of (reverse es)
numbers_reverse [] = refl
numbers_reverse (e ∷ es) =
    reverse-append (e.number ∷ []) (numbers_of es)
    ∙ (ap (λ (ns : List ℕ). ns ++ e.number ∷ []) (numbers_reverse es)
    ∙ sym (ap numbers_of (reverse-append (e ∷ []) es) ∙ map-append (λ (x : Entry). x.number) (reverse es) (e ∷ [])))

numbers_near : (es : List Entry) (k : ℕ) → take k (reverse (numbers_of es)) ≡ numbers_of (take k (reverse es))
numbers_near es k = ap (λ (ns : List ℕ). take k ns) (numbers_reverse es) ∙ take-map (λ (x : Entry). x.number) k (reverse es)

module _ (p : Pull) (xs : List Answer) (a : Answer) (answer : IsAnswer p (run p (start_of p) xs) a) where
  abbrev before : Way
  before = run p (start_of p) xs

  abbrev from_end : List Entry
  from_end = reverse (list_of (lists_of before.history) p.seg)

  next_by : (o : Option Entry) → next_entry p before ≡ o
      → IsSomeAnd o (λ e. (a.stripe ≡ stripe_of e.key p.config.stripes) × IsJudgedIf p.config a.stripe (class_at p.class before.history) (question_at p before e) a.judged)
      → IsNextLook p xs a
  next_by None is asks = absurd asks
  next_by (Some e) is asks = record {
    passed = take before.pulled.passed from_end;
    entry = e;
    rest = drop (suc before.pulled.passed) from_end;
    at = split_at from_end before.pulled.passed e is;
    as_many = many;
    asks = asks.0;
    judged = subst (λ (ns : List ℕ). IsJudgedIf p.config a.stripe (class_at p.class before.history) (question p.who e.number (Walk p.seg p.mode ns) p.moment) a.judged) near asks.1;
    makes = ap (λ (w : Way). w.history) (run-push p (start_of p) xs a)
        ∙ (ap (λ (o : Option Entry). before.history ++ events_at p before o a.judged) is
        ∙ ap (λ (ns : List ℕ). before.history ++ events_if (class_at p.class before.history) (question p.who e.number (Walk p.seg p.mode ns) p.moment) a.judged) near);
    full = full_for p.mode p.class.chunks before.history (goes p before answer.goes).wanted_is;
  }
    where
      near : numbers_passed p before ≡ numbers_of (take before.pulled.passed from_end)
      near = numbers_near (list_of (lists_of before.history) p.seg) before.pulled.passed

      within : before.pulled.passed < length from_end
      within = slice_get_within from_end before.pulled.passed e is

      many : length (take before.pulled.passed from_end) ≡ length (filter (λ (x : Answer). is_passed x.judged) xs)
      many = omega (arith, length-take-le before.pulled.passed from_end (omega (arith, within)), passed_count p (start_of p) xs)

  next_look : IsNextLook p xs a
  next_look = next_by (next_entry p before) refl answer.asks

pub looks_next : (p : Pull) (xs ys : List Answer) (a : Answer) (after : List ClassEvent) (pulled : Pulled) → IsWalk p (xs ++ a ∷ ys) after pulled → IsNextLook p xs a
looks_next p xs ys a after pulled walk = next_look p xs a (answer_in p (start_of p) xs a ys walk.along).0

-- ---- the end
stopped : (p : Pull) (w : Way) (a : Answer) (ys : List Answer) → is_end_if (done_in a.judged) ≡ true → IsAlong p (step p w a) ys → ys ≡ []
stopped p w a [] end along = refl
stopped p w a (y ∷ ys) end along = absurd (true_false (sym end ∙ (goes p (step p w a) along.0.goes).on))

pub looks_stop : (p : Pull) (xs ys : List Answer) (a : Answer) (after : List ClassEvent) (pulled : Pulled) → IsWalk p (xs ++ a ∷ ys) after pulled → is_end_if (done_in a.judged) ≡ true → ys ≡ []
looks_stop p xs ys a after pulled walk end = stopped p (run p (start_of p) xs) a ys end (answer_in p (start_of p) xs a ys walk.along).1

ended_by : (p : Pull) (w : Way) (xs : List Answer) → IsAlong p w xs → w.ended ≡ false → (run p w xs).ended ≡ true → IsEndedBy xs
ended_by p w [] along on end = absurd (true_false (sym end ∙ on))
ended_by p w (a ∷ []) along on end = record { before = []; last = a; is = refl; ends = end }
ended_by p w (a ∷ b ∷ xs) along on end =
    let rest = ended_by p (step p w a) (b ∷ xs) along.1 (goes p (step p w a) along.1.0.goes).on end in
    record { before = a ∷ rest.before; last = rest.last; is = ap (λ (ys : List Answer). a ∷ ys) rest.is; ends = rest.ends }

not_going : (ended wanted : Bool) (left : ℕ) → (not ended && (nat_lt 0 left && wanted)) ≡ false → (ended ≡ true) ⊎ ((left ≡ 0) ⊎ (wanted ≡ false))
not_going true wanted left h = inl refl
not_going false false left h = inr (inr refl)
not_going false true left h = by (nat_lt 0 left) refl h
  where
    by : (b : Bool) → nat_lt 0 left ≡ b → (b && true) ≡ false → (false ≡ true) ⊎ ((left ≡ 0) ⊎ (true ≡ false))
    by true is h = absurd (true_false h)
    by false is h = inr (inl (grind (arith, nat_tests)))

all_looked : (looks most : ℕ) → looks ≡ min most 5 → (looks ≡ 5) ⊎ (looks ≡ most)
all_looked looks most is = by (nat_lt most 5) refl
  where
    by : (b : Bool) → nat_lt most 5 ≡ b → (looks ≡ 5) ⊎ (looks ≡ most)
    by true few =
        let below : most < 5 = grind (arith, nat_tests) in
        inr (omega arith)
    by false many =
        let above : 5 ≤ most = grind (arith, nat_tests) in
        inl (omega arith)

module _ (p : Pull) (xs : List Answer) (after : List ClassEvent) (pulled : Pulled) (walk : IsWalk p xs after pulled) where
  abbrev last : Way
  last = run p (start_of p) xs

  by_looks : (length xs ≡ 5) ⊎ (length xs ≡ entries_at_start p) → HasEnded p xs after
  by_looks (inl five) = inr (inl five)
  by_looks (inr each) = inr (inr (inl each))

  by_end : (last.ended ≡ true) ⊎ ((last.left ≡ 0) ⊎ (is_wanted p.mode p.class.chunks last.history ≡ false)) → HasEnded p xs after
  by_end (inl end) = inl (ended_by p (start_of p) xs walk.along refl end)
  by_end (inr (inl none)) = by_looks (all_looked (length xs) (entries_at_start p) (omega (arith, left_few p (start_of p) xs walk.along)))
  by_end (inr (inr unwanted)) =
      inr (inr (inr (subst (λ (h : List ClassEvent). HasChunk p h) (sym walk.history_is) (free_for p.mode p.class.chunks last.history unwanted))))

  pub looks_end : (after ≡ history_after p xs) × HasEnded p xs after
  looks_end = (walk.history_is, by_end (not_going last.ended (is_wanted p.mode p.class.chunks last.history) last.left walk.ends))
