-- How many entries events take of a list: each at most one; and an answer that takes none may pass one.
use Rattle.std.proofs.Common.{suc, ◌≡◌, ◌+◌, ◌≤◌, ℕ, List, [], ◌∷◌, ◌++◌, Bool, true, false, Option, Some, None, refl, sym, subst, length, arith}
use Rattle.std.specs.Prelude.{◌==◌, if◌then◌else◌}
use Rattle.mc_item.specs.declared.{class_event.ClassEvent.ClassEvent, class_event.Why.Why, lists.Entry.Entry, lists.Seg.Seg}
use Rattle.mc_item.specs.declared.class_event.ClassEvent.TheVariants as events
use Rattle.mc_item.specs.declared.lists.Seg.TheVariants.{Hot, Warm, Cold, Temp}
use Rattle.mc_segment.specs.ClassState.{ClassView}
use Rattle.mc_rule.specs.Lists.{Lists, list_of, with_list, find, without, linked, moved_entry, lists_after, lists_from, lists_of, entry, time_after}
use Rattle.mc_pull.specs.declared.{judge.Done.Done, judge.Judge.Judge, looking.Judged.Judged}
use Rattle.mc_pull.specs.declared.judge.Judge.TheVariants.{Walk, Dead, Hit}
use Rattle.mc_pull.specs.declared.{pulled.Pulled.Pulled}
use Rattle.mc_pull.specs.declared.judge.Done.TheVariants as done
use Rattle.mc_pull.specs.{Looks.done_in, Looks.judged_by, Pulled.counts_after, Pulled.counts_if, Question.Question, Settled.done_class_events, Settled.warm_events, Settled.cold_events}
use Rattle.mc_pull.specs.Walk.{Pull, Way, class_at, question_at, events_at}

one_more : (n : ℕ) → n ≤ suc n
one_more n = omega arith

one_out : (b : Bool) (e : Entry) (es xs : List Entry) → length es ≤ suc (length xs) → length (e ∷ es) ≤ suc (length (if b then es else e ∷ xs))
one_out true e es xs h = omega arith
one_out false e es xs h = omega (arith, h)

without_length : (n : ℕ) (es : List Entry) → length es ≤ suc (length (without n es))
without_length n [] = omega arith
without_length n (e ∷ es) = one_out (e.number == n) e es (without n es) (without_length n es)

with_list_length : (l : Lists) (t s : Seg) (xs : List Entry) → length (list_of l t) ≤ suc (length xs) → length (list_of l s) ≤ suc (length (list_of (with_list l t xs) s))
with_list_length l Hot Hot xs h = h
with_list_length l Hot Warm xs h = one_more _
with_list_length l Hot Cold xs h = one_more _
with_list_length l Hot Temp xs h = one_more _
with_list_length l Warm Hot xs h = one_more _
with_list_length l Warm Warm xs h = h
with_list_length l Warm Cold xs h = one_more _
with_list_length l Warm Temp xs h = one_more _
with_list_length l Cold Hot xs h = one_more _
with_list_length l Cold Warm xs h = one_more _
with_list_length l Cold Cold xs h = h
with_list_length l Cold Temp xs h = one_more _
with_list_length l Temp Hot xs h = one_more _
with_list_length l Temp Warm xs h = one_more _
with_list_length l Temp Cold xs h = one_more _
with_list_length l Temp Temp xs h = h

itself : (n : ℕ) → n ≤ n
itself n = omega arith

linked_length : (l : Lists) (t s : Seg) (e : Entry) → length (list_of l s) ≤ length (list_of (linked t e l) s)
linked_length l Hot Hot e = one_more _
linked_length l Hot Warm e = itself _
linked_length l Hot Cold e = itself _
linked_length l Hot Temp e = itself _
linked_length l Warm Hot e = itself _
linked_length l Warm Warm e = one_more _
linked_length l Warm Cold e = itself _
linked_length l Warm Temp e = itself _
linked_length l Cold Hot e = itself _
linked_length l Cold Warm e = itself _
linked_length l Cold Cold e = one_more _
linked_length l Cold Temp e = itself _
linked_length l Temp Hot e = itself _
linked_length l Temp Warm e = itself _
linked_length l Temp Cold e = itself _
linked_length l Temp Temp e = one_more _

unlinked_length : (l : Lists) (n : ℕ) (s : Seg) → length (list_of l s) ≤ suc (length (list_of (record { hot = without n l.hot; warm = without n l.warm; cold = without n l.cold; temp = without n l.temp }) s))
unlinked_length l n Hot = without_length n l.hot
unlinked_length l n Warm = without_length n l.warm
unlinked_length l n Cold = without_length n l.cold
unlinked_length l n Temp = without_length n l.temp

moved_length : (l : Lists) (o : Option Entry) (n : ℕ) (a b s : Seg) (why : Why) (moment : ℕ) → length (list_of l s) ≤ suc (length (list_of (moved_entry o n a b why moment l) s))
moved_length l None n a b s why moment = one_more _
moved_length l (Some e) n a b s why moment =
    omega (arith, with_list_length l a s (without n (list_of l a)) (without_length n (list_of l a)), linked_length (with_list l a (without n (list_of l a))) b s (record e { time = time_after why moment e.time }))

after_length : (l : Lists) (s : Seg) (e : ClassEvent) → length (list_of l s) ≤ suc (length (list_of (lists_after l e) s))
after_length l s (events.Linked e) = omega (arith, linked_length l e.seg s (entry e.number e.key e.cost e.moment))
after_length l s (events.Unlinked e) = unlinked_length l e.number s
after_length l s (events.Shifted e) = moved_length l (find e.number (list_of l e.from_seg)) e.number e.from_seg e.to_seg s e.why e.moment
after_length l s (events.Evicted e) = unlinked_length l e.number s
after_length l s (events.Reclaimed e) = unlinked_length l e.number s
after_length l s (events.Surveyed e) = one_more _
after_length l s (events.Refused e) = one_more _
after_length l s (events.Limited e) = one_more _

from_length : (l : Lists) (s : Seg) (es : List ClassEvent) → length (list_of l s) ≤ length (list_of (lists_from l es) s) + length es
from_length l s [] = omega arith
from_length l s (e ∷ es) = omega (arith, after_length l s e, from_length (lists_after l e) s es)

lists_from-append : (l : Lists) (h es : List ClassEvent) → lists_from l (h ++ es) ≡ lists_from (lists_from l h) es
lists_from-append l [] es = refl
lists_from-append l (e ∷ h) es = lists_from-append (lists_after l e) h es

-- events take at most as many entries of a list as they are
pub few_taken : (h es : List ClassEvent) (s : Seg) → length (list_of (lists_of h) s) ≤ length (list_of (lists_of (h ++ es)) s) + length es
few_taken h es s =
    subst (λ (l : Lists). length (list_of (lists_of h) s) ≤ length (list_of l s) + length es) (sym (lists_from-append _ h es)) (from_length (lists_of h) s es)

warm_passes : (q : Question) (at : ℕ) (judge : Judge) (p : Pulled) → p.passed + length (warm_events q at judge) ≤ p.passed + 1
warm_passes q at (Walk s mode passed) p = omega arith
warm_passes q at Dead p = omega arith
warm_passes q at Hit p = omega arith

cold_passes : (c : ClassView) (q : Question) (at : ℕ) (judge : Judge) (p : Pulled) → p.passed + length (cold_events c q at judge) ≤ p.passed + 1
cold_passes c q at (Walk s mode passed) p = omega arith
cold_passes c q at Dead p = omega arith
cold_passes c q at Hit p = omega arith

done_passes : (c : ClassView) (q : Question) (at : ℕ) (d : Done) (p : Pulled) → (counts_after d p).passed + length (done_class_events c q at d) ≤ p.passed + 1
done_passes c q at done.Reclaimed p = omega arith
done_passes c q at done.ToWarm p = warm_passes q at q.judge p
done_passes c q at done.WithinWarm p = warm_passes q at q.judge p
done_passes c q at done.ToCold p = cold_passes c q at q.judge p
done_passes c q at done.Evicted p = omega arith
done_passes c q at done.Stayed p = omega arith
done_passes c q at (done.Alive expiry) p = omega arith
done_passes c q at done.Stranger p = omega arith

alone_passes : (d : Done) (p : Pulled) → (counts_after d p).passed ≤ p.passed + 1
alone_passes done.Reclaimed p = omega arith
alone_passes done.ToWarm p = omega arith
alone_passes done.WithinWarm p = omega arith
alone_passes done.ToCold p = omega arith
alone_passes done.Evicted p = omega arith
alone_passes done.Stayed p = omega arith
alone_passes (done.Alive expiry) p = omega arith
alone_passes done.Stranger p = omega arith

-- an answer passes one entry and makes no event, or makes at most one
pub answer_passes : (p : Pull) (w : Way) (o : Option Entry) (j : Option Judged) → (counts_if (done_in j) w.pulled).passed + length (events_at p w o j) ≤ w.pulled.passed + 1
answer_passes p w None None = omega arith
answer_passes p w (Some e) None = omega arith
answer_passes p w None (Some j) = omega (arith, alone_passes j.done w.pulled)
answer_passes p w (Some e) (Some j) = done_passes (class_at p.class w.history) (question_at p w e) (length (judged_by j).history) j.done w.pulled
